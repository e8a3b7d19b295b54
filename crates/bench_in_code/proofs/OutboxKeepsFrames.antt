-- The outbox keeps every frame that a book holds as given out, with its owner, identifier and payload, through every event.
use Prim.Native.Nat.{ℕ, zero, suc, ◌<◌}
use native.Mathlib.Omega.{arith}
use mathlib.Core.Path.{◌≡◌, refl, ap, sym, subst, ◌∙◌}
use mathlib.Core.Logic.{inl}
use mathlib.Core.Bool.{Bool, cond}
use mathlib.Core.List.{List, [], ◌∷◌}
use lib.ListN.{length, set, length-set}
use lib.Dec.{T, eqb}
use borrow.Author.Tests.{lt-ltb, eq-eqb, ne_eqb}
use Rattle.wire.specs.declared.ids.Stream.{Stream}
use Rattle.bench_in_code.specs.declared.outbox.Frame as Kept-frame
use Rattle.bench_in_code.specs.declared.outbox.Frames.{Frames}
use Rattle.bench.specs.Lists.{nth}
use Rattle.bench.specs.SetUp.{Plan, proper}
use Rattle.bench.specs.Bench.{Bench, Book, Frame, Moment, Which, the_payload, the_confirmation, the_abort, no_book, books_of, now, frame_of, owner_of}
use Rattle.bench.specs.Events.{Event, asks, gives, sends, ticks, dies, step, on_frame, which_of, gave_out, sent_once, is_full, next}
use Rattle.bench_in_code.specs.InCode.{no_frame, capacity, frame_in, with_frame}
use Rattle.bench_in_code.specs.InStep.{SameFrame, KeptAs}
use Rattle.bench_in_code.specs.Runs.{AllKept}
use Rattle.bench.proofs.laws.ListPlaces.{at_inside}
use Rattle.bench.proofs.laws.ModuleAfterEvent.{nth_at}
use Rattle.bench.proofs.laws.FramesOfBooks.{AllBooks, EveryBook, Stays, books_step, EveryFrame, every_on_frame, every_entering, none_given, no_frame_law}
use Rattle.bench.proofs.in_code.GiverOwns.{Sends, AsPlanned, asked_sends, giver_owns}

-- ── one frame more ──
module _ (fs : Frames) (all_places : length fs.all ≡ capacity) (room : fs.count < capacity) (f : Kept-frame.Frame) where
  stored : with_frame f fs ≡ record { all = set fs.all fs.count f; count = suc fs.count }
  stored = rw (lt-ltb fs.count capacity room)

  pub one_more : (with_frame f fs).count ≡ suc fs.count
  one_more = ap (λ (fs : Frames). fs.count) stored

  pub still_all_places : length (with_frame f fs).all ≡ capacity
  still_all_places = ap (λ (fs : Frames). length fs.all) stored ∙ (length-set fs.all fs.count f ∙ all_places)

  frame_at : (n : ℕ) → frame_in n (with_frame f fs) ≡ cond (eqb n fs.count) f (frame_in n fs)
  frame_at n =
      let inside : fs.count < length fs.all = omega (arith, all_places) in
      ap (frame_in n) stored
      ∙ (ap (nth no_frame n) (at_inside (λ (x : Kept-frame.Frame). f) no_frame fs.count fs.all inside)
      ∙ nth_at no_frame (λ (x : Kept-frame.Frame). f) n fs.count fs.all (inl inside))

  -- those before are kept
  pub still_kept : {n who : ℕ} {g : Frame} → KeptAs n fs who g → KeptAs n (with_frame f fs) who g
  still_kept {n} {who} {g} k =
      let same_as_before : frame_in n (with_frame f fs) ≡ frame_in n fs =
      frame_at n ∙ ap (λ t. cond t f (frame_in n fs)) (ne_eqb n fs.count (λ e. omega (arith, k.there))) in
      record { there = omega (arith, k.there, one_more); same = subst (λ h. SameFrame h who g) (sym same_as_before) k.same }

  -- and so is this one, as the last
  pub kept_last : {who : ℕ} {g : Frame} → SameFrame f who g → KeptAs fs.count (with_frame f fs) who g
  kept_last {who} {g} same =
      let last : frame_in fs.count (with_frame f fs) ≡ f =
      frame_at fs.count ∙ ap (λ t. cond t f (frame_in fs.count fs)) (eq-eqb fs.count fs.count refl) in
      record { there = omega (arith, one_more); same = subst (λ h. SameFrame h who g) (sym last) same }

-- a sending leaves owner, identifier and payload
sent_still_kept : {n who : ℕ} {fs : Frames} {g : Frame} (t : Moment) (full : Bool) → KeptAs n fs who g → KeptAs n fs who (sent_once t full g)
sent_still_kept t full k =
    record { there = k.there; same = record { owner = k.same.owner; id = k.same.id; payload = k.same.payload } }

-- ── every book ──
abbrev IsKept : Frames → (owner code : ℕ) → Frame → Type 0
IsKept fs owner code g = T g.given → (n : ℕ) × KeptAs n fs owner g

-- its sender is the stream's, and each frame of it that was given out is kept
pub record Filed (plan : Plan) (fs : Frames) (z : Stream) (k : Book) : Type 0 where
  pub sender : Sends plan z k.sender
  pub frames : EveryFrame (IsKept fs) k

pub all_kept : (plan : Plan) (fs : Frames) (b : Bench) → EveryBook (Filed plan fs) b → AllKept b fs
all_kept plan fs b filed z message w = go (books_of z b) (filed z) message
  where
    go : (ks : List Book) → AllBooks (Filed plan fs z) ks → (n : ℕ) → IsKept fs (owner_of w (nth no_book n ks)) 0 (frame_of w (nth no_book n ks))
    go [] a n t = absurd (no_frame_law n w t)
    go (k ∷ ks) a zero t = a.0.frames w t
    go (k ∷ ks) a (suc n) t = go ks a.1 n t

same_sender : (w : Which) (change : Frame → Frame) (k : Book) → (on_frame w change k).sender ≡ k.sender
same_sender the_payload change k = refl
same_sender the_confirmation change k = refl
same_sender (the_abort q x) change k = refl

-- what the event gives out is kept
abbrev pub KeepsGiven : Frames → Bench → Event → Type 0
KeepsGiven fs b (asks j z p) = Unit {0}
KeepsGiven fs b (gives j z c) = (g : Frame) → (n : ℕ) × KeptAs n fs j (gave_out (next j b) g)
KeepsGiven fs b (sends z n w to) = Unit {0}
KeepsGiven fs b ticks = Unit {0}
KeepsGiven fs b (dies j) = Unit {0}

module _ (plan : Plan) where
  -- a change of one of its frames, after which that frame is kept
  changed : (fs : Frames) (z : Stream) (w : Which) (change : Frame → Frame) (k : Book)
      → ((g : Frame) → IsKept fs (owner_of w k) 0 g → IsKept fs (owner_of w k) 0 (change g)) → Filed plan fs z k → Filed plan fs z (on_frame w change k)
  changed fs z w change k h q =
      record {
        sender = subst (Sends plan z) (sym (same_sender w change k)) q.sender;
        frames = every_on_frame (IsKept fs) w change k h q.frames;
      }

  -- the books stay filed with an outbox that keeps what the other kept
  pub refiled : (fs fs' : Frames) → ((n who : ℕ) (g : Frame) → KeptAs n fs who g → KeptAs n fs' who g)
      → (b : Bench) → EveryBook (Filed plan fs) b → EveryBook (Filed plan fs') b
  refiled fs fs' keeps b filed z = go (books_of z b) (filed z)
    where
      go : (ks : List Book) → AllBooks (Filed plan fs z) ks → AllBooks (Filed plan fs' z) ks
      go [] a = tt
      go (k ∷ ks) a = (
        record {
          sender = a.0.sender;
          frames = λ w t. let (n, q) = a.0.frames w t in (n, keeps n (owner_of w k) (frame_of w k) q);
        },
        go ks a.1,
      )

  module _ (ok : T (proper plan)) (fs : Frames) (b : Bench) (planned : AsPlanned plan b) (filed : EveryBook (Filed plan fs) b) where
    stays : (e : Event) → KeepsGiven fs b e → Stays (Filed plan fs) b e
    stays (asks j z p) h = λ t. record { sender = asked_sends plan b planned j z p t; frames = λ w g. absurd (none_given j b w g) }
    stays (gives j z c) h =
        λ t k q. changed fs z (which_of j c) (gave_out (next j b)) k
        (λ g before t'. subst (λ who. (n : ℕ) × KeptAs n fs who (gave_out (next j b) g))
        (sym (giver_owns plan b planned ok j z c t k q.sender)) (h g)) q
    stays (sends z n w to) h =
        λ k. changed fs z w (sent_once (now b) (is_full to)) k (λ g before t. let (n, q) = before t in (n, sent_still_kept (now b) (is_full to) q))
    stays ticks h = tt
    stays (dies j) h = tt

    pub filed_step : (e : Event) → KeepsGiven fs b e → EveryBook (Filed plan fs) (step b e)
    filed_step e h =
        books_step (Filed plan fs)
        (λ z before after k q. record {
          sender = q.sender;
          frames = every_entering (IsKept fs) z before after (λ owner t. absurd t) k q.frames;
        })
        b filed e (stays e h)
