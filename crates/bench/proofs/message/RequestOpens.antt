-- An accepted request of a stream opens a message: nothing of the older ones may be sent any more.
use Prim.Native.Nat.{ℕ, zero, suc}
use native.Mathlib.Omega.{arith}
use mathlib.Core.Path.{◌≡◌, refl, ap, sym, subst, ◌∙◌, fun_ext}
use mathlib.Core.Bool.{Bool, true, false, not}
use mathlib.Core.List.{List, [], ◌∷◌, map}
use lib.ListN.{length, drop, replicate, length-map}
use lib.Seq.{take-append_seam}
use lib.Dec.{T}
use Rattle.wire.specs.declared.ids.Stream.{Stream}
use Rattle.node.specs.declared.slots.Slot.{Slot}
use Rattle.node.specs.declared.slots.Message.{Message}
use Rattle.wire.specs.Frames.{max_payload}
use Rattle.wire.specs.Settings.{is_plain}
use Rattle.node.specs.Request.{requested}
use Rattle.node.specs.Slots.{is_receiver, payload_of, holding}
use Rattle.one_stream.proofs.Chain.{Inv, Over, closed_data, closed_conf, closed_code2, hold_over, past_all, none_pending, open_inv}
use Rattle.one_stream.proofs.Truth.{cond_false, and_l, both, not_so}
use Rattle.bench.specs.Bench.{Module, Bench, Frame, pending_since, no_book, module_at, is_live, slot_at, books_of, now, Which, the_payload}
use Rattle.bench.specs.Bench.{the_confirmation, the_abort, Moment}
use Rattle.bench.specs.Events.{asks, step, is_accepted, new_book, asked, named, all}
use Rattle.bench.specs.Lists.{nth}
use Rattle.bench.specs.SetUp.{is_done}
use Rattle.bench.proofs.laws.ModuleAfterEvent.{pending_receives, moved_step, size_step, count_of, count_is}
use Rattle.bench.proofs.laws.BooksAfterEvent.{books_asked}
use Rattle.bench.proofs.laws.FramesOfBooks.{AllFrames}
use Rattle.bench.proofs.message.ClassOnBench.{may_send, ClassOnBench}
use Rattle.bench.proofs.message.ModuleSeen.{notes, view, not_plain}
use Rattle.bench.proofs.message.SeenAfterOwnEvent.{Valid, receivers_of, strand_of}
use Rattle.bench.proofs.message.SeenAfterOtherEvent.{no_rows, asks_me, asks_short, asks_free, asked_slot, asks_pending, open_strand}
use Rattle.bench.proofs.message.RulesSeen.{legal_data, legal_conf, legal_code2}
use Rattle.bench.proofs.message.MessageKept.{Content, Sender, Track, send_back}
use Rattle.one_stream.specs.Sendings as OS
use Rattle.one_stream.specs.Classes as OC
use Rattle.one_stream.proofs.Histories as OH

-- what each module has delivered of the stream
abbrev pub logs_of : Stream → Bench → ℕ → List OC.Note
logs_of s b i = notes s (module_at i b).log

-- no frame of a new book was given out
new_content : {n : ℕ} {D : OS.Delays} (K : ClassOnBench n D) (s : Stream) (p : List ℕ) (j : ℕ) (b : Bench) → AllFrames (Content K s p) (new_book j b)
new_content K s p j b the_payload = λ t. absurd t
new_content K s p j b the_confirmation = λ t. absurd t
new_content K s p j b (the_abort q y) = λ t. absurd (none q b.modules t)
  where
    none : (q : ℕ) (ms : List Module) → T (nth (pending_since []) y (nth [] q (map (λ (m : Module). []) ms))).given → ⊥
    none q [] t = t
    none zero (m ∷ ms) t = t
    none (suc q) (m ∷ ms) t = none q ms t

module _ {n : ℕ} {D : OS.Delays} (K : ClassOnBench n D) (s : Stream) (me : ℕ) (p : List ℕ) (b : Bench) (v : Valid n D s me b) (j : ℕ)
    (t : T (is_accepted j s p b)) where
  abbrev b' : Bench
  b' = step b (asks j s p)

  is_me : j ≡ me
  is_me = asks_me K s me p b v j t

  pub me_lives : T (is_live me b)
  me_lives = subst (λ i. T (is_live i b)) is_me (and_l (is_live j b) (is_done (asked j s p b).reply) t)

  new_sender : Sender s me (now b) p b' true
  unfolding requested
  new_sender =
      record {
        holds = λ y. sym (ap (λ (m : Message). m.held) message);
        stamp = λ y. ap (λ (m : Message). m.stamp) message ∙ sym (count_is me b.modules);
        payload = λ y. ap payload_of message ∙ take-append_seam p (drop (length p) (replicate max_payload 0));
        short = asks_short K s me p b v j t;
      }
    where
      slot : slot_at s me b' ≡ requested (count_of b me) p (slot_at s me b)
      slot = subst (λ i. slot_at s i b' ≡ requested (count_of b i) p (slot_at s i b)) is_me (asked_slot K s me p b v j t)

      message : (slot_at s me b').message ≡ holding (count_of b me) p
      message =
          ap (λ (y : Slot). y.message) slot
          ∙ cond_false (is_plain (slot_at s me b).settings) _ (holding (count_of b me) p) (not_so (not_plain K v.sender.1))

  -- a strand that looks like the bench, whose invariant holds, with nothing that may be sent
  pub open_track : (Z : OH.Strand K.C) (p₀ : List ℕ) (rows : List (List Frame)) → Z.state.now ≡ count_of b
      → Z.state.receiver ≡ receivers_of K s me p₀ b rows
      → Z.sender ≡ me → Z.up ≡ is_live me b → T (not Z.hold) → (a : Bool) (base : ℕ → List OC.Note)
      → Inv D K.C K.works Z a base
      → ((n : ℕ) (w : Which) → T (may_send b s (nth no_book n (books_of s b)) w) → ⊥)
      → Track K s me (now b) p (logs_of s b) b'
  unfolding view
  open_track Z p₀ rows time recv sender up free a base inv shut =
      record {
        k = new_book j b;
        ks = books_of s b;
        books = books_asked s b v.ledger j p t;
        own = record {
          sender = is_me;
          asked = refl;
          content = new_content K s p j b;
          size = length-map b.modules (λ (m : Module). []) ∙ sym (size_step b (asks j s p));
          rows = λ q n. no_rows q b.modules;
        };
        hold = true;
        sender = new_sender;
        old = λ n w h. shut n w (send_back s b (asks j s p) v.nodes (nth no_book n (books_of s b)) w h);
        carrying = λ i live pending. absurd (no_pending i live pending);
        a = false;
        inv = subst (λ Z. Inv D K.C K.works Z false (logs_of s b)) (open_strand K s me p b v j t Z p₀ rows time recv sender up)
            (subst (Inv D K.C K.works (OH.act K.C Z (OH.opens p)) false)
            (fun_ext (λ i. ap (λ (r : ℕ → OC.Receiver K.C). (r i).log) recv))
            (open_inv D K.C K.works Z a base inv (subst T (sym up) me_lives) free p));
      }
    where
      -- a live sender that is free: no live receiver has a frame of code 2 pending
      no_pending : (i : ℕ) → T (is_live i b') → T (slot_at s i b').pending.abort → ⊥
      no_pending i live pending =
          let before = subst T (asks_pending K s me p b v j t i) pending in
          let r = pending_receives s (module_at i b).node (v.nodes i) before in
          let here = both (is_live i b) (is_receiver (slot_at s i b)) ((moved_step s b (asks j s p) i (v.nodes i)).live live) r in
          none_pending D K.C K.works Z a base inv (subst T (sym up) me_lives) free i
          (subst (λ (rs : ℕ → OC.Receiver K.C). T (rs i).live) (sym recv) here)
          (subst (λ (rs : ℕ → OC.Receiver K.C). T (rs i).pending) (sym recv) before)

-- ── the next message of a stream ──
module _ {n : ℕ} {D : OS.Delays} (K : ClassOnBench n D) (s : Stream) (me : ℕ) (since : Moment) (p₀ : List ℕ) (base : ℕ → List OC.Note) (b : Bench)
    (v : Valid n D s me b) (x : Track K s me since p₀ base b) (j : ℕ) (p : List ℕ) (t : T (is_accepted j s p b)) where
  abbrev strand : OH.Strand K.C
  strand = strand_of K s me p₀ b x.k x.hold

  pub sender_free : T (not x.hold)
  sender_free =
      subst (λ h. T (not h)) (sym (x.sender.holds (me_lives K s me p b v j t)))
      (subst (λ i. T (not (slot_at s i b).message.held)) (asks_me K s me p b v j t) (asks_free K s me p b v j t))

  hold_is_over : Over D K.C strand.state me
  hold_is_over = omega (arith, hold_over D K.C K.works strand x.a base x.inv (me_lives K s me p b v j t) sender_free tt)

  shut_newest : (w : Which) → T (may_send b s x.k w) → ⊥
  shut_newest the_payload h =
      closed_data D K.C K.works strand x.a base x.inv me hold_is_over (named all) true
      (legal_data K s me p₀ b v x.k x.own.sender x.hold all h)
  shut_newest the_confirmation h =
      closed_conf D K.C K.works strand x.a base x.inv me hold_is_over (named all) true
      (legal_conf K s me p₀ b v x.k x.own.sender x.hold all h)
  shut_newest (the_abort q y) h =
      closed_code2 D K.C K.works strand x.a base x.inv q y (named all) true
      (past_all D K.C K.works strand x.a base x.inv (me_lives K s me p b v j t) sender_free q)
      (legal_code2 K s me p₀ b v x.k x.own.sender x.hold x.own.rows q y all h)

  shut_all : (n : ℕ) (w : Which) → T (may_send b s (nth no_book n (x.k ∷ x.ks)) w) → ⊥
  shut_all zero w h = shut_newest w h
  shut_all (suc n) w h = x.old n w h

  pub next_track : Track K s me (now b) p (logs_of s b) (step b (asks j s p))
  next_track =
      open_track K s me p b v j t strand p₀ x.k.aborts refl refl refl refl sender_free x.a base x.inv
      (λ n w h. shut_all n w (subst (λ ks. T (may_send b s (nth no_book n ks) w)) x.books h))
