-- Giving out a frame of a stream keeps what is known of it.
use Prim.Native.Nat.{ℕ, ◌+◌, ◌*◌}
use native.Mathlib.Omega.{arith}
use mathlib.Core.Path.{◌≡◌, refl, ap, sym, subst, ◌∙◌}
use mathlib.Core.Logic.{◌⊎◌, inl, inr}
use mathlib.Core.Bool.{Bool, false, ◌&&◌, cond}
use mathlib.Core.List.{List, [], ◌∷◌, map}
use lib.Dec.{T, eqb, eqb→eq}
use Rattle.wire.specs.declared.ids.Stream.{Stream}
use Rattle.node.specs.declared.slots.Slot.{Slot}
use Rattle.node.specs.declared.slots.Message.{Message}
use Rattle.node.specs.declared.slots.Pending.{Pending}
use Rattle.node.specs.declared.Node.{Node}
use Rattle.wire.specs.Identifiers.{id_of, code_of, stream_of}
use Rattle.wire.specs.Settings.{is_plain, receives}
use Rattle.node.specs.NextFrame.{without, given_out, payload_for}
use Rattle.node.specs.OldLayout.{payload_code}
use Rattle.node.specs.Nodes.{slot_of}
use Rattle.node.specs.Reachable.{KeptSlot}
use Rattle.node.specs.Slots.{is_receiver, payload_of}
use Rattle.node.proofs.Choices.{into}
use Rattle.one_stream.proofs.Chain.{Inv, act_keeps}
use Rattle.one_stream.proofs.Truth.{cond_elim, cond_false, and_l, and_r, both, is_true, is_false, so, not_so}
use Rattle.bench.specs.Bench.{Module, Bench, Frame, no_book, module_at, slot_at, Which, the_payload, the_confirmation, the_abort, Moment}
use Rattle.bench.specs.Events.{gives, step, on_frame, on_newest, is_next, gave_out, which_of, next}
use Rattle.bench.specs.Lists.{nth, at}
use Rattle.bench.specs.SetUp.{is_done}
use Rattle.bench.proofs.laws.SlotAfterCall.{slot_kept, giving, IsPending, next_used, next_pending, next_own, next_bytes}
use Rattle.bench.proofs.laws.ModuleAfterEvent.{nth_at, module_step, next_lives, next_done, pending_receives, moved_step, as_function}
use Rattle.bench.proofs.laws.BooksAfterEvent.{books_given}
use Rattle.bench.proofs.laws.FramesOfBooks.{code_in}
use Rattle.bench.proofs.message.ClassOnBench.{ClassOnBench}
use Rattle.bench.proofs.message.ModuleSeen.{to_frame, not_plain}
use Rattle.bench.proofs.message.SeenAfterOwnEvent.{Valid, not_both, strand_of}
use Rattle.bench.proofs.message.SeenAfterGivingOut.{give_own_strand, give_code2_strand}
use Rattle.bench.proofs.message.PayloadKept.{carrying_given}
use Rattle.bench.proofs.message.MessageKept.{carries, Sender, Track, send_back, own_moved, own_on_frame}
use Rattle.wire.specs.Settings as wire
use Rattle.one_stream.specs.Sendings as OS
use Rattle.one_stream.specs.Frames as OF
use Rattle.one_stream.specs.Classes as OC
use Rattle.one_stream.proofs.Histories as OH
use Rattle.bench.proofs.laws.SlotAfterCall as Laws

module _ {n : ℕ} {D : OS.Delays} (K : ClassOnBench n D) (s : Stream) (me : ℕ) (since : Moment) (p : List ℕ) (base : ℕ → List OC.Note) (b : Bench)
    (v : Valid n D s me b) (x : Track K s me since p base b) (j : ℕ) where
  abbrev node : Node
  node = (module_at j b).node

  abbrev slot : Slot
  slot = slot_at s j b

  abbrev After : ℕ → Bench
  After c = step b (gives j s c)

  abbrev Follows : Bench → Type 0
  Follows = Track K s me since p base

  -- ── what was given out ──
  module _ (c : ℕ) (t : T (is_next j s c b)) where
    done : T (is_done (giving node).reply)
    done = (next_done b j s c t).0

    stream_is : stream_of (giving node).id ≡ s
    stream_is = (next_done b j s c t).1

    code_is : code_of (giving node).id ≡ c
    code_is = (next_done b j s c t).2

    pub given_id : (giving node).id ≡ id_of s c
    given_id =
        let e : (giving node).id.0 ≡ s.0 * 4 + c = omega (arith, ap (λ (z : Stream). z.0) stream_is, code_is) in λ i. record { 0 = e i }

    pub given_used : T slot.used
    given_used = subst (λ z. T (slot_of z node).used) stream_is (next_used node (v.nodes j) done)

    pub given_pending : IsPending slot c
    given_pending =
        subst (IsPending slot) code_is (subst (λ z. IsPending (slot_of z node) (code_of (giving node).id)) stream_is
        (next_pending node (v.nodes j) done))

    pub given_bytes : (giving node).bytes ≡ payload_for c slot
    given_bytes =
        next_bytes node (v.nodes j) done
        ∙ (ap (λ z. payload_for (code_of (giving node).id) (slot_of z node)) stream_is ∙ ap (λ d. payload_for d slot) code_is)

    given_slot : slot_of s (giving node).node ≡ given_out c slot
    given_slot =
        subst (λ z. slot_of z (giving node).node ≡ given_out (code_of (giving node).id) (slot_of z node)) stream_is
        (next_own node (v.nodes j) done)
        ∙ ap (λ d. given_out d slot) code_is

    -- the message stays, and no payload becomes pending
    record Gave (before after : Slot) : Type 0 where
      pub message : after.message ≡ before.message
      pub payload : T after.pending.payload → T before.pending.payload

    gave_out_here : Gave slot (slot_of s (giving node).node)
    unfolding given_out
    gave_out_here = subst (Gave slot) (sym given_slot) (record { message = refl; payload = fewer })
      where
        fewer : T (without c slot.pending).payload → T slot.pending.payload
        fewer =
            cond_elim (λ (q : Pending). T q.payload → T slot.pending.payload) (eqb c 1) (λ t z. z)
            (λ t. cond_elim (λ (q : Pending). T q.payload → T slot.pending.payload) (eqb c 2) (λ t z. z) (λ t z. absurd z))

    given_sender : Gave (slot_at s me b) (slot_at s me (After c))
    given_sender =
        subst (λ (m : Module). Gave (slot_at s me b) (slot_of s m.node)) (sym (module_step b (gives j s c) me))
        (cond_elim (λ (m : Module). Gave (slot_at s me b) (slot_of s m.node)) (is_next j s c b && eqb me j)
        (λ y.
        subst (λ i. Gave (slot_at s i b) (slot_of s (giving (module_at i b).node).node))
        (sym (eqb→eq me j (and_r (is_next j s c b) (eqb me j) y))) gave_out_here)
        (λ y. record { message = refl; payload = λ z. z }))

    sender_given : Sender s me since p (After c) x.hold
    sender_given =
        record {
          holds =
              λ y. x.sender.holds ((moved_step s b (gives j s c) me (v.nodes me)).live y) ∙ ap (λ (m : Message). m.held)
              (sym given_sender.message);
          stamp = subst (λ (m : Message). T m.held → m.stamp ≡ as_function since me) (sym given_sender.message) x.sender.stamp;
          payload = λ y. ap payload_of given_sender.message ∙ x.sender.payload (given_sender.payload y);
          short = x.sender.short;
        }

    -- the book and everything but the strand
    given : (w : Which) → which_of j c ≡ w → code_in w ≡ c → (giving node).bytes ≡ carries K p c
        → (is_receiver slot ≡ false) ⊎ (c ≡ 2) × T (is_receiver slot) → (a : Bool)
        → Inv D K.C K.works (strand_of K s me p (After c) (on_frame w (gave_out (next j b)) x.k) x.hold) a base
        → Follows (After c)
    given w which code bytes by a inv =
        record {
          k = on_frame w (gave_out (next j b)) x.k;
          ks = x.ks;
          books = books_given s b v.ledger j c t
              ∙ (ap (on_newest (on_frame (which_of j c) (gave_out (next j b)))) x.books
              ∙ ap (λ w. on_frame w (gave_out (next j b)) x.k ∷ x.ks) which);
          own = own_moved K s me since p b v (gives j s c) (on_frame w (gave_out (next j b)) x.k)
              (own_on_frame K s me since p b x.k w (gave_out (next j b)) (λ y. refl)
              (λ y h g. subst (λ d. ((giving node).id ≡ id_of s d) × ((giving node).bytes ≡ carries K p d)) (sym code) (given_id, bytes)) x.own);
          hold = x.hold;
          sender = sender_given;
          old = λ n w h. x.old n w (send_back s b (gives j s c) v.nodes (nth no_book n x.ks) w h);
          carrying = carrying_given K s me p b v x.carrying j c t by;
          a = a;
          inv = inv;
        }

  -- ── by the code ──
  -- data is pending at the sender alone
  data_sender : T slot.used → T slot.pending.payload → j ≡ me
  data_sender used y =
      let k = slot_kept s node (v.nodes j) in
      v.only j (both slot.used (wire.sends slot.settings) used (so (k.pending.payload_sent (is_true slot.pending.payload y))))

  not_plain_slot : T slot.used → T slot.pending.payload → payload_code slot ≡ 0
  not_plain_slot used y =
      cond_false (is_plain slot.settings) 3 0
      (not_so (subst (λ i. is_plain (slot_at s i b).settings ≡ false) (sym (data_sender used y)) (not_plain K v.sender.1)))

  -- who gives out a frame of its own message does not receive the stream
  sends_not_receives : T (wire.sends slot.settings) → is_receiver slot ≡ false
  sends_not_receives sends =
      is_false (is_receiver slot)
      (λ r. not_both slot r (both slot.used (wire.sends slot.settings) (and_l slot.used (receives slot.settings) r) sends))

  pub track_give : (c : ℕ) → T (is_next j s c b) → Follows (After c)
  unfolding payload_for
  track_give c t = go (given_pending c t) refl
    where
      kept : KeptSlot node.counter slot
      kept = slot_kept s node (v.nodes j)

      data_given : T slot.pending.payload → T (is_next j s 0 b) → Follows (After 0)
      data_given y t =
          let is_me = data_sender (given_used 0 t) y in
          let bytes = given_bytes 0 t ∙ subst (λ i. payload_of (slot_at s i b).message ≡ p) (sym is_me)
          (x.sender.payload (subst (λ i. T (slot_at s i b).pending.payload) is_me y)) in
          let other = sends_not_receives (so (kept.pending.payload_sent (is_true slot.pending.payload y))) in
          given 0 t the_payload refl refl bytes (inl other) x.a
          (subst (λ Z. Inv D K.C K.works Z x.a base)
          (give_own_strand K s me p b v j 0 t x.k (on_frame the_payload (gave_out (next j b)) x.k) refl refl refl x.hold other refl refl) x.inv)

      conf_given : T slot.pending.confirmation → T (is_next j s 1 b) → Follows (After 1)
      conf_given y t =
          let other = sends_not_receives (so (kept.pending.confirmation_sent (is_true slot.pending.confirmation y)).0) in
          given 1 t the_confirmation refl refl (given_bytes 1 t) (inl other) x.a
          (subst (λ Z. Inv D K.C K.works Z x.a base)
          (give_own_strand K s me p b v j 1 t x.k (on_frame the_confirmation (gave_out (next j b)) x.k) refl refl refl x.hold other refl refl) x.inv)

      to_frames : List Frame → List OF.Frame
      to_frames fs = map (to_frame (K.C.carried p)) fs

      newest : (fs : List Frame) → to_frames (at (gave_out (next j b)) 0 fs) ≡ OF.give_newest (to_frames fs)
      newest [] = refl
      newest (f ∷ fs) = unfold to_frame in refl

      code2_rows : (i : ℕ) → to_frames (nth [] i (at (at (gave_out (next j b)) 0) j x.k.aborts))
          ≡ cond (eqb i j) (OF.give_newest (to_frames (nth [] i x.k.aborts))) (to_frames (nth [] i x.k.aborts))
      code2_rows i =
          ap to_frames (nth_at [] (at (gave_out (next j b)) 0) i j x.k.aborts (inr refl))
          ∙ into to_frames (eqb i j) (newest (nth [] i x.k.aborts)) refl

      code2_given : T slot.pending.abort → T (is_next j s 2 b) → Follows (After 2)
      code2_given y t =
          let r = act_keeps D K.C K.works (strand_of K s me p b x.k x.hold) x.a base x.inv (OH.on (OC.give j)) tt
          tt in
          let receives = pending_receives s node (v.nodes j) y in
          given 2 t (the_abort j 0) refl refl (given_bytes 2 t ∙ x.carrying j (next_lives b j s 2 t) y) (inr (refl, receives)) r.0
          (subst (λ Z. Inv D K.C K.works Z r.0 base)
          (give_code2_strand K s me p b v j 2 t x.k (on_frame (the_abort j 0) (gave_out (next j b)) x.k) refl refl refl x.hold refl
          receives code2_rows) r.1)

      go : {d : ℕ} → IsPending slot d → d ≡ c → Follows (After c)
      go (Laws.the_payload y) e =
          let zero_is : c ≡ 0 = sym e ∙ not_plain_slot (given_used c t) y in
          subst (λ d. Follows (After d)) (sym zero_is) (data_given y (subst (λ d. T (is_next j s d b)) zero_is t))
      go (Laws.the_confirmation y) e = subst (λ d. Follows (After d)) e (conf_given y (subst (λ d. T (is_next j s d b)) (sym e) t))
      go (Laws.the_abort y) e = subst (λ d. Follows (After d)) e (code2_given y (subst (λ d. T (is_next j s d b)) (sym e) t))
