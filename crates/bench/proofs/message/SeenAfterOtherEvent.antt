-- The strand of a stream at a death, at events of other streams, and at an accepted request.
use Prim.Native.Nat.{ℕ, zero, suc, ◌≤◌}
use native.Mathlib.Omega.{arith}
use mathlib.Core.Path.{◌≡◌, refl, ap, sym, subst, ◌∙◌, fun_ext}
use mathlib.Core.Bool.{Bool, true, false, not, ◌&&◌, cond}
use mathlib.Core.List.{List, [], ◌∷◌, map}
use lib.ListN.{length}
use lib.Dec.{T, eqb, eqb_refl, eqb→eq}
use Rattle.wire.specs.declared.ids.Stream.{Stream}
use Rattle.node.specs.declared.slots.Slot.{Slot}
use Rattle.node.specs.declared.Node.{Node}
use Rattle.wire.specs.Frames.{max_payload}
use Rattle.node.specs.Nodes.{slot_of}
use Rattle.node.specs.Request.{requested, has_pending}
use Rattle.node.specs.Slots.{is_receiver, is_sender}
use Rattle.node.proofs.Choices.{neither}
use Rattle.one_stream.proofs.Truth.{cond_elim, cond_true, and_r, both, is_true, is_false, so}
use Rattle.bench.specs.Bench.{Module, Bench, Book, Frame, module_at, is_live, slot_at}
use Rattle.bench.specs.Events.{Event, asks, dies, step, dead, with_node, is_accepted, new_book, asked}
use Rattle.bench.specs.Lists.{nth}
use Rattle.bench.specs.SetUp.{is_done}
use Rattle.bench.proofs.laws.SlotAfterCall.{slot_kept, asking, accepts, ask_own, ask_reply, ask_counter}
use Rattle.bench.proofs.laws.ModuleAfterEvent.{accepted_facts, module_step, dead_live, dead_node, Elsewhere, untouched_step, count_of, as_function}
use Rattle.bench.proofs.laws.ModuleAfterEvent.{count_is}
use Rattle.bench.proofs.message.SendingsSeen.{to_sent}
use Rattle.bench.proofs.message.ClassOnBench.{ClassOnBench}
use Rattle.bench.proofs.message.ModuleSeen.{notes, view_of, view, Looks, looks, view_looks}
use Rattle.bench.proofs.message.SeenAfterOwnEvent.{Valid, not_both, carried, receivers_of, made, strand_of, made_path}
use Rattle.wire.specs.Settings as wire
use Rattle.one_stream.specs.Sendings as OS
use Rattle.one_stream.specs.Classes as OC
use Rattle.one_stream.proofs.Histories as OH

-- the rows of a new book
pub no_rows : (i : ℕ) (ms : List Module) → nth {A = List Frame} [] i (map (λ (m : Module). []) ms) ≡ []
no_rows i [] = refl
no_rows zero (m ∷ ms) = refl
no_rows (suc i) (m ∷ ms) = no_rows i ms

module _ {n : ℕ} {D : OS.Delays} (K : ClassOnBench n D) (s : Stream) (me : ℕ) (p : List ℕ) (b : Bench) where
  -- ── a death ──
  dead_view : (j i : ℕ) (fs : List Frame)
      → view K s (carried K s me p) (module_at i (step b (dies j))) fs ≡ cond (eqb i j) (OC.dead K.C (view K s (carried K s me p) (module_at i b) fs))
      (view K s (carried K s me p) (module_at i b) fs)
  unfolding view OC.dead
  dead_view j i fs = ap (λ (m : Module). view K s (carried K s me p) m fs) (module_step b (dies j) i) ∙ go (eqb i j)
    where
      go : (o : Bool)
          → view K s (carried K s me p) (cond o (dead (module_at i b)) (module_at i b)) fs
          ≡ cond o (OC.dead K.C (view K s (carried K s me p) (module_at i b) fs))
          (view K s (carried K s me p) (module_at i b) fs)
      go true = refl
      go false = refl

  module _ (k : Book) (hold : Bool) (j : ℕ) where
    -- the message's strand, but for the counts, the receivers and whether the sender lives
    abbrev with_book : (ℕ → ℕ) → (ℕ → OC.Receiver K.C) → (up : Bool) → OH.Strand K.C
    with_book counts r up =
        made K s me p counts (as_function k.payload_frame.since) (to_sent k.payload_frame.sendings) (to_sent k.confirmation.sendings) r up hold

    die_strand : (up : Bool) → cond (eqb me j) false (is_live me b) ≡ up
        → with_book (count_of b) (OC.step K.C (strand_of K s me p b k hold).state (OC.die j)).receiver up
        ≡ strand_of K s me p (step b (dies j)) k hold
    unfolding OC.step
    die_strand up e =
        made_path K s me p (as_function k.payload_frame.since) (fun_ext (λ i. sym (ap (λ (n : Node). n.counter) (dead_node b j i)))) refl refl
        (fun_ext (λ i. sym (dead_view j i (nth [] i k.aborts)))) (sym (dead_live b j me ∙ e)) refl

    -- another module dies
    pub die_other_strand : (eqb me j ≡ false)
        → OH.act K.C (strand_of K s me p b k hold) (OH.on (OC.die j)) ≡ strand_of K s me p (step b (dies j)) k hold
    unfolding OH.act OC.step
    die_other_strand e = die_strand (is_live me b) (ap (λ o. cond o false (is_live me b)) e)

    -- the sender dies
    pub die_own_strand : (eqb me j ≡ true)
        → OH.act K.C (OH.act K.C (strand_of K s me p b k hold) (OH.on (OC.die j))) OH.sender_dies
        ≡ strand_of K s me p (step b (dies j)) k hold
    unfolding OH.act OC.step
    die_own_strand e = die_strand false (ap (λ o. cond o false (is_live me b)) e)

  -- ── events of other streams ──
  pub else_strand : (e : Event) → Elsewhere s b e → (k : Book) (hold : Bool) → strand_of K s me p b k hold ≡ strand_of K s me p (step b e) k hold
  unfolding view
  else_strand e els k hold =
      made_path K s me p (as_function k.payload_frame.since) (fun_ext (λ i. sym (untouched_step s b e els i).counter)) refl refl
      (fun_ext (λ i. same_view i (nth [] i k.aborts))) (sym (untouched_step s b e els me).live) refl
    where
      same_view : (i : ℕ) (fs : List Frame) → view K s (carried K s me p) (module_at i b) fs ≡ view K s (carried K s me p) (module_at i (step b e)) fs
      same_view i fs = let u = untouched_step s b e els i in rw (u.slot, u.live, u.log) refl

  -- ── an accepted request ──
  module _ (v : Valid n D s me b) (j : ℕ) (t : T (is_accepted j s p b)) where
    asks_slot : T (accepts p (slot_at s j b))
    asks_slot = subst T (ask_reply s p (module_at j b).node) (and_r (is_live j b) (is_done (asked j s p b).reply) t)

    asks_sender : T (is_sender (slot_at s j b))
    asks_sender = so (accepted_facts b j s p t).own

    pub asks_me : j ≡ me
    asks_me = v.only j asks_sender

    pub asks_short : length p ≤ max_payload
    asks_short = (accepted_facts b j s p t).short

    -- the sender was free
    pub asks_free : T (not (slot_at s j b).message.held)
    asks_free =
        let x = slot_at s j b in
        so (ap not (neither x.message.held (has_pending x.pending) (accepted_facts b j s p t).free).0)

    pub asked_slot : slot_at s j (step b (asks j s p)) ≡ requested (count_of b j) p (slot_at s j b)
    asked_slot =
        let m = module_at j b in
        let m' = with_node (asking s p m.node).node m in
        ap (λ (m : Module). slot_of s m.node) (module_step b (asks j s p) j)
        ∙ (ap (λ (m : Module). slot_of s m.node)
        (cond_true (is_accepted j s p b && eqb j j) m' m (both (is_accepted j s p b) (eqb j j) t (eqb_refl j)))
        ∙ (ask_own s p (module_at j b).node ∙ cond_true (accepts p (slot_at s j b)) (requested (count_of b j) p (slot_at s j b)) (slot_at s j b) asks_slot))

    -- a sender has no abort pending
    no_abort : (slot_at s j b).pending.abort ≡ false
    no_abort = is_false (slot_at s j b).pending.abort (λ y.
        let k = slot_kept s (module_at j b).node (v.nodes j) in
        let e = (k.pending.abort_received (is_true (slot_at s j b).pending.abort y)).0 in
        let role0 = eqb→eq (slot_at s j b).settings.role 0 (so e) in
        let role1 = eqb→eq (slot_at s j b).settings.role 1 (and_r (slot_at s j b).used (wire.sends (slot_at s j b).settings) asks_sender) in
        omega arith)

    -- a module that asks looks the same to the stream, since it does not receive it
    asks_looks : (i : ℕ)
        → (let x = slot_at s i b in Looks K (is_receiver x) (K.held x) x.pending.abort (slot_at s i (step b (asks j s p))))
    unfolding requested
    asks_looks i =
        subst (λ (m : Module). Looks K (is_receiver x) (K.held x) x.pending.abort (slot_of s m.node))
        (sym (module_step b (asks j s p) i))
        (cond_elim (λ (m : Module). Looks K (is_receiver x) (K.held x) x.pending.abort (slot_of s m.node)) (is_accepted j s p b && eqb i j)
        (λ y.
        let e : i ≡ j = eqb→eq i j (and_r (is_accepted j s p b) (eqb i j) y) in
        let asks = subst (λ q. T (accepts p (slot_at s q b))) (sym e) asks_slot in
        let slot = ask_own s p (module_at i b).node ∙ cond_true (accepts p x) (requested (count_of b i) p x) x asks in
        subst (Looks K (is_receiver x) (K.held x) x.pending.abort) (sym slot)
        (record {
          receiver = refl;
          held = λ r. absurd (not_both x r (subst (λ q. T (is_sender (slot_at s q b))) (sym e) asks_sender));
          pending = sym (subst (λ q. (slot_at s q b).pending.abort ≡ false) (sym e) no_abort);
        }))
        (λ y. looks K x))
      where
        x : Slot
        x = slot_at s i b

    pub asks_pending : (i : ℕ) → (slot_at s i (step b (asks j s p))).pending.abort ≡ (slot_at s i b).pending.abort
    asks_pending i = (asks_looks i).pending

    asks_same : (i : ℕ)
        → ((module_at i (step b (asks j s p))).live ≡ is_live i b) × ((module_at i (step b (asks j s p))).log ≡ (module_at i b).log) ×
        (count_of (step b (asks j s p)) i ≡ count_of b i)
    asks_same i =
        subst (λ (m : Module). (m.live ≡ is_live i b) × (m.log ≡ (module_at i b).log) × (m.node.counter ≡ count_of b i))
        (sym (module_step b (asks j s p) i))
        (cond_elim (λ (m : Module). (m.live ≡ is_live i b) × (m.log ≡ (module_at i b).log) × (m.node.counter ≡ count_of b i)) (is_accepted j s p b && eqb i j)
        (λ y. (refl, refl, ask_counter s p (module_at i b).node)) (λ y. (refl, refl, refl)))

    asks_view : (i : ℕ) (bytes : List ℕ) (fs : List Frame)
        → OH.without_frames K.C (view K s bytes (module_at i b) fs) ≡ view K s (carried K s me p) (module_at i (step b (asks j s p))) []
    unfolding view
    asks_view i bytes fs =
        let x = slot_at s i b in
        sym (view_looks K s (carried K s me p) (module_at i (step b (asks j s p))) [] (asks_looks i)
        ∙ (ap (λ l. view_of K l (is_receiver x) (K.held x) x.pending.abort [] (notes s (module_at i (step b (asks j s p))).log)) (asks_same i).0
        ∙ ap (λ log. view_of K (is_live i b) (is_receiver x) (K.held x) x.pending.abort [] (notes s log)) (asks_same i).1))

    -- a strand that looks like the bench before, with an earlier message p₀, opened, looks like the bench after
    pub open_strand : (Z : OH.Strand K.C) (p₀ : List ℕ) (rows : List (List Frame)) → Z.state.now ≡ count_of b
        → Z.state.receiver ≡ receivers_of K s me p₀ b rows
        → Z.sender ≡ me → Z.up ≡ is_live me b
        → OH.act K.C Z (OH.opens p) ≡ strand_of K s me p (step b (asks j s p)) (new_book j b) true
    unfolding OH.act to_sent
    open_strand Z p₀ rows time recv sender up = λ i. record {
      state = record {
        now = (time ∙ fun_ext (λ q. sym (asks_same q).2)) i;
        requested = (time ∙ fun_ext (λ q. sym (count_is q b.modules))) i;
        message = p;
        data_sent = OS.never;
        conf_sent = OS.never;
        receiver = receivers i;
      };
      sender = sender i;
      up = (up ∙ sym (asks_same me).0) i;
      begun = true;
      hold = true;
    }
      where
        receivers : ◌≡◌ {A = ℕ → OC.Receiver K.C} (λ q. OH.without_frames K.C (Z.state.receiver q))
            (receivers_of K s me p (step b (asks j s p)) (new_book j b).aborts)
        receivers =
            ap {B = ℕ → OC.Receiver K.C} (λ (r : ℕ → OC.Receiver K.C) q. OH.without_frames K.C (r q)) recv
            ∙ fun_ext (λ q.
            asks_view q (carried K s me p₀) (nth [] q rows)
            ∙ ap (view K s (carried K s me p) (module_at q (step b (asks j s p)))) (sym (no_rows q b.modules)))
