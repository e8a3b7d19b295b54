-- The strand of a stream when a module gives out its next frame: data or a confirmation leaves it as it is, a frame of code 2 is given out in it.
use Prim.Native.Nat.{ℕ}
use mathlib.Core.Path.{◌≡◌, refl, ap, sym, subst, ◌∙◌, fun_ext}
use mathlib.Core.Logic.{◌⊎◌, inl, inr}
use mathlib.Core.Bool.{Bool, true, false, ◌&&◌, cond, true≢false}
use mathlib.Core.List.{List, [], map}
use lib.Dec.{T, eqb, eqb_refl, eqb→eq}
use Rattle.wire.specs.declared.ids.Stream.{Stream}
use Rattle.wire.specs.Identifiers.{code_of}
use Rattle.node.specs.declared.slots.Slot.{Slot}
use Rattle.node.specs.declared.slots.Pending.{Pending}
use Rattle.node.specs.NextFrame.{given_out}
use Rattle.node.specs.Nodes.{slot_of}
use Rattle.node.specs.Slots.{is_receiver}
use Rattle.node.proofs.Choices.{into}
use Rattle.node.proofs.slots.Streams.{given_out_keeps}
use Rattle.one_stream.proofs.Truth.{cond_elim, cond_true, cond_false, and_r, both, decide, so, not_so}
use Rattle.bench.specs.Bench.{Module, Bench, Book, Frame, module_at, is_live, slot_at}
use Rattle.bench.specs.Events.{gives, step, with_node, is_next}
use Rattle.bench.specs.Lists.{nth}
use Rattle.bench.proofs.laws.SlotAfterCall.{slot_kept, giving, next_own, next_counter}
use Rattle.bench.proofs.laws.ModuleAfterEvent.{module_step, next_done, count_of, as_function}
use Rattle.bench.proofs.message.SendingsSeen.{to_sent}
use Rattle.bench.proofs.message.ClassOnBench.{ClassOnBench}
use Rattle.bench.proofs.message.ModuleSeen.{to_frame, notes, view_of, view, Looks, looks, view_looks, looks_at}
use Rattle.bench.proofs.message.SeenAfterOwnEvent.{Valid, carried, receivers_of, made, strand_of, made_path}
use Rattle.one_stream.specs.Sendings as OS
use Rattle.one_stream.specs.Frames as OF
use Rattle.one_stream.specs.Classes as OC
use Rattle.one_stream.proofs.Histories as OH

module _ {n : ℕ} {D : OS.Delays} (K : ClassOnBench n D) (s : Stream) (me : ℕ) (p : List ℕ) (b : Bench) (v : Valid n D s me b)
    (j c : ℕ) (t : T (is_next j s c b)) where
  abbrev after : Bench
  after = step b (gives j s c)

  abbrev x : Slot
  x = slot_at s j b

  -- the slot of the module that gives it out, and of the others
  pub slot_own : slot_at s j after ≡ given_out c x
  slot_own =
      let m = module_at j b in
      let d = next_done b j s c t in
      ap (λ (m : Module). slot_of s m.node) (module_step b (gives j s c) j
      ∙ cond_true (is_next j s c b && eqb j j) (with_node (giving m.node).node m) m (both (is_next j s c b) (eqb j j) t (eqb_refl j)))
      ∙ (subst (λ z. slot_of z (giving m.node).node ≡ given_out (code_of (giving m.node).id) (slot_of z m.node)) d.1
      (next_own m.node (v.nodes j) d.0)
      ∙ ap (λ c. given_out c x) d.2)

  pub slot_other : (i : ℕ) → (T (eqb i j) → ⊥) → slot_at s i after ≡ slot_at s i b
  slot_other i other =
      let m = module_at i b in
      ap (λ (m : Module). slot_of s m.node) (module_step b (gives j s c) i
      ∙ cond_false (is_next j s c b && eqb i j) (with_node (giving m.node).node m) m (λ y. other (and_r (is_next j s c b) (eqb i j) y)))

  -- whether it lives, what it delivered, what it counted
  record SameBut (i : ℕ) (m : Module) : Type 0 where
    pub live : m.live ≡ is_live i b
    pub log : m.log ≡ (module_at i b).log
    pub count : m.node.counter ≡ count_of b i

  given_same : (i : ℕ) → SameBut i (module_at i after)
  given_same i =
      subst (SameBut i) (sym (module_step b (gives j s c) i))
      (cond_elim (SameBut i) (is_next j s c b && eqb i j) (λ y. record { live = refl; log = refl; count = next_counter (module_at i b).node })
      (λ y. record { live = refl; log = refl; count = refl }))

  abbrev to_frames : List Frame → List OF.Frame
  to_frames fs = map (to_frame (carried K s me p)) fs

  -- what its slot looks like decides a module's view
  given_view : (i : ℕ) (fs : List Frame) {r : Bool} {h : K.C.Slot} {q : Bool} → Looks K r h q (slot_at s i after)
      → view K s (carried K s me p) (module_at i after) fs ≡ view_of K (is_live i b) r h q (to_frames fs) (notes s (module_at i b).log)
  given_view i fs {r} {h} {q} looks =
      view_looks K s (carried K s me p) (module_at i after) fs looks
      ∙ (ap (λ l. view_of K l r h q (to_frames fs) (notes s (module_at i after).log)) (given_same i).live
      ∙ ap (λ log. view_of K (is_live i b) r h q (to_frames fs) (notes s log)) (given_same i).log)

  given_other : (i : ℕ) (fs : List Frame) → (T (eqb i j) → ⊥)
      → view K s (carried K s me p) (module_at i b) fs ≡ view K s (carried K s me p) (module_at i after) fs
  unfolding view
  given_other i fs other =
      let y = slot_at s i b in
      sym (given_view i fs (subst (Looks K (is_receiver y) (K.held y) y.pending.abort) (sym (slot_other i other)) (looks K y)))

  module _ (k k' : Book) (since : k'.payload_frame.since ≡ k.payload_frame.since)
      (datas : k'.payload_frame.sendings ≡ k.payload_frame.sendings)
      (confs : k'.confirmation.sendings ≡ k.confirmation.sendings) (hold : Bool) where
    given_strand : (r : ℕ → OC.Receiver K.C) → ((i : ℕ) → r i ≡ receivers_of K s me p after k'.aborts i)
        → made K s me p (count_of b) (as_function k.payload_frame.since) (to_sent k.payload_frame.sendings) (to_sent k.confirmation.sendings) r
        (is_live me b) hold
        ≡ strand_of K s me p after k' hold
    given_strand r same =
        made_path K s me p (as_function k.payload_frame.since) (fun_ext (λ i. sym (given_same i).count)) (ap to_sent (sym datas)) (ap to_sent (sym confs))
        (fun_ext same) (sym (given_same me).live) refl
        ∙ ap (λ t. made K s me p (count_of after) (as_function t) (to_sent k'.payload_frame.sendings) (to_sent k'.confirmation.sendings)
        (receivers_of K s me p after k'.aborts) (is_live me after) hold) (sym since)

    -- data or a confirmation, which no receiver gives out: the strand stays
    pub give_own_strand : is_receiver x ≡ false → eqb c 2 ≡ false → k'.aborts ≡ k.aborts
        → strand_of K s me p b k hold ≡ strand_of K s me p after k' hold
    unfolding view given_out
    give_own_strand deaf not_code2 rows =
        given_strand (receivers_of K s me p b k.aborts)
        (λ i. go i (decide (eqb i j)) ∙ ap (λ z. receivers_of K s me p after z i) (sym rows))
      where
        flag : (a d q : Bool) → d ≡ false → cond a q (cond d false q) ≡ q
        flag a true q e = absurd (true≢false e)
        flag true false q e = refl
        flag false false q e = refl

        own : Looks K (is_receiver x) (K.held x) x.pending.abort (slot_at s j after)
        own =
            subst (Looks K (is_receiver x) (K.held x) x.pending.abort) (sym slot_own)
            (record {
              receiver = refl;
              held = λ r. absurd (not_so deaf r);
              pending = into (λ (q : Pending). q.abort) (eqb c 1) refl (into (λ (q : Pending). q.abort) (eqb c 2) refl refl)
                  ∙ flag (eqb c 1) (eqb c 2) x.pending.abort not_code2;
            })

        go : (i : ℕ) → T (eqb i j) ⊎ (T (eqb i j) → ⊥) → receivers_of K s me p b k.aborts i ≡ receivers_of K s me p after k.aborts i
        go i (inl e) =
            subst (λ i. receivers_of K s me p b k.aborts i ≡ receivers_of K s me p after k.aborts i) (sym (eqb→eq i j e))
            (sym (given_view j (nth [] j k.aborts) own))
        go i (inr other) = given_other i (nth [] i k.aborts) other

    -- a frame of code 2, which a receiver gives out: the newest of its row
    pub give_code2_strand : c ≡ 2 → T (is_receiver x)
        → ((i : ℕ) → (let fs = to_frames (nth [] i k.aborts) in to_frames (nth [] i k'.aborts) ≡ cond (eqb i j) (OF.give_newest fs) fs))
        → OH.act K.C (strand_of K s me p b k hold) (OH.on (OC.give j)) ≡ strand_of K s me p after k' hold
    unfolding OH.act OC.step OC.give_own view
    give_code2_strand two r rows = given_strand (OC.step K.C (strand_of K s me p b k hold).state (OC.give j)).receiver (λ i. go i (eqb i j) refl)
      where
        row : ℕ → List OF.Frame
        row i = to_frames (nth [] i k.aborts)

        own : Looks K (is_receiver x) (K.C.on_given (K.held x)) false (slot_at s j after)
        own =
            subst (Looks K (is_receiver x) (K.C.on_given (K.held x)) false) (sym (slot_own ∙ ap (λ c. given_out c x) two))
            (looks_at K x (given_out 2 x) (given_out_keeps 2 x) given.0 given.1)
          where
            given : (K.held (given_out 2 x) ≡ K.C.on_given (K.held x)) × ((given_out 2 x).pending.abort ≡ false)
            given =
                K.on_given (module_at j b).node.counter x
                (record { receiver = r; settings = v.receivers j r; kept = slot_kept s (module_at j b).node (v.nodes j) })

        gave : (r : Bool) → T r → (l : Bool) (h : K.C.Slot) (q : Bool) (fs : List OF.Frame) (log : List OC.Note)
            → OC.give_own K.C (view_of K l r h q fs log) ≡ view_of K l r (K.C.on_given h) false (OF.give_newest fs) log
        gave true r l h q fs log = refl
        gave false r l h q fs log = absurd r

        go : (i : ℕ) (o : Bool) → eqb i j ≡ o
            → cond o (OC.give_own K.C (receivers_of K s me p b k.aborts i)) (receivers_of K s me p b k.aborts i)
            ≡ receivers_of K s me p after k'.aborts i
        go i true e =
            subst (λ i. OC.give_own K.C (receivers_of K s me p b k.aborts i) ≡ receivers_of K s me p after k'.aborts i) (sym (eqb→eq i j (so e)))
            (gave (is_receiver x) r (is_live j b) (K.held x) x.pending.abort (row j) (notes s (module_at j b).log)
            ∙ sym (given_view j (nth [] j k'.aborts) own
            ∙ ap (λ fs. view_of K (is_live j b) (is_receiver x) (K.C.on_given (K.held x)) false fs (notes s (module_at j b).log))
            (rows j ∙ cond_true (eqb j j) (OF.give_newest (row j)) (row j) (eqb_refl j))))
        go i false e =
            let y = slot_at s i b in
            sym (given_view i (nth [] i k'.aborts)
            (subst (Looks K (is_receiver y) (K.held y) y.pending.abort) (sym (slot_other i (not_so e))) (looks K y))
            ∙ ap (λ fs. view_of K (is_live i b) (is_receiver y) (K.held y) y.pending.abort fs (notes s (module_at i b).log))
            (rows i ∙ cond_false (eqb i j) (OF.give_newest (row i)) (row i) (not_so e)))
