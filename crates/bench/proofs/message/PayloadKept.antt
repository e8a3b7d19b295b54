-- What a pending frame of code 2 of a live module carries is what such frames carry of the message: so it stays, at every event.
use Prim.Native.Nat.{ℕ, ◌+◌}
use mathlib.Core.Path.{◌≡◌, ap, sym, subst, ◌∙◌}
use mathlib.Core.Logic.{◌⊎◌, inl, inr}
use mathlib.Core.Bool.{false, not, ◌&&◌}
use mathlib.Core.List.{List}
use lib.Dec.{T, eqb, eqb→eq}
use Rattle.wire.specs.declared.ids.Stream.{Stream}
use Rattle.wire.specs.Settings.{receives}
use Rattle.node.specs.declared.slots.Slot.{Slot}
use Rattle.node.specs.NextFrame.{given_out}
use Rattle.node.specs.Nodes.{slot_of}
use Rattle.node.specs.Slots.{is_receiver}
use Rattle.node.proofs.slots.Streams.{Kind}
use Rattle.one_stream.proofs.Truth.{cond_elim, and_l, and_r, decide, is_false, not_so}
use Rattle.one_stream.specs.Sendings as OS
use Rattle.bench.specs.Bench.{Module, Bench, Frame, module_at, is_live, slot_at, book_of, frame_of, owner_of, Which}
use Rattle.bench.specs.Events.{Event, gives, sends, ticks, step, To, named, is_next}
use Rattle.bench.proofs.laws.SlotAfterCall.{slot_kept}
use Rattle.bench.proofs.laws.ModuleAfterEvent.{hears_frame, ticked_live, module_step, deaf, moved_step, pending_receives, count_of}
use Rattle.bench.proofs.message.ClassOnBench.{ClassOnBench}
use Rattle.bench.proofs.message.ModuleSeen.{Carries, carries_on, ticked_receiver}
use Rattle.bench.proofs.message.SeenAfterOwnEvent.{Valid}
use Rattle.bench.proofs.message.SeenAfterGivingOut.{slot_own, slot_other}

abbrev pub Carrying : {n : ℕ} {D : OS.Delays} → ClassOnBench n D → Stream → List ℕ → Bench → Type 0
Carrying K s p b = (i : ℕ) → T (is_live i b) → Carries K (K.C.carried p) (slot_at s i b)

module _ {n : ℕ} {D : OS.Delays} (K : ClassOnBench n D) (s : Stream) (me : ℕ) (p : List ℕ) (b : Bench) (v : Valid n D s me b)
    (old : Carrying K s p b) where
  abbrev Carried : Slot → Type 0
  Carried = Carries K (K.C.carried p)

  -- a slot that stays
  pub carrying_same : (e : Event) → ((i : ℕ) → slot_at s i (step b e) ≡ slot_at s i b) → Carrying K s p (step b e)
  carrying_same e same i live = subst Carried (sym (same i)) (old i ((moved_step s b e i (v.nodes i)).live live))

  -- where the stream is not received none is pending
  none_pends : (e : Event) (i : ℕ) → is_receiver (slot_at s i b) ≡ false → Carried (slot_at s i (step b e))
  none_pends e i other pending =
      let k = moved_step s b e i (v.nodes i) in
      absurd (not_so other (subst (λ (κ : Kind). T (κ.used && receives κ.settings)) k.kind
      (pending_receives s (module_at i (step b e)).node (k.kept (v.nodes i)) pending)))

  -- by whether a live receiver hears
  pub carrying_sent : (w : Which) (to : To) → (let f = frame_of w (book_of s 0 b) in
      ((i : ℕ) → T (is_live i b) → T (is_receiver (slot_at s i b)) → T (named to i) → Carried (slot_at s i b)
      → Carried (slot_of s (hears_frame f (module_at i b)).node))
      → Carrying K s p (step b (sends s 0 w to)))
  carrying_sent w to heard i live =
      subst (λ (m : Module). Carried (slot_of s m.node)) (sym (module_step b (sends s 0 w to) i))
      (cond_elim (λ (m : Module). Carried (slot_of s m.node)) (is_live i b && named to i && not (eqb i (owner_of w (book_of s 0 b))))
      (λ t. hears (and_l (is_live i b && named to i) (not (eqb i (owner_of w (book_of s 0 b)))) t) (decide (is_receiver (slot_at s i b))))
      (λ t. old i was_live))
    where
      m : Module
      m = module_at i b

      f : Frame
      f = frame_of w (book_of s 0 b)

      was_live : T (is_live i b)
      was_live = (moved_step s b (sends s 0 w to) i (v.nodes i)).live live

      hears : T (is_live i b && named to i) → T (is_receiver (slot_at s i b)) ⊎ (T (is_receiver (slot_at s i b)) → ⊥)
          → Carried (slot_of s (hears_frame f m).node)
      hears t (inl r) = heard i was_live r (and_r (is_live i b) (named to i) t) (old i was_live)
      hears t (inr n) =
          subst Carried (sym (deaf s f.id f.payload m.node (is_false (is_receiver (slot_at s i b)) n))) (old i was_live)

  -- what a tick makes pending has these bytes
  pub carrying_ticked : ((i : ℕ) → T (is_live i b) → T (is_receiver (slot_at s i b)) → T (K.C.late (count_of b i + 1) (K.held (slot_at s i b)))
      → K.C.payload (K.held (slot_at s i b)) ≡ K.C.carried p)
      → Carrying K s p (step b ticks)
  carrying_ticked new i live = go (decide (is_receiver (slot_at s i b)))
    where
      m : Module
      m = module_at i b

      was_live : T (is_live i b)
      was_live = (moved_step s b ticks i (v.nodes i)).live live

      go : T (is_receiver (slot_at s i b)) ⊎ (T (is_receiver (slot_at s i b)) → ⊥) → Carried (slot_at s i (step b ticks))
      go (inr n) = none_pends ticks i (is_false (is_receiver (slot_at s i b)) n)
      go (inl r) =
          subst (λ (m : Module). Carried (slot_of s m.node)) (sym (module_step b ticks i))
          (cond_elim (λ (m : Module). Carried (slot_of s m.node)) m.live
          (λ t. carries_on K (K.C.carried p) (slot_at s i b) (slot_of s (ticked_live m).node) (ticked_receiver K s m.node (v.nodes i) (v.receivers i) r)
          (new i was_live r) (old i was_live))
          (λ t. old i was_live))

  -- a frame of code 2 that is given out is pending no longer; who gives out another does not receive the stream
  pub carrying_given : (j c : ℕ) → T (is_next j s c b) → (is_receiver (slot_at s j b) ≡ false) ⊎ (c ≡ 2) × T (is_receiver (slot_at s j b))
      → Carrying K s p (step b (gives j s c))
  carrying_given j c t by i live = go (decide (eqb i j))
    where
      giver : (is_receiver (slot_at s j b) ≡ false) ⊎ (c ≡ 2) × T (is_receiver (slot_at s j b)) → Carried (slot_at s j (step b (gives j s c)))
      giver (inl other) = none_pends (gives j s c) j other
      giver (inr (two, r)) =
          subst Carried (sym (slot_own K s me p b v j c t ∙ ap (λ c. given_out c (slot_at s j b)) two))
          (λ pending. absurd (not_so (K.on_given (count_of b j) (slot_at s j b)
          (record { receiver = r; settings = v.receivers j r; kept = slot_kept s (module_at j b).node (v.nodes j) })).1 pending))

      go : T (eqb i j) ⊎ (T (eqb i j) → ⊥) → Carried (slot_at s i (step b (gives j s c)))
      go (inl e) = subst (λ i. Carried (slot_at s i (step b (gives j s c)))) (sym (eqb→eq i j e)) (giver by)
      go (inr other) =
          subst Carried (sym (slot_other K s me p b v j c t i other)) (old i ((moved_step s b (gives j s c) i (v.nodes i)).live live))
