-- A module with its row of aborts, as a stream sees them, after an event: where it looks the same its view stays, and at a live receiver
-- its view is what the class makes of the one before.
use Prim.Native.Nat.{ℕ, zero, suc}
use native.Mathlib.Omega.{arith}
use mathlib.Core.Path.{◌≡◌, refl, ap, sym, ◌∙◌}
use mathlib.Core.Bool.{Bool, true, false, not, ◌&&◌, ◌||◌, cond}
use mathlib.Core.List.{List, [], ◌∷◌, map}
use lib.ListN.{length}
use lib.Dec.{T, eqb}
use Rattle.wire.specs.declared.ids.Stream.{Stream}
use Rattle.wire.specs.Identifiers.{code_of, stream_of}
use Rattle.node.specs.declared.slots.Slot.{Slot}
use Rattle.node.specs.Nodes.{slot_of}
use Rattle.node.specs.Slots.{is_receiver}
use Rattle.node.proofs.slots.Streams.{kind_of}
use Rattle.bench.specs.Bench.{Module, Frame, Delivery, pending_since, no_module, Moment}
use Rattle.bench.specs.Events.{onto, enter, became_pending}
use Rattle.bench.specs.Lists.{nth}
use Rattle.bench.proofs.laws.SlotAfterCall.{hear_bytes}
use Rattle.bench.proofs.laws.ModuleAfterEvent.{hears_frame, as_function}
use Rattle.bench.proofs.message.SendingsSeen.{to_sent}
use Rattle.bench.proofs.message.ClassOnBench.{newly, Becomes, ClassOnBench}
use Rattle.bench.proofs.message.ModuleSeen.{to_frame, notes, view_of, view, Looks, view_looks, looks_at}
use Rattle.one_stream.specs.Sendings as OS
use Rattle.one_stream.specs.Frames as OF
use Rattle.one_stream.specs.Classes as OC

-- ── rows of aborts ──
not_new : {A : Type 0} (p : Bool) (y z : A) → cond (p && not p) y z ≡ z
not_new true y z = refl
not_new false y z = refl

pub row_enter : (t : Moment) (s : Stream) (ms ns : List Module) (rows : List (List Frame)) → length rows ≡ length ms → length ns ≡ length ms
    → (i : ℕ)
    → nth [] i (enter t s ms ns rows) ≡ cond (became_pending s (nth no_module i ms) (nth no_module i ns)) (pending_since t ∷ nth [] i rows)
    (nth [] i rows)
row_enter t s [] [] [] e d i = sym (not_new (slot_of s no_module.node).pending.abort (pending_since t ∷ []) [])
row_enter t s [] [] (row ∷ rows) e d i = let z : ⊥ = omega arith in absurd z
row_enter t s [] (n ∷ ns) rows e d i = let z : ⊥ = omega arith in absurd z
row_enter t s (m ∷ ms) [] rows e d i = let z : ⊥ = omega arith in absurd z
row_enter t s (m ∷ ms) (n ∷ ns) [] e d i = let z : ⊥ = omega arith in absurd z
row_enter t s (m ∷ ms) (n ∷ ns) (row ∷ rows) e d zero = refl
row_enter t s (m ∷ ms) (n ∷ ns) (row ∷ rows) e d (suc i) = row_enter t s ms ns rows (omega arith) (omega arith) i

pub length_enter : (t : Moment) (s : Stream) (ms ns : List Module) (rows : List (List Frame)) → length (enter t s ms ns rows) ≡ length rows
length_enter t s [] ns rows = refl
length_enter t s (m ∷ ms) [] rows = refl
length_enter t s (m ∷ ms) (n ∷ ns) [] = refl
length_enter t s (m ∷ ms) (n ∷ ns) (row ∷ rows) = ap suc (length_enter t s ms ns rows)

-- where no abort becomes pending the rows stay
pub enter_none : (t : Moment) (s : Stream) (ms ns : List Module) (rows : List (List Frame))
    → ((i : ℕ) → (slot_of s (nth no_module i ns).node).pending.abort ≡ (slot_of s (nth no_module i ms).node).pending.abort)
    → enter t s ms ns rows ≡ rows
enter_none t s [] ns rows e = refl
enter_none t s (m ∷ ms) [] rows e = refl
enter_none t s (m ∷ ms) (n ∷ ns) [] e = refl
enter_none t s (m ∷ ms) (n ∷ ns) (row ∷ rows) e =
    ap (λ p. cond (p && not (slot_of s m.node).pending.abort) (pending_since t ∷ row) row ∷ enter t s ms ns rows) (e 0)
    ∙ (ap (λ y. y ∷ enter t s ms ns rows) (not_new (slot_of s m.node).pending.abort (pending_since t ∷ row) row)
    ∙ ap (λ y. row ∷ y) (enter_none t s ms ns rows (λ i. e (suc i))))

-- a pending frame that stays pending is not new
pub not_newly : (x y : Slot) → y.pending.abort ≡ x.pending.abort → newly x y ≡ false
not_newly x y e = ap (λ p. p && not x.pending.abort) e ∙ go x.pending.abort
  where
    go : (p : Bool) → (p && not p) ≡ false
    go true = refl
    go false = refl

frames_cond : (carried : List ℕ) (c : Bool) (t : Moment) (fs : List Frame)
    → map (to_frame carried) (cond c (pending_since t ∷ fs) fs)
    ≡ cond c (OF.new_frame (as_function t) carried ∷ map (to_frame carried) fs) (map (to_frame carried) fs)
unfolding to_frame to_sent
frames_cond carried true t fs = refl
frames_cond carried false t fs = refl

-- ── a module after an event ──
module _ {n : ℕ} {D : OS.Delays} (K : ClassOnBench n D) (s : Stream) (carried : List ℕ) (t : Moment) (m m' : Module) (fs : List Frame)
    (live : m'.live ≡ m.live) where
  abbrev x : Slot
  x = slot_of s m.node

  abbrev y : Slot
  y = slot_of s m'.node

  -- its row after the event
  abbrev row' : List Frame
  row' = cond (became_pending s m m') (pending_since t ∷ fs) fs

  abbrev frames : (new : Bool) → List OF.Frame
  frames new = cond new (OF.new_frame (as_function t) carried ∷ map (to_frame carried) fs) (map (to_frame carried) fs)

  -- what its slot looks like, and whether a frame became pending, decides its view
  view_entered : {h : K.C.Slot} {p new : Bool} {log : List OC.Note} → Looks K (is_receiver x) h p y → newly x y ≡ new → notes s m'.log ≡ log
      → view K s carried m' row' ≡ view_of K m.live (is_receiver x) h p (frames new) log
  view_entered {h} {p} {new} {log} looks enters logs =
      let r = is_receiver x in
      let row : List Frame = cond new (pending_since t ∷ fs) fs in
      ap (λ q. view K s carried m' (cond q (pending_since t ∷ fs) fs)) enters
      ∙ (view_looks K s carried m' row looks
      ∙ (ap (λ l. view_of K l r h p (map (to_frame carried) row) (notes s m'.log)) live
      ∙ (ap (λ z. view_of K m.live r h p (map (to_frame carried) row) z) logs
      ∙ ap (λ z. view_of K m.live r h p z log) (frames_cond carried new t fs))))

  -- a module that looks the same
  pub view_same : Looks K (is_receiver x) (K.held x) x.pending.abort y → notes s m'.log ≡ notes s m.log
      → view K s carried m fs ≡ view K s carried m' row'
  unfolding view
  view_same looks logs = sym (view_entered looks (not_newly x y looks.pending) logs)

  -- a receiver of which the class says what became of its slot
  pub view_becomes : {h : K.C.Slot} {caused : Bool} {log : List OC.Note} → kind_of y ≡ kind_of x → Becomes K.C K.held x h caused y
      → notes s m'.log ≡ log
      → view K s carried m' row'
      ≡ view_of K m.live (is_receiver x) h (x.pending.abort || caused) (frames (caused && not (K.C.merges && x.pending.abort))) log
  view_becomes kind k logs = view_entered (looks_at K x y kind k.holds k.pends) k.enters logs

-- ── what the class makes of a receiver ──
module _ {n : ℕ} {D : OS.Delays} (K : ClassOnBench n D) where
  abbrev C : OC.Class
  C = K.C

  or_false : (p : Bool) → p ≡ (p || false)
  or_false true = refl
  or_false false = refl

  -- a frame that is caused is new, or merges with the pending one
  caused_frames : (c p : Bool) (now : OS.Moment) (payload carried : List ℕ) → (T c → payload ≡ carried) → (fs : List OF.Frame)
      → OF.add_frame c p now payload fs ≡ cond (c && not p) (OF.new_frame now carried ∷ fs) fs
  caused_frames true true now payload carried same fs = refl
  caused_frames true false now payload carried same fs = ap (λ b. OF.new_frame now b ∷ fs) (same tt)
  caused_frames false p now payload carried same fs = refl

  module _ (l : Bool) (h : C.Slot) (p : Bool) (fs : List OF.Frame) (log : List OC.Note) (now : OS.Moment) (carried : List ℕ) where
    -- the receiver after an event that leaves h' in its slot, and may have caused a frame
    abbrev pub seen : (r : Bool) → C.Slot → (caused : Bool) → List OC.Note → OC.Receiver C
    seen r h' caused log' = view_of K l r h' (p || caused) (cond (caused && not (C.merges && p)) (OF.new_frame now carried ∷ fs) fs) log'

    pub data_view : (r : Bool) → T r → (t : ℕ) (b : List ℕ) → OC.hear_data C t b (view_of K l r h p fs log) ≡ seen r (C.on_data t b h) false log
    unfolding OC.hear_data
    data_view true i t b = ap (λ q. view_of K l true (C.on_data t b h) q fs log) (or_false p)
    data_view false i t b = absurd i

    pub conf_view : (r : Bool) → T r → (T (C.refuses h) → C.payload h ≡ carried)
        → OC.hear_conf C now (view_of K l r h p fs log) ≡ seen r (C.on_conf h) (C.refuses h) log
    unfolding OC.hear_conf
    conf_view true i same =
        ap (λ z. view_of K l true (C.on_conf h) (p || C.refuses h) z log)
        (caused_frames (C.refuses h) (C.merges && p) now (C.payload h) carried same fs)
    conf_view false i same = absurd i

    pub code2_view : (r : Bool) → T r → (t : ℕ) (b : List ℕ) → OC.hear_code2 C t b (view_of K l r h p fs log) ≡ seen r (C.on_code2 t b h) false log
    unfolding OC.hear_code2
    code2_view true i t b = ap (λ q. view_of K l true (C.on_code2 t b h) q fs log) (or_false p)
    code2_view false i t b = absurd i

    pub tick_view : (r : Bool) → T r → (t : ℕ) → (T (C.late t h) → C.payload h ≡ carried)
        → OC.ticked C t now (view_of K l r h p fs log)
        ≡ seen r (C.on_tick t h) (C.late t h) (cond (C.due t h) (record { at = t; bytes = C.held h } ∷ log) log)
    unfolding OC.ticked
    tick_view true i t same =
        ap (λ z. view_of K l true (C.on_tick t h) (p || C.late t h) z (cond (C.due t h) (record { at = t; bytes = C.held h } ∷ log) log))
        (caused_frames (C.late t h) (C.merges && p) now (C.payload h) carried same fs)
    tick_view false i t same = absurd i

  -- its own frame of code 2 has one more sending, of which it is told nothing
  pub own_view : (l r : Bool) (h : C.Slot) (p : Bool) (fs gs : List OF.Frame) (log : List OC.Note) (now : OS.Moment) (t k : ℕ) (full : Bool)
      → OF.send_at now full k fs ≡ gs → OC.send_own C t now full k (view_of K l r h p fs log) ≡ view_of K l r h p gs log
  unfolding OC.send_own
  own_view l r h p fs gs log now t k true e =
      ap (λ z. record { live = l && r; slot = z; pending = p; frames = OF.send_at now true k fs; log = log }) (K.untold t (cond r h C.idle))
      ∙ ap (λ z. view_of K l r h p z log) e
  own_view l r h p fs gs log now t k false e = ap (λ z. view_of K l r h p z log) e

-- ── hearing a frame that is not plain ──
pub heard_log : (s : Stream) (f : Frame) (m : Module) → (T (eqb (code_of f.id) 3) → ⊥) → notes s (hears_frame f m).log ≡ notes s m.log
heard_log s f m code =
    let d : Delivery = record { at = m.node.counter; stream = stream_of f.id; payload = f.payload } in
    ap (λ (bytes : List ℕ). notes s (onto (cond (eqb (length bytes) 0) [] (d ∷ [])) m.log))
    (hear_bytes f.id f.payload m.node code)
