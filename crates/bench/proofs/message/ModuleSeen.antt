-- One module seen by a stream of a class, as the one-stream proof has a receiver; and what hearing a frame and a tick make of its slot.
use Prim.Native.Nat.{ℕ, ◌+◌, ◌-◌, ◌≤◌}
use native.Mathlib.Omega.{arith}
use mathlib.Core.Path.{◌≡◌, refl, ap, sym, subst, ◌∙◌}
use mathlib.Core.Logic.{⊎_elim}
use mathlib.Core.Bool.{Bool, true, false, not, ◌&&◌, ◌||◌, cond, true≢false}
use mathlib.Core.List.{List, [], ◌∷◌, map}
use lib.ListN.{length}
use lib.Dec.{T, eqb→eq}
use Rattle.wire.specs.declared.ids.Stream.{Stream}
use Rattle.wire.specs.declared.ids.BusId.{BusId}
use Rattle.wire.specs.declared.settings.Settings.{Settings}
use Rattle.node.specs.declared.slots.Slot.{Slot}
use Rattle.node.specs.declared.Node.{Node}
use Rattle.wire.specs.Classes.{carries}
use Rattle.wire.specs.Frames.{max_payload, is_bare}
use Rattle.wire.specs.Identifiers.{id_of, stream_of, code_of, max_stream}
use Rattle.wire.specs.Settings.{receives, is_plain}
use Rattle.wire.specs.Tells.{equal, ◌or◌}
use Rattle.node.specs.Clock.{unbounded}
use Rattle.node.specs.Hear.{clashes, heard_by}
use Rattle.node.specs.NextFrame.{payload_for}
use Rattle.node.specs.Nodes.{slot_of}
use Rattle.node.specs.Reachable.{Kept}
use Rattle.node.specs.Slots.{is_receiver}
use Rattle.node.specs.Tick.{hold_over, lapsed, tick_slot}
use Rattle.wire.proofs.Frames.{IsFrame, own_frame}
use Rattle.node.proofs.slots.Streams.{Kind, kind_of}
use Rattle.one_stream.proofs.Truth.{is_true, is_false, so, not_so}
use Rattle.bench.specs.Bench.{Module, Frame, Delivery}
use Rattle.bench.specs.Events.{onto, deliveries}
use Rattle.bench.proofs.laws.SlotAfterCall.{same_stream_law, slot_kept, takes, taken_unless_clash, hearing, hear_own, ticking}
use Rattle.bench.proofs.laws.SlotAfterCall.{tick_slot_law, not_late_nor_due, on_stream, delivery_of, tick_delivers}
use Rattle.bench.proofs.laws.ModuleAfterEvent.{as_function}
use Rattle.bench.proofs.message.SendingsSeen.{to_sent}
use Rattle.bench.proofs.message.ClassOnBench.{OfClass, Receiving, newly, Becomes, ClassOnBench}
use Rattle.one_stream.specs.Sendings as OS
use Rattle.one_stream.specs.Frames as OF
use Rattle.one_stream.specs.Classes as OC

-- ── frames and deliveries ──
-- a frame of code 2, of a message of which it carries these bytes
unfoldable pub to_frame : (carried : List ℕ) → Frame → OF.Frame
to_frame carried f = record { since = as_function f.since; given = f.given; sendings = to_sent f.sendings; bytes = carried }

abbrev pub to_note : Delivery → OC.Note
to_note d = record { at = d.at; bytes = d.payload }

abbrev pub notes : Stream → List Delivery → List OC.Note
notes s log = map to_note (on_stream s log)

-- ── the receiver ──
module _ {n : ℕ} {D : OS.Delays} (K : ClassOnBench n D) where
  -- a module that has no receive slot for the stream is no live receiver
  abbrev pub view_of : (live receiver : Bool) → K.C.Slot → (pending : Bool) → List OF.Frame → List OC.Note → OC.Receiver K.C
  view_of l r h p fs log = record { live = l && r; slot = cond r h K.C.idle; pending = p; frames = fs; log = log }

  unfoldable pub view : Stream → (carried : List ℕ) → Module → List Frame → OC.Receiver K.C
  view s carried m fs =
      let x = slot_of s m.node in
      view_of m.live (is_receiver x) (K.held x) x.pending.abort (map (to_frame carried) fs) (notes s m.log)

  -- what a slot looks like to the stream; what is held matters at a receiver alone
  pub record Looks (r : Bool) (h : K.C.Slot) (p : Bool) (x : Slot) : Type 0 where
    pub receiver : is_receiver x ≡ r
    pub held : T r → K.held x ≡ h
    pub pending : x.pending.abort ≡ p

  pub looks : (x : Slot) → Looks (is_receiver x) (K.held x) x.pending.abort x
  looks x = record { receiver = refl; held = λ t. refl; pending = refl }

  pub view_looks : (s : Stream) (carried : List ℕ) (m : Module) (fs : List Frame) {r : Bool} {h : K.C.Slot} {p : Bool}
      → Looks r h p (slot_of s m.node)
      → view s carried m fs ≡ view_of m.live r h p (map (to_frame carried) fs) (notes s m.log)
  unfolding view
  view_looks s carried m fs {r} {h} {p} k =
      let x = slot_of s m.node in
      ap (λ r. view_of m.live r (K.held x) x.pending.abort (map (to_frame carried) fs) (notes s m.log)) k.receiver
      ∙ (ap (λ p. view_of m.live r (K.held x) p (map (to_frame carried) fs) (notes s m.log)) k.pending
      ∙ go r k.held)
    where
      go : (r : Bool) → (T r → K.held (slot_of s m.node) ≡ h)
          → view_of m.live r (K.held (slot_of s m.node)) p (map (to_frame carried) fs) (notes s m.log)
          ≡ view_of m.live r h p (map (to_frame carried) fs) (notes s m.log)
      go true e = ap (λ h. view_of m.live true h p (map (to_frame carried) fs) (notes s m.log)) (e tt)
      go false e = refl

  -- what the class says of a changed slot, where its stream and settings stay
  pub looks_at : (x y : Slot) {h : K.C.Slot} {p : Bool} → kind_of y ≡ kind_of x → K.held y ≡ h → y.pending.abort ≡ p → Looks (is_receiver x) h p y
  looks_at x y kind holds pends =
      record { receiver = ap (λ (k : Kind). k.used && receives k.settings) kind; held = λ t. holds; pending = pends }

  -- ── what a pending frame of code 2 carries ──
  abbrev pub Carries : List ℕ → Slot → Type 0
  Carries bytes x = T x.pending.abort → payload_for 2 x ≡ bytes

  pub carries_on : (bytes : List ℕ) (x y : Slot) {h : K.C.Slot} {caused : Bool} → Becomes K.C K.held x h caused y
      → (T caused → K.C.payload (K.held x) ≡ bytes) → Carries bytes x → Carries bytes y
  carries_on bytes x y {h} {caused} k new old pending =
      k.carries pending ∙ go x.pending.abort refl caused (λ t. t) (subst T k.pends pending) (newly x y) k.enters
    where
      go : (p : Bool) → x.pending.abort ≡ p → (c : Bool) → (T c → T caused) → T (p || c) → (e : Bool) → e ≡ (c && not (K.C.merges && p))
          → cond e (K.C.payload (K.held x)) (payload_for 2 x) ≡ bytes
      go p ep true fro t true e = new (fro tt)
      go p ep false fro t true e = absurd (true≢false e)
      go true ep c fro t false e = old (so ep)
      go false ep true fro t false e = absurd (true≢false (ap not (sym (and_none K.C.merges)) ∙ sym e))
        where
          and_none : (m : Bool) → (m && false) ≡ false
          and_none true = refl
          and_none false = refl
      go false ep false fro t false e = absurd t

  -- no class that carries data is plain
  pub not_plain : {set : Settings} → OfClass n D set → is_plain set ≡ false
  unfolding carries
  not_plain {set} k = is_false (is_plain set) (λ t.
      let zero_is : n ≡ 0 = sym (eqb→eq set.class n k.class) ∙ eqb→eq set.class 0 t in
      true≢false (sym (subst (λ n. carries n 0 ≡ true) zero_is (K.carries 0 (omega arith)))))

-- ── frames with the stream's identifiers ──
pub stream_id : (s : Stream) (c : ℕ) → c ≤ 3 → stream_of (id_of s c) ≡ s
stream_id s c h = same_stream_law (omega arith)

pub code_id : (s : Stream) (c : ℕ) → c ≤ 3 → code_of (id_of s c) ≡ c
code_id s c h = omega arith

-- what comes bare is no data
bare_code : (id : BusId) (c : ℕ) → code_of id ≡ c → is_bare id ≡ true → 1 ≤ c
bare_code id c e t = ⊎_elim (λ h. omega arith) (λ h. omega arith) ((equal (code_of id) 1 or equal (code_of id) 2).says t)

-- data of at most eight bytes, or an empty frame
pub good_frame : (s : Stream) (c : ℕ) (b : List ℕ) → s.0 ≤ max_stream → c ≤ 2 → length b ≤ max_payload → (1 ≤ c → length b ≡ 0)
    → IsFrame (is_bare (id_of s c)) (id_of s c) (length b) (length b)
good_frame s c b small code short bare =
    own_frame (is_bare (id_of s c)) (id_of s c) (length b) (omega arith) short (λ t. bare (bare_code (id_of s c) c (code_id s c (omega arith)) t))

-- ── the node of a module ──
module _ {n : ℕ} {D : OS.Delays} (K : ClassOnBench n D) (s : Stream) (node : Node) (k : Kept node)
    (of : T (is_receiver (slot_of s node)) → OfClass n D (slot_of s node).settings) where
  abbrev x : Slot
  x = slot_of s node

  receiving : T (is_receiver x) → Receiving n D node.counter x
  receiving r = record { receiver = r; settings = of r; kept = slot_kept s node k }

  -- a receiver hears a good frame that does not clash
  heard_slot : (c : ℕ) → c ≤ 2 → (b : List ℕ) → IsFrame (is_bare (id_of s c)) (id_of s c) (length b) (length b) → T (is_receiver x)
      → slot_of s (hearing (id_of s c) b node).node ≡ cond (not (clashes c b x)) (heard_by node.counter c b x) x
  heard_slot c code b good r =
      let id = id_of s c in
      subst (λ z. slot_of z (hearing id b node).node
      ≡ cond (takes id (length b) b (slot_of z node)) (heard_by node.counter (code_of id) b (slot_of z node)) (slot_of z node)) (stream_id s c (omega arith))
      (hear_own id b node)
      ∙ (ap (λ t. cond t (heard_by node.counter (code_of id) b x) x) (taken_unless_clash id b x good (is_true (is_receiver x) r) carried)
      ∙ ap (λ d. cond (not (clashes d b x)) (heard_by node.counter d b x) x) (code_id s c (omega arith)))
    where
      carried : carries x.settings.class (code_of (id_of s c)) ≡ true
      carried =
          subst (λ d. carries x.settings.class d ≡ true) (sym (code_id s c (omega arith)))
          (subst (λ m. carries m c ≡ true) (sym (eqb→eq x.settings.class n (of r).class)) (K.carries c code))

  heard_becomes : (c : ℕ) → c ≤ 2 → (b : List ℕ) → IsFrame (is_bare (id_of s c)) (id_of s c) (length b) (length b) → T (is_receiver x)
      → {h : K.C.Slot} {caused : Bool} → Becomes K.C K.held x h caused (cond (not (clashes c b x)) (heard_by node.counter c b x) x)
      → Becomes K.C K.held x h caused (slot_of s (hearing (id_of s c) b node).node)
  heard_becomes c code b good r {h} {caused} becomes =
      subst (Becomes K.C K.held x h caused) (sym (heard_slot c code b good r)) becomes

  module _ (small : s.0 ≤ max_stream) (r : T (is_receiver x)) where
    pub heard_data : (b : List ℕ) → length b ≤ max_payload
        → Becomes K.C K.held x (K.C.on_data node.counter b (K.held x)) false (slot_of s (hearing (id_of s 0) b node).node)
    heard_data b short =
        heard_becomes 0 (omega arith) b (good_frame s 0 b small (omega arith) short (λ c. let z : ⊥ = omega arith in absurd z)) r
        (K.on_data node.counter x (receiving r) b)

    pub heard_conf : Becomes K.C K.held x (K.C.on_conf (K.held x)) (K.C.refuses (K.held x)) (slot_of s (hearing (id_of s 1) [] node).node)
    heard_conf =
        heard_becomes 1 (omega arith) [] (good_frame s 1 [] small (omega arith) (omega arith) (λ c. refl)) r (K.on_conf node.counter x (receiving r))

    pub heard_code2 : (p : List ℕ) → length p ≤ max_payload → (let b = K.C.carried p in
        Becomes K.C K.held x (K.C.on_code2 node.counter b (K.held x)) false (slot_of s (hearing (id_of s 2) b node).node))
    heard_code2 p short = heard_becomes 2 (omega arith) (K.C.carried p) (K.good s small p short) r (K.on_code2 node.counter x (receiving r) p)

  -- ── a tick ──
  abbrev t : ℕ
  t = node.counter + 1

  pub ticked_receiver : T (is_receiver x)
      → Becomes K.C K.held x (K.C.on_tick t (K.held x)) (K.C.late t (K.held x)) (slot_of s (ticking node).node)
  ticked_receiver r =
      subst (Becomes K.C K.held x (K.C.on_tick t (K.held x)) (K.C.late t (K.held x))) (sym (tick_slot_law s node))
      (K.on_tick node.counter x (receiving r))

  -- where the stream is not received a hold may end, and no more
  pub ticked_other : is_receiver x ≡ false → Looks K (is_receiver x) (K.held x) x.pending.abort (slot_of s (ticking node).node)
  unfolding lapsed
  ticked_other e = subst (Looks K (is_receiver x) (K.held x) x.pending.abort) (sym (tick_slot_law s node)) (go (hold_over (t - x.message.stamp) x) refl)
    where
      go : (o : Bool) → hold_over (t - x.message.stamp) x ≡ o
          → Looks K (is_receiver x) (K.held x) x.pending.abort (tick_slot unbounded t x)
      go true eh =
          let z = not_late_nor_due (t - x.message.stamp) x e in
          record { receiver = rw (z.0, z.1, eh) refl; held = λ y. absurd (not_so e y); pending = rw (z.0, z.1, eh) refl }
      go false eh =
          let z = not_late_nor_due (t - x.message.stamp) x e in
          record { receiver = rw (z.0, z.1, eh) refl; held = λ y. absurd (not_so e y); pending = rw (z.0, z.1, eh) refl }

  pub ticked_log : T (is_receiver x) → (log : List Delivery)
      → notes s (onto (deliveries unbounded node) log)
      ≡ cond (K.C.due t (K.held x)) (record { at = t; bytes = K.C.held (K.held x) } ∷ notes s log) (notes s log)
  ticked_log r log =
      ap (map to_note) (tick_delivers s node k log)
      ∙ (ap (λ d. map to_note (cond d (delivery_of t x ∷ on_stream s log) (on_stream s log))) (K.due node.counter x (receiving r))
      ∙ go (K.C.due t (K.held x)) (λ y. y))
    where
      go : (d : Bool) → (T d → T (K.C.due t (K.held x)))
          → map to_note (cond d (delivery_of t x ∷ on_stream s log) (on_stream s log))
          ≡ cond d (record { at = t; bytes = K.C.held (K.held x) } ∷ notes s log) (notes s log)
      go true f = ap (λ y. record { at = t; bytes = y } ∷ notes s log) (K.delivers node.counter x (receiving r) (f tt))
      go false f = refl

  pub ticked_log_other : is_receiver x ≡ false → (log : List Delivery) → notes s (onto (deliveries unbounded node) log) ≡ notes s log
  ticked_log_other e log =
      ap (map to_note) (tick_delivers s node k log)
      ∙ ap (λ d. map to_note (cond d (delivery_of t x ∷ on_stream s log) (on_stream s log))) (not_late_nor_due (t - x.message.stamp) x e).1
