-- What a class of messages fills in, so that each of its streams on the bench is a strand of the one-stream proof: the class there, what it
-- sees held in a node's slot, and that the node's calls do with the slot what the class does.
use Prim.Native.Nat.{ℕ, ◌+◌, ◌-◌, ◌≤◌}
use mathlib.Core.Path.{◌≡◌}
use mathlib.Core.Bool.{Bool, true, false, not, ◌&&◌, ◌||◌, cond}
use mathlib.Core.List.{List, []}
use lib.ListN.{length}
use lib.Dec.{T, eqb, ltb}
use Rattle.wire.specs.declared.ids.Stream.{Stream}
use Rattle.wire.specs.declared.settings.Settings.{Settings}
use Rattle.wire.specs.Classes as wire
use Rattle.wire.specs.Frames.{max_payload, is_bare}
use Rattle.wire.proofs.Frames.{IsFrame}
use Rattle.wire.specs.Identifiers.{id_of, max_stream}
use Rattle.wire.specs.Settings.{legal}
use Rattle.node.specs.declared.slots.Slot.{Slot}
use Rattle.node.specs.Clock.{unbounded}
use Rattle.node.specs.Hear.{clashes, heard_by}
use Rattle.node.specs.NextFrame.{given_out, payload_for}
use Rattle.node.specs.Reachable.{KeptSlot}
use Rattle.node.specs.Slots.{is_receiver, is_sender, payload_of}
use Rattle.node.specs.Tick as Tick
use Rattle.one_stream.proofs.Chain.{Works}
use Rattle.one_stream.specs.Sendings as OS
use Rattle.one_stream.specs.Classes as OC
use Rattle.bench.specs.Bench.{Frame, Book, Bench, settings_of, Which, the_confirmation}
use Rattle.bench.specs.Rules.{was_sent, rule1, rule3}
use Rattle.bench.proofs.message.SendingsSeen.{to_sent}

-- a frame may be sent by rules 1 and 3
abbrev pub may_send : Bench → Stream → Book → Which → Bool
may_send b s k w = rule1 b k w && rule3 b s k w

-- ── a stream's numbers, as the one-stream proof has them ──
-- live modules count alike, so that nothing drifts; no class has the fifth delay yet
abbrev pub to_delays : Settings → OS.Delays
to_delays set = record { rd = set.rd; dc = set.dc; ra = set.ra; dd = set.dd; e = 0; da = 0 }

-- ── slots of a class ──
-- settings of the class with this number, whose own numbers are these
pub record OfClass (n : ℕ) (D : OS.Delays) (set : Settings) : Type 0 where
  pub class : T (eqb set.class n)
  pub numbers : to_delays set ≡ D

-- a receive slot of the class, as calls leave it
pub record Receiving (n : ℕ) (D : OS.Delays) (now : ℕ) (x : Slot) : Type 0 where
  pub receiver : T (is_receiver x)
  pub settings : OfClass n D x.settings
  pub kept : KeptSlot now x

-- a frame of code 2 became pending between two slots, as the books see it
abbrev pub newly : (before after : Slot) → Bool
newly x y = y.pending.abort && not x.pending.abort

-- what an event makes of a receive slot x, as the class has it: y holds h, and a frame of code 2 was caused or not
pub record Becomes (C : OC.Class) (held : Slot → C.Slot) (x : Slot) (h : C.Slot) (caused : Bool) (y : Slot) : Type 0 where
  pub holds : held y ≡ h
  pub pends : y.pending.abort ≡ (x.pending.abort || caused)
  pub enters : newly x y ≡ (caused && not (C.merges && x.pending.abort))
  pub carries : T y.pending.abort → payload_for 2 y ≡ cond (newly x y) (C.payload (held x)) (payload_for 2 x)

-- ── the class with this number, where its delays are D ──
pub record ClassOnBench (n : ℕ) (D : OS.Delays) : Type 1 where
  pub C : OC.Class
  pub works : Works D C
  -- what the class sees held in a receive slot; where nothing is, it is idle
  pub held : Slot → C.Slot
  pub idle : (x : Slot) → x.message.held ≡ false → held x ≡ C.idle
  -- its frames have the codes 0 to 2, and one of code 2 passes the frame test
  pub carries : (code : ℕ) → code ≤ 2 → wire.carries n code ≡ true
  pub good : (s : Stream) → s.0 ≤ max_stream → (p : List ℕ) → length p ≤ max_payload
      → IsFrame (is_bare (id_of s 2)) (id_of s 2) (length (C.carried p)) (length (C.carried p))
  -- data, a confirmation, a frame of code 2 is heard
  pub on_data : (now : ℕ) (x : Slot) → Receiving n D now x → (p : List ℕ)
      → Becomes C held x (C.on_data now p (held x)) false (cond (not (clashes 0 p x)) (heard_by now 0 p x) x)
  pub on_conf : (now : ℕ) (x : Slot) → Receiving n D now x
      → Becomes C held x (C.on_conf (held x)) (C.refuses (held x)) (cond (not (clashes 1 [] x)) (heard_by now 1 [] x) x)
  pub on_code2 : (now : ℕ) (x : Slot) → Receiving n D now x → (p : List ℕ) → (let b = C.carried p in
      Becomes C held x (C.on_code2 now b (held x)) false (cond (not (clashes 2 b x)) (heard_by now 2 b x) x))
  -- a frame of code 2 is given out, and then none is pending
  pub on_given : (now : ℕ) (x : Slot) → Receiving n D now x → (held (given_out 2 x) ≡ C.on_given (held x)) × ((given_out 2 x).pending.abort ≡ false)
  -- a tick: what it makes of the slot, and what it delivers
  pub on_tick : (now : ℕ) (x : Slot) → Receiving n D now x
      → Becomes C held x (C.on_tick (now + 1) (held x)) (C.late (now + 1) (held x)) (Tick.tick_slot unbounded (now + 1) x)
  pub due : (now : ℕ) (x : Slot) → Receiving n D now x → Tick.due (now + 1 - x.message.stamp) x ≡ C.due (now + 1) (held x)
  pub delivers : (now : ℕ) (x : Slot) → Receiving n D now x → T (C.due (now + 1) (held x)) → payload_of x.message ≡ C.held (held x)
  -- the sender's hold
  pub hold : (x : Slot) → T (is_sender x) → OfClass n D x.settings → (age : ℕ)
      → Tick.hold_over age x ≡ (x.message.held && ltb C.hold age)
  -- the rules: what data a confirmation may follow, and that a frame of code 2 is served by any sending
  pub ready : (b : Bench) (s : Stream) (k : Book) → OfClass n D (settings_of s k b) → T (may_send b s k the_confirmation)
      → C.Ready (to_sent k.payload_frame.sendings)
  pub done : (f : Frame) → T (was_sent f) → C.Done (to_sent f.sendings)
  -- the owner of a frame of code 2 is told nothing of its sendings
  pub untold : (now : ℕ) (h : C.Slot) → C.on_full now h ≡ h

-- the class, for all settings that are taken
abbrev pub OnBench : ℕ → Type 1
OnBench n = (s : Stream) (set : Settings) → T (eqb set.class n) → T (legal s set) → ClassOnBench n (to_delays set)
