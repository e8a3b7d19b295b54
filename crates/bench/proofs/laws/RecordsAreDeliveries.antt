-- The records that a node writes are those of the deliveries that its module logs, in the same order.
use Prim.Native.Nat.{ℕ, ◌+◌}
use native.Mathlib.Omega.{arith}
use mathlib.Core.Path.{◌≡◌, refl, ap, sym, ◌∙◌}
use mathlib.Core.Bool.{Bool, true, false, cond}
use mathlib.Core.List.{List, [], ◌∷◌, map, append-nil}
use lib.ListN.{length}
use lib.Dec.{eqb}
use borrow.Author.Tests.{ne_eqb}
use Rattle.wire.specs.declared.ids.BusId.{BusId}
use Rattle.wire.specs.Identifiers.{stream_of, code_of}
use Rattle.wire.specs.Delivered.{record_of}
use Rattle.wire.proofs.Records.{record_length_law}
use Rattle.node.specs.declared.slots.Slot.{Slot}
use Rattle.node.specs.declared.Node.{Node}
use Rattle.node.specs.Nodes.{Outcome, slot_of}
use Rattle.node.specs.Clock.{Clock}
use Rattle.node.specs.Hear.{delivered_at_once}
use Rattle.node.specs.Tick.{records_from, due_slots}
use Rattle.bench.specs.Bench.{Delivery, Frame, Module, records_of}
use Rattle.bench.specs.Events.{lent, deliveries, heard, at_once}
use Rattle.node.specs.Calls.{tick, outcome}
use Rattle.node.proofs.tick.Cases.{tick_cases}
use Rattle.bench.proofs.laws.SlotAfterCall.{takes, hearing, hears, delivery_of}

-- ── a tick, by either clock ──
records_of_slots : (t : ℕ) (xs : List Slot) → records_from xs ≡ records_of (map (delivery_of t) xs)
unfolding records_from
records_of_slots t [] = refl
records_of_slots t (x ∷ xs) = rw (records_of_slots t xs)

pub tick_writes : (clock : Clock) (n : Node) → (outcome clock (tick lent) n).bytes ≡ records_of (deliveries clock n)
tick_writes clock n =
    ap (λ (o : Outcome). o.bytes) ((tick_cases lent clock n).accepted_if (record { room = omega arith }))
    ∙ records_of_slots (clock.next n.counter) (due_slots clock (clock.next n.counter) n.slots)

-- ── hearing ──
-- a frame that the slot takes, if it is plain, and else nothing
pub hear_writes : (id : BusId) (p : List ℕ) (n : Node)
    → (hearing id p n).bytes ≡ cond (takes id (length p) p (slot_of (stream_of id) n)) (delivered_at_once id p) []
hear_writes id p n = (hears id p n).1

-- what is written is the record of what is logged at once
pub heard_writes : (f : Frame) (m : Module) → (heard f m).bytes ≡ records_of (at_once f m)
unfolding delivered_at_once
heard_writes f m =
    let x = slot_of (stream_of f.id) m.node in
    go (heard f m).bytes (takes f.id (length f.payload) f.payload x) (eqb (code_of f.id) 3)
    (hear_writes f.id f.payload m.node)
  where
    d : Delivery
    d = record { at = m.node.counter; stream = stream_of f.id; payload = f.payload }

    r : List ℕ
    r = record_of (stream_of f.id) f.payload

    some_bytes : (bytes : List ℕ) (k : ℕ) → length bytes ≡ 8 + k → eqb (length bytes) 0 ≡ false
    some_bytes bytes k e = ne_eqb (length bytes) 0 (λ h. omega arith)

    go : (bytes : List ℕ) (takes plain : Bool) → bytes ≡ cond takes (cond plain r []) [] → bytes ≡ records_of (cond (eqb (length bytes) 0) [] (d ∷ []))
    go bytes true true e =
        rw (some_bytes bytes (length f.payload) (ap length e ∙ record_length_law (stream_of f.id) f.payload))
        (e ∙ sym (append-nil r))
    go bytes true false e = rw e
    go bytes false plain e = rw e
