-- `set_up` meets its contract: each return cites the way through the definition, of the node that the bytes are.
use Rattle.std.proofs.Common.{◌≡◌, ℕ, ◌<◌, ◌≤◌, List, [], length, refl, sym, ◌∙◌, arith, false, rules, ltb-true, ltb-false}
use Rattle.std.specs.Option.{unwrap_or}
use Rattle.wire.specs.Settings.{legal}
use Rattle.node.specs.declared.Node.{Node}
use Rattle.node.specs.Slots.{is_free, is_of}
use Rattle.node.specs.Nodes.{as_answered}
use Rattle.node.specs.Calls.{Call}
use Rattle.node.proofs.Answering.{was_missed, was_found, hands_on}
use Rattle.node.proofs.slots.Finding.{index_of, is_there, place_found, place_missed}
use Rattle.node.proofs.set_up.Placing.{is_after, after_or_free}
use Rattle.node.proofs.set_up.Ways.{bad_settings, stream_taken, table_full}
use Rattle.node_bytes.specs.Decoding.{decode}
use Rattle.node_bytes.proofs.ByIndex.{decoded_length}
use Rattle.node_bytes.proofs.Stored.{stored_length}
use Rattle.node_bytes.proofs.Searching.{found_or}
use Rattle.node_bytes.proofs.SettingUp.{stream_stored}
use Rattle.node_bytes.proofs.Calling.{not_a_node, call_refused, call_done}
use Rattle.node_bytes.proofs.set_up.set_up.Goals as goal
use Rattle.node_bytes.proofs.set_up.set_up.Goals.{Start, In_ok-free, After-find_place}

-- ── the call ──
module _ (s : Start) where
  abbrev bytes : List ℕ
  bytes = s.args.bytes.now

  abbrev node : Node
  node = decode bytes

  abbrev call : Call
  call = Call.set_up s.args.stream s.args.settings

pub returns-then-bytes-ne-NODE_SIZE : goal.returns-then-bytes-ne-NODE_SIZE
returns-then-bytes-ne-NODE_SIZE c =
    let s = (goal.at.returns-then-bytes-ne-NODE_SIZE c).Start in
    let t = not_a_node (call s) (bytes s) as_answered [] c.if-bytes-ne-NODE_SIZE.true in
    record { answer = t.0; leaves = t.1.1 }

pub returns-then-not-legal : goal.returns-then-not-legal
returns-then-not-legal c =
    let s = (goal.at.returns-then-not-legal c).Start in
    let bad : legal s.args.stream s.args.settings ≡ false = search rules in
    let t = call_refused (call s) (bytes s) as_answered [] c.if-bytes-ne-NODE_SIZE.false (bad_settings _ _ (node s) bad) refl refl refl in
    record { answer = t.0; leaves = t.1.1 }

-- ── a node, and good settings ──
pub returns-then-is_some : goal.returns-then-is_some
returns-then-is_some c =
    let s = (goal.at.returns-then-is_some c).Start in
    let good = sym c.legal.ensures ∙ c.if-not-legal.false in
    let there = ltb-true _ _ (is_there (is_of s.args.stream) (node s).slots c.find.ensures ∙ (sym c.is_some.ensures ∙ c.if-is_some.true)) in
    let t = call_refused (call s) (bytes s) as_answered [] c.if-bytes-ne-NODE_SIZE.false (stream_taken _ _ (node s) good _ refl there) refl refl refl in
    record { answer = t.0; leaves = t.1.1 }

pub returns-in_err-free : goal.returns-in_err-free
returns-in_err-free c =
    let s = (goal.at.returns-in_err-free c).Start in
    let good = sym c.legal.ensures ∙ c.if-not-legal.false in
    let new = ltb-false _ _ (is_there (is_of s.args.stream) (node s).slots c.find.ensures ∙ (sym c.is_some.ensures ∙ c.if-is_some.false)) in
    let missed = was_missed _ _ c.in_err-free.ensures.value in
    let full = place_missed is_free (node s).slots c.find_free.ensures missed.1 in
    let t = call_refused (call s) (bytes s) as_answered [] c.if-bytes-ne-NODE_SIZE.false (table_full _ _ (node s) good _ refl new _ refl full) refl
    (hands_on _ c.from_residual.ensures.1 missed.0) refl in
    record { answer = t.0; leaves = t.1.1 }

-- ── its place, and the first free slot ──
free : (c : In_ok-free) → (c.in_ok-free.free ≡ index_of is_free (decode c.before.args.bytes.now).slots)
    × (c.in_ok-free.free < length (decode c.before.args.bytes.now).slots)
free c = place_found _ _ c.before.find_free.ensures (was_found _ _ c.in_ok-free.ensures.value)

place : (c : After-find_place) → (k : ℕ) → k ≡ unwrap_or c.find_place.result c.before.in_ok-free.free
    → (k ≡ index_of (is_after c.before.args.stream) (decode c.before.args.bytes.now).slots) × (k ≤ c.before.in_ok-free.free)
place c k e =
    let f = free c.before in
    let slots = (decode c.before.args.bytes.now).slots in
    let reach = after_or_free c.before.args.stream slots in
    let at = e ∙ found_or (is_after c.before.args.stream) slots _ c.find_place.ensures (omega (arith, f, reach)) c.before.in_ok-free.free in
    (at, omega (arith, at, f, reach))

pub move_up-requires : goal.move_up-requires
move_up-requires c =
    let f = free (goal.at.move_up-requires c).In_ok-free in
    let p = place (goal.at.move_up-requires c).After-find_place _ c.unwrap_or-place.ensures in
    (c.if-bytes-ne-NODE_SIZE.false, p.1, omega (arith, f, decoded_length c.args.bytes.now), f.0)

pub put_slot-requires : goal.put_slot-requires
put_slot-requires c =
    let f = free (goal.at.put_slot-requires c).In_ok-free in
    let p = place (goal.at.put_slot-requires c).After-find_place _ c.unwrap_or-place.ensures in
    (c.move_up.ensures.0, omega (arith, f, p, decoded_length c.args.bytes.now))

pub returns : goal.returns
returns c =
    let s = (goal.at.returns c).Start in
    let whole = c.if-bytes-ne-NODE_SIZE.false in
    let good = sym c.legal.ensures ∙ c.if-not-legal.false in
    let new = ltb-false _ _ (is_there (is_of s.args.stream) (node s).slots c.find.ensures ∙ (sym c.is_some.ensures ∙ c.if-is_some.false)) in
    let f = free (goal.at.returns c).In_ok-free in
    let p = place (goal.at.returns c).After-find_place _ c.unwrap_or-place.ensures in
    let does = stream_stored s.args.stream s.args.settings (node s) good new (omega (arith, f)) _ p.0 _ c.move_up.ensures.1 _ c.set_up.ensures in
    let t = call_done (call s) (bytes s) as_answered [] whole does refl refl refl
    (stored_length c.move_up.new.bytes _ c.unwrap_or-place.result c.set_up.result c.put_slot.ensures.0 ∙ c.move_up.ensures.0 ∙ sym whole)
    c.put_slot.ensures.1 in
    record { answer = t.0; leaves = t.1.1 }
