-- Hearing a frame: what a frame has, and what hear comes to on each way through its refusals.
use Rattle.std.proofs.Common.{◌≡◌, ℕ, ◌<◌, ◌≤◌, Bool, true, false, cond, eqb, ltb, List, [], ◌∷◌, ◌++◌, length, get_or, take, set, Result, Ok, Err}
use Rattle.std.proofs.Common.{sym, refl, ap, ◌∙◌, arith, take_all, le-ltb, lt-ltb, le-leb}
use Rattle.wire.specs.declared.ids.Stream.{Stream}
use Rattle.wire.specs.declared.ids.BusId.{BusId}
use Rattle.wire.specs.declared.reply.Reply.{Reply}
use Rattle.wire.specs.declared.reply.Reply.TheVariants.{Done, NotMine, ShortOutput}
use Rattle.wire.specs.Identifiers.{Parts, max_bus_id, stream_of, code_of, split}
use Rattle.wire.specs.Answers.{is_done, answered}
use Rattle.wire.specs.Replies.{number_of}
use Rattle.wire.specs.Frames.{max_payload, is_bare, frame_refusals}
use Rattle.wire.specs.Delivered.{record_of, fitting}
use Rattle.wire.specs.Refusals.{Refusals, reply_of}
use Rattle.wire.proofs.Refusing.{Refuses, here, later, Passes, reply_refuses, reply_passes, among, past, both_pass}
use Rattle.node.specs.declared.slots.Slot.{Slot}
use Rattle.node.specs.declared.Node.{Node}
use Rattle.node.specs.Slots.{empty, is_of}
use Rattle.node.specs.Told.{told_by, of_frame}
use Rattle.node.specs.Nodes.{slot_of, with_slots, refused, done, telling}
use Rattle.node.specs.Hear.{hear_room, heard_by, plain_record, delivered_at_once, slot_hear_refusals, hear_refusals, hear}
use Rattle.wire.proofs.Frames.{IsFrame, frame_bounds, frame_passes, frame_length}
use Rattle.wire.proofs.Records.{cut_length, does_fit}
use Rattle.node.proofs.Choices.{contrary}
use Rattle.node.proofs.Answering.{was_refused, was_done}
use Rattle.node.proofs.hear.Cases.{hear_facts, hear_cases}
use Rattle.node.proofs.slots.Finding.{index_of, slot_found, slot_stored, slot_missed}

-- the identifier of a frame splits
pub frame_splits : (bare : Bool) (id : BusId) (dlc len : ℕ) → IsFrame bare id dlc len
    → split id ≡ record { reply = Done; stream = stream_of id; code = code_of id }
unfolding split
frame_splits bare id dlc len good = rw (le-leb id.0 max_bus_id good.identifier)

-- into these parts, and the split is not refused
pub parts_are : (bare : Bool) (id : BusId) (dlc len : ℕ) → IsFrame bare id dlc len → {s : Stream} {code : ℕ}
    → ◌≡◌ {A = Result (Stream × ℕ) Reply} (Ok (s, code)) (answered (split id).reply ((split id).stream, (split id).code))
    → (s ≡ stream_of id) × (code ≡ code_of id)
parts_are bare id dlc len good e =
    let whole = frame_splits bare id dlc len good in
    let parts = (was_done _ _ e).0 in
    (ap (λ (p : Stream × ℕ). p.0) parts ∙ ap (λ (p : Parts). p.stream) whole, ap (λ (p : Stream × ℕ). p.1) parts ∙ ap (λ (p : Parts). p.code) whole)

pub is_split : (bare : Bool) (id : BusId) (dlc len : ℕ) → IsFrame bare id dlc len → {q : Reply} → {A : Type 0}
    → ◌≡◌ {A = Result (Stream × ℕ) Reply} (Err q) (answered (split id).reply ((split id).stream, (split id).code)) → A
is_split bare id dlc len good e = contrary (ap (λ (p : Parts). is_done p.reply) (frame_splits bare id dlc len good)) (was_refused _ _ e).1

-- and its payload has at most eight bytes
pub frame_whole : (bare : Bool) (id : BusId) (dlc : ℕ) (payload : List ℕ) → IsFrame bare id dlc (length payload) → take max_payload payload ≡ payload
frame_whole bare id dlc payload good = take_all max_payload payload (frame_length bare id dlc (length payload) good)

-- whatever is delivered at once fits
pub fits_at_once : (s : Stream) (code : ℕ) (payload output : List ℕ) → hear_room ≤ length output
    → fitting (plain_record s code (take max_payload payload)) output ≡ plain_record s code (take max_payload payload)
fits_at_once s code payload output room = go (eqb code 3)
  where
    go : (t : Bool) → fitting (cond t (record_of s (take max_payload payload)) []) output ≡ cond t (record_of s (take max_payload payload)) []
    go true = does_fit (record_of s (take max_payload payload)) output (omega (arith, cut_length s payload))
    go false = does_fit [] output (omega arith)

-- each way through the refusals, by the tests on it
module _ (id : BusId) (dlc : ℕ) (payload output : List ℕ) (n : Node) where
  refused_at : (x : Slot) → slot_of (stream_of id) n ≡ x → {r : Reply} → Refuses (hear_refusals id dlc payload output x) r
      → hear id dlc payload output n ≡ refused n r
  refused_at x there {r} why = (hear_cases id dlc payload output n).refused_if r (rw there why)

  pub short_output : length output < hear_room → hear id dlc payload output n ≡ refused n ShortOutput
  short_output short = refused_at _ refl (here (lt-ltb _ _ short))

  module _ (room : hear_room ≤ length output) where
    -- what the frame test answers
    module _ (fault : Reply) (told : fault ≡ reply_of (frame_refusals (is_bare id) id dlc (length payload))) where
      pub no_frame_law : eqb (number_of fault) 0 ≡ false → hear id dlc payload output n ≡ refused n fault
      no_frame_law e =
          let why = reply_refuses (frame_refusals (is_bare id) id dlc (length payload)) (rw told at e) in
          rw told (refused_at _ refl (later (le-ltb _ _ room) (among why _)))

      pub a_frame : eqb (number_of fault) 0 ≡ true → IsFrame (is_bare id) id dlc (length payload)
      a_frame e =
          frame_bounds (is_bare id) id dlc (length payload) (reply_passes (frame_refusals (is_bare id) id dlc (length payload)) refl (rw told at e))

    module _ (good : IsFrame (is_bare id) id dlc (length payload)) (i : ℕ) (found : i ≡ index_of (is_of (stream_of id)) n.slots) where
      passed : Passes (frame_refusals (is_bare id) id dlc (length payload))
      passed = frame_passes (is_bare id) id dlc (length payload) good

      -- past the tests of the frame
      beyond : {rest : Refusals} {r : Reply} → Refuses rest r
          → Refuses ((ShortOutput, ltb (length output) hear_room) ∷ frame_refusals (is_bare id) id dlc (length payload) ++ rest) r
      beyond why = later (le-ltb _ _ room) (past (frame_refusals (is_bare id) id dlc (length payload)) passed why)

      pub no_slot_law : length n.slots ≤ i → hear id dlc payload output n ≡ refused n NotMine
      no_slot_law none = refused_at empty (slot_missed n (stream_of id) i found none) (beyond (here refl))

      -- the slot of the stream, as it stands in the table
      module _ (d : Slot) (inside : i < length n.slots) where
        abbrev slot : Slot
        slot = get_or n.slots i d

        there : slot_of (stream_of id) n ≡ slot
        there = sym (slot_found n (stream_of id) i found d inside)

        -- and what it answers
        module _ (reply : Reply) (said : reply ≡ reply_of (slot_hear_refusals (code_of id) payload slot)) where
          pub slot_refuses : eqb (number_of reply) 0 ≡ false → hear id dlc payload output n ≡ refused n reply
          slot_refuses e = rw said (refused_at slot there (beyond (reply_refuses (slot_hear_refusals (code_of id) payload slot) (rw said at e))))

          pub heard : eqb (number_of reply) 0 ≡ true → {x : Slot} → x ≡ heard_by n.counter (code_of id) (take max_payload payload) slot
              → hear id dlc payload output n
              ≡ telling (of_frame (told_by (code_of id) slot)) (done (with_slots (set n.slots i x) n) (delivered_at_once id payload))
          heard e changed =
              let slot_passed = reply_passes (slot_hear_refusals (code_of id) payload slot) refl (rw said at e) in
              let tests = frame_refusals (is_bare id) id dlc (length payload) in
              let all_passed = both_pass tests (slot_hear_refusals (code_of id) payload slot) passed slot_passed in
              let facts = hear_facts id dlc payload output slot (le-ltb _ _ room, all_passed) in
              let whole = frame_whole (is_bare id) id dlc payload good in
              let stored = slot_stored n (stream_of id) i found (heard_by n.counter (code_of id) payload) d inside in
              (hear_cases id dlc payload output n).accepted_if (rw there facts) ∙ rw (there, changed, whole, stored)
