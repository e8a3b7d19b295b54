-- The tick of a lent node: its loop, stated of the nodes that the bytes are, and what its ways answer and leave.
use mathlib.Core.Path.{◌≡◌, refl, sym, ap, ◌∙◌}
use mathlib.Core.Bool.{Bool, true, false, cond}
use mathlib.Core.List.{List, ◌++◌}
use Rattle.std.proofs.Common.{Ok}
use Prim.Native.Nat.{ℕ, ◌+◌, ◌-◌, ◌≤◌, ◌<◌}
use native.Mathlib.Omega.{arith}
use lib.ListN.{length, take, drop, get_or, set}
use lib.Seq.{set-set}
use Rattle.wire.specs.Frames.{max_payload}
use Rattle.wire.specs.Delivered.{record_of, over, fitting}
use Rattle.node.specs.declared.slots.Message.{Message}
use Rattle.node.specs.declared.slots.Slot.{Slot}
use Rattle.node.specs.declared.Node.{Node}
use Rattle.node.specs.Slots.{empty, payload_of, frames, with_parts, with_message}
use Rattle.node.specs.Nodes.{slot_count, with_slots, as_ticked}
use Rattle.node.specs.Clock.{rolled}
use Rattle.node.specs.Hear.{hear_room}
use Rattle.node.specs.Tick.{tick_room, late, due, lapsed, dropped, delivered, age_of, record_from, tick}
use Rattle.node.specs.Calls.{Call}
use Rattle.node.proofs.tick.Cases.{after_tick, tick_cases}
use Rattle.node.proofs.tick.Stirring.{due_is_not_late, due_is_delivered}
use Rattle.node.proofs.tick.OnePass.{Lapsing, lapsing_at_first, all_lapsed, slot_as_it_was, one_lapses}
use Rattle.node.proofs.tick.OnePass.{Counting, counting_at_first, all_counted, one_counted}
use Rattle.node.proofs.tick.OnePass.{Writing, writing_at_first, all_written, one_is_not_due, written_is_small, one_is_written}
use Rattle.node.proofs.slots.Payloads.{part_is_payload}
use Rattle.node_bytes.specs.Layout.{node_size}
use Rattle.node_bytes.specs.declared.tick.Lapse.{Lapse}
use Rattle.node_bytes.specs.declared.tick.Lapse.TheVariants.{Stays, Dropped, Due}
use Rattle.node_bytes.specs.Decoding.{slot_from, slot_at, decode}
use Rattle.node_bytes.specs.Lent.{with_slot, with_counter}
use Rattle.node_bytes.proofs.ByIndex.{decoded_slot, decoded_length}
use Rattle.node_bytes.proofs.Stored.{slot_there}
use Rattle.node_bytes.proofs.Lapses.{Lapses, same_slot}
use Rattle.node_bytes.proofs.Calling.{Told, call_done}

-- ── a slot of which parts are stored ──
module _ (bytes after : List ℕ) (i : ℕ) (inside : i < slot_count) (y : Slot)
    (put : (length after ≡ length bytes) × (decode after ≡ with_slot i (with_message y.message (slot_at bytes i)) (decode bytes))) where
  pub message_put : (m : Message) → y ≡ with_message m (slot_at bytes i) → (length after ≡ length bytes) × (decode after ≡ with_slot i y (decode bytes))
  message_put m made =
      let same : with_message y.message (slot_at bytes i) ≡ y = rw made in
      (put.0, rw same at put.1)

  -- the message, and then the abort
  module _ (last : List ℕ)
      (then : (length last ≡ length after)
      × (decode last
      ≡ with_slot i
      (with_parts (slot_at after i) (slot_at after i).message
      (frames (slot_at after i).pending.payload (slot_at after i).pending.confirmation y.pending.abort))
      (decode after))) where
    read_between : slot_at after i ≡ with_message y.message (slot_at bytes i)
    read_between = slot_there bytes after i _ inside put.1

    pub abort_put : y ≡ dropped (slot_at bytes i) → (length last ≡ length bytes) × (decode last ≡ with_slot i y (decode bytes))
    abort_put made =
        let p = (slot_at bytes i).pending in
        let same : with_parts (slot_at bytes i) y.message (frames p.payload p.confirmation y.pending.abort) ≡ y = rw made in
        let left = rw (read_between, put.1) at then.1 in
        (then.0 ∙ put.0, left ∙ ap (λ (l : List Slot). with_slots l (decode bytes)) (set-set (decode bytes).slots i _ _ ∙ ap (set (decode bytes).slots i) same))

-- ── the loop ──
-- of the slots of bytes₀, those before i have lapsed in the bytes, and the records of those that are due stand before `at`
pub record Ticking (now : ℕ) (bytes₀ out₀ bytes out : List ℕ) (i at dropped delivered : ℕ) : Type 0 where
  pub whole : length bytes ≡ node_size
  pub lapsing : Lapsing rolled now (decode bytes₀) (decode bytes) i
  pub writing : Writing rolled now (decode bytes₀).slots out₀ out i at
  pub counting : Counting rolled now (decode bytes₀).slots i dropped delivered

pub ticking_at_first : (now : ℕ) (bytes out : List ℕ) → length bytes ≡ node_size → tick_room ≤ length out → Ticking now bytes out bytes out 0 0 0 0
ticking_at_first now bytes out whole room =
    let many = decoded_length bytes in
    record {
      whole = whole;
      lapsing = lapsing_at_first rolled now (decode bytes) many;
      writing = writing_at_first rolled now (decode bytes).slots out many room;
      counting = counting_at_first rolled now (decode bytes).slots many;
    }

module _ {now : ℕ} {bytes₀ out₀ bytes out : List ℕ} {i at dropped_before delivered_before : ℕ}
    (t : Ticking now bytes₀ out₀ bytes out i at dropped_before delivered_before) (h : i < slot_count) where
  -- the slot that was read
  module _ (x : Slot) (there : x ≡ slot_at bytes i) where
    as_decoded : x ≡ get_or (decode bytes).slots i empty
    as_decoded = there ∙ sym (decoded_slot bytes i empty h)

    pub read_as_it_was : x ≡ get_or (decode bytes₀).slots i empty
    read_as_it_was = as_decoded ∙ slot_as_it_was t.lapsing empty h

    pub eight_bytes : (x.message.bytes ≡ x.message.bytes) × (length x.message.bytes ≡ max_payload)
    unfolding slot_from
    eight_bytes = (refl, ap (λ (y : Slot). length y.message.bytes) there)

    module _ (age : ℕ) (a : age ≡ age_of rolled now x) where
      not_due : due age x ≡ false → Writing rolled now (decode bytes₀).slots out₀ out (i + 1) at
      not_due e = one_is_not_due t.writing empty h x read_as_it_was age a e

      module _ (y : Slot) (made : y ≡ lapsed age x) (after : List ℕ)
          (put : (length after ≡ length bytes) × (decode after ≡ with_slot i y (decode bytes))) where
        -- and whatever is written for it
        pub slot_lapses : {out₁ : List ℕ} {at₁ p q : ℕ} → Writing rolled now (decode bytes₀).slots out₀ out₁ (i + 1) at₁
            → Counting rolled now (decode bytes₀).slots (i + 1) p q → Ticking now bytes₀ out₀ after out₁ (i + 1) at₁ p q
        slot_lapses writing counting =
            record {
              whole = put.0 ∙ t.whole;
              lapsing = rw put.1 (one_lapses t.lapsing empty h age (rw as_decoded at a) y (rw as_decoded at made));
              writing = writing;
              counting = counting;
            }

  -- what became of its message
  module _ (asked : List ℕ) (lapse : Lapse) (l : Lapses (age_of rolled now (slot_at bytes i)) bytes asked i lapse) where
    abbrev x : Slot
    x = slot_at bytes i

    abbrev age : ℕ
    age = age_of rolled now x

    counts : (late_now due_now : Bool) → late age x ≡ late_now → due age x ≡ due_now → (p q : ℕ) → p ≡ dropped_before + cond late_now 1 0
        → q ≡ delivered_before + cond due_now 1 0 → Counting rolled now (decode bytes₀).slots (i + 1) p q
    counts = one_counted t.counting empty h x (read_as_it_was x refl) age refl

    -- the tests that led to it
    tests_of : (b c : Bool) → lapse ≡ cond b Due (cond c Dropped Stays)
        → (lapse ≡ Stays → (b ≡ false) × (c ≡ false)) × (lapse ≡ Dropped → (b ≡ false) × (c ≡ true)) × (lapse ≡ Due → b ≡ true)
    tests_of true c said = (λ e. (cc), λ e. (cc), λ e. refl)
    tests_of false true said = (λ e. (cc), λ e. (refl, refl), λ e. (cc))
    tests_of false false said = (λ e. (refl, refl), λ e. (cc), λ e. (cc))

    tests : (lapse ≡ Stays → (due age x ≡ false) × (late age x ≡ false)) × (lapse ≡ Dropped → (due age x ≡ false) × (late age x ≡ true))
        × (lapse ≡ Due → due age x ≡ true)
    tests = tests_of (due age x) (late age x) l.0

    no_longer : due age x ≡ false → {p : ℕ} → Counting rolled now (decode bytes₀).slots (i + 1) p delivered_before
        → Ticking now bytes₀ out₀ asked out (i + 1) at p delivered_before
    no_longer e = slot_lapses x refl age refl (lapsed age x) refl asked (l.1, rw e at l.2) (not_due x refl age refl e)

    pub stays_lapses : lapse ≡ Stays → Ticking now bytes₀ out₀ asked out (i + 1) at dropped_before delivered_before
    stays_lapses is =
        let (e, f) = tests.0 is in no_longer e (counts false false f e _ _ (omega arith) (omega arith))

    pub dropped_lapses : lapse ≡ Dropped → Ticking now bytes₀ out₀ asked out (i + 1) at (dropped_before + 1) delivered_before
    dropped_lapses is =
        let (e, f) = tests.1 is in no_longer e (counts true false f e _ _ refl (omega arith))

    module _ (is : lapse ≡ Due) where
      now_due : due age x ≡ true
      now_due = tests.2 is

      still : decode asked ≡ decode bytes
      still = (rw now_due at l.2) ∙ sym (same_slot bytes i h)

      same_here : slot_at asked i ≡ x
      same_here =
          sym (decoded_slot asked i empty h) ∙ ap (λ (n : Node). get_or n.slots i empty) still ∙ decoded_slot bytes i empty h

      abbrev part : List ℕ
      part = take (length out - at) (drop at out)

      -- and is delivered, into the part that was lent
      module _ (after : List ℕ) (r : ℕ) (back : List ℕ)
          (d : (length after ≡ length asked) × (decode after ≡ with_slot i (delivered (slot_at asked i)) (decode asked))
          × (r ≡ length (fitting (record_from (slot_at asked i)) part)) × (back ≡ over (fitting (record_from (slot_at asked i)) part) part)) where
        abbrev long : ℕ
        long = length (payload_of x.message)

        abbrev as_lent : List ℕ
        as_lent = record_of x.stream (take max_payload (take long x.message.bytes))

        record_is : as_lent ≡ record_from x
        record_is = rw (part_is_payload x.message x.message.bytes (eight_bytes x refl) long refl)

        wrote : (r ≡ length (fitting as_lent part)) × (back ≡ over (fitting as_lent part) part)
        wrote = rw (record_is, ← same_here) (d.2, d.3)

        pub record_is_small : r ≤ hear_room
        record_is_small =
            written_is_small t.writing empty h x (read_as_it_was x refl) age refl x.message.bytes (eight_bytes x refl) long refl r wrote.0

        pub due_lapses : Ticking now bytes₀ out₀ after (take at out ++ (back ++ drop (length out - at) (drop at out))) (i + 1) (at + r) dropped_before
            (delivered_before + 1)
        due_lapses =
            let is = now_due in
            let writes =
            one_is_written t.writing empty h x (read_as_it_was x refl) age refl x.message.bytes (eight_bytes x refl) long refl is r back wrote in
            slot_lapses x refl age refl (delivered x) (due_is_delivered age x is) after (d.0 ∙ l.1, rw (same_here, still) at d.1) writes
            (counts false true (due_is_not_late age x is) is _ _ (omega arith) refl)

-- ── the call, of which the counter was stored, and then the slots were passed ──
module _ (output bytes : List ℕ) (whole : length bytes ≡ node_size) (room : tick_room ≤ length output) (now : ℕ)
    (e : now ≡ rolled.next (decode bytes).counter) (bytes₀ : List ℕ) (counted : decode bytes₀ ≡ with_counter now (decode bytes))
    {after out : List ℕ} {i written dropped delivered : ℕ} (t : Ticking now bytes₀ output after out i written dropped delivered) (past : slot_count ≤ i) where
  does : tick rolled output (decode bytes) ≡ after_tick output rolled (decode bytes)
  does = (tick_cases output rolled (decode bytes)).accepted_if (record { room = room })

  pub tick_is_done : Told (Call.tick output) bytes as_ticked output (Ok (record { written = written; dropped = dropped; delivered = delivered })) out after
  tick_is_done =
      let wrote = rw (counted, e) at (all_written t.writing past) in
      let tells = rw (counted, e) at (all_counted t.counting past) in
      call_done (Call.tick output) bytes as_ticked output whole does refl (rw (wrote.0, tells.0, tells.1)) wrote.1 (t.whole ∙ sym whole)
      (all_lapsed t.lapsing past ∙ rw (counted, e))
