-- The tick's loop: it goes up through the slots, writes the records of those that are due, lets each lapse, and counts.
use Rattle.std.proofs.Common.{◌≡◌, ℕ, ◌+◌, ◌-◌, ◌*◌, ◌<◌, ◌≤◌, Bool, true, false, cond, List, [], ◌∷◌, ◌++◌, map, length, get_or, take, drop, set}
use Rattle.std.proofs.Common.{sym, refl, ap, ◌∙◌, append_assoc, append-nil, add-one, arith, length-append, length-drop, drop_of_length-le, take_all}
use Rattle.std.proofs.Common.{drop-cons, drop-drop, take_at, drop_at}
use Rattle.wire.specs.Frames.{max_payload}
use Rattle.wire.specs.Delivered.{record_of, over, fitting}
use Rattle.wire.proofs.Records.{cut_length, does_fit}
use Rattle.node.specs.declared.slots.Slot.{Slot}
use Rattle.node.specs.declared.Node.{Node}
use Rattle.node.specs.Slots.{payload_of, many}
use Rattle.node.specs.Nodes.{slot_count, with_slots}
use Rattle.node.specs.Clock.{Clock}
use Rattle.node.specs.Hear.{hear_room}
use Rattle.node.specs.Tick.{tick_room, late, due, lapsed, age_of, tick_slot, due_slots, record_from, records_from}
use Rattle.node.proofs.slots.Payloads.{part_within, part_is_payload}
use Rattle.node.proofs.slots.Upward.{changed, all_changed, changed_not_yet, changed_one_more, changed_one_kept}

-- ── lapsing ──
-- of the slots of n₀, those before i have lapsed in n
pub record Lapsing (clock : Clock) (now : ℕ) (n₀ n : Node) (i : ℕ) : Type 0 where
  pub many : length n₀.slots ≡ slot_count
  pub node_is : n ≡ with_slots (changed (tick_slot clock now) i n₀.slots) n₀

pub lapsing_at_first : (clock : Clock) (now : ℕ) (n : Node) → length n.slots ≡ slot_count → Lapsing clock now n n 0
lapsing_at_first clock now n many = record { many = many; node_is = refl }

module _ {clock : Clock} {now : ℕ} {n₀ n : Node} {i : ℕ} (l : Lapsing clock now n₀ n i) where
  pub all_lapsed : slot_count ≤ i → n ≡ with_slots (map (tick_slot clock now) n₀.slots) n₀
  all_lapsed h = rw (← all_changed (tick_slot clock now) i n₀.slots (omega (arith, l.many))) l.node_is

  module _ (d : Slot) (h : i < slot_count) where
    abbrev slot : Slot
    slot = get_or n.slots i d

    within : i < length n₀.slots
    within = omega (arith, l.many)

    pub slot_as_it_was : slot ≡ get_or n₀.slots i d
    slot_as_it_was = rw l.node_is (changed_not_yet (tick_slot clock now) i n₀.slots d within)

    abbrev with_slots_here : List Slot → Node
    with_slots_here slots = with_slots slots n₀

    module _ (age : ℕ) (a : age ≡ age_of clock now slot) where
      pub one_stays : lapsed age slot ≡ slot → Lapsing clock now n₀ n (i + 1)
      one_stays s =
          let stays : tick_slot clock now slot ≡ slot = rw a at s in
          let kept = changed_one_kept (tick_slot clock now) i n₀.slots d within (rw slot_as_it_was at stays) in
          record { many = l.many; node_is = l.node_is ∙ ap with_slots_here kept }

      pub one_lapses : (x : Slot) → x ≡ lapsed age slot → Lapsing clock now n₀ (with_slots (set n.slots i x) n) (i + 1)
      one_lapses x e =
          let lapses : x ≡ tick_slot clock now slot = rw a at e in
          record {
            many = l.many;
            node_is =
                rw (lapses, slot_as_it_was, l.node_is) (ap with_slots_here (changed_one_more (tick_slot clock now) i n₀.slots d within));
          }

-- ── counting ──
one_or_none : (t : Bool) → cond t 1 0 ≤ 1
one_or_none true = omega arith
one_or_none false = omega arith

-- of the slots before i so many were late, and so many due
pub record Counting (clock : Clock) (now : ℕ) (slots : List Slot) (i dropped delivered : ℕ) : Type 0 where
  pub all : length slots ≡ slot_count
  pub late_ones : dropped + many (λ x. late (age_of clock now x) x) (drop i slots) ≡ many (λ x. late (age_of clock now x) x) slots
  pub due_ones : delivered + many (λ x. due (age_of clock now x) x) (drop i slots) ≡ many (λ x. due (age_of clock now x) x) slots
  pub few : (dropped ≤ i) × (delivered ≤ i)

pub counting_at_first : (clock : Clock) (now : ℕ) (slots : List Slot) → length slots ≡ slot_count → Counting clock now slots 0 0 0
counting_at_first clock now slots all = record { all = all; late_ones = omega arith; due_ones = omega arith; few = (omega arith, omega arith) }

module _ {clock : Clock} {now : ℕ} {slots : List Slot} {i dropped delivered : ℕ} (k : Counting clock now slots i dropped delivered) where
  pub all_counted : slot_count ≤ i
      → (dropped ≡ many (λ x. late (age_of clock now x) x) slots) × (delivered ≡ many (λ x. due (age_of clock now x) x) slots)
  unfolding many
  all_counted h =
      let none = drop_of_length-le slots {i = i} (omega (arith, k.all)) in
      let late_ones = rw none at k.late_ones in
      let due_ones = rw none at k.due_ones in
      (omega arith, omega arith)

  module _ (d : Slot) (h : i < slot_count) (x : Slot) (same : x ≡ get_or slots i d) (age : ℕ) (a : age ≡ age_of clock now x) where
    -- one slot more, with whether it is late, and whether it is due
    pub one_counted : (late_now due_now : Bool) → late age x ≡ late_now → due age x ≡ due_now
        → (p q : ℕ) → p ≡ dropped + cond late_now 1 0 → q ≡ delivered + cond due_now 1 0 → Counting clock now slots (i + 1) p q
    unfolding many
    one_counted late_now due_now l e p q dropped_now delivered_now =
        let one_more : drop i slots ≡ x ∷ drop (i + 1) slots = rw (same, add-one) (drop-cons slots i d (omega (arith, k.all))) in
        let late_ones = rw (one_more, ← a, l) at k.late_ones in
        let due_ones = rw (one_more, ← a, e) at k.due_ones in
        record {
          all = k.all;
          late_ones = omega (arith, late_ones, dropped_now);
          due_ones = omega (arith, due_ones, delivered_now);
          few = (omega (arith, one_or_none late_now, dropped_now, k.few.0), omega (arith, one_or_none due_now, delivered_now, k.few.1));
        }

    pub one_late : late age x ≡ true → due age x ≡ false → Counting clock now slots (i + 1) (dropped + 1) delivered
    one_late l e = one_counted true false l e _ _ refl (omega arith)

    pub one_due : late age x ≡ false → due age x ≡ true → Counting clock now slots (i + 1) dropped (delivered + 1)
    one_due l e = one_counted false true l e _ _ (omega arith) refl

    pub one_neither : late age x ≡ false → due age x ≡ false → Counting clock now slots (i + 1) dropped delivered
    one_neither l e = one_counted false false l e _ _ (omega arith) (omega arith)

-- ── writing ──
-- a part of an output from `at` on was lent, and came back with bytes at its front
pub lent_part : (done bytes out₀ out part : List ℕ) (at : ℕ) → at ≡ length done → out ≡ done ++ drop at out₀ → at + length bytes ≤ length out₀
    → part ≡ over bytes (take (length out - at) (drop at out))
    → take at out ++ (part ++ drop (length out - at) (drop at out)) ≡ (done ++ bytes) ++ drop (at + length bytes) out₀
lent_part done bytes out₀ out part at here front room back =
    let long : length out ≡ length out₀ = ap length front ∙ simp (length-append, length-drop) (omega arith) in
    let same : drop at out ≡ drop at out₀ = ap (drop at) front ∙ drop_at done (drop at out₀) at (sym here) in
    let before : take at out ≡ done = ap (take at) front ∙ take_at done (drop at out₀) at (sym here) in
    let left : length (drop at out₀) ≡ length out - at = length-drop at out₀ ∙ omega arith in
    rw (back, before, same, take_all (length out - at) (drop at out₀) (omega arith))
    (rw (drop_of_length-le (drop at out₀) {i = length out - at} (omega arith), drop-drop (length bytes) at out₀)
    (ap (λ (r : List ℕ). done ++ r) (append-nil (bytes ++ drop (at + length bytes) out₀))
    ∙ sym (append_assoc done bytes (drop (at + length bytes) out₀))))

-- of the slots before i the records of those that are due stand before `at`
pub record Writing (clock : Clock) (now : ℕ) (slots : List Slot) (out₀ out : List ℕ) (i at : ℕ) : Type 0 where
  pub many : length slots ≡ slot_count
  pub long : tick_room ≤ length out₀
  pub done : List ℕ
  pub here : at ≡ length done
  pub front : out ≡ done ++ drop at out₀
  pub whole : done ++ records_from (due_slots clock now (drop i slots)) ≡ records_from (due_slots clock now slots)
  pub room : at ≤ hear_room * i

pub writing_at_first : (clock : Clock) (now : ℕ) (slots : List Slot) (out : List ℕ) → length slots ≡ slot_count → tick_room ≤ length out
    → Writing clock now slots out out 0 0
writing_at_first clock now slots out many long =
    record { many = many; long = long; done = []; here = refl; front = refl; whole = refl; room = omega arith }

module _ {clock : Clock} {now : ℕ} {slots : List Slot} {out₀ out : List ℕ} {i at : ℕ} (w : Writing clock now slots out₀ out i at) where
  pub all_written : slot_count ≤ i → (at ≡ length (records_from (due_slots clock now slots))) × (out ≡ over (records_from (due_slots clock now slots)) out₀)
  unfolding due_slots records_from
  all_written h =
      let none = drop_of_length-le slots {i = i} (omega (arith, w.many)) in
      let all : w.done ≡ records_from (due_slots clock now slots) = sym (append-nil w.done) ∙ rw none at w.whole in
      let long : at ≡ length (records_from (due_slots clock now slots)) = w.here ∙ ap length all in
      (long, rw (← long, ← all) w.front)

  pub writing_keeps_length : i ≤ slot_count → length out ≡ length out₀
  writing_keeps_length h = ap length w.front ∙ simp (length-append, length-drop) (omega (arith, w.here, w.room, w.long))

  module _ (d : Slot) (h : i < slot_count) where
    pub has_room : at + hear_room ≤ length out
    has_room = omega (arith, writing_keeps_length (omega arith), w.room, w.long)

    module _ (x : Slot) (same : x ≡ get_or slots i d) (age : ℕ) (a : age ≡ age_of clock now x) where
      one_more : drop i slots ≡ x ∷ drop (i + 1) slots
      one_more = rw (same, add-one) (drop-cons slots i d (omega (arith, w.many)))

      pub one_is_not_due : due age x ≡ false → Writing clock now slots out₀ out (i + 1) at
      unfolding due_slots
      one_is_not_due e =
          record {
            many = w.many;
            long = w.long;
            done = w.done;
            here = w.here;
            front = w.front;
            whole = rw (one_more, ← a, e) at w.whole;
            room = omega (arith, w.room);
          }

      abbrev part : List ℕ
      part = take (length out - at) (drop at out)

      -- the record writer is handed the part, and as many of eight bytes as the payload has
      module _ (bytes : List ℕ) (b : (bytes ≡ x.message.bytes) × (length bytes ≡ max_payload)) (n : ℕ) (e : n ≡ length (payload_of x.message)) where
        pub lent_within : n ≤ length bytes
        lent_within = part_within x.message bytes b n e

        abbrev asked : List ℕ
        asked = record_of x.stream (take max_payload (take n bytes))

        asked_is_small : length asked ≤ hear_room
        asked_is_small = omega (arith, cut_length x.stream (take n bytes))

        asked_fits : fitting asked part ≡ asked
        asked_fits =
            let left : length (drop at out) ≡ length out - at = length-drop at out in
            let fits : length asked ≤ length part =
            rw (take_all (length out - at) (drop at out) (omega arith)) (omega (arith, has_room, asked_is_small)) in
            does_fit asked part fits

        pub written_is_small : (r : ℕ) → r ≡ length (fitting asked part) → r ≤ hear_room
        written_is_small r er = omega (arith, er ∙ ap length asked_fits, asked_is_small)

        pub one_is_written : due age x ≡ true → (r : ℕ) (back : List ℕ) → (r ≡ length (fitting asked part)) × (back ≡ over (fitting asked part) part)
            → Writing clock now slots out₀ (take at out ++ (back ++ drop (length out - at) (drop at out))) (i + 1) (at + r)
        unfolding due_slots records_from
        one_is_written is_due r back wrote =
            let record_is : asked ≡ record_from x = rw (part_is_payload x.message bytes b n e) in
            let size : r ≡ length (record_from x) = wrote.0 ∙ ap length (asked_fits ∙ record_is) in
            let writes : back ≡ over (record_from x) part = rw (asked_fits, record_is) at wrote.1 in
            let small = written_is_small r wrote.0 in
            let whole = rw (one_more, ← a, is_due) at w.whole in
            record {
              many = w.many;
              long = w.long;
              done = w.done ++ record_from x;
              here = simp length-append (omega (arith, w.here));
              front = rw size (lent_part w.done (record_from x) out₀ out back at w.here w.front (omega (arith, w.room, w.long)) writes);
              whole = append_assoc w.done (record_from x) (records_from (due_slots clock now (drop (i + 1) slots))) ∙ whole;
              room = omega (arith, w.room);
            }

-- ── all three ──
pub record Passing (clock : Clock) (now : ℕ) (n₀ n : Node) (out₀ out : List ℕ) (i written dropped delivered : ℕ) : Type 0 where
  pub lapsing : Lapsing clock now n₀ n i
  pub writing : Writing clock now n₀.slots out₀ out i written
  pub counting : Counting clock now n₀.slots i dropped delivered
