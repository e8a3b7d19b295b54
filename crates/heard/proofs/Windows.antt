-- A window answers as the whole recording does.
use mathlib.Core.Path.{◌≡◌, refl, sym, ap, ◌∙◌}
use mathlib.Core.Bool.{Bool, true, false}
use mathlib.Core.Logic.{◌≢◌, ◌⊎◌, inl, inr}
use mathlib.Core.List.{List, [], ◌++◌, append-nil}
use Prim.Native.Nat.{ℕ, zero, suc, ◌+◌, ◌-◌, ◌≤◌}
use native.Mathlib.Omega.{arith}
use borrow.Author.Tests.{ltb-false, le-ltb}
use lib.ListN.{length, get_or, take, drop, length-append, get_or-append, length-drop}
use lib.Seq.{drop-append-add, drop-append-le, take-append-le}
use lib.Dec.{ltb}
use Rattle.wire.specs.Delivered.{number_at, following, is_cut}
use Rattle.wire.proofs.Reading.{neither}
use Rattle.wire.proofs.Reading.{behind, number_behind}
use Rattle.heard.specs.declared.reply.Reply.TheVariants.{CutRecord}
use Rattle.heard.specs.Replies.{Refused, number_of}
use Rattle.heard.specs.Kinds.{count_bytes, is_known, head_length}
use Rattle.heard.specs.Reading.{HeardAt, bad_length, kind_at, count_end, head_at, heard_at}
use Rattle.heard.specs.Windows.{SameAnswer, WindowAnswers, EnoughIsNotCut}
use Rattle.heard.proofs.Passed.{Passed, passed, answer_by}

-- the number that stands whole in front of other bytes
number_before : (k : ℕ) (bytes beyond : List ℕ) (i : ℕ) → k + i ≤ length bytes → number_at k (bytes ++ beyond) i ≡ number_at k bytes i
number_before zero bytes beyond i room = refl
number_before (suc k) bytes beyond i room =
    rw (get_or-append bytes beyond 0 i (omega arith), number_before k bytes beyond (suc i) (omega arith))

module _ (gone window beyond : List ℕ) where
  abbrev whole : List ℕ
  whole = gone ++ (window ++ beyond)

  -- up to here the window has the bytes of the whole
  abbrev Inside : ℕ → Type 0
  Inside i = (i ≤ length window) ⊎ (beyond ≡ [])

  number_same : (k i : ℕ) → Inside (k + i) → number_at k whole (i + length gone) ≡ number_at k window i
  number_same k i (inl room) = number_behind k gone (window ++ beyond) i ∙ number_before k window beyond i room
  number_same k i (inr e) = number_behind k gone (window ++ beyond) i ∙ rw (e, append-nil)

  byte_same : (i : ℕ) → Inside (1 + i) → get_or whole (i + length gone) 0 ≡ get_or window i 0
  byte_same i (inl room) = behind gone (window ++ beyond) i ∙ get_or-append window beyond 0 i (omega arith)
  byte_same i (inr e) = behind gone (window ++ beyond) i ∙ rw (e, append-nil)

  part_same : (n i : ℕ) → Inside (n + i) → take n (drop (i + length gone) whole) ≡ take n (drop i window)
  part_same n i room =
      let e : i + length gone ≡ length gone + i = omega arith in
      rw (e, drop-append-add gone (window ++ beyond) i) (by_room room)
    where
      by_room : Inside (n + i) → take n (drop i (window ++ beyond)) ≡ take n (drop i window)
      by_room (inl room) = rw (drop-append-le i window beyond (omega arith)) (take-append-le n (drop i window) beyond (omega (arith, length-drop i window)))
      by_room (inr none) = rw (none, append-nil)

  -- the window answers anything but CutRecord, or nothing comes any more
  module _ (at : ℕ) (tells : (is_cut window at ≡ false) ⊎ (beyond ≡ [])) where
    abbrev place : ℕ
    place = at + length gone

    inside : (n : ℕ) → (is_cut window at ≡ false → n ≤ length window) → Inside n
    inside n room = by tells
      where
        by : (is_cut window at ≡ false) ⊎ (beyond ≡ []) → Inside n
        by (inl c) = inl (room c)
        by (inr e) = inr e

    whole_body : is_cut window at ≡ false → (4 ≤ length window - at) × (2 + following window at ≤ length window - at)
    whole_body c =
        let (head, body) = neither (ltb (length window - at) 4) (ltb (length window - at) (2 + following window at)) c in
        (ltb-false _ _ head, ltb-false _ _ body)

    same_following : following whole place ≡ following window at
    same_following = number_same 2 at (inside (2 + at) (λ c. omega (arith, (whole_body c).0)))

    same_kind : kind_at whole place ≡ kind_at window at
    same_kind =
        let e : 2 + place ≡ 2 + at + length gone = omega arith in
        rw e (number_same 2 (2 + at) (inside (2 + (2 + at)) (λ c. omega (arith, (whole_body c).0))))

    same_cut : is_cut whole place ≡ is_cut window at
    same_cut = by tells
      where
        long : length whole ≡ length gone + (length window + length beyond)
        long = omega (arith, length-append gone (window ++ beyond), length-append window beyond)

        by : (is_cut window at ≡ false) ⊎ (beyond ≡ []) → is_cut whole place ≡ is_cut window at
        by (inl c) =
            let (head, body) = whole_body c in
            let room : 4 ≤ length whole - place = omega (arith, long) in
            let more : 2 + following window at ≤ length whole - place = omega (arith, long) in
            rw (same_following, c, le-ltb _ _ room, le-ltb _ _ more)
        by (inr e) =
            let left : length whole - place ≡ length window - at = omega (arith, long, ap length e) in
            rw (same_following, left)

    -- of a record that was read, all of it is in the window
    module _ (p : Passed window at) where
      to_end : (n : ℕ) → n ≤ following window at - head_length (kind_at window at) → Inside (n + (5 + count_end window at))
      to_end n few = inside (n + (5 + count_end window at)) (λ c. omega arith)

      same_end : count_end whole place ≡ count_end window at + length gone
      same_end = rw same_kind (omega arith)

      same_count : number_at (count_bytes (kind_at window at)) whole (4 + place) ≡ (head_at window at).count
      same_count =
          let e : 4 + place ≡ 4 + at + length gone = omega arith in
          rw e (number_same (count_bytes (kind_at window at)) (4 + at) (inside (count_bytes (kind_at window at) + (4 + at)) (λ c. omega arith)))

      same_id : number_at 4 whole (count_end whole place) ≡ (head_at window at).id.0
      same_id = rw same_end (number_same 4 (count_end window at) (inside (4 + count_end window at) (λ c. omega arith)))

      same_dlc : get_or whole (4 + count_end whole place) 0 ≡ (head_at window at).dlc
      same_dlc =
          let e : 4 + count_end whole place ≡ 4 + count_end window at + length gone = omega (arith, same_end) in
          rw e (byte_same (4 + count_end window at) (inside (1 + (4 + count_end window at)) (λ c. omega arith)))

      same_head : head_at whole place ≡ head_at window at
      same_head = rw (same_id, same_dlc, same_kind, same_count)

    by_tests : (cut known bad : Bool) → ((heard_at window at).ok ≡ true → Passed window at) → heard_at window at ≡ answer_by window at cut known bad
        → heard_at whole place ≡ answer_by whole place cut known bad → SameAnswer gone window beyond at
    by_tests true known bad pass e f = record { answer = rw (e, f); record_in_window = rw (e, f) }
    by_tests false false bad pass e f = record { answer = rw (e, f); record_in_window = rw (e, f) }
    by_tests false true true pass e f = record { answer = rw (e, f); record_in_window = rw (e, f) }
    by_tests false true false pass e f =
        let p = pass (rw e) in
        let n : ℕ = following window at - head_length (kind_at window at) in
        let start : 5 + count_end whole place ≡ 5 + count_end window at + length gone = omega (arith, same_end p) in
        let next : 5 + count_end window at + length gone + n ≡ 5 + count_end window at + n + length gone = omega arith in
        record {
          answer = rw (e, f, same_head p, start, same_following, same_kind, next);
          record_in_window = rw (e, f, same_head p, start, same_following, same_kind)
              (ap (λ (l : List ℕ). (head_at window at, l)) (part_same n (5 + count_end window at) (to_end p n (omega arith))));
        }

    same_answer : SameAnswer gone window beyond at
    unfolding heard_at
    same_answer =
        by_tests (is_cut window at) (is_known (kind_at window at)) (bad_length (kind_at window at) (following window at)) (passed window at) refl
        (rw (same_cut, same_kind, same_following))

-- ── CutRecord is told by its test ──
module _ (bytes : List ℕ) (at : ℕ) where
  by_cut : (cut : Bool) → is_cut bytes at ≡ cut
      → heard_at bytes at ≡ answer_by bytes at cut (is_known (kind_at bytes at)) (bad_length (kind_at bytes at) (following bytes at))
      → (heard_at bytes at).reply ≢ Refused CutRecord → is_cut bytes at ≡ false
  by_cut true c e other = absurd (other (ap (λ (r : HeardAt). r.reply) e))
  by_cut false c e other = c

  not_cut : (heard_at bytes at).reply ≢ Refused CutRecord → is_cut bytes at ≡ false
  unfolding heard_at
  not_cut = by_cut (is_cut bytes at) refl refl

  told : (known bad : Bool) → heard_at bytes at ≡ answer_by bytes at false known bad → (heard_at bytes at).reply ≢ Refused CutRecord
  told false bad e cut = omega (arith, ap number_of (sym (ap (λ (r : HeardAt). r.reply) e) ∙ cut))
  told true true e cut = omega (arith, ap number_of (sym (ap (λ (r : HeardAt). r.reply) e) ∙ cut))
  told true false e cut = omega (arith, ap number_of (sym (ap (λ (r : HeardAt). r.reply) e) ∙ cut))

  not_told : is_cut bytes at ≡ false → (heard_at bytes at).reply ≢ Refused CutRecord
  unfolding heard_at
  not_told c = told (is_known (kind_at bytes at)) (bad_length (kind_at bytes at) (following bytes at)) (rw c)

pub window_answers : WindowAnswers
window_answers gone window beyond at (inl other) = same_answer gone window beyond at (inl (not_cut window at other))
window_answers gone window beyond at (inr none) = same_answer gone window beyond at (inr none)

pub enough_is_not_cut : EnoughIsNotCut
enough_is_not_cut window at low room =
    let first = low at in
    let second = low (suc at) in
    let head : 4 ≤ length window - at = omega arith in
    let body : 2 + following window at ≤ length window - at = omega arith in
    not_told window at (rw (le-ltb (length window - at) 4 head, le-ltb (length window - at) (2 + following window at) body))
