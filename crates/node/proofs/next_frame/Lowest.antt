-- What a slot's pending frames have: which codes, the lowest of them, their identifiers, and whose they are.
use Rattle.std.proofs.Common.{◌≡◌, ℕ, ◌+◌, ◌*◌, ◌/◌, ◌≤◌, min, Bool, true, false, cond, not, ◌&&◌, ◌||◌, leb, List, [], ◌∷◌, ◌++◌, refl, ap, ◌∙◌}
use Rattle.std.proofs.Common.{subst, ⊎_elim, arith, eq-eqb, le-leb, leb-false, leb-true}
use mathlib.Core.Bool.{and-eq-true_iff}
use mathlib.Core.List.Memᴰ
use mathlib.Core.List.{Memᴰ}
use Rattle.wire.specs.Identifiers.{max_stream, max_bus_id, max_code, stream_of, code_of, join}
use Rattle.wire.specs.Settings.{is_plain}
use Rattle.node.specs.declared.slots.Slot.{Slot}
use Rattle.node.specs.Slots.{empty, is_of, first, some}
use Rattle.node.specs.NextFrame.{has_frame, lowest_code}
use Rattle.node.specs.OldLayout.{payload_code, one, pending_codes, is_none, lowest, ids_from, pending_in}
use Rattle.node.specs.Request.{has_pending}
use Rattle.node.proofs.Choices.{contrary}
use Rattle.node.proofs.slots.Table.{some_first}

-- of some, the lowest is one of them
pub lowest_among : (is : List ℕ) → is_none is ≡ false → Memᴰ (lowest is) is
unfolding lowest
lowest_among [] some = contrary refl some
lowest_among (i ∷ []) some = Memᴰ.head refl
lowest_among (i ∷ j ∷ is) some = go (leb i (lowest (j ∷ is))) refl (lowest_among (j ∷ is) refl)
  where
    go : (t : Bool) → leb i (lowest (j ∷ is)) ≡ t → Memᴰ (lowest (j ∷ is)) (j ∷ is) → Memᴰ (min i (lowest (j ∷ is))) (i ∷ j ∷ is)
    go true e rest =
        let same : i ≡ min i (lowest (j ∷ is)) = omega (arith, leb-true i (lowest (j ∷ is)) e) in
        subst (λ k. Memᴰ k (i ∷ j ∷ is)) same (Memᴰ.head refl)
    go false e rest =
        let same : lowest (j ∷ is) ≡ min i (lowest (j ∷ is)) = omega (arith, leb-false i (lowest (j ∷ is)) e) in
        Memᴰ.tail (subst (λ k. Memᴰ k (j ∷ is)) same rest)

-- ── of a slot's codes ──
one_code : (t : Bool) (code : ℕ) {c : ℕ} → Memᴰ c (one t code) → c ≡ code
one_code true code m = Memᴰ.eq_of_singleton m
one_code false code m = absurd (Memᴰ.not-nil m)

payload_code_law : (t : Bool) → cond t 3 0 ≤ 3
payload_code_law true = omega arith
payload_code_law false = omega arith

code_at_most_three : (x : Slot) (c : ℕ) → Memᴰ c (pending_codes x) → c ≤ 3
code_at_most_three x c m =
    let p = x.pending in
    ⊎_elim
    (λ (others : Memᴰ c (one p.payload (payload_code x) ++ one p.confirmation 1)).
    ⊎_elim
    (λ (m : Memᴰ c (one p.payload (payload_code x))).
    omega (arith, one_code p.payload (payload_code x) m, payload_code_law (is_plain x.settings)))
    (λ (m : Memᴰ c (one p.confirmation 1)). omega (arith, one_code p.confirmation 1 m))
    (Memᴰ.append_cases (one p.payload (payload_code x)) others))
    (λ (m : Memᴰ c (one p.abort 2)). omega (arith, one_code p.abort 2 m))
    (Memᴰ.append_cases (one p.payload (payload_code x) ++ one p.confirmation 1) m)

some_code : (code : ℕ) (payload confirmation abort : Bool)
    → is_none (one payload code ++ one confirmation 1 ++ one abort 2) ≡ not (payload || confirmation || abort)
some_code code true confirmation abort = refl
some_code code false true abort = refl
some_code code false false true = refl
some_code code false false false = refl

-- the lowest of them is the code that the slot gives out first
by_flags : (plain payload confirmation abort : Bool) → (payload || confirmation || abort) ≡ true
    → lowest (one payload (cond plain 3 0) ++ one confirmation 1 ++ one abort 2)
    ≡ cond (payload && not plain) 0 (cond confirmation 1 (cond abort 2 3))
unfolding lowest
by_flags plain false false false any = contrary any refl
by_flags plain false false true any = refl
by_flags plain false true false any = refl
by_flags plain false true true any = refl
by_flags false true false false any = refl
by_flags false true false true any = refl
by_flags false true true false any = refl
by_flags false true true true any = refl
by_flags true true false false any = refl
by_flags true true false true any = refl
by_flags true true true false any = refl
by_flags true true true true any = refl

lowest_code_law : (x : Slot) → has_pending x.pending ≡ true → lowest (pending_codes x) ≡ lowest_code x
lowest_code_law x any = by_flags (is_plain x.settings) x.pending.payload x.pending.confirmation x.pending.abort any

-- ── of a slot's identifiers ──
none_from : (stream : ℕ) (codes : List ℕ) → is_none (ids_from stream codes) ≡ is_none codes
none_from stream [] = refl
none_from stream (code ∷ codes) = refl

lowest_ids : (stream : ℕ) (codes : List ℕ) → is_none codes ≡ false → lowest (ids_from stream codes) ≡ stream * 4 + lowest codes
unfolding lowest
lowest_ids stream [] some = contrary refl some
lowest_ids stream (code ∷ []) some = refl
lowest_ids stream (code ∷ next ∷ codes) some = let h = lowest_ids stream (next ∷ codes) refl in omega arith

module _ (x : Slot) where
  -- there is one exactly where the slot has a frame
  pub has_ids : is_none (pending_in x) ≡ not (has_frame x)
  unfolding pending_in
  has_ids =
      go (has_pending x.pending) (x.used && leb x.stream.0 max_stream)
      (some_code (payload_code x) x.pending.payload x.pending.confirmation x.pending.abort)
    where
      go : (any stream : Bool) → is_none (pending_codes x) ≡ not any
          → is_none (cond stream (ids_from x.stream.0 (pending_codes x)) []) ≡ not (any && stream)
      go true true e = none_from x.stream.0 (pending_codes x) ∙ e
      go true false e = refl
      go false true e = none_from x.stream.0 (pending_codes x) ∙ e
      go false false e = refl

  -- and the lowest is that of the first frame that it gives out
  module _ (frame : has_frame x ≡ true) where
    both : (has_pending x.pending ≡ true) × ((x.used && leb x.stream.0 max_stream) ≡ true)
    both = (and-eq-true_iff (has_pending x.pending) _).0 frame

    some_pending : is_none (pending_codes x) ≡ false
    some_pending =
        some_code (payload_code x) x.pending.payload x.pending.confirmation x.pending.abort ∙ ap not both.0

    small : lowest_code x ≤ max_code
    small = rw (← (lowest_code_law x both.0)) (code_at_most_three x _ (lowest_among (pending_codes x) some_pending))

    frame_lowest : lowest (pending_in x) ≡ x.stream.0 * 4 + lowest_code x
    unfolding pending_in
    frame_lowest = rw (both.1, ← (lowest_code_law x both.0)) (lowest_ids x.stream.0 (pending_codes x) some_pending)

    pub frame_id : (join x.stream (lowest_code x)).id ≡ record { 0 = lowest (pending_in x) }
    unfolding join
    frame_id =
        let stream = ((and-eq-true_iff x.used _).0 both.1).1 in
        rw (stream, le-leb (lowest_code x) max_code small, frame_lowest)

    pub frame_code : code_of (record { 0 = lowest (pending_in x) }) ≡ lowest_code x
    frame_code = omega (arith, frame_lowest, small)

-- ── of the first slot with a frame ──
pub none_in_empty : pending_in empty ≡ []
unfolding pending_in
none_in_empty = refl

pub some_has_frame : (xs : List Slot) → some has_frame xs ≡ has_frame (first has_frame xs)
some_has_frame = some_first has_frame refl

-- ── where a pending identifier comes from ──
from_codes : (stream : ℕ) (codes : List ℕ) (i : ℕ) → ((c : ℕ) → Memᴰ c codes → c ≤ 3) → Memᴰ i (ids_from stream codes)
    → (stream * 4 ≤ i) × (i ≤ stream * 4 + 3)
from_codes stream [] i small m = absurd (Memᴰ.not-nil m)
from_codes stream (code ∷ codes) i small m =
    ⊎_elim
    (λ (e : i ≡ stream * 4 + code). let h = small code (Memᴰ.head refl) in (omega arith, omega arith))
    (λ (rest : Memᴰ i (ids_from stream codes)). from_codes stream codes i (λ c m. small c (Memᴰ.tail m)) rest)
    (Memᴰ.cases_cons m)

-- a pending identifier is in range, and its stream has a slot
pub record FromSlot (i : ℕ) (x : Slot) : Type 0 where
  pub in_range : i ≤ max_bus_id
  pub of_stream : is_of (stream_of (record { 0 = i })) x ≡ true

pub pending_from_slot : (x : Slot) {i : ℕ} → Memᴰ i (pending_in x) → FromSlot i x
unfolding pending_in
pending_from_slot x {i} m = go x.used refl (leb x.stream.0 max_stream) refl m
  where
    go : (used : Bool) → x.used ≡ used → (small : Bool) → leb x.stream.0 max_stream ≡ small
        → Memᴰ i (cond (used && small) (ids_from x.stream.0 (pending_codes x)) []) → FromSlot i x
    go true u true s m =
        let range = from_codes x.stream.0 (pending_codes x) i (code_at_most_three x) m in
        let small = leb-true x.stream.0 max_stream s in
        let stream : x.stream.0 ≡ i / 4 = omega arith in
        record { in_range = omega arith; of_stream = rw (u, eq-eqb x.stream.0 (i / 4) stream) }
    go true u false s m = absurd (Memᴰ.not-nil m)
    go false u small s m = absurd (Memᴰ.not-nil m)
