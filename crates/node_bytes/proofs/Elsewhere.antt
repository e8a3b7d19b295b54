-- What is read where nothing was stored.
use mathlib.Core.Path.{◌≡◌, refl, ap, ◌∙◌}
use mathlib.Core.Bool.{Bool, true, false}
use mathlib.Core.Logic.{◌⊎◌, inl, inr}
use mathlib.Core.List.{List, [], ◌∷◌}
use Prim.Native.Nat.{ℕ, zero, suc, ◌+◌, ◌≤◌, ◌<◌}
use native.Mathlib.Omega.{arith}
use borrow.Author.Tests.{eqb-true, eqb-false}
use lib.ListN.{length, set, length-set}
use lib.Seq.{sets, get_or-set_same, get_or-set_other}
use lib.Dec.{eqb}
use Rattle.wire.specs.Delivered.{number_at}
use Rattle.wire.specs.Frames.{max_payload}
use Rattle.node_bytes.specs.Layout.{stream_at, used_at, held_at, stamp_at, confirmed_at, len_at, role_at, class_at, payload_at}
use Rattle.node_bytes.specs.Layout.{payload_pending_at, confirmation_pending_at, abort_pending_at}
use Rattle.node_bytes.specs.Layout.{data_reach_at, confirm_delay_at, abort_reach_at, deliver_delay_at, slot_size}
use Rattle.node_bytes.specs.Decoding.{byte_at, bytes_at, slot_from}

-- a place before n bytes, or behind them
abbrev pub Outside : (at n j : ℕ) → Type 0
Outside at n j = (j < at) ⊎ (at + n ≤ j)

outside_rest : (at n j : ℕ) → Outside at (suc n) j → Outside (suc at) n j
outside_rest at n j (inl h) = inl (omega arith)
outside_rest at n j (inr h) = inr (omega arith)

not_first : (at n j : ℕ) → Outside at (suc n) j → j ≡ at → ⊥
not_first at n j (inl h) e = omega arith
not_first at n j (inr h) e = omega arith

pub byte_elsewhere : (bytes stored : List ℕ) (at j : ℕ) → Outside at (length stored) j → byte_at (sets bytes at stored) j ≡ byte_at bytes j
byte_elsewhere bytes [] at j o = refl
byte_elsewhere bytes (b ∷ stored) at j o =
    byte_elsewhere (set bytes at b) stored (suc at) j (outside_rest at (length stored) j o)
    ∙ get_or-set_other bytes at j b 0 (not_first at (length stored) j o)

-- ── bytes that are the same as others from another place on, n of them ──
module _ (new old : List ℕ) where
  abbrev pub SameAs : (to from n : ℕ) → Type 0
  SameAs to from n = (p q : ℕ) → to ≤ p → p < to + n → p + from ≡ q + to → byte_at new p ≡ byte_at old q

  later_part : (to from n : ℕ) → SameAs to from (suc n) → SameAs (suc to) (suc from) n
  later_part to from n same p q a b c = same p q (omega arith) (omega arith) (omega arith)

  number_same : (k to from : ℕ) → SameAs to from k → number_at k new to ≡ number_at k old from
  number_same zero to from same = refl
  number_same (suc k) to from same =
      rw (same to from (omega arith) (omega arith) (omega arith), number_same k (suc to) (suc from) (later_part to from k same))

  bytes_same : (k to from : ℕ) → SameAs to from k → bytes_at k new to ≡ bytes_at k old from
  bytes_same zero to from same = refl
  bytes_same (suc k) to from same =
      rw (same to from (omega arith) (omega arith) (omega arith), bytes_same k (suc to) (suc from) (later_part to from k same))

  module _ (to from : ℕ) (same : SameAs to from slot_size) where
    part : (offset k : ℕ) → offset + k ≤ slot_size → SameAs (offset + to) (offset + from) k
    part offset k inside p q a b c = same p q (omega arith) (omega arith) (omega arith)

    byte_of : (offset : ℕ) → offset < slot_size → byte_at new (offset + to) ≡ byte_at old (offset + from)
    byte_of offset inside = same (offset + to) (offset + from) (omega arith) (omega arith) (omega arith)

    number_of : (k offset : ℕ) → offset + k ≤ slot_size → number_at k new (offset + to) ≡ number_at k old (offset + from)
    number_of k offset inside = number_same k (offset + to) (offset + from) (part offset k inside)

    pub slot_moved : slot_from new to ≡ slot_from old from
    unfolding slot_from
    slot_moved =
        rw (
          number_of 4 stream_at (omega arith),
          byte_of used_at (omega arith),
          byte_of held_at (omega arith),
          number_of 2 stamp_at (omega arith),
          byte_of payload_pending_at (omega arith),
          byte_of confirmation_pending_at (omega arith),
          byte_of abort_pending_at (omega arith),
          byte_of confirmed_at (omega arith),
          byte_of len_at (omega arith),
          byte_of role_at (omega arith),
          byte_of class_at (omega arith),
          number_of 2 data_reach_at (omega arith),
          number_of 2 confirm_delay_at (omega arith),
          number_of 2 abort_reach_at (omega arith),
          number_of 2 deliver_delay_at (omega arith),
          bytes_same max_payload (payload_at + to) (payload_at + from) (part payload_at max_payload (omega arith)),
        )

  -- and from the same place on
  abbrev pub SameFrom : (at n : ℕ) → Type 0
  SameFrom at n = (j : ℕ) → at ≤ j → j < at + n → byte_at new j ≡ byte_at old j

  in_place : (at n : ℕ) → SameFrom at n → SameAs at at n
  in_place at n same p q a b c = let e : p ≡ q = omega arith in same p a b ∙ ap (byte_at old) e

  pub number_stays : (k at : ℕ) → SameFrom at k → number_at k new at ≡ number_at k old at
  number_stays k at same = number_same k at at (in_place at k same)

  pub bytes_stay : (k at : ℕ) → SameFrom at k → bytes_at k new at ≡ bytes_at k old at
  bytes_stay k at same = bytes_same k at at (in_place at k same)

  pub counter_same : (at : ℕ) → SameFrom at 2 → number_at 2 new at ≡ number_at 2 old at
  counter_same = number_stays 2

  pub slot_same : (at : ℕ) → SameFrom at slot_size → slot_from new at ≡ slot_from old at
  slot_same at same = slot_moved at at (in_place at slot_size same)

-- ── bytes copied to a place ──
pub byte_copied : (n : ℕ) (bytes src : List ℕ) (to from : ℕ) → to + n ≤ length bytes → SameAs (sets bytes to (bytes_at n src from)) src to from n
byte_copied zero bytes src to from room p q a b c = absurd (omega arith)
byte_copied (suc n) bytes src to from room p q a b c =
    by_test (eqb p to) refl (byte_copied n (set bytes to v) src (suc to) (suc from) (rw (length-set bytes to v) (omega arith)) p q)
  where
    v : ℕ
    v = byte_at src from

    Same : Type 0
    Same = byte_at (sets (set bytes to v) (suc to) (bytes_at n src (suc from))) p ≡ byte_at src q

    by_test : (t : Bool) → eqb p to ≡ t → (suc to ≤ p → p < suc to + n → p + suc from ≡ q + suc to → Same) → Same
    by_test true e rest =
        let first : p ≡ to = eqb-true p to e in
        let same : from ≡ q = omega arith in
        byte_elsewhere (set bytes to v) (bytes_at n src (suc from)) (suc to) p (inl (omega arith))
        ∙ ap (λ (j : ℕ). byte_at (set bytes to v) j) first
        ∙ get_or-set_same bytes to v 0 (omega arith)
        ∙ ap (byte_at src) same
    by_test false e rest = let other = eqb-false p to e in rest (omega (arith, other)) (omega arith) (omega arith)
