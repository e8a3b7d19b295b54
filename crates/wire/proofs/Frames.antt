-- What the reply of the frame test tells, each way; and what a frame has, which is what has none of the faults.
use mathlib.Core.Path.{◌≡◌, refl, sym, subst, ◌∙◌}
use mathlib.Core.Bool.{Bool, true, false, not, ◌&&◌, true≢false}
use mathlib.Core.List.{[], ◌∷◌}
use Prim.Native.Nat.{ℕ, zero, suc, ◌≤◌}
use native.Mathlib.Omega.{arith}
use borrow.Author.Tests.{lt-ltb, ltb-true, ltb-false, le-ltb, eq-eqb, eqb-true, eqb-false, ne_eqb, not-false}
use lib.Dec.{eqb, ltb}
use Rattle.wire.specs.declared.ids.BusId.{BusId}
use Rattle.wire.specs.declared.reply.Reply.{Reply}
use Rattle.wire.specs.declared.reply.Reply.TheVariants.{IdentifierTooBig, DlcTooBig, PayloadLength, UnwantedPayload}
use Rattle.wire.specs.Identifiers.{max_bus_id}
use Rattle.wire.specs.Refusals.{reply_of}
use Rattle.wire.specs.Frames.{max_payload, max_dlc, bytes_of_dlc, frame_refusals}
use Rattle.wire.specs.Frames.{Tested, high_identifier, high_dlc, other_length, unwanted, faultless}
use Rattle.wire.proofs.Refusing.{Passes, reply_passed}

module _ (bare : Bool) (id : BusId) (dlc length : ℕ) where
  -- a frame has none of the faults
  pub record IsFrame : Type 0 where
    pub identifier : id.0 ≤ max_bus_id
    pub low_dlc : dlc ≤ max_dlc
    pub exact : length ≡ bytes_of_dlc dlc
    pub wanted : bare ≡ true → dlc ≡ 0

  wanted_says : (b : Bool) → (b && not (eqb dlc 0)) ≡ false → b ≡ true → dlc ≡ 0
  wanted_says true e t = eqb-true dlc 0 (not-false _ e)
  wanted_says false e t = absurd (true≢false (sym t))

  wanted_back : (b : Bool) → (b ≡ true → dlc ≡ 0) → (b && not (eqb dlc 0)) ≡ false
  wanted_back true w = rw (eq-eqb dlc 0 (w refl))
  wanted_back false w = refl

  pub frame_bounds : Passes (frame_refusals bare id dlc length) → IsFrame
  frame_bounds (low, (low_dlc, (exact, (wanted, end)))) =
      record {
        identifier = ltb-false max_bus_id id.0 low;
        low_dlc = ltb-false max_dlc dlc low_dlc;
        exact = eqb-true length (bytes_of_dlc dlc) (not-false _ exact);
        wanted = wanted_says bare wanted;
      }

  pub frame_passes : IsFrame → Passes (frame_refusals bare id dlc length)
  frame_passes f =
      (le-ltb _ _ f.identifier, (le-ltb _ _ f.low_dlc, (rw (eq-eqb _ _ f.exact), (wanted_back bare f.wanted, tt))))

  pub frame_length : IsFrame → length ≤ max_payload
  frame_length f = omega (arith, f.exact)

  -- ── the reply of the test ──
  pub answers_so : {r : Reply} → Tested bare id dlc length r → reply_of (frame_refusals bare id dlc length) ≡ r
  answers_so (high_identifier h) = rw (lt-ltb max_bus_id id.0 h)
  answers_so (high_dlc low h) = rw (le-ltb max_bus_id id.0 low, lt-ltb max_dlc dlc h)
  answers_so (other_length low low_dlc h) = rw (le-ltb max_bus_id id.0 low, le-ltb max_dlc dlc low_dlc, ne_eqb length (bytes_of_dlc dlc) h)
  answers_so (unwanted low low_dlc exact b h) =
      rw (le-ltb max_bus_id id.0 low, le-ltb max_dlc dlc low_dlc, eq-eqb length (bytes_of_dlc dlc) exact, b, ne_eqb dlc 0 h)
  answers_so (faultless low low_dlc exact wanted) =
      reply_passed (frame_refusals bare id dlc length)
      (frame_passes (record { identifier = low; low_dlc = low_dlc; exact = exact; wanted = wanted }))

  pub tested : Tested bare id dlc length (reply_of (frame_refusals bare id dlc length))
  tested = go (ltb max_bus_id id.0) (ltb max_dlc dlc) (eqb length (bytes_of_dlc dlc)) bare (eqb dlc 0) refl refl refl refl refl
    where
      go : (a b c d e : Bool) → ltb max_bus_id id.0 ≡ a → ltb max_dlc dlc ≡ b → eqb length (bytes_of_dlc dlc) ≡ c → bare ≡ d → eqb dlc 0 ≡ e
          → Tested bare id dlc length (reply_of ((IdentifierTooBig, a) ∷ (DlcTooBig, b) ∷ (PayloadLength, not c) ∷ (UnwantedPayload, d && not e) ∷ []))
      go true b c d e p q r s t = high_identifier (ltb-true max_bus_id id.0 p)
      go false true c d e p q r s t = high_dlc (ltb-false _ _ p) (ltb-true max_dlc dlc q)
      go false false false d e p q r s t = other_length (ltb-false _ _ p) (ltb-false _ _ q) (eqb-false _ _ r)
      go false false true true false p q r s t = unwanted (ltb-false _ _ p) (ltb-false _ _ q) (eqb-true _ _ r) s (eqb-false _ _ t)
      go false false true true true p q r s t = faultless (ltb-false _ _ p) (ltb-false _ _ q) (eqb-true _ _ r) (λ w. eqb-true _ _ t)
      go false false true false e p q r s t = faultless (ltb-false _ _ p) (ltb-false _ _ q) (eqb-true _ _ r) (λ w. absurd (true≢false (sym w ∙ s)))

-- a frame whose DLC is its payload's length, as nodes give them out
pub own_frame : (bare : Bool) (id : BusId) (length : ℕ) → id.0 ≤ max_bus_id → length ≤ max_payload → (bare ≡ true → length ≡ 0)
    → IsFrame bare id length length
own_frame bare id length low short wanted = record { identifier = low; low_dlc = omega arith; exact = omega arith; wanted = wanted }

-- DLCs that mean as many bytes say the same; all from 8 to 15 do
none_or_both : (dlc other : ℕ) → bytes_of_dlc dlc ≡ bytes_of_dlc other → eqb dlc 0 ≡ eqb other 0
none_or_both zero zero e = refl
none_or_both zero (suc other) e = let z : ⊥ = omega arith in absurd z
none_or_both (suc dlc) zero e = let z : ⊥ = omega arith in absurd z
none_or_both (suc dlc) (suc other) e = ne_eqb (suc dlc) 0 (λ z. omega arith) ∙ sym (ne_eqb (suc other) 0 (λ z. omega arith))

pub equal_dlcs : (bare : Bool) (id : BusId) (dlc other length : ℕ) → dlc ≤ max_dlc → other ≤ max_dlc → bytes_of_dlc dlc ≡ bytes_of_dlc other
    → frame_refusals bare id dlc length ≡ frame_refusals bare id other length
equal_dlcs bare id dlc other length low low_too e = rw (le-ltb max_dlc dlc low, le-ltb max_dlc other low_too, e, none_or_both dlc other e)

pub equal_frames : (bare : Bool) (id : BusId) (dlc other length : ℕ) → IsFrame bare id dlc length → other ≤ max_dlc → bytes_of_dlc dlc ≡ bytes_of_dlc other
    → IsFrame bare id other length
equal_frames bare id dlc other length f low e =
    frame_bounds bare id other length (subst Passes (equal_dlcs bare id dlc other length f.low_dlc low e) (frame_passes bare id dlc length f))
