-- A round of the recurrence over claims on the bus, and where the rounds end.
use mathlib.Core.Path.{◌≡◌, sym}
use mathlib.Core.List.{List}
use Prim.Native.Nat.{ℕ, ◌+◌, ◌≤◌, ◌<◌, max}
use native.Mathlib.Nat.{max-le}
use native.Mathlib.Omega.{arith}
use Rattle.response.specs.declared.claim.Claim.{Claim}
use Rattle.response.specs.Waiting.{least_from}
use Rattle.response.specs.Recurrence.{asked, solves_with, NoneBelow}
use Rattle.response.proofs.Claims.{asked_mono}
use Rattle.response.proofs.Solutions.{Below, least_is, least_is_room, passes_none, stops_at_one}

module _ (claims : List Claim) (blocking : ℕ) where
  abbrev right : ℕ → ℕ
  right w = blocking + asked claims w

  never_falls : (w v : ℕ) → w ≤ v → right w ≤ right v
  never_falls w v h = omega (arith, asked_mono claims w v h)

  abbrev None : ℕ → ℕ → Type 0
  None = NoneBelow claims blocking

  from_zero : (w : ℕ) → None 0 w → Below right w
  from_zero w none v e = none v (omega arith) e

  pub goes_on : (w far : ℕ) → None 0 w → None w far → None 0 (max (right w) far)
  goes_on w far none more v h e = max-le (passes_none right never_falls w (from_zero w none) v e) (more v (none v h e) e)

  pub ends_at : (w room : ℕ) → None 0 w → right w ≤ w → w < room → w ≡ least_from 0 room (solves_with claims blocking)
  unfolding solves_with
  ends_at w room none down less =
      sym (least_is right w room (from_zero w none) (stops_at_one right never_falls w (from_zero w none) down) less)

  pub ends_past : (w room : ℕ) → None 0 w → room ≤ w → room ≡ least_from 0 room (solves_with claims blocking)
  unfolding solves_with
  ends_past w room none past = sym (least_is_room right w room (from_zero w none) past)
