-- `solve` meets its contract: the times are as many numbers as are written.
use native.Mathlib.Omega.{arith}
use mathlib.Core.Path.{refl}
use Prim.Native.Nat.{ℕ}
use lib.ListN.{length-take}
use Rattle.response.proofs.Solving.{times_count}
use Rattle.response.proofs.lent.solve.Goals as goal

pub slice_bounds-copy_from_slice-end-3 : goal.slice_bounds-copy_from_slice-end-3
slice_bounds-copy_from_slice-end-3 c = rw (c.in_ok-times.ensures.ok.1, times_count) refl

pub copy_from_slice-requires : goal.copy_from_slice-requires
copy_from_slice-requires c = rw (c.in_ok-times.ensures.ok.1, times_count) (omega (arith, length-take {A = ℕ}))
