-- Bytes copied over others, one after the other.
use Rattle.std.proofs.Common.{◌≡◌, ℕ, ◌+◌, ◌<◌, min, List, [], ◌++◌, length, take, drop, set, get_or, add-one, zero-add, arith, length-take, take_all, drop_of_length-le}
use lib.Seq.{paste-suc}
use Rattle.std.proofs.lemmas.List.{take_min, append-nil}
use Rattle.wire.specs.Delivered.{over}

-- the first i bytes are copied
abbrev pub copied : (out from : List ℕ) (i : ℕ) → List ℕ
copied out from i = take i from ++ drop i out

pub copy_next : (out from : List ℕ) (i : ℕ) → i < length from → i < length out
    → set (copied out from i) i (get_or from i 0) ≡ copied out from (i + 1)
copy_next out from i here room = rw add-one (simp zero-add at (paste-suc out 0 from i 0 (omega arith) here))

-- once as many are as both have, the front of the output is what was to be copied
pub all_copied : (out from : List ℕ) (i : ℕ) → i ≡ min (length out) (length from) → copied out from i ≡ over (take (length out) from) out
all_copied out from i e =
    let long : length (take (length out) from) ≡ i = omega (arith, length-take (length out) from) in
    let front : take i from ≡ take (length out) from = rw e (take_min (length out) from) in
    rw (long, front)

-- of as many bytes as the output has, it is all
pub copied_whole : (out from : List ℕ) → length out ≡ length from → over (take (length out) from) out ≡ from
copied_whole out from e =
    let front : take (length out) from ≡ from = take_all (length out) from (omega arith) in
    let nothing : drop (length from) out ≡ [] = drop_of_length-le out (omega arith) in
    rw (front, nothing) (append-nil from)
