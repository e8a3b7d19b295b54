-- The records of a list, taken one by one from the front.
use mathlib.Core.Path.{◌≡◌, refl}
use mathlib.Core.Bool.{true, ◌&&◌, cond}
use mathlib.Core.List.{List, [], ◌∷◌}
use Prim.Native.Nat.{ℕ, ◌+◌, ◌-◌, ◌*◌, ◌≤◌, ◌<◌, max}
use native.Mathlib.Numerals.{add-one}
use lib.ListN.{length, take, drop, drop_of_length-le}
use lib.Seq.{drop-cons}
use Rattle.std.proofs.lemmas.List.{take_rest}
use Rattle.response.specs.declared.streams.StreamRecord.{StreamRecord}
use Rattle.response.specs.Streams.{at, blank, unused, legal_record, legal_records}
use Rattle.response.specs.Waiting.{ceiling, goes_before, blocking, interference}

module _ (streams : List StreamRecord) (k : ℕ) where
  module _ (less : k < length streams) where
    next : drop k streams ≡ at streams k ∷ drop (k + 1) streams
    next = rw (add-one k) (drop-cons streams k blank less)

    -- the record at the place, and those after it
    pub legal_records_from : legal_records (drop k streams)
        ≡ (legal_record (at streams k) && unused (at streams k).priority (take (length streams - (k + 1)) (drop (k + 1) streams))
        && legal_records (drop (k + 1) streams))
    unfolding legal_records
    legal_records_from = rw (next, take_rest streams (k + 1)) refl

    pub blocking_from : (s : StreamRecord) → blocking (drop k streams) s
        ≡ max (cond (goes_before s (at streams k)) (at streams k).c 0) (blocking (drop (k + 1) streams) s)
    unfolding blocking
    blocking_from s = rw next refl

    pub interference_from : (s : StreamRecord) (w : ℕ) → interference (drop k streams) s w
        ≡ cond (goes_before (at streams k) s) (ceiling (w + 1) (at streams k).t * (at streams k).c) 0 + interference (drop (k + 1) streams) s w
    unfolding interference
    interference_from s w = rw next refl

  -- past the end
  module _ (past : length streams ≤ k) where
    none : drop k streams ≡ []
    none = drop_of_length-le streams {i = k} past

    pub legal_records_past : legal_records (drop k streams) ≡ true
    unfolding legal_records
    legal_records_past = rw none refl

    pub blocking_past : (s : StreamRecord) → blocking (drop k streams) s ≡ 0
    unfolding blocking
    blocking_past s = rw none refl

    pub interference_past : (s : StreamRecord) (w : ℕ) → interference (drop k streams) s w ≡ 0
    unfolding interference
    interference_past s w = rw none refl
