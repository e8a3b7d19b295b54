-- The stream records and the errors that are within the limits.
use Rattle.std.specs.Prelude.{◌≢◌, ℕ, ◌≤◌, ◌<◌, Bool, true, not, ◌&&◌, List, [], ◌∷◌, length, get_or, eqb, leb}
use Rattle.std.specs.List.{list_all}
use Rattle.wire.specs.Settings.{Between}
use Rattle.response.specs.declared.streams.StreamRecord.{StreamRecord}
use Rattle.response.specs.declared.streams.Errors.{Errors}

abbrev pub most : ℕ
most = 1000000

abbrev pub most_streams : ℕ
most_streams = 64

abbrev pub most_errors : ℕ
most_errors = 16

abbrev pub most_inaccessibility : ℕ
most_inaccessibility = 10000

-- what stands where no record does
abbrev pub blank : StreamRecord
blank = record { priority = 0; c = 0; t = 0; d = 0 }

abbrev pub in_range : ℕ → Bool
in_range n = leb 1 n && leb n most

unfoldable pub legal_record : StreamRecord → Bool
legal_record s = in_range s.priority && in_range s.c && in_range s.t && in_range s.d

unfoldable pub legal_errors : Errors → Bool
legal_errors e = leb e.n most_errors && in_range e.period && leb e.inaccessibility most_inaccessibility

-- no record of the list has this priority
unfoldable pub unused : (priority : ℕ) → List StreamRecord → Bool
unused p streams = list_all (λ (j : StreamRecord). not (eqb p j.priority)) streams

-- every number in range, and all priorities different
unfoldable pub legal_records : List StreamRecord → Bool
legal_records [] = true
legal_records (s ∷ streams) = legal_record s && unused s.priority streams && legal_records streams

unfoldable pub legal : List StreamRecord → Errors → Bool
legal streams errors = leb (length streams) most_streams && legal_errors errors && legal_records streams

-- what `legal` tells (proofs/Limits.antt), in words
pub record LegalRecord (s : StreamRecord) : Type 0 where
  pub priority : Between 1 s.priority most
  pub c : Between 1 s.c most
  pub t : Between 1 s.t most
  pub d : Between 1 s.d most

pub record LegalErrors (e : Errors) : Type 0 where
  pub n : e.n ≤ most_errors
  pub period : Between 1 e.period most
  pub inaccessibility : e.inaccessibility ≤ most_inaccessibility

-- the record at a place of the list
abbrev pub at : List StreamRecord → ℕ → StreamRecord
at streams k = get_or streams k blank

pub record LegalRecords (streams : List StreamRecord) : Type 0 where
  pub each : (k : ℕ) → k < length streams → LegalRecord (at streams k)
  pub different : (j k : ℕ) → j < k → k < length streams → (at streams j).priority ≢ (at streams k).priority

pub record Legal (streams : List StreamRecord) (e : Errors) : Type 0 where
  pub count : length streams ≤ most_streams
  pub errors : LegalErrors e
  pub records : LegalRecords streams
