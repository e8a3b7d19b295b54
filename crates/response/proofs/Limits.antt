-- The test of a list is true exactly where every number is within its limits and all priorities are different.
use mathlib.Core.Path.{◌≡◌, refl}
use mathlib.Core.Bool.{true}
use mathlib.Core.Logic.{◌≢◌}
use mathlib.Core.List.{List, [], ◌∷◌}
use Prim.Native.Nat.{ℕ, zero, suc, ◌<◌}
use native.Mathlib.Nat.{not-suc-le-zero, le_of_suc-le-suc}
use native.Mathlib.Omega.{arith}
use lib.ListN.{length}
use Rattle.wire.specs.Tells.{Tells, at_most, different, in_words, ◌and◌}
use Rattle.wire.specs.Settings.{Between}
use Rattle.response.specs.declared.streams.StreamRecord.{StreamRecord}
use Rattle.response.specs.declared.streams.Errors.{Errors}
use Rattle.response.specs.Streams.{most, most_streams, most_errors, most_inaccessibility}
use Rattle.response.specs.Streams.{in_range, legal_record, legal_errors, unused, legal_records, legal, at}
use Rattle.response.specs.Streams.{LegalRecord, LegalErrors, LegalRecords, Legal}

in_range_law : (n : ℕ) → Tells (in_range n) (Between 1 n most)
in_range_law n = at_most 1 n and at_most n most

pub record_tells : (s : StreamRecord) → Tells (legal_record s) (LegalRecord s)
unfolding legal_record
record_tells s =
    in_words
    (λ (((p, c), t), d). record { priority = p; c = c; t = t; d = d })
    (λ h. (((h.priority, h.c), h.t), h.d))
    (in_range_law s.priority and in_range_law s.c and in_range_law s.t and in_range_law s.d)

pub errors_tell : (e : Errors) → Tells (legal_errors e) (LegalErrors e)
unfolding legal_errors
errors_tell e =
    in_words
    (λ ((n, period), time). record { n = n; period = period; inaccessibility = time })
    (λ h. ((h.n, h.period), h.inaccessibility))
    (at_most e.n most_errors and in_range_law e.period and at_most e.inaccessibility most_inaccessibility)

-- a priority that no record has
abbrev Unused : ℕ → List StreamRecord → Type 0
Unused p streams = (k : ℕ) → k < length streams → p ≢ (at streams k).priority

unused_tells : (p : ℕ) (streams : List StreamRecord) → Tells (unused p streams) (Unused p streams)
unfolding unused
unused_tells p [] = record { says = λ e k h. absurd (not-suc-le-zero h); back = λ h. refl }
unused_tells p (j ∷ streams) =
    in_words here_and_later (λ h. (h 0 (omega arith), λ k l. h (suc k) (omega arith))) (different p j.priority and unused_tells p streams)
  where
    here_and_later : (p ≢ j.priority) × Unused p streams → Unused p (j ∷ streams)
    here_and_later (here, later) zero h = here
    here_and_later (here, later) (suc k) h = later k (le_of_suc-le-suc h)

pub records_tell : (streams : List StreamRecord) → Tells (legal_records streams) (LegalRecords streams)
unfolding legal_records
records_tell [] = record {
  says = λ e. record { each = λ k h. absurd (not-suc-le-zero h); different = λ j k l h. absurd (not-suc-le-zero h) };
  back = λ h. refl;
}
records_tell (s ∷ streams) =
    in_words (λ ((one, alone), rest). record { each = each one rest; different = apart alone rest })
    (λ h. ((h.each 0 (omega arith), λ k l. h.different 0 (suc k) (omega arith) (omega arith)), later h))
    (record_tells s and unused_tells s.priority streams and records_tell streams)
  where
    each : LegalRecord s → LegalRecords streams → (k : ℕ) → k < suc (length streams) → LegalRecord (at (s ∷ streams) k)
    each one rest zero h = one
    each one rest (suc k) h = rest.each k (le_of_suc-le-suc h)

    apart : Unused s.priority streams → LegalRecords streams → (j k : ℕ) → j < k → k < suc (length streams)
        → (at (s ∷ streams) j).priority ≢ (at (s ∷ streams) k).priority
    apart alone rest j zero l h = absurd (not-suc-le-zero l)
    apart alone rest zero (suc k) l h = alone k (le_of_suc-le-suc h)
    apart alone rest (suc j) (suc k) l h = rest.different j k (le_of_suc-le-suc l) (le_of_suc-le-suc h)

    later : LegalRecords (s ∷ streams) → LegalRecords streams
    later h = record { each = λ k l. h.each (suc k) (omega arith); different = λ j k l m. h.different (suc j) (suc k) (omega arith) (omega arith) }

pub legal_tells : (streams : List StreamRecord) (errors : Errors) → Tells (legal streams errors) (Legal streams errors)
unfolding legal
legal_tells streams errors =
    in_words
    (λ ((count, errors), records). record { count = count; errors = errors; records = records })
    (λ h. ((h.count, h.errors), h.records))
    (at_most (length streams) most_streams and errors_tell errors and records_tell streams)

pub legal_says : (streams : List StreamRecord) (errors : Errors) → legal streams errors ≡ true → Legal streams errors
legal_says streams errors = (legal_tells streams errors).says
