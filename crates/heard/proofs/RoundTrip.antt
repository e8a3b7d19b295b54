-- What was written is read.
use mathlib.Core.Path.{◌≡◌, refl, sym, ap, ◌∙◌}
use mathlib.Core.List.{List, [], ◌∷◌, ◌++◌, append_assoc, append-nil}
use Prim.Native.Nat.{ℕ, zero, suc, ◌+◌, ◌-◌, ◌/◌, ◌%◌, ◌^◌, ◌≤◌, ◌<◌}
use native.Mathlib.Nat.{pow-suc}
use native.Mathlib.Omega.{arith}
use borrow.Author.Tests.{le-leb, lt-leb}
use lib.ListN.{length, get_or, take, drop, length-append}
use lib.Seq.{take-append_seam, drop-append-add}
use Rattle.wire.specs.Delivered.{little_endian, number_at, following}
use Rattle.wire.proofs.Reading.{behind, number_behind, number_here}
use Rattle.heard.specs.Replies.{Done}
use Rattle.heard.specs.Kinds.{count_bytes, head_length}
use Rattle.heard.specs.Records.{Heard, record_of}
use Rattle.heard.specs.Reading.{HeardAt, found, kind_at, head_at, heard_at}
use Rattle.heard.specs.Recordings.{Record, recording_of, stopped, read_from}
use Rattle.heard.specs.RoundTrip.{Writable, AllWritable, EveryFrameWritable, RoundTrip, read_whole, RoundTripOfMany}
use Rattle.heard.proofs.Numbers.{four_at_most}
use Rattle.heard.proofs.Storing.{length_number, record_length_law, width, size, kind, count, id}
use Rattle.heard.proofs.Ways.{whole}

-- a number is read from its bytes, whatever follows them
number_back : (k n : ℕ) (rest : List ℕ) → n < 256 ^ k → number_at k (little_endian k n ++ rest) 0 ≡ n
number_back zero n rest small = omega arith
number_back (suc k) n rest small =
    let less : n / 256 < 256 ^ k = omega (arith, pow-suc 256 k) in
    let others : number_at k (n % 256 ∷ (little_endian k (n / 256) ++ rest)) 1 ≡ n / 256 =
    number_behind k (n % 256 ∷ []) (little_endian k (n / 256) ++ rest) 0 ∙ number_back k (n / 256) rest less in
    rw others (omega arith)

-- behind other bytes
number_there : (before rest : List ℕ) (k n at : ℕ) → at ≡ length before → n < 256 ^ k → number_at k (before ++ (little_endian k n ++ rest)) at ≡ n
number_there before rest k n at e small = rw e (number_here k before (little_endian k n ++ rest) ∙ number_back k n rest small)

-- ── one record ──
pub every_frame_writable : EveryFrameWritable
unfolding count_bytes
every_frame_writable counter id dlc payload c i short = record { known = omega arith; kind = omega arith; count = c; id = i; short = short }

module _ (before rest : List ℕ) (h : Heard) (payload : List ℕ) (w : Writable (h, payload)) where
  abbrev n : ℕ
  n = width h payload

  -- length and kind, and the count too
  abbrev to_kind : List ℕ
  to_kind = size h payload ++ kind h payload

  abbrev to_count : List ℕ
  to_count = to_kind ++ count h payload

  abbrev at : ℕ
  at = length before

  abbrev all : List ℕ
  all = before ++ (record_of h payload ++ rest)

  all_length : length all ≡ at + (9 + n + length payload) + length rest
  all_length = omega (arith, length-append before (record_of h payload ++ rest), length-append (record_of h payload) rest, record_length_law h payload)

  parted : record_of h payload ++ rest ≡ to_kind ++ (count h payload ++ (id h payload ++ h.dlc ∷ (payload ++ rest)))
  unfolding record_of
  parted = simp append_assoc

  follows : following all at ≡ head_length h.kind + length payload
  follows = number_here 2 before (record_of h payload ++ rest) ∙ rw parted (omega (arith, four_at_most h.kind))

  of_kind : kind_at all at ≡ h.kind
  of_kind = number_behind 2 before (record_of h payload ++ rest) 2 ∙ rw parted (omega arith)

  of_count : number_at n all (4 + at) ≡ h.count
  of_count =
      number_behind n before (record_of h payload ++ rest) 4
      ∙ rw parted (number_there to_kind (id h payload ++ h.dlc ∷ (payload ++ rest)) n h.count 4 refl w.count)

  -- behind the count
  parted_there : record_of h payload ++ rest ≡ to_count ++ (id h payload ++ h.dlc ∷ (payload ++ rest))
  parted_there = parted ∙ simp append_assoc

  to_there : length to_count ≡ 4 + n
  to_there = omega (arith, length-append to_kind (count h payload), length_number n h.count)

  of_id : number_at 4 all (4 + n + at) ≡ h.id.0
  of_id =
      number_behind 4 before (record_of h payload ++ rest) (4 + n)
      ∙ rw parted_there (number_there to_count (h.dlc ∷ (payload ++ rest)) 4 h.id.0 (4 + n) (sym to_there) w.id)

  of_dlc : get_or all (4 + (4 + n + at)) 0 ≡ h.dlc
  of_dlc =
      let e : 4 + (4 + n + at) ≡ 4 + length to_count + at = omega (arith, to_there) in
      rw e (behind before (record_of h payload ++ rest) (4 + length to_count)
      ∙ rw parted_there (behind to_count (id h payload ++ h.dlc ∷ (payload ++ rest)) 4))

  of_head : head_at all at ≡ h
  of_head = rw (of_kind, of_count, of_id, of_dlc)

  of_payload : take (length payload) (drop (5 + (4 + n + at)) all) ≡ payload
  of_payload =
      let e : 5 + (4 + n + at) ≡ at + (length to_count + 5) = omega (arith, to_there) in
      rw (
        e,
        drop-append-add before (record_of h payload ++ rest) (length to_count + 5),
        parted_there,
        drop-append-add to_count (id h payload ++ h.dlc ∷ (payload ++ rest)) 5,
      )
      (take-append_seam payload rest)

  pub read_back : heard_at all at ≡ found h (5 + (4 + n + at)) (length payload)
  read_back =
      let long : head_length h.kind + length payload - head_length h.kind ≡ length payload = omega arith in
      let known : 0 < count_bytes (kind_at all at) = rw of_kind w.known in
      sym (whole all at (omega (arith, all_length)) (omega (arith, all_length, follows)) known
      (rw of_kind (omega (arith, follows))) (rw of_kind (omega (arith, follows))))
      ∙ rw (of_head, of_kind, follows, long)

pub round_trip : RoundTrip
round_trip before rest (h, payload) w =
    let back = read_back before rest h payload w in
    record {
      ok = ap (λ (r : HeardAt). r.ok) back;
      gives = rw back (ap (λ (l : List ℕ). (h, l)) (of_payload before rest h payload w));
      goes_on = ap (λ (r : HeardAt). r.next) back ∙ omega (arith, record_length_law h payload);
    }

-- ── many ──
-- from the end on nothing is read
nothing_left : (most : ℕ) (bytes : List ℕ) → read_from most bytes (length bytes) ≡ stopped Done (length bytes)
nothing_left zero bytes = refl
nothing_left (suc most) bytes = rw (le-leb (length bytes) (length bytes) (omega arith))

records_behind : (most : ℕ) (records : List Record) → AllWritable records → length (recording_of records) ≤ most → (before : List ℕ)
    → read_from most (before ++ recording_of records) (length before) ≡ read_whole records (length (before ++ recording_of records))
records_behind most [] all enough before = rw append-nil (nothing_left most before)
records_behind zero ((h, payload) ∷ records) all enough before =
    absurd (omega (arith, length-append (record_of h payload) (recording_of records), record_length_law h payload))
records_behind (suc most) ((h, payload) ∷ records) (w, others) enough before =
    let rest = recording_of records in
    let long = record_length_law h payload in
    let f = round_trip before rest (h, payload) w in
    let more : length before < length (before ++ (record_of h payload ++ rest)) =
    omega (arith, length-append before (record_of h payload ++ rest), length-append (record_of h payload) rest) in
    let on : length before + length (record_of h payload) ≡ length (before ++ record_of h payload) = sym (length-append before (record_of h payload)) in
    rw (
      lt-leb _ _ more,
      f.ok,
      f.gives,
      f.goes_on,
      on,
      ← append_assoc before (record_of h payload) rest,
      records_behind most records others (omega (arith, length-append (record_of h payload) rest)) (before ++ record_of h payload),
    )

pub round_trip_of_many : RoundTripOfMany
round_trip_of_many records all = records_behind (length (recording_of records)) records all (omega arith) []
