-- Worked records: a table of what is read at places of some bytes, and one of what is written into outputs of bytes ee.
use Rattle.std.specs.Prelude.{ℕ, ◌≡◌, cond, List, [], ◌∷◌, ◌++◌, map, replicate}
use Rattle.wire.specs.Delivered.{over}
use Rattle.heard.specs.Replies.{number_of}
use Rattle.heard.specs.Records.{at_counter}
use Rattle.heard.specs.Reading.{heard_at}
use Rattle.heard.specs.Writing.{writing}
use Rattle.heard.specs.Recordings.{record_in}

-- data 0A 0B of stream 5, heard at 10
abbrev pub data_at10 : List ℕ
data_at10 = 0x0b ∷ 0x00 ∷ 0x20 ∷ 0x00 ∷ 0x0a ∷ 0x00 ∷ 0x14 ∷ 0x00 ∷ 0x00 ∷ 0x00 ∷ 0x02 ∷ 0x0a ∷ 0x0b ∷ []

-- length and kind, and so many bytes behind them
abbrev pub begins : (length kind : ℕ) → (bytes : ℕ) → List ℕ
begins length kind bytes = length ∷ 0x00 ∷ kind ∷ 0x00 ∷ replicate bytes 0x00

-- ── reading ──
pub data Shown : Type 0 where
  -- the record, and where it ends
  read : (counter id dlc : ℕ) → (payload : List ℕ) → (next : ℕ) → Shown
  -- the reply's number, and where the record at fault starts
  refused : (number at : ℕ) → Shown

abbrev pub shown_at : (bytes : List ℕ) → (at : ℕ) → Shown
shown_at bytes at =
    let r = heard_at bytes at in
    cond r.ok (read r.heard.count r.heard.id.0 r.heard.dlc (record_in bytes r).1 r.next) (refused (number_of r.reply) r.next)

pub record ReadRow : Type 0 where
  pub bytes : List ℕ
  pub at : ℕ
  pub shown : Shown

abbrev row : (bytes : List ℕ) → (at : ℕ) → Shown → ReadRow
row bytes at shown = record { bytes = bytes; at = at; shown = shown }

unfoldable pub read_rows : List ReadRow
read_rows =
    -- at the front, behind other bytes, and before others
    row data_at10 0 (read 10 20 2 (0x0a ∷ 0x0b ∷ []) 13) ∷
    row (0xff ∷ 0xff ∷ data_at10 ++ data_at10) 2 (read 10 20 2 (0x0a ∷ 0x0b ∷ []) 15) ∷
    -- counter, bus identifier and DLC as high as they go
    row (0x09 ∷ 0x00 ∷ 0x20 ∷ 0x00 ∷ replicate 7 0xff) 0 (read 65535 4294967295 255 [] 11) ∷
    -- a length of 9 to 17
    row (begins 8 32 15) 0 (refused 17 0) ∷
    row (begins 9 32 15) 0 (read 0 0 0 [] 11) ∷
    row (begins 17 32 15) 0 (read 0 0 0 (replicate 8 0) 19) ∷
    row (begins 18 32 16) 0 (refused 17 0) ∷
    -- fewer than four bytes left, also at the end and past it; fewer than the length says
    row [] 0 (refused 15 0) ∷
    row data_at10 10 (refused 15 10) ∷
    row data_at10 13 (refused 15 13) ∷
    row data_at10 14 (refused 15 14) ∷
    row (begins 17 32 14) 0 (refused 15 0) ∷
    -- the longest record's bytes are not enough to tell whether a longer one is cut
    row (begins 18 32 15) 0 (refused 15 0) ∷
    -- the kind is told before the length, and both behind what is cut
    row (0x00 ∷ 0x00 ∷ 0x1f ∷ 0x00 ∷ []) 0 (refused 16 0) ∷
    row (0x00 ∷ 0x00 ∷ 0x20 ∷ 0x00 ∷ []) 0 (refused 17 0) ∷
    row (0x03 ∷ 0x00 ∷ 0x1f ∷ 0x00 ∷ []) 0 (refused 15 0) ∷
    row (begins 11 33 9) 0 (refused 16 0) ∷
    []

abbrev pub ReadAsWorked : Type 0
ReadAsWorked = map (λ (r : ReadRow). shown_at r.bytes r.at) read_rows ≡ map (λ (r : ReadRow). r.shown) read_rows

-- ── writing ──
abbrev pub ee : (length : ℕ) → List ℕ
ee length = replicate length 0xee

pub record WriteRow : Type 0 where
  pub counter : ℕ
  pub id : ℕ
  pub dlc : ℕ
  pub payload : List ℕ
  -- how long the output is
  pub room : ℕ
  -- the reply's number, and the output afterwards
  pub number : ℕ
  pub output : List ℕ

abbrev write : (counter id dlc : ℕ) → (payload : List ℕ) → (room number : ℕ) → (output : List ℕ) → WriteRow
write counter id dlc payload room number output =
    record { counter = counter; id = id; dlc = dlc; payload = payload; room = room; number = number; output = output }

unfoldable pub write_rows : List WriteRow
write_rows =
    write 10 20 2 (0x0a ∷ 0x0b ∷ []) 15 0 (data_at10 ++ ee 2) ∷
    write 10 20 2 (0x0a ∷ 0x0b ∷ []) 13 0 data_at10 ∷
    write 10 20 2 (0x0a ∷ 0x0b ∷ []) 12 11 (ee 12) ∷
    write 65535 4294967295 255 [] 11 0 (0x09 ∷ 0x00 ∷ 0x20 ∷ 0x00 ∷ replicate 7 0xff) ∷
    write 0 0 0 (replicate 8 0) 19 0 (begins 17 32 15) ∷
    -- a payload above eight bytes is told before an output that is too short
    write 0 0 0 (replicate 9 0) 64 17 (ee 64) ∷
    write 0 0 0 (replicate 9 0) 0 17 [] ∷
    []

-- the reply's number, and the output
abbrev pub shown_by : WriteRow → ℕ × List ℕ
shown_by r =
    let w = writing (at_counter r.counter (record { 0 = r.id }) r.dlc) r.payload (ee r.room) in
    (number_of w.reply, over w.bytes (ee r.room))

abbrev pub WrittenAsWorked : Type 0
WrittenAsWorked = map shown_by write_rows ≡ map (λ (r : WriteRow). (r.number, r.output)) write_rows
