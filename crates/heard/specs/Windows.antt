-- Reading a recording through a window: a part of it that starts anywhere, while the bytes before it are gone and those beyond it have not come.
use Rattle.std.specs.Prelude.{ℕ, ◌+◌, ◌≤◌, ◌≡◌, ◌≢◌, ◌⊎◌, cond, List, [], ◌++◌, length}
use Rattle.wire.specs.Delivered.{AreBytes}
use Rattle.heard.specs.declared.reply.Reply.TheVariants.{CutRecord}
use Rattle.heard.specs.Replies.{Refused}
use Rattle.heard.specs.Reading.{HeardAt, heard_at}
use Rattle.heard.specs.Recordings.{record_in}

-- an answer whose places are counted from so many bytes further in front
abbrev pub moved : (by : ℕ) → HeardAt → HeardAt
moved by r =
    record {
      ok = r.ok;
      reply = r.reply;
      heard = r.heard;
      payload = cond r.ok (r.payload + by) 0;
      length = r.length;
      next = r.next + by;
    }

-- the answer of the window is that of the whole recording, and so are the record and its payload
pub record SameAnswer (gone window beyond : List ℕ) (at : ℕ) : Type 0 where
  pub answer : heard_at (gone ++ (window ++ beyond)) (at + length gone) ≡ moved (length gone) (heard_at window at)
  pub record_in_window :
      record_in (gone ++ (window ++ beyond)) (heard_at (gone ++ (window ++ beyond)) (at + length gone)) ≡ record_in window (heard_at window at)

-- every answer of a window counts but CutRecord, which counts where nothing comes any more
abbrev pub WindowAnswers : Type 0
WindowAnswers = (gone window beyond : List ℕ) (at : ℕ) → ((heard_at window at).reply ≢ Refused CutRecord) ⊎ (beyond ≡ []) → SameAnswer gone window beyond at

-- a length of two bytes says 65,535 at most: no window with that many bytes behind the length answers CutRecord
abbrev pub most_asked : ℕ
most_asked = 2 + 65535

abbrev pub EnoughIsNotCut : Type 0
EnoughIsNotCut = (window : List ℕ) (at : ℕ) → AreBytes window → at + most_asked ≤ length window → (heard_at window at).reply ≢ Refused CutRecord
