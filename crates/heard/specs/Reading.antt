-- Reading the heard record at a place of some bytes: the replies CutRecord, UnknownKind, BadRecordLength, in this order.
use Rattle.std.specs.Prelude.{ℕ, ◌+◌, ◌-◌, Bool, true, false, cond, not, ◌||◌, List, get_or, ltb}
use Rattle.wire.specs.Frames.{max_payload}
use Rattle.wire.specs.Delivered.{number_at, following, is_cut}
use Rattle.heard.specs.declared.reply.Reply as code
use Rattle.heard.specs.declared.reply.Reply.TheVariants.{CutRecord, UnknownKind, BadRecordLength}
use Rattle.heard.specs.Replies.{Reply, Done, Refused}
use Rattle.heard.specs.Kinds.{count_bytes, is_known, head_length}
use Rattle.heard.specs.Records.{Heard}

-- the record, or why there is none: then every number but `next` is 0
pub record HeardAt : Type 0 where
  pub ok : Bool
  pub reply : Reply
  pub heard : Heard
  -- where the payload starts, and how long it is
  pub payload : ℕ
  pub length : ℕ
  -- where the record ends and the next may start; of a record at fault, where it starts itself
  pub next : ℕ

-- no payload of at most eight bytes gives this length
abbrev pub bad_length : (kind n : ℕ) → Bool
bad_length kind n = ltb n (head_length kind) || ltb (head_length kind + max_payload) n

-- a payload that starts here, and the record that ends with it
abbrev pub found : Heard → (payload length : ℕ) → HeardAt
found h payload length = record { ok = true; reply = Done; heard = h; payload = payload; length = length; next = payload + length }

-- reading does not go past a record at fault
abbrev pub refused : code.Reply → (at : ℕ) → HeardAt
refused reply at =
    record {
      ok = false;
      reply = Refused reply;
      heard = record { kind = 0; count = 0; id = record { 0 = 0 }; dlc = 0 };
      payload = 0;
      length = 0;
      next = at;
    }

module _ (bytes : List ℕ) (at : ℕ) where
  abbrev pub kind_at : ℕ
  kind_at = number_at 2 bytes (2 + at)

  -- where the count ends, which stands behind length and kind
  abbrev pub count_end : ℕ
  count_end = 4 + count_bytes kind_at + at

  abbrev pub head_at : Heard
  head_at =
      record {
        kind = kind_at;
        count = number_at (count_bytes kind_at) bytes (4 + at);
        id = record { 0 = number_at 4 bytes count_end };
        dlc = get_or bytes (4 + count_end) 0;
      }

  unfoldable pub heard_at : HeardAt
  heard_at =
      cond (is_cut bytes at) (refused CutRecord at)
      (cond (not (is_known kind_at)) (refused UnknownKind at)
      (cond (bad_length kind_at (following bytes at)) (refused BadRecordLength at)
      (found head_at (5 + count_end) (following bytes at - head_length kind_at))))
