-- The ways to each answer of the reader and of the writer.
use mathlib.Core.Path.{◌≡◌}
use mathlib.Core.Bool.{or-true}
use mathlib.Core.List.{List}
use Prim.Native.Nat.{ℕ, ◌+◌, ◌-◌, ◌≤◌, ◌<◌}
use borrow.Author.Tests.{lt-ltb, le-ltb}
use lib.ListN.{length}
use lib.Dec.{ltb}
use Rattle.wire.specs.Frames.{max_payload}
use Rattle.wire.specs.Delivered.{following}
use Rattle.heard.specs.declared.reply.Reply.TheVariants.{ShortOutput, CutRecord, UnknownKind, BadRecordLength}
use Rattle.heard.specs.Replies.{Done}
use Rattle.heard.specs.Kinds.{count_bytes, head_length}
use Rattle.heard.specs.Records.{Heard, record_of}
use Rattle.heard.specs.Reading.{found, refused, kind_at, count_end, head_at, heard_at}
use Rattle.heard.specs.Writing.{not_written, writing}

-- ── reading ──
module _ (bytes : List ℕ) (at : ℕ) where
  pub no_head : length bytes - at < 4 → refused CutRecord at ≡ heard_at bytes at
  unfolding heard_at
  no_head h = rw (lt-ltb _ _ h)

  pub no_body : length bytes - at < 2 + following bytes at → refused CutRecord at ≡ heard_at bytes at
  unfolding heard_at
  no_body h = rw (lt-ltb (length bytes - at) (2 + following bytes at) h, or-true (ltb (length bytes - at) 4))

  module _ (head : 4 ≤ length bytes - at) (body : 2 + following bytes at ≤ length bytes - at) where
    pub unknown_kind : count_bytes (kind_at bytes at) ≤ 0 → refused UnknownKind at ≡ heard_at bytes at
    unfolding heard_at
    unknown_kind h = rw (le-ltb (length bytes - at) 4 head, le-ltb _ _ body, le-ltb 0 (count_bytes (kind_at bytes at)) h)

    module _ (known : 0 < count_bytes (kind_at bytes at)) where
      pub too_short : following bytes at < head_length (kind_at bytes at) → refused BadRecordLength at ≡ heard_at bytes at
      unfolding heard_at
      too_short h =
          rw (
            le-ltb (length bytes - at) 4 head,
            le-ltb _ _ body,
            lt-ltb 0 (count_bytes (kind_at bytes at)) known,
            lt-ltb (following bytes at) (head_length (kind_at bytes at)) h,
          )

      pub too_long : head_length (kind_at bytes at) + max_payload < following bytes at → refused BadRecordLength at ≡ heard_at bytes at
      unfolding heard_at
      too_long h =
          rw (
            le-ltb (length bytes - at) 4 head,
            le-ltb _ _ body,
            lt-ltb 0 (count_bytes (kind_at bytes at)) known,
            lt-ltb (head_length (kind_at bytes at) + max_payload) (following bytes at) h,
            or-true (ltb (following bytes at) (head_length (kind_at bytes at))),
          )

      pub whole : head_length (kind_at bytes at) ≤ following bytes at → following bytes at ≤ head_length (kind_at bytes at) + max_payload
          → found (head_at bytes at) (5 + count_end bytes at) (following bytes at - head_length (kind_at bytes at)) ≡ heard_at bytes at
      unfolding heard_at
      whole low high =
          rw (
            le-ltb (length bytes - at) 4 head,
            le-ltb _ _ body,
            lt-ltb 0 (count_bytes (kind_at bytes at)) known,
            le-ltb (following bytes at) (head_length (kind_at bytes at)) low,
            le-ltb (head_length (kind_at bytes at) + max_payload) (following bytes at) high,
          )

-- ── writing ──
module _ (h : Heard) (payload output : List ℕ) where
  pub above_eight : max_payload < length payload → writing h payload output ≡ not_written BadRecordLength
  unfolding writing
  above_eight long = rw (lt-ltb max_payload (length payload) long)

  module _ (short : length payload ≤ max_payload) where
    pub no_room : length output < length (record_of h payload) → writing h payload output ≡ not_written ShortOutput
    unfolding writing
    no_room small = rw (le-ltb max_payload (length payload) short, lt-ltb (length output) (length (record_of h payload)) small)

    pub writes : length (record_of h payload) ≤ length output → writing h payload output ≡ record { reply = Done; bytes = record_of h payload }
    unfolding writing
    writes room = rw (le-ltb max_payload (length payload) short, le-ltb (length output) (length (record_of h payload)) room)
