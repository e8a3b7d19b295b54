-- Joining a stream number and a code to a bus identifier, and splitting it.
use Rattle.std.specs.Prelude.{ℕ, ◌+◌, ◌*◌, ◌/◌, ◌%◌, cond, ◌&&◌, leb}
use Rattle.wire.specs.declared.reply.Reply.{Reply}
use Rattle.wire.specs.declared.reply.Reply.TheVariants.{Done, BadSettings, BadFrame}
use Rattle.wire.specs.declared.ids.Stream.{Stream}
use Rattle.wire.specs.declared.ids.BusId.{BusId}

-- a stream number has 27 bits, a bus identifier 29
abbrev pub max_stream : ℕ
max_stream = 134217727

abbrev pub max_bus_id : ℕ
max_bus_id = 536870911

-- 0 data, 1 confirmation, 2 abort, 3 plain
abbrev pub max_code : ℕ
max_code = 3

abbrev pub stream_of : BusId → Stream
stream_of i = record { 0 = i.0 / 4 }

abbrev pub code_of : BusId → ℕ
code_of i = i.0 % 4

abbrev pub id_of : Stream → ℕ → BusId
id_of s code = record { 0 = s.0 * 4 + code }

-- a reply, and what comes with it where it is Done
pub record Joined : Type 0 where
  pub reply : Reply
  pub id : BusId

pub record Parts : Type 0 where
  pub reply : Reply
  pub stream : Stream
  pub code : ℕ

unfoldable pub join : Stream → ℕ → Joined
join s code =
    cond (leb s.0 max_stream && leb code max_code)
    (record { reply = Done; id = id_of s code })
    (record { reply = BadSettings; id = record { 0 = 0 } })

unfoldable pub split : BusId → Parts
split i =
    cond (leb i.0 max_bus_id)
    (record { reply = Done; stream = stream_of i; code = code_of i })
    (record { reply = BadFrame; stream = record { 0 = 0 }; code = 0 })
