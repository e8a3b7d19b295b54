-- Joining and splitting undo each other for every legal value; the worked identifiers.
use mathlib.Core.Path.{◌≡◌, refl}
use Prim.Native.Nat.{ℕ, ◌+◌, ◌*◌, ◌/◌, ◌%◌, ◌≤◌, ◌<◌}
use mathlib.Core.Bool.{and-false}
use native.Mathlib.Omega.{arith}
use lib.Dec.{leb}
use borrow.Author.Tests.{le-leb, lt-leb}
use Rattle.wire.specs.declared.reply.Reply.TheVariants.{Done, BadSettings, BadFrame}
use Rattle.wire.specs.declared.ids.Stream.{Stream}
use Rattle.wire.specs.declared.ids.BusId.{BusId}
use Rattle.wire.specs.Identifiers.{max_stream, max_bus_id, max_code, stream_of, code_of, id_of, join, split}

-- an identifier has the stream and the code that it was made of, and is made of the stream and the code that it has
pub stream_of_id : (s : Stream) (code : ℕ) → code ≤ max_code → stream_of (id_of s code) ≡ s
stream_of_id s code small =
    let e : (s.0 * 4 + code) / 4 ≡ s.0 = omega arith in
    rw e

pub code_of_id : (s : Stream) (code : ℕ) → code ≤ max_code → code_of (id_of s code) ≡ code
code_of_id s code small = omega arith

pub id_of_parts : (i : BusId) → id_of (stream_of i) (code_of i) ≡ i
id_of_parts i =
    let e : i.0 / 4 * 4 + i.0 % 4 ≡ i.0 = omega arith in
    rw e

pub joined : (s : Stream) (code : ℕ) → s.0 ≤ max_stream → code ≤ max_code → join s code ≡ record { reply = Done; id = id_of s code }
unfolding join
joined s code low small = rw (le-leb _ _ low, le-leb _ _ small)

pub divided : (i : BusId) → i.0 ≤ max_bus_id → split i ≡ record { reply = Done; stream = stream_of i; code = code_of i }
unfolding split
divided i low = rw (le-leb _ _ low)

pub split_undoes_join : (s : Stream) (code : ℕ) → s.0 ≤ max_stream → code ≤ max_code
    → split (join s code).id ≡ record { reply = Done; stream = s; code = code }
split_undoes_join s code low small =
    rw (joined s code low small, divided (id_of s code) (omega arith), stream_of_id s code small, code_of_id s code small)

pub join_undoes_split : (i : BusId) → i.0 ≤ max_bus_id → join (split i).stream (split i).code ≡ record { reply = Done; id = i }
join_undoes_split i low =
    rw (divided i low, joined (stream_of i) (code_of i) (omega arith) (omega arith), id_of_parts i)

-- outside the limits both are refused
pub stream_refused : (s : Stream) (code : ℕ) → max_stream < s.0 → join s code ≡ record { reply = BadSettings; id = record { 0 = 0 } }
unfolding join
stream_refused s code high = rw (lt-leb _ _ high)

pub code_refused : (s : Stream) (code : ℕ) → max_code < code → join s code ≡ record { reply = BadSettings; id = record { 0 = 0 } }
unfolding join
code_refused s code high = rw (lt-leb _ _ high, and-false (leb s.0 max_stream))

pub id_refused : (i : BusId) → max_bus_id < i.0 → split i ≡ record { reply = BadFrame; stream = record { 0 = 0 }; code = 0 }
unfolding split
id_refused i high = rw (lt-leb _ _ high)

-- moment 8: the highest identifier splits, and the next is refused
pub moment_8_highest : split (record { 0 = 536870911 }) ≡ record { reply = Done; stream = record { 0 = 134217727 }; code = 3 }
unfolding split
moment_8_highest = refl

pub moment_8_next : split (record { 0 = 536870912 }) ≡ record { reply = BadFrame; stream = record { 0 = 0 }; code = 0 }
unfolding split
moment_8_next = refl

-- the rules paper's examples of joining
abbrev pub joins : (stream code id : ℕ) → Type 0
joins stream code id = join (record { 0 = stream }) code ≡ record { reply = Done; id = record { 0 = id } }

pub stream_5 : joins 5 0 20 × joins 5 1 21 × joins 5 2 22 × joins 5 3 23
unfolding join
stream_5 = (refl, refl, refl, refl)

pub highest_stream : joins 134217727 3 536870911
unfolding join
highest_stream = refl
