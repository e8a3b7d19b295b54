-- A worked history on a lent node: stream 5 is set up to send, 0A 0B is requested, the data frame is given out, and a tick comes.
use Rattle.std.specs.Prelude.{ℕ, List, [], ◌∷◌, ◌++◌, replicate}
use Rattle.wire.specs.declared.reply.Reply.TheVariants.{Done}
use Rattle.node.specs.Told.{silent}
use Rattle.node.specs.Nodes.{no_id}
use Rattle.node.specs.Calls.{Call, Answer}
use Rattle.node.specs.Moments.{five, send, settings, request₅, next, one_tick}
use Rattle.node_bytes.specs.Layout.{node_size}
use Rattle.node_bytes.specs.Lent.{fresh_in}
use Rattle.node_bytes.specs.LentHistories.{Run, no_node}

abbrev pub sent : List Call
sent = Call.set_up five (settings send 6) ∷ request₅ ∷ next ∷ one_tick ∷ []

abbrev done : Answer
done = record { reply = Done; id = no_id; bytes = []; report = silent }

-- the data frame has identifier 20
abbrev pub sent_seen : List Answer
sent_seen = done ∷ done ∷ record { reply = Done; id = record { 0 = 20 }; bytes = 0x0a ∷ 0x0b ∷ []; report = silent } ∷ done ∷ []

-- a node with one slot, that of stream 5
abbrev one_slot : (key state message : List ℕ) → (counter : ℕ) → List ℕ
one_slot key state message counter =
    key ++ state
    -- data reach 2, confirm delay 3, abort reach 2, deliver delay 6
    ++ 0x02 ∷ 0x00 ∷ 0x03 ∷ 0x00 ∷ 0x02 ∷ 0x00 ∷ 0x06 ∷ 0x00 ∷ []
    ++ message ++ replicate 992 0x00 ++ counter ∷ 0x00 ∷ []

-- stream, used, held, stamp
abbrev key : (held : ℕ) → List ℕ
key held = 0x05 ∷ 0x00 ∷ 0x00 ∷ 0x00 ∷ 0x01 ∷ held ∷ 0x00 ∷ 0x00 ∷ []

-- payload, confirmation and abort pending, confirmed, length, role, class, nothing
abbrev state : (payload confirmation len : ℕ) → List ℕ
state payload confirmation len = payload ∷ confirmation ∷ 0x00 ∷ 0x00 ∷ len ∷ 0x01 ∷ 0x02 ∷ 0x00 ∷ []

abbrev message : List ℕ
message = 0x0a ∷ 0x0b ∷ 0x00 ∷ 0x00 ∷ 0x00 ∷ 0x00 ∷ 0x00 ∷ 0x00 ∷ []

-- the bytes after each of the calls
abbrev pub after_set_up : List ℕ
after_set_up = one_slot (key 0) (state 0 0 0) (replicate 8 0x00) 0

abbrev pub after_request : List ℕ
after_request = one_slot (key 1) (state 1 1 2) message 0

abbrev pub after_frame : List ℕ
after_frame = one_slot (key 1) (state 0 1 2) message 0

abbrev pub after_tick : List ℕ
after_tick = one_slot (key 1) (state 0 1 2) message 1

pub record WorkedHistory : Type 0 where
  pub run : Run (fresh_in (replicate node_size 0xff)) sent sent_seen after_tick
  -- the same calls on a buffer that is one byte short
  pub short : Run (fresh_in (replicate 1025 0xff)) sent (no_node ∷ no_node ∷ no_node ∷ no_node ∷ []) (replicate 1025 0xff)
