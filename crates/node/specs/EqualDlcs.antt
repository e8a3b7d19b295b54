-- DLC 8 to 15 are one to a node, since each means eight bytes: they are answered alike, what is held of them has the length 8, and the same
-- bytes under any two of them are duplicates.
use Rattle.std.specs.Prelude.{◌≡◌, ℕ, ◌≤◌, List}
use Rattle.wire.specs.declared.ids.Stream.{Stream}
use Rattle.wire.specs.declared.ids.BusId.{BusId}
use Rattle.wire.specs.declared.reply.Reply.TheVariants.{Done}
use Rattle.wire.specs.Identifiers.{stream_of, code_of}
use Rattle.wire.specs.Frames.{max_dlc, bytes_of_dlc}
use Rattle.node.specs.declared.Node.{Node}
use Rattle.node.specs.Slots.{restamped, with_message}
use Rattle.node.specs.Nodes.{slot_of, Outcome}
use Rattle.node.specs.Hear.{hear}

-- DLCs that mean as many bytes have the same outcome, whatever the payload
abbrev pub HeardAlike : Type 0
HeardAlike =
    (id : BusId) (dlc other : ℕ) (payload output : List ℕ) (n : Node) → dlc ≤ max_dlc → other ≤ max_dlc → bytes_of_dlc dlc ≡ bytes_of_dlc other
    → hear id dlc payload output n ≡ hear id other payload output n

-- data that was taken is held with the length that its DLC means
abbrev pub HeldAsMeant : Type 0
HeldAsMeant =
    (id : BusId) (dlc : ℕ) (payload output : List ℕ) (n : Node) → code_of id ≡ 0 → (hear id dlc payload output n).reply ≡ Done
    → (slot_of (stream_of id) (hear id dlc payload output n).node).message.len ≡ bytes_of_dlc dlc

-- a duplicate is taken, and of the slot it changes the stamp alone, to the counter
pub record Duplicate (s : Stream) (n : Node) (o : Outcome) : Type 0 where
  pub reply : o.reply ≡ Done
  pub slot : slot_of s o.node ≡ with_message (restamped n.counter (slot_of s n).message) (slot_of s n)

-- data that was taken, heard again with a DLC that means as many bytes
abbrev pub HeardAgain : Type 0
HeardAgain =
    (id : BusId) (dlc other : ℕ) (payload output : List ℕ) (n : Node) → code_of id ≡ 0 → (hear id dlc payload output n).reply ≡ Done
    → other ≤ max_dlc → bytes_of_dlc dlc ≡ bytes_of_dlc other
    → let then = (hear id dlc payload output n).node in Duplicate (stream_of id) then (hear id other payload output then)
