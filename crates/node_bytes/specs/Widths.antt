-- Nodes whose numbers fit the widths of their fields, as those of the code do.
use Rattle.std.specs.Prelude.{ℕ, ◌<◌, ◌≡◌, length}
use Rattle.wire.specs.declared.settings.Settings.{Settings}
use Rattle.wire.specs.Frames.{max_payload}
use Rattle.node.specs.declared.slots.Message.{Message}
use Rattle.node.specs.declared.slots.Slot.{Slot}
use Rattle.node.specs.declared.Node.{Node}
use Rattle.node.specs.Nodes.{slot_count}
use Rattle.node.specs.Reachable.{All}

abbrev pub Fits8 : ℕ → Type 0
Fits8 n = n < 256

abbrev pub Fits16 : ℕ → Type 0
Fits16 n = n < 65536

abbrev pub Fits32 : ℕ → Type 0
Fits32 n = n < 4294967296

pub record SettingsFit (s : Settings) : Type 0 where
  pub role : Fits8 s.role
  pub class : Fits8 s.class
  pub rd : Fits16 s.rd
  pub dc : Fits16 s.dc
  pub ra : Fits16 s.ra
  pub dd : Fits16 s.dd

pub record MessageFits (m : Message) : Type 0 where
  pub stamp : Fits16 m.stamp
  pub len : Fits8 m.len
  pub eight_bytes : length m.bytes ≡ max_payload

pub record SlotFits (x : Slot) : Type 0 where
  pub stream : Fits32 x.stream.0
  pub settings : SettingsFit x.settings
  pub message : MessageFits x.message

pub record NodeFits (n : Node) : Type 0 where
  pub slots_32 : length n.slots ≡ slot_count
  pub each : All SlotFits n.slots
  pub counter : Fits16 n.counter
