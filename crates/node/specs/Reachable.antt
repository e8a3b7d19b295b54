-- What every node keeps that calls made from the fresh one, ticks being counted without bound.
use Rattle.std.specs.Prelude.{◌≡◌, ℕ, ◌-◌, ◌<◌, ◌≤◌, true, false, cond, not, ◌&&◌, List, [], ◌∷◌, length}
use Rattle.wire.specs.declared.settings.Settings.{Settings}
use Rattle.wire.specs.Settings.{receives, sends, is_plain, is_two_message, legal}
use Rattle.wire.specs.Frames.{max_payload}
use Rattle.node.specs.declared.slots.Message.{Message}
use Rattle.node.specs.declared.slots.Pending.{Pending}
use Rattle.node.specs.declared.slots.Slot.{Slot}
use Rattle.node.specs.declared.Node.{Node}
use Rattle.node.specs.Slots.{no_message, padded, payload_of, empty}
use Rattle.node.specs.Nodes.{slot_count}
use Rattle.node.specs.Tick.{hold_length}

-- the age at which a message is held at the longest: by a sender, by a receiver that waits for the confirmation, by a receiver
abbrev pub longest : Settings → Message → ℕ
longest s m =
    cond (sends s) (hold_length s)
    (cond (is_two_message s && not m.confirmed) s.dc s.dd)

-- a message in a slot with these settings
pub record KeptMessage (now : ℕ) (s : Settings) (m : Message) : Type 0 where
  pub short : m.len ≤ max_payload
  pub eight_bytes : length m.bytes ≡ max_payload
  pub zeros_after : m.bytes ≡ padded (payload_of m)
  -- plain messages are never held
  pub never_plain : m.held ≡ true → is_plain s ≡ false
  pub stamped : m.held ≡ true → m.stamp ≤ now
  pub young : m.held ≡ true → now - m.stamp ≤ longest s m
  -- what is not held keeps no live stamp
  pub no_stamp : m.held ≡ false → m.stamp ≡ 0
  -- and in a receive slot there is nothing then
  pub idle : receives s ≡ true → m.held ≡ false → m ≡ no_message
  pub confirmed_held : m.confirmed ≡ true → (m.held ≡ true) × (receives s ≡ true) × (is_two_message s ≡ true)

-- pending frames of a slot with these settings
pub record KeptPending (s : Settings) (p : Pending) : Type 0 where
  pub payload_sent : p.payload ≡ true → sends s ≡ true
  pub confirmation_sent : p.confirmation ≡ true → (sends s ≡ true) × (is_two_message s ≡ true)
  pub abort_received : p.abort ≡ true → (receives s ≡ true) × (is_two_message s ≡ true)

pub record KeptSlot (now : ℕ) (x : Slot) : Type 0 where
  pub free : x.used ≡ false → x ≡ empty
  pub lawful : x.used ≡ true → legal x.stream x.settings ≡ true
  pub message : KeptMessage now x.settings x.message
  pub pending : KeptPending x.settings x.pending

abbrev pub All : (Slot → Type 0) → List Slot → Type 0
All P [] = Unit {0}
All P (x ∷ xs) = P x × All P xs

-- y may stand after x: if it is in use then so is x, with a lower stream
abbrev pub After : Slot → Slot → Type 0
After x y = y.used ≡ true → (x.used ≡ true) × (x.stream.0 < y.stream.0)

-- the slots in use stand first, ascending by stream
abbrev pub InOrder : List Slot → Type 0
InOrder [] = Unit {0}
InOrder (x ∷ xs) = All (After x) xs × InOrder xs

pub record Kept (n : Node) : Type 0 where
  pub slots_32 : length n.slots ≡ slot_count
  pub in_order : InOrder n.slots
  pub each : All (KeptSlot n.counter) n.slots
