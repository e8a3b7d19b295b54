-- What the tick's code asks of a slot first: most slots do not change at a tick. Only the contract of a slot's step cites this; no promise of
-- a call rests on it.
use Rattle.std.specs.Prelude.{ℕ, Bool, ◌&&◌, ◌||◌, nat_lt}
use Rattle.wire.specs.Settings.{is_two_message}
use Rattle.node.specs.declared.slots.Slot.{Slot}

-- a message is held, and is older than a delay of its class
unfoldable pub may_stir : (age : ℕ) → Slot → Bool
may_stir age x = x.message.held && (nat_lt x.settings.dd age || is_two_message x.settings && nat_lt x.settings.dc age)
