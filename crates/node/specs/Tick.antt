-- A tick: the counter moves, then the slots are taken in the order of the table. Its one refusal is ShortOutput.
use Rattle.std.specs.Prelude.{ℕ, ◌+◌, Bool, cond, not, ◌&&◌, ◌||◌, List, [], ◌∷◌, ◌++◌, map, length, nat_lt}
use Rattle.wire.specs.declared.reply.Reply.TheVariants.{ShortOutput}
use Rattle.wire.specs.declared.settings.Settings.{Settings}
use Rattle.wire.specs.Settings.{is_imd, is_two_message}
use Rattle.wire.specs.Delivered.{record_of}
use Rattle.wire.specs.Refusals.{Refusals}
use Rattle.node.specs.declared.slots.Slot.{Slot}
use Rattle.node.specs.declared.Node.{Node}
use Rattle.node.specs.Slots.{many, no_message, released, payload_of, abort_pending, is_receiver, is_sender, with_parts, with_message}
use Rattle.node.specs.Nodes.{Outcome, unless_refused, done, telling}
use Rattle.node.specs.Told.{Report, of_tick}
use Rattle.node.specs.Clock.{Clock}

-- every slot may deliver, each a record of at most 16 bytes
abbrev pub tick_room : ℕ
tick_room = 512

-- held by a receiver, unconfirmed in 2M, and older than the confirm delay
unfoldable pub late : (age : ℕ) → Slot → Bool
late age x =
    is_receiver x && x.message.held && is_two_message x.settings && not x.message.confirmed && nat_lt x.settings.dc age

-- held by a receiver, confirmed in 2M or IMD, and older than the deliver delay
unfoldable pub due : (age : ℕ) → Slot → Bool
due age x =
    is_receiver x && x.message.held && (is_imd x.settings || is_two_message x.settings && x.message.confirmed)
    && nat_lt x.settings.dd age

-- how long a sender holds its message: data reach and deliver delay
abbrev pub hold_length : Settings → ℕ
hold_length s = s.rd + s.dd

-- held by a sender, and older than that
unfoldable pub hold_over : (age : ℕ) → Slot → Bool
hold_over age x = is_sender x && x.message.held && nat_lt (hold_length x.settings) age

-- the message is gone, and an abort is pending
abbrev pub dropped : Slot → Slot
dropped x = with_parts x no_message (abort_pending x.pending)

-- the message is gone
abbrev pub delivered : Slot → Slot
delivered x = with_message no_message x

-- a sender's message is held no longer
abbrev pub hold_ended : Slot → Slot
hold_ended x = with_message (released x.message) x

unfoldable pub lapsed : (age : ℕ) → Slot → Slot
lapsed age x = cond (late age x) (dropped x) (cond (due age x) (delivered x) (cond (hold_over age x) (hold_ended x) x))

module _ (clock : Clock) (now : ℕ) where
  abbrev pub age_of : Slot → ℕ
  age_of x = clock.age now x.message.stamp

  abbrev pub tick_slot : Slot → Slot
  tick_slot x = lapsed (age_of x) x

  -- how many messages are dropped now, and how many delivered; the end of a sender's hold is neither
  abbrev pub lapses : List Slot → Report
  lapses xs = of_tick (many (λ x. late (age_of x) x) xs) (many (λ x. due (age_of x) x) xs)

  -- the slots that are due now, in the order of the table: by ascending stream in every node that calls make
  unfoldable pub due_slots : List Slot → List Slot
  due_slots [] = []
  due_slots (x ∷ xs) = cond (due (age_of x) x) (x ∷ due_slots xs) (due_slots xs)

-- the record of a slot's message
abbrev pub record_from : Slot → List ℕ
record_from x = record_of x.stream (payload_of x.message)

-- one after the other
unfoldable pub records_from : List Slot → List ℕ
records_from [] = []
records_from (x ∷ xs) = record_from x ++ records_from xs

abbrev pub ticked : Clock → Node → Node
ticked clock n =
    record { slots = map (tick_slot clock (clock.next n.counter)) n.slots; counter = clock.next n.counter }

abbrev pub tick_refusals : (output : List ℕ) → Refusals
tick_refusals output = (ShortOutput, nat_lt (length output) tick_room) ∷ []

unfoldable pub tick : Clock → (output : List ℕ) → Node → Outcome
tick clock output n =
    unless_refused n (tick_refusals output)
    (telling (lapses clock (clock.next n.counter) n.slots)
    (done (ticked clock n) (records_from (due_slots clock (clock.next n.counter) n.slots))))
