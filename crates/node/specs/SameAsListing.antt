-- The rules paper's 2M receiver beside the listing of HURRAY-TR-0014: over every history of frames heard, ticks and aborts given out, both
-- deliver the same payloads at the same ticks, and both have an abort to send at the same times. The statement; its proof is listing/SameAsRules.
--
-- Two things are done to the listing so that it can be compared at all. A message whose state it makes delivered is taken out of its set
-- (it says nowhere that it leaves, and would take the next message for a duplicate); and several aborts that it sends before one is given
-- out count as one, as the paper's pending abort is one frame.
use Rattle.std.specs.Prelude.{◌≡◌, ℕ, ◌+◌, ◌-◌, Bool, true, false, cond, ◌||◌, List, [], ◌∷◌, map}
use Rattle.wire.specs.declared.settings.Settings.{Settings}
use Rattle.wire.specs.Settings.{receives, is_two_message}
use Rattle.node.specs.declared.slots.Slot.{Slot}
use Rattle.node.specs.declared.slots.Message.{Message}
use Rattle.node.specs.Slots.{payload_of}
use Rattle.node.specs.Hear.{clashes, heard_by}
use Rattle.node.specs.Tick.{due, lapsed}
use Rattle.node.specs.Request.{requested}
use Rattle.node.specs.NextFrame.{payload_for, given_out}
use Rattle.node.specs.OldLayout.{pending_codes}
use Rattle.node.specs.Listing.{Frame, State, Intervals, Received, ReceivedSet, receive, deliver_or_abort, atomic_multicast}

-- ── how a slot stands for the set of received messages ──
abbrev pub intervals : Slot → Intervals
intervals x = record { to_confirm = x.settings.dc; to_deliver = x.settings.dd }

abbrev pub state_of : Message → State
state_of m = cond m.confirmed State.confirmed State.unstable

-- held is in the set; its times are stamp + dc and stamp + dd
abbrev pub received : Settings → Message → Received
received s m =
    record { payload = payload_of m; state = state_of m; times = record { to_confirm = m.stamp + s.dc; to_deliver = m.stamp + s.dd } }

abbrev pub listed : Slot → ReceivedSet
listed x = cond x.message.held (ReceivedSet.present (received x.settings x.message)) ReceivedSet.absent

abbrev pub code_for : Frame → ℕ
code_for (Frame.message payload) = 0
code_for Frame.confirmation = 1
code_for Frame.abort = 2
code_for (Frame.unreliable payload) = 3

abbrev pub payload_in : Frame → List ℕ
payload_in (Frame.message payload) = payload
payload_in (Frame.unreliable payload) = payload
payload_in Frame.confirmation = []
payload_in Frame.abort = []

-- the frames of 2M
abbrev pub Reliable : Frame → Type 0
Reliable (Frame.message payload) = Unit {0}
Reliable (Frame.unreliable payload) = ⊥
Reliable Frame.confirmation = Unit {0}
Reliable Frame.abort = Unit {0}

-- what is delivered is taken out of the set
abbrev pub forgotten : ReceivedSet → ReceivedSet
forgotten ReceivedSet.absent = ReceivedSet.absent
forgotten (ReceivedSet.present m) = kept m.state m
  where
    kept : State → Received → ReceivedSet
    kept State.unstable m = ReceivedSet.present m
    kept State.confirmed m = ReceivedSet.present m
    kept State.delivered m = ReceivedSet.absent

abbrev pub delivered_by : (age : ℕ) → Slot → List (List ℕ)
delivered_by age x = cond (due age x) (payload_of x.message ∷ []) []

-- ── every history of a 2M receive slot ──
pub data Event : Type 0 where
  hears : Frame → Event
  ticks : Event
  -- the pending abort, if there is one, is given out
  gives : Event

abbrev pub heard_frame : ℕ → Frame → Slot → Slot
heard_frame now f x = heard_by now (code_for f) (payload_in f) x

abbrev pub ticked_slot : ℕ → Slot → Slot
ticked_slot now x = lapsed (now - x.message.stamp) x

-- what an event shows: the payloads delivered, and whether there is an abort to give out then
pub record Shows : Type 0 where
  pub delivered : List (List ℕ)
  pub aborting : Bool

-- of the slot; data with other bytes than those held is refused
abbrev pub slot_shows : (now : ℕ) → Slot → List Event → List Shows
slot_shows now x [] = []
slot_shows now x (hears f ∷ es) =
    let y = cond (clashes (code_for f) (payload_in f) x) x (heard_frame now f x) in
    record { delivered = []; aborting = y.pending.abort } ∷ slot_shows now y es
slot_shows now x (ticks ∷ es) =
    let y = ticked_slot (now + 1) x in
    record { delivered = delivered_by (now + 1 - x.message.stamp) x; aborting = y.pending.abort } ∷ slot_shows (now + 1) y es
slot_shows now x (gives ∷ es) =
    let y = given_out 2 x in
    record { delivered = []; aborting = y.pending.abort } ∷ slot_shows now y es

-- of the listing; it has an abort to give out where it sent one since the last was given out
abbrev pub listing_shows : Intervals → (now : ℕ) → ReceivedSet → (sent : Bool) → List Event → List Shows
listing_shows i now set sent [] = []
listing_shows i now set sent (hears f ∷ es) =
    let ruled = receive i now f set in
    let more = sent || ruled.sends_abort in
    record { delivered = ruled.delivers; aborting = more } ∷ listing_shows i now ruled.set more es
listing_shows i now set sent (ticks ∷ es) =
    let ruled = deliver_or_abort (now + 1) set in
    let more = sent || ruled.sends_abort in
    record { delivered = ruled.delivers; aborting = more } ∷ listing_shows i (now + 1) (forgotten ruled.set) more es
listing_shows i now set sent (gives ∷ es) = record { delivered = []; aborting = false } ∷ listing_shows i now set false es

-- all frames are of 2M, and all data has the length and bytes of what is held (other data the paper refuses, and the listing takes for
-- a duplicate)
abbrev pub Fair : (now : ℕ) → Slot → List Event → Type 0
Fair now x [] = Unit {0}
Fair now x (hears f ∷ es) = Reliable f × (clashes (code_for f) (payload_in f) x ≡ false) × Fair now (heard_frame now f x) es
Fair now x (ticks ∷ es) = Fair (now + 1) (ticked_slot (now + 1) x) es
Fair now x (gives ∷ es) = Fair now (given_out 2 x) es

pub record TwoMessageReceiver (x : Slot) : Type 0 where
  pub used : x.used ≡ true
  pub receiver : receives x.settings ≡ true
  pub two_message : is_two_message x.settings ≡ true

-- THE LISTING: in every fair history the slot shows what the listing shows
abbrev pub SameAsListing : Type 0
SameAsListing =
    (es : List Event) (now : ℕ) (x : Slot) → TwoMessageReceiver x → Fair now x es
    → slot_shows now x es ≡ listing_shows (intervals x) now (listed x) x.pending.abort es

-- and a request makes pending what atomic_multicast sends, in its order
abbrev pub SendsAsListing : Type 0
SendsAsListing =
    (now : ℕ) (payload : List ℕ) (x : Slot) → is_two_message x.settings ≡ true
    → (pending_codes (requested now payload x) ≡ map code_for (atomic_multicast payload)) × (payload_for 0 (requested now payload x) ≡ payload)
