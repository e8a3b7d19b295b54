-- Worked replays, as one table: settings, a recording, and what its replay gives; and worked stretches, a node and for how long it is quiet.
use Rattle.std.specs.Prelude.{◌≡◌, ℕ, List, [], ◌∷◌, ◌++◌, map, take}
use Rattle.wire.specs.declared.ids.Stream.{Stream}
use Rattle.wire.specs.declared.settings.Settings.{Settings}
use Rattle.wire.specs.Settings.{of_plain, of_two_message}
use Rattle.heard.specs.Records.{at_counter, record_of}
use Rattle.node.specs.declared.Node.{Node}
use Rattle.node.specs.Nodes.{fresh}
use Rattle.node.specs.Clock.{rolled}
use Rattle.node.specs.Calls.{Call, after_from}
use Rattle.playback.specs.Deliveries.{Delivery, room}
use Rattle.playback.specs.Replays.{Replayed, replay}
use Rattle.playback.specs.Quiet.{quiet, standing}

-- ── settings ──
abbrev pub stream : ℕ → Stream
stream n = record { 0 = n }

-- the moments' stream 5: 2M, Rd 2, dc 3, Ra 2, dd 6
abbrev pub five : Stream × Settings
five = (stream 5, of_two_message 0 2 3 2 6)

abbrev pub five_sent : Stream × Settings
five_sent = (stream 5, of_two_message 1 2 3 2 6)

-- its deliver delay is too short
abbrev pub five_too_short : Stream × Settings
five_too_short = (stream 5, of_two_message 0 2 3 2 5)

abbrev pub seven_sent : Stream × Settings
seven_sent = (stream 7, of_two_message 1 2 3 2 6)

abbrev pub nine_plain : Stream × Settings
nine_plain = (stream 9, of_plain 0)

-- ── records ──
abbrev pub heard_at_counter : (counter id : ℕ) → (dlc : ℕ) → (payload : List ℕ) → List ℕ
heard_at_counter counter id dlc payload = record_of (at_counter counter (record { 0 = id }) dlc) payload

-- stream 5: data 0A 0B, and its confirmation
abbrev pub data_at : (counter : ℕ) → List ℕ
data_at counter = heard_at_counter counter 20 2 (0x0a ∷ 0x0b ∷ [])

abbrev pub confirmation_at : (counter : ℕ) → List ℕ
confirmation_at counter = heard_at_counter counter 21 0 []

-- stream 6, which is never set up: the node refuses its frames
abbrev pub six_at : (counter : ℕ) → List ℕ
six_at counter = heard_at_counter counter 24 1 (0xff ∷ [])

-- stream 9, the plain frame
abbrev pub plain_at : (counter : ℕ) → List ℕ
plain_at counter = heard_at_counter counter 39 1 (0xee ∷ [])

-- ── the table ──
pub record Row : Type 0 where
  pub settings : List (Stream × Settings)
  pub recording : List ℕ
  pub gives : Replayed

abbrev delivered : (tick number : ℕ) → (payload : List ℕ) → Delivery
delivered tick number payload = record { tick = tick; stream = stream number; payload = payload }

abbrev row : List (Stream × Settings) → (recording : List ℕ) → (reply offset : ℕ) → List Delivery → Row
row settings recording reply offset deliveries =
    record { settings = settings; recording = recording; gives = record { deliveries = deliveries; reply = reply; offset = offset } }

unfoldable pub rows : List Row
rows =
    -- data at 10, confirmed at 13: delivered at 17, where a frame of stream 6 is heard and refused
    row (five ∷ []) (data_at 10 ++ confirmation_at 13 ++ six_at 17) 0 0 (delivered 17 5 (0x0a ∷ 0x0b ∷ []) ∷ []) ∷
    -- no ticks follow the last record
    row (five ∷ []) (data_at 10 ++ confirmation_at 13 ++ six_at 16) 0 0 [] ∷
    row (five ∷ []) (data_at 10 ++ confirmation_at 13) 0 0 [] ∷
    -- a refused frame does not end the replay
    row (five ∷ []) (six_at 3 ++ data_at 10 ++ six_at 11 ++ confirmation_at 13 ++ six_at 40) 0 0 (delivered 17 5 (0x0a ∷ 0x0b ∷ []) ∷ []) ∷
    -- the counter rolls over: the tick count goes on
    row (five ∷ []) (data_at 65534 ++ confirmation_at 1 ++ six_at 5) 0 0 (delivered 65541 5 (0x0a ∷ 0x0b ∷ []) ∷ []) ∷
    -- a lower counter lies ahead, and the same counter is now: from 64 it is 65,535 ticks to 63, and none from there
    row (nine_plain ∷ []) (plain_at 64 ++ plain_at 63 ++ plain_at 63) 0 0
    (delivered 64 9 (0xee ∷ []) ∷ delivered 65599 9 (0xee ∷ []) ∷ delivered 65599 9 (0xee ∷ []) ∷ []) ∷
    -- a plain frame is delivered when it is heard, also at tick 0
    row (nine_plain ∷ five ∷ []) (plain_at 0 ++ data_at 10 ++ plain_at 12 ++ confirmation_at 13 ++ plain_at 20) 0 0
    (delivered 0 9 (0xee ∷ [])
    ∷ delivered 12 9 (0xee ∷ [])
    ∷ delivered 17 5 (0x0a ∷ 0x0b ∷ [])
    ∷ delivered 20 9 (0xee ∷ [])
    ∷ []) ∷
    -- a record at fault: cut, one surplus byte, of another kind, of a bad length; what was delivered stands
    row (five ∷ []) (data_at 10 ++ confirmation_at 13 ++ six_at 17 ++ take 11 (six_at 18)) 15 36 (delivered 17 5 (0x0a ∷ 0x0b ∷ []) ∷ []) ∷
    row (five ∷ []) (data_at 10 ++ confirmation_at 13 ++ six_at 17 ++ 0x0a ∷ []) 15 36 (delivered 17 5 (0x0a ∷ 0x0b ∷ []) ∷ []) ∷
    row (five ∷ []) (data_at 10 ++ confirmation_at 13 ++ 0x02 ∷ 0x00 ∷ 0x1f ∷ 0x00 ∷ six_at 17) 16 24 [] ∷
    row (five ∷ []) (data_at 10 ++ confirmation_at 13 ++ 0x02 ∷ 0x00 ∷ 0x20 ∷ 0x00 ∷ six_at 17) 17 24 [] ∷
    -- settings are judged before anything is read, the first refusal answering
    row (five_too_short ∷ []) [] 1 0 [] ∷
    row (five_too_short ∷ []) (0xff ∷ []) 1 0 [] ∷
    row (five ∷ five_sent ∷ five_too_short ∷ []) (data_at 10) 3 0 [] ∷
    -- no settings, and no recording
    row [] (data_at 10 ++ confirmation_at 13 ++ six_at 17) 0 0 [] ∷
    row (five ∷ []) [] 0 0 [] ∷
    -- send slots do no harm
    row (seven_sent ∷ five ∷ []) (data_at 10 ++ heard_at_counter 11 28 0 [] ++ confirmation_at 13 ++ six_at 17) 0 0 (delivered 17 5 (0x0a ∷ 0x0b ∷ []) ∷ []) ∷
    row (five_sent ∷ []) (data_at 10 ++ confirmation_at 13 ++ six_at 17) 0 0 [] ∷
    []

abbrev pub ReplayedAsWorked : Type 0
ReplayedAsWorked = map (λ (r : Row). replay r.settings r.recording) rows ≡ map (λ (r : Row). r.gives) rows

-- ── worked stretches ──
-- stream 5 holds what was heard at this count, unconfirmed; and confirmed at once
abbrev pub holding : (counter : ℕ) → Node
holding counter =
    after_from rolled (standing counter fresh)
    (Call.set_up five.0 five.1 ∷ Call.hear (record { 0 = 20 }) 2 (0x0a ∷ 0x0b ∷ []) room ∷ [])

abbrev pub confirmed_at : (counter : ℕ) → Node
confirmed_at counter = after_from rolled (holding counter) (Call.hear (record { 0 = 21 }) 0 [] room ∷ [])

-- stream 7 sends, and holds what was requested at this count
abbrev pub sending : (counter : ℕ) → Node
sending counter =
    after_from rolled (standing counter fresh) (Call.set_up seven_sent.0 seven_sent.1 ∷ Call.request seven_sent.0 (0x0a ∷ []) ∷ [])

pub record Stretch : Type 0 where
  pub node : Node
  pub most : ℕ
  pub still : ℕ

abbrev stretch : Node → (most still : ℕ) → Stretch
stretch node most still = record { node = node; most = most; still = still }

unfoldable pub stretches : List Stretch
stretches =
    -- nothing is held
    stretch fresh 4294967295 4294967295 ∷
    -- heard at 10: held at 13, dropped when the counter becomes 14
    stretch (holding 10) 100 3 ∷
    stretch (holding 10) 2 2 ∷
    stretch (standing 12 (holding 10)) 100 1 ∷
    stretch (standing 13 (holding 10)) 100 0 ∷
    -- confirmed: held at 16, delivered when it becomes 17
    stretch (confirmed_at 10) 100 6 ∷
    stretch (standing 13 (confirmed_at 10)) 100 3 ∷
    -- the counter rolls over
    stretch (holding 65534) 100 3 ∷
    stretch (standing 0 (holding 65534)) 100 1 ∷
    -- a sender's hold ends after Rd + dd
    stretch (sending 10) 100 8 ∷
    []

abbrev pub QuietAsWorked : Type 0
QuietAsWorked = map (λ (s : Stretch). quiet rolled s.most s.node) stretches ≡ map (λ (s : Stretch). s.still) stretches
