-- Demand 1: a refused call leaves the node and the output as they were and returns zeros; and each call on a node that calls made
-- gives such a node back. Tables show that every reply of every call is given, so that this is said of something.
use Rattle.std.specs.Prelude.{◌≡◌, ℕ, zero, suc, Bool, ◌≢◌, List, [], ◌∷◌, ◌++◌, map, length, replicate}
use Rattle.wire.specs.declared.ids.Stream.{Stream}
use Rattle.wire.specs.declared.ids.BusId.{BusId}
use Rattle.wire.specs.declared.settings.Settings.{Settings}
use Rattle.wire.specs.declared.reply.Reply.{Reply}
use Rattle.wire.specs.declared.reply.Reply.TheVariants.{Done, BadSettings, TableFull, Taken, NotMine, Misfit}
use Rattle.wire.specs.declared.reply.Reply.TheVariants.{Clash, Busy, NotSender, BadLength, ShortOutput, Nothing}
use Rattle.wire.specs.declared.reply.Reply.TheVariants.{IdentifierTooBig, DlcTooBig, PayloadLength, UnwantedPayload}
use Rattle.wire.specs.Delivered.{over}
use Rattle.wire.specs.Settings.{of_plain}
use Rattle.wire.specs.Refusals.{Refusals}
use Rattle.node.specs.declared.slots.Slot.{Slot}
use Rattle.node.specs.declared.Node.{Node}
use Rattle.node.specs.Told.{silent}
use Rattle.node.specs.Nodes.{slot_count, Outcome}
use Rattle.node.specs.Clock.{Clock}
use Rattle.node.specs.Calls.{Call, outcome, after}
use Rattle.node.specs.SetUp.{set_up_refusals}
use Rattle.node.specs.Hear.{hear_room, hear_refusals}
use Rattle.node.specs.Tick.{tick_refusals}
use Rattle.node.specs.Request.{request_refusals}
use Rattle.node.specs.NextFrame.{next_refusals}
use Rattle.node.specs.Moments.{five, receive, send, settings, data₅, request₅, next, one_tick}

-- the node and every lent output are as they were; no byte is written, the payload's length and the identifier are 0, and nothing is told
pub record Unchanged (n : Node) (o : Outcome) : Type 0 where
  pub node : o.node ≡ n
  pub output : (lent : List ℕ) → over o.bytes lent ≡ lent
  pub written : length o.bytes ≡ 0
  pub id : o.id.0 ≡ 0
  pub report : o.report ≡ silent

-- with any reply but Done, for every clock, call and node
abbrev pub RefusedUnchanged : Type 0
RefusedUnchanged = (clock : Clock) (c : Call) (n : Node) → (outcome clock c n).reply ≢ Done → Unchanged n (outcome clock c n)

-- the fresh node, or what calls made of it
abbrev pub Made : Clock → Node → Type 0
Made clock n = (calls : List Call) × (n ≡ after clock calls)

abbrev pub CallsGiveBack : Type 0
CallsGiveBack = (clock : Clock) (c : Call) (n : Node) → Made clock n → Made clock (outcome clock c n).node

-- ── every reply of every call is given ──
-- after some calls from the fresh node a call has a reply
pub record Row : Type 0 where
  pub before : List Call
  pub call : Call
  pub reply : Reply

abbrev row : (before : List Call) → Call → Reply → Row
row before call reply = record { before = before; call = call; reply = reply }

abbrev receiver : Call
receiver = Call.set_up five (settings receive 6)

abbrev sender : Call
sender = Call.set_up five (settings send 6)

-- a stream of plain frames, and so many from one on
abbrev plain : ℕ → Call
plain s = Call.set_up (record { 0 = s }) (of_plain receive)

abbrev plains : (from many : ℕ) → List Call
plains s zero = []
plains s (suc many) = plain s ∷ plains (suc s) many

abbrev hear : (id dlc : ℕ) → (payload output : List ℕ) → Call
hear id dlc payload output = Call.hear (record { 0 = id }) dlc payload output

abbrev pub set_up_rows : List Row
set_up_rows =
    row [] (Call.set_up five (settings receive 5)) BadSettings ∷
    row (receiver ∷ []) receiver Taken ∷
    row (plains 0 slot_count) (plain slot_count) TableFull ∷
    row [] receiver Done ∷
    []

abbrev pub hear_rows : List Row
hear_rows =
    row (receiver ∷ []) (hear 20 2 (10 ∷ 11 ∷ []) (replicate 15 0)) ShortOutput ∷
    row (receiver ∷ []) (hear 536870912 2 (10 ∷ 11 ∷ []) (replicate hear_room 0)) IdentifierTooBig ∷
    row (receiver ∷ []) (hear 20 16 (replicate 8 0) (replicate hear_room 0)) DlcTooBig ∷
    row (receiver ∷ []) (hear 20 3 (10 ∷ 11 ∷ []) (replicate hear_room 0)) PayloadLength ∷
    row (receiver ∷ []) (hear 21 2 (10 ∷ 11 ∷ []) (replicate hear_room 0)) UnwantedPayload ∷
    row [] data₅ NotMine ∷
    row (receiver ∷ []) (hear 23 2 (10 ∷ 11 ∷ []) (replicate hear_room 0)) Misfit ∷
    row (receiver ∷ data₅ ∷ []) (hear 20 2 (10 ∷ 12 ∷ []) (replicate hear_room 0)) Clash ∷
    row (receiver ∷ []) data₅ Done ∷
    []

abbrev pub tick_rows : List Row
tick_rows = row [] (Call.tick (replicate 511 0)) ShortOutput ∷ row [] one_tick Done ∷ []

abbrev pub request_rows : List Row
request_rows =
    row (sender ∷ []) (Call.request five (replicate 9 0)) BadLength ∷
    row (receiver ∷ []) request₅ NotSender ∷
    row (sender ∷ request₅ ∷ []) request₅ Busy ∷
    row (sender ∷ []) request₅ Done ∷
    []

abbrev pub next_rows : List Row
next_rows =
    row (sender ∷ request₅ ∷ []) (Call.next_frame (replicate 7 0)) ShortOutput ∷
    row (sender ∷ []) next Nothing ∷
    row (sender ∷ request₅ ∷ []) next Done ∷
    []

-- the calls have these replies, which are those that refuse the call, in their order, and Done
pub record Shows (clock : Clock) (rows : List Row) (refusals : Refusals) : Type 0 where
  pub given : map (λ (r : Row). (outcome clock r.call (after clock r.before)).reply) rows ≡ map (λ (r : Row). r.reply) rows
  pub every : map (λ (r : Row). r.reply) rows ≡ map (λ (t : Reply × Bool). t.0) refusals ++ (Done ∷ [])

pub record RepliesGiven (clock : Clock) : Type 0 where
  pub set_up : (s : Stream) (settings : Settings) (n : Node) → Shows clock set_up_rows (set_up_refusals s settings n)
  pub hear : (id : BusId) (dlc : ℕ) (payload output : List ℕ) (x : Slot) → Shows clock hear_rows (hear_refusals id dlc payload output x)
  pub tick : (output : List ℕ) → Shows clock tick_rows (tick_refusals output)
  pub request : (payload : List ℕ) (x : Slot) → Shows clock request_rows (request_refusals payload x)
  pub next_frame : (output : List ℕ) (n : Node) → Shows clock next_rows (next_refusals output n)
