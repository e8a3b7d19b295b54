-- The worked moments 1 to 9 of the rules paper, as one table: from a start, after some calls, what one more call shows. Moment 10 is
-- about three modules and stands with the bench; 11 and 12 are run by a program.
use Rattle.std.specs.Prelude.{◌≡◌, ℕ, ◌%◌, Bool, true, false, List, [], ◌∷◌, ◌++◌, map, replicate}
use Rattle.wire.specs.declared.ids.Stream.{Stream}
use Rattle.wire.specs.declared.settings.Settings.{Settings}
use Rattle.wire.specs.declared.reply.Reply.{Reply}
use Rattle.wire.specs.declared.reply.Reply.TheVariants.{Done, BadSettings, BadFrame, Busy, IdentifierTooBig}
use Rattle.wire.specs.Settings.{of_two_message}
use Rattle.wire.specs.Identifiers.{split}
use Rattle.node.specs.Nodes.{slot_of, Outcome}
use Rattle.node.specs.Clock.{Clock, period}
use Rattle.node.specs.Hear.{hear_room}
use Rattle.node.specs.Tick.{tick_room}
use Rattle.node.specs.NextFrame.{next_room}
use Rattle.node.specs.Calls.{Call, outcome, after}

-- ── stream 5, 2M, Rd 2, dc 3, Ra 2, dd 6 ──
abbrev pub five : Stream
five = record { 0 = 5 }

abbrev pub receive : ℕ
receive = 0

abbrev pub send : ℕ
send = 1

abbrev pub settings : (role dd : ℕ) → Settings
settings role dd = of_two_message role 2 3 2 dd

-- ── the calls, with outputs that are long enough ──
abbrev pub data₅ : Call
data₅ = Call.hear (record { 0 = 20 }) 2 (10 ∷ 11 ∷ []) (replicate hear_room 0)

abbrev pub eight_bytes : (dlc : ℕ) → Call
eight_bytes dlc = Call.hear (record { 0 = 20 }) dlc (replicate 8 10) (replicate hear_room 0)

abbrev pub confirmation₅ : Call
confirmation₅ = Call.hear (record { 0 = 21 }) 0 [] (replicate hear_room 0)

abbrev pub request₅ : Call
request₅ = Call.request five (10 ∷ 11 ∷ [])

abbrev pub next : Call
next = Call.next_frame (replicate next_room 0)

abbrev pub one_tick : Call
one_tick = Call.tick (replicate tick_room 0)

abbrev pub ticks : ℕ → List Call
ticks n = replicate n one_tick

abbrev pub delivered₅ : List ℕ
delivered₅ = 8 ∷ 0 ∷ 1 ∷ 0 ∷ 5 ∷ 0 ∷ 0 ∷ 0 ∷ 10 ∷ 11 ∷ []

-- nothing given out
abbrev pub none : ℕ
none = 0

-- ── a row: from a start, after some calls, a call shows something; or an identifier is split ──
pub data Start : Type 0 where
  from_fresh : Start
  -- the stream was set up to receive, or to send, and then so many ticks came
  receiving sending : (ticks : ℕ) → Start

pub data Trial : Type 0 where
  call : Start → (before : List Call) → Call → Trial
  splits : (id : ℕ) → Trial

pub data Shown : Type 0 where
  -- the reply, the identifier given out, the bytes written; then the 16-bit counter, and of stream 5 whether it is held, and whether an abort is pending
  node : Reply → (id : ℕ) → (bytes : List ℕ) → (counter : ℕ) → (held aborts : Bool) → Shown
  parts : Reply → (stream code : ℕ) → Shown

abbrev pub calls_to : Start → List Call
calls_to from_fresh = []
calls_to (receiving n) = Call.set_up five (settings receive 6) ∷ ticks n
calls_to (sending n) = Call.set_up five (settings send 6) ∷ ticks n

abbrev pub shown_by : Outcome → Shown
shown_by o =
    let x = slot_of five o.node in
    node o.reply o.id.0 o.bytes (o.node.counter % period) x.message.held x.pending.abort

-- calls are made from the fresh node
abbrev pub shows : Clock → Trial → Shown
shows clock (call start before last) = shown_by (outcome clock last (after clock (calls_to start ++ before)))
shows clock (splits id) = let p = split (record { 0 = id }) in parts p.reply p.stream.0 p.code

pub record Row : Type 0 where
  pub trial : Trial
  pub shown : Shown

infix 20 ◌⇒◌
abbrev ◌⇒◌ : Trial → Shown → Row
t ⇒ s = record { trial = t; shown = s }

unfoldable pub moments : List Row
moments =
    -- 1: dd 6 is taken; dd 5 is BadSettings.
    (call from_fresh [] (Call.set_up five (settings receive 6)) ⇒ node Done none [] 0 false false) ∷
    (call from_fresh [] (Call.set_up five (settings receive 5)) ⇒ node BadSettings none [] 0 false false) ∷
    -- 2: Data heard at 10, no confirmation: held at 13, dropped and abort pending when the counter becomes 14.
    (call (receiving 10) (data₅ ∷ ticks 2) one_tick ⇒ node Done none [] 13 true false) ∷
    (call (receiving 10) (data₅ ∷ ticks 3) one_tick ⇒ node Done none [] 14 false true) ∷
    -- 3: Confirmed at 13: held at 16, delivered when it becomes 17.
    (call (receiving 10) (data₅ ∷ ticks 3 ++ confirmation₅ ∷ ticks 2) one_tick ⇒ node Done none [] 16 true false) ∷
    (call (receiving 10) (data₅ ∷ ticks 3 ++ confirmation₅ ∷ ticks 3) one_tick ⇒ node Done none delivered₅ 17 false false) ∷
    -- 4: Data at 65,534: dropped when the counter becomes 2.
    (call (receiving 65534) (data₅ ∷ ticks 2) one_tick ⇒ node Done none [] 1 true false) ∷
    (call (receiving 65534) (data₅ ∷ ticks 3) one_tick ⇒ node Done none [] 2 false true) ∷
    -- 5: Confirmation with nothing held: reply 0, abort pending, identifier 22.
    (call (receiving 10) [] confirmation₅ ⇒ node Done none [] 10 false true) ∷
    (call (receiving 10) (confirmation₅ ∷ []) next ⇒ node Done 22 [] 10 false false) ∷
    -- 6: Duplicate at 12 of data heard at 10, confirmed at 13: delivered at 19.
    (call (receiving 10) (data₅ ∷ ticks 2 ++ data₅ ∷ one_tick ∷ confirmation₅ ∷ ticks 4) one_tick ⇒ node Done none [] 18 true false) ∷
    (call (receiving 10) (data₅ ∷ ticks 2 ++ data₅ ∷ one_tick ∷ confirmation₅ ∷ ticks 5) one_tick ⇒ node Done none delivered₅ 19 false false) ∷
    -- 7: Request at 10: another at 18 is Busy; at 19 it is taken (frames given out by then).
    (call (sending 10) [] request₅ ⇒ node Done none [] 10 true false) ∷
    (call (sending 10) (request₅ ∷ []) next ⇒ node Done 20 (10 ∷ 11 ∷ []) 10 true false) ∷
    (call (sending 10) (request₅ ∷ next ∷ []) next ⇒ node Done 21 [] 10 true false) ∷
    (call (sending 10) (request₅ ∷ next ∷ next ∷ ticks 8) request₅ ⇒ node Busy none [] 18 true false) ∷
    (call (sending 10) (request₅ ∷ next ∷ next ∷ ticks 9) request₅ ⇒ node Done none [] 19 true false) ∷
    -- 8: Identifier 536,870,911 splits into 134,217,727 and 3; 536,870,912 is BadFrame, and hear answers IdentifierTooBig.
    (splits 536870911 ⇒ parts Done 134217727 3) ∷
    (splits 536870912 ⇒ parts BadFrame 0 0) ∷
    (call (receiving 10) [] (Call.hear (record { 0 = 536870912 }) 0 [] (replicate hear_room 0)) ⇒ node IdentifierTooBig none [] 10 false false) ∷
    -- 9: DLC 8 with eight bytes is taken, and so is DLC 9 with eight bytes.
    (call (receiving 10) [] (eight_bytes 8) ⇒ node Done none [] 10 true false) ∷
    (call (receiving 10) [] (eight_bytes 9) ⇒ node Done none [] 10 true false) ∷
    []

-- THE MOMENTS: the definitions show what the table says, with counts that roll over and with unbounded ones
abbrev pub MomentsHold : Clock → Type 0
MomentsHold clock = map (λ (r : Row). shows clock r.trial) moments ≡ map (λ (r : Row). r.shown) moments
