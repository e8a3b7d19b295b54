-- The playback and its steps, in the numbers of the code: a counter of 16 bits, ticks and offset of 64.
use Rattle.std.specs.Prelude.{ℕ, ◌+◌, ◌%◌, Bool, cond, not, ◌&&◌, List, [], length, ◌==◌, nat_lt, Result, Ok, Err}
use Rattle.wire.specs.declared.ids.Stream.{Stream}
use Rattle.wire.specs.declared.settings.Settings.{Settings}
use Rattle.wire.specs.declared.reply.Reply as node_reply
use Rattle.heard.specs.declared.reply.Reply.TheVariants.{ShortOutput, CutRecord}
use Rattle.heard.specs.Replies.{Reply, Done, Refused, number_of}
use Rattle.heard.specs.Reading.{HeardAt, heard_at}
use Rattle.heard.specs.Recordings.{record_in}
use Rattle.node.specs.declared.Node.{Node}
use Rattle.node.specs.Nodes.{fresh}
use Rattle.node.specs.SetUp.{set_up}
use Rattle.node.specs.Hear.{hear}
use Rattle.node.specs.Tick.{tick_room, tick}
use Rattle.node.specs.Clock.{period, rolled}
use Rattle.playback.specs.declared.Playback.{Playback}
use Rattle.playback.specs.declared.step.Stepped as code
use Rattle.playback.specs.declared.step.Fault.{Fault}
use Rattle.playback.specs.Gaps.{gap_from}
use Rattle.playback.specs.Quiet.{quiet, standing}

-- a count as 64 bits hold it
abbrev pub in64 : ℕ → ℕ
in64 n = n % 18446744073709551616

abbrev pub fresh_playback : Playback
fresh_playback = record { node = fresh; ticks = 0; taken = 0 }

abbrev pub with_node : Node → Playback → Playback
with_node n p = record { node = n; ticks = p.ticks; taken = p.taken }

-- ── the settings ──
-- what is left, and the reply: Done, or as the node's set up refuses it
pub record Prepared : Type 0 where
  pub playback : Playback
  pub reply : node_reply.Reply

abbrev pub prepared : Stream → Settings → Playback → Prepared
prepared s settings p =
    let o = set_up s settings p.node in record { playback = with_node o.node p; reply = o.reply }

-- ── a step ──
-- it was taken; or more bytes or more room are needed for it; or the replay has ended
pub data Way : Type 0 where
  On : Way
  MoreBytes : Way
  MoreRoom : Way
  Over : Way

-- what a step leaves, why it stopped, how many bytes of the window it took, and what it writes to the front of the lent output
pub record Step : Type 0 where
  pub playback : Playback
  pub way : Way
  pub reply : Reply
  pub offset : ℕ
  pub took : ℕ
  pub bytes : List ℕ

abbrev pub stopped : Way → Reply → (offset : ℕ) → Playback → Step
stopped way reply offset p = record { playback = p; way = way; reply = reply; offset = offset; took = 0; bytes = [] }

abbrev pub went_on : Playback → (took : ℕ) → (bytes : List ℕ) → Step
went_on p took bytes = record { playback = p; way = On; reply = Done; offset = 0; took = took; bytes = bytes }

-- so many quiet ticks at once
abbrev pub jumped : (k : ℕ) → Playback → Playback
jumped k p =
    record {
      node = standing ((p.node.counter + k) % period) p.node;
      ticks = in64 (p.ticks + k);
      taken = p.taken;
    }

unfoldable pub tick_step : (output : List ℕ) → Playback → Step
tick_step output p =
    let o = tick rolled output p.node in
    went_on (record { node = o.node; ticks = in64 (p.ticks + 1); taken = p.taken }) 0 o.bytes

-- a frame that the node refuses is passed over
unfoldable pub hear_step : HeardAt → (window output : List ℕ) → Playback → Step
hear_step r window output p =
    let payload = (record_in window r).1 in
    let o = hear r.heard.id r.heard.dlc payload output p.node in
    went_on (record { node = o.node; ticks = p.ticks; taken = in64 (p.taken + r.next) }) r.next o.bytes

-- towards a record: to the tick that ends the quiet, if one comes before the record; else to the record
unfoldable pub towards : HeardAt → (window output : List ℕ) → Playback → Step
towards r window output p =
    let gap = gap_from p.ticks r.heard in
    let k = quiet rolled gap p.node in
    cond (nat_lt k gap) (tick_step output (jumped k p)) (hear_step r window output (jumped k p))

-- a record that cannot be read: more of it may follow, where the recording has not ended
abbrev pub at_fault : Reply → (ended : Bool) → Playback → Step
at_fault reply ended p =
    cond (number_of reply == number_of (Refused CutRecord) && not ended) (stopped MoreBytes Done 0 p) (stopped Over reply p.taken p)

unfoldable pub step : (window : List ℕ) → (ended : Bool) → (output : List ℕ) → Playback → Step
step window ended output p =
    let r = heard_at window 0 in
    cond (ended && length window == 0) (stopped Over Done 0 p)
    (cond (not r.ok) (at_fault r.reply ended p)
    (cond (nat_lt (length output) tick_room) (stopped MoreRoom (Refused ShortOutput) 0 p)
    (towards r window output p)))

-- how a replay ended: Done, or the fault of the record at this offset
abbrev pub ended_so : Reply → (offset : ℕ) → Result (Unit {0}) Fault
ended_so Done offset = Ok tt
ended_so (Refused reply) offset = Err (record { reply = reply; offset = offset })

-- as the code answers it
abbrev pub answered_so : Way → Step → code.Stepped
answered_so On s = code.TheVariants.On s.took (length s.bytes)
answered_so MoreBytes s = code.TheVariants.MoreBytes
answered_so MoreRoom s = code.TheVariants.MoreRoom
answered_so Over s = code.TheVariants.Over (ended_so s.reply s.offset)

abbrev pub as_stepped : Step → code.Stepped
as_stepped s = answered_so s.way s
