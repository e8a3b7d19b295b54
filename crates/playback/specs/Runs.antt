-- Whole runs of a replay: settings set up one after the other, then steps, of which nothing is known but that each kept its promise; and that
-- they give what the definition says, with ticks counted without bound.
use Rattle.std.specs.Prelude.{◌≡◌, ℕ, ◌+◌, ◌<◌, ◌≤◌, Bool, true, false, ◌⊎◌, List, [], ◌∷◌, ◌++◌, map, length, take, Result, Ok, Err}
use Rattle.wire.specs.declared.ids.Stream.{Stream}
use Rattle.wire.specs.declared.settings.Settings.{Settings}
use Rattle.wire.specs.declared.reply.Reply as node_reply
use Rattle.wire.specs.Replies as of_node
use Rattle.wire.specs.Answers.{answered}
use Rattle.wire.specs.Delivered.{over, AreBytes}
use Rattle.heard.specs.Replies as of_reader
use Rattle.heard.specs.Windows.{most_asked}
use Rattle.node.specs.Tick.{tick_room}
use Rattle.playback.specs.declared.Playback.{Playback}
use Rattle.playback.specs.declared.step.Stepped.{Stepped}
use Rattle.playback.specs.declared.step.Stepped.TheVariants as stepped
use Rattle.playback.specs.Deliveries.{Delivery, deliveries_in}
use Rattle.playback.specs.Replays.{Replayed, replay}
use Rattle.playback.specs.Steps.{in64, fresh_playback, prepared, Way, On, MoreBytes, MoreRoom, Over, step, as_stepped}

-- ── the settings ──
-- what a set up answers: nothing, or why it is refused
abbrev pub Answer : Type 0
Answer = Result (Unit {0}) node_reply.Reply

-- the promise of a set up: of what it answers, and of the playback that it leaves
abbrev pub SetUpPromises : Stream → Settings → Playback → Answer → (after : Playback) → Type 0
SetUpPromises s x p r after = (r ≡ answered (prepared s x p).reply tt) × (after ≡ (prepared s x p).playback)

-- up to the first that is refused, or all
pub data Prepares : Playback → List (Stream × Settings) → Answer → Playback → Type 0 where
  all_set_up : {p : Playback} → Prepares p [] (Ok tt) p
  refused : {p after : Playback} {s : Stream} {x : Settings} {rest : List (Stream × Settings)} (reply : node_reply.Reply)
      → SetUpPromises s x p (Err reply) after → Prepares p ((s, x) ∷ rest) (Err reply) after
  next : {p after end : Playback} {s : Stream} {x : Settings} {rest : List (Stream × Settings)} {r : Answer}
      → SetUpPromises s x p (Ok tt) after → Prepares after rest r end → Prepares p ((s, x) ∷ rest) r end

-- ── the steps ──
-- what is lent to a step, where so many bytes of the recording are gone: an output, and the next bytes, as many as the caller likes; that no more
-- follow them is said only if none do
pub record Lent (recording : List ℕ) (at : ℕ) : Type 0 where
  pub window : List ℕ
  pub ended : Bool
  pub output : List ℕ
  pub gone : List ℕ
  pub beyond : List ℕ
  pub all : gone ++ (window ++ beyond) ≡ recording
  pub place : length gone ≡ at
  pub none_beyond : ended ≡ true → beyond ≡ []

-- the promise of a step: of what it answers, of the playback that it leaves, and of what it leaves in the lent output
abbrev pub StepPromises : (window : List ℕ) → (ended : Bool) → (output : List ℕ) → Playback → Stepped → (after : Playback) → (left : List ℕ) → Type 0
StepPromises window ended output p r after left =
    let s = step window ended output p in (r ≡ as_stepped s) × (after ≡ s.playback) × (left ≡ over s.bytes output)

abbrev pub Promised : {recording : List ℕ} {at : ℕ} → Lent recording at → Playback → Stepped → (after : Playback) → (left : List ℕ) → Type 0
Promised l p r after left = StepPromises l.window l.ended l.output p r after left

-- the way that a step went, and the numbers in its answer; none, where it has none
abbrev pub way_of : Stepped → Way
way_of (stepped.On took written) = On
way_of stepped.MoreBytes = MoreBytes
way_of stepped.MoreRoom = MoreRoom
way_of (stepped.Over end) = Over

abbrev pub took_by : Stepped → ℕ
took_by (stepped.On took written) = took
took_by stepped.MoreBytes = 0
took_by stepped.MoreRoom = 0
took_by (stepped.Over end) = 0

abbrev pub written_by : Stepped → ℕ
written_by (stepped.On took written) = written
written_by stepped.MoreBytes = 0
written_by stepped.MoreRoom = 0
written_by (stepped.Over end) = 0

-- how it ended: the number of the reply, and the offset
abbrev pub reply_of : Stepped → ℕ
reply_of (stepped.Over (Err fault)) = of_reader.refusal_number fault.reply
reply_of _ = 0

abbrev pub offset_of : Stepped → ℕ
offset_of (stepped.Over (Err fault)) = fault.offset
offset_of _ = 0

-- what the caller reads in the output, at the ticks that the step leaves
abbrev pub seen : Stepped → (after : Playback) → (left : List ℕ) → List Delivery
seen r after left = deliveries_in after.ticks (take (written_by r) left)

abbrev pub is_over : Way → Bool
is_over On = false
is_over MoreBytes = false
is_over MoreRoom = false
is_over Over = true

-- steps that ask for more are not counted
abbrev pub counted : Way → ℕ
counted On = 1
counted MoreBytes = 0
counted MoreRoom = 0
counted Over = 0

-- from one playback to another by steps, with what they delivered and how many of them went on
pub data Steps (recording : List ℕ) : Playback → (at : ℕ) → (count : ℕ) → List Delivery → Playback → (end : ℕ) → Type 0 where
  start : {p : Playback} {at : ℕ} → Steps recording p at 0 [] p at
  next : {p q : Playback} {at end count : ℕ} {xs : List Delivery} (l : Lent recording at) (r : Stepped) (after : Playback) (left : List ℕ)
      → Promised l p r after left → is_over (way_of r) ≡ false → Steps recording after (at + took_by r) count xs q end
      → Steps recording p at (counted (way_of r) + count) (seen r after left ++ xs) q end

-- a whole replay: a setting is refused; or all are set up, and steps follow until one says that it is over
pub data Run (settings : List (Stream × Settings)) (recording : List ℕ) : Replayed → Type 0 where
  not_begun : {p : Playback} (reply : node_reply.Reply) → Prepares fresh_playback settings (Err reply) p
      → Run settings recording (record { deliveries = []; reply = of_node.number_of reply; offset = 0 })
  ended : {p q : Playback} {at count : ℕ} {xs : List Delivery} → Prepares fresh_playback settings (Ok tt) p → Steps recording p 0 count xs q at
      → (l : Lent recording at) (r : Stepped) (after : Playback) (left : List ℕ) → Promised l q r after left → is_over (way_of r) ≡ true
      → Run settings recording (record { deliveries = xs; reply = reply_of r; offset = offset_of r })

-- ── what is shown of them ──
-- tick counts and offset as 64 bits hold them
abbrev pub replayed_in64 : Replayed → Replayed
replayed_in64 r =
    record {
      deliveries = map (λ (d : Delivery). record { tick = in64 d.tick; stream = d.stream; payload = d.payload }) r.deliveries;
      reply = r.reply;
      offset = in64 r.offset;
    }

-- EVERY REPLAY: for every settings and every recording, of every length, a whole run gives what the definition says
abbrev pub EveryReplay : Type 0
EveryReplay =
    (settings : List (Stream × Settings)) (recording : List ℕ) (r : Replayed) → Run settings recording r → r ≡ replayed_in64 (replay settings recording)

-- and nothing else, where the recording has fewer than 2^48 bytes: 64 bits are enough then
abbrev pub ExactReplay : Type 0
ExactReplay =
    (settings : List (Stream × Settings)) (recording : List ℕ) (r : Replayed) → length recording < 281474976710656 → Run settings recording r
    → r ≡ replay settings recording

-- it ends: no more steps are taken than the recording has bytes, however long the gaps are
abbrev pub Ends : Type 0
Ends =
    (settings : List (Stream × Settings)) (recording : List ℕ) (p q : Playback) (r : Answer) (at count : ℕ) (xs : List Delivery)
    → Prepares fresh_playback settings r p → Steps recording p 0 count xs q at → count ≤ length recording

-- and none asks for more that is lent 512 bytes of output, and 65,537 bytes of the recording or all that is left of it
abbrev pub Fed : Type 0
Fed =
    (recording : List ℕ) (at : ℕ) (l : Lent recording at) (p : Playback) (r : Stepped) (after : Playback) (left : List ℕ) → Promised l p r after left
    → tick_room ≤ length l.output → (l.ended ≡ true) ⊎ (AreBytes l.window × (most_asked ≤ length l.window)) → (way_of r ≡ On) ⊎ (way_of r ≡ Over)

-- so a whole run there is
abbrev pub SomeRun : Type 0
SomeRun = (settings : List (Stream × Settings)) (recording : List ℕ) → Run settings recording (replayed_in64 (replay settings recording))
