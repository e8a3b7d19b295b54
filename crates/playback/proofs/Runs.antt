-- Whole runs: what they give is what the definition says, they end, and there is one for every recording.
use Rattle.std.proofs.Common.{◌≡◌, ℕ, ◌+◌, ◌-◌, ◌≤◌, List, ◌++◌, map, length, drop, sym, refl, ap, ◌∙◌, subst, append_assoc, append-nil, arith}
use mathlib.Core.List.{map-map, map-append}
use lib.Seq.{take-append_seam}
use Rattle.wire.specs.declared.ids.Stream.{Stream}
use Rattle.wire.specs.declared.settings.Settings.{Settings}
use Rattle.std.specs.Prelude.{Ok, Err}
use Rattle.wire.specs.Answers.{answered}
use Rattle.wire.specs.Delivered.{messages_at}
use Rattle.heard.specs.Replies as of_reader
use Rattle.heard.specs.Recordings.{Recording, recording_in}
use Rattle.heard.specs.RoundTrip.{ReadBy}
use Rattle.heard.proofs.WrittenThenRead.{every_recording_is_read}
use Rattle.node.specs.declared.Node.{Node}
use Rattle.node.specs.Nodes.{Outcome, fresh}
use Rattle.node.specs.SetUp.{set_up}
use Rattle.node.specs.Calls.{Call, roll_outcome}
use Rattle.node.proofs.Answering.{was_refused, was_done}
use Rattle.node.proofs.kept.EveryCall.{kept_fresh, kept_by}
use Rattle.playback.specs.declared.Playback.{Playback}
use Rattle.playback.specs.declared.step.Stepped.{Stepped}
use Rattle.playback.specs.Deliveries.{Delivery, delivered_at, deliveries_in}
use Rattle.playback.specs.Replays.{Replayed, set_up_all, replay_on}
use Rattle.playback.specs.Quiet.{held_in}
use Rattle.playback.specs.Steps.{in64, fresh_playback, with_node, Prepared, prepared, step}
use Rattle.playback.specs.Runs.{Answer, SetUpPromises, Prepares, all_set_up, refused, next, way_of, took_by, Lent, Promised, seen, is_over, counted, Steps}
use Rattle.playback.specs.Runs.{start, not_begun, ended}
use Rattle.playback.specs.Runs.{replayed_in64, EveryReplay, Ends}
use Rattle.playback.proofs.Held.{set_up_held}
use Rattle.playback.proofs.Holding.{Holds, call_holds}
use Rattle.playback.proofs.Following.{ahead}
use Rattle.playback.proofs.StepCases.{answers_so}
use Rattle.playback.proofs.Steps.{goes_on, ends}

-- ── the settings ──
pub record SetUpAs (o : Outcome) (u : Node) (at : ℕ) (r : Answer) (q : Playback) : Type 0 where
  pub replied : r ≡ answered o.reply tt
  pub holds : Holds o.node at q
  pub counter : o.node.counter ≡ u.counter
  pub held : held_in o.node.slots ≤ held_in u.slots

module _ (s : Stream) (x : Settings) (u : Node) (at : ℕ) (p : Playback) (holds : Holds u at p) (r : Answer) (after : Playback)
    (promised : SetUpPromises s x p r after) where
  as_prepared : prepared s x p ≡ record { playback = with_node (roll_outcome (set_up s x u)).node p; reply = (set_up s x u).reply }
  as_prepared = ap (λ (o : Outcome). record { playback = with_node o.node p; reply = o.reply }) (call_holds u at p holds (Call.set_up s x))

  set_up_as : SetUpAs (set_up s x u) u at r after
  set_up_as =
      let is : after ≡ with_node (roll_outcome (set_up s x u)).node p = promised.1 ∙ ap (λ (o : Prepared). o.playback) as_prepared in
      rw is
      (record {
        replied = promised.0 ∙ ap (λ (o : Prepared). answered o.reply tt) as_prepared;
        holds =
            record {
              kept = kept_by (Call.set_up s x) u holds.kept;
              node = refl;
              ticks = holds.ticks ∙ ap in64 (sym (set_up_held s x u).1);
              taken = holds.taken;
            };
        counter = (set_up_held s x u).1;
        held = (set_up_held s x u).0;
      })

pub prepares_as : {p q : Playback} {settings : List (Stream × Settings)} {r : Answer} → Prepares p settings r q
    → (u : Node) (at : ℕ) → Holds u at p → SetUpAs (set_up_all settings u) u at r q
prepares_as all_set_up u at holds = record { replied = refl; holds = holds; counter = refl; held = omega arith }
prepares_as (refused {p} {after} {s} {x} {rest} reply promised) u at holds =
    let one = set_up_as s x u at p holds (Err reply) after promised in
    rw (was_refused (set_up s x u).reply tt one.replied).1 one
prepares_as (next {p} {after} {s = s} {x = x} promised more) u at holds =
    let one = set_up_as s x u at p holds (Ok tt) after promised in
    let others = prepares_as more (set_up s x u).node at one.holds in
    rw (was_done (set_up s x u).reply tt one.replied).1
    (record {
      replied = others.replied;
      holds = others.holds;
      counter = others.counter ∙ one.counter;
      held = omega (arith, others.held, one.held);
    })

-- ── the steps ──
abbrev pub delivery64 : Delivery → Delivery
delivery64 d = record { tick = in64 d.tick; stream = d.stream; payload = d.payload }

pub deliveries_in_64 : (tick : ℕ) (bytes : List ℕ) → deliveries_in (in64 tick) bytes ≡ map delivery64 (deliveries_in tick bytes)
deliveries_in_64 tick bytes = sym (map-map delivery64 (delivered_at tick) (messages_at (length bytes) bytes 0))

-- what the caller sees
seen_so : {recording : List ℕ} {at : ℕ} (l : Lent recording at) (p : Playback) (r : Stepped) (after : Playback) (left : List ℕ) (tick : ℕ)
    → Promised l p r after left → (step l.window l.ended l.output p).playback.ticks ≡ in64 tick
    → seen r after left ≡ map delivery64 (deliveries_in tick (step l.window l.ended l.output p).bytes)
seen_so l p r after left tick (e, same, f) t =
    let s = step l.window l.ended l.output p in
    rw (e, same, f, (answers_so l.window l.ended l.output p).written, take-append_seam s.bytes (drop (length s.bytes) l.output), t)
    (deliveries_in_64 tick s.bytes)

-- what one step delivers, and what those after it do
pub joined : (a b c : Replayed) (ds xs first : List Delivery) → a ≡ ahead ds b → first ≡ map delivery64 ds → replayed_in64 b ≡ ahead xs c
    → replayed_in64 a ≡ ahead (first ++ xs) c
joined a b c ds xs first e f g =
    let with_deliveries : List Delivery → Replayed = λ l. record { deliveries = l; reply = b.reply; offset = in64 b.offset } in
    ap replayed_in64 e
    ∙ ap with_deliveries (map-append delivery64 ds b.deliveries)
    ∙ ap (ahead (map delivery64 ds)) g
    ∙ rw f (ap (λ (l : List Delivery). record { deliveries = l; reply = c.reply; offset = c.offset })
    (sym (append_assoc (map delivery64 ds) xs c.deliveries)))

record Followed (recording : List ℕ) (u : Node) (at : ℕ) (rest : Recording) (count : ℕ) (xs : List Delivery) (q : Playback) (end : ℕ) : Type 0 where
  to : Node
  holds : Holds to end q
  later : Recording
  reads : ReadBy recording end later
  same : replayed_in64 (replay_on u rest) ≡ ahead xs (replayed_in64 (replay_on to later))
  nearer : count + (held_in to.slots + (length recording - end)) ≤ held_in u.slots + (length recording - at)

module _ (recording : List ℕ) where
  follow : {p q : Playback} {at end count : ℕ} {xs : List Delivery} → Steps recording p at count xs q end
      → (u : Node) → Holds u at p → (rest : Recording) → ReadBy recording at rest → Followed recording u at rest count xs q end
  follow start u holds rest reads =
      record { to = u; holds = holds; later = rest; reads = reads; same = refl; nearer = omega arith }
  follow (next {p} {q} {at} {end} {count} {xs} l r after left promised not_over more) u holds rest reads =
      let e = promised.0 in
      let s = step l.window l.ended l.output p in
      let so = answers_so l.window l.ended l.output p in
      let way : way_of r ≡ s.way = ap way_of e ∙ so.way in
      let took : took_by r ≡ s.took = ap took_by e ∙ so.took in
      let w = goes_on l u p holds rest reads (ap is_over (sym way) ∙ not_over) in
      let holds' = subst (λ (n : ℕ). Holds w.to (at + n) after) (sym took) (subst (Holds w.to (at + s.took)) (sym promised.1) w.holds) in
      let reads' = subst (λ (n : ℕ). ReadBy recording (at + n) w.later) (sym took) w.reads in
      let f = follow more w.to holds' w.later reads' in
      let ds = deliveries_in w.to.counter s.bytes in
      record {
        to = f.to;
        holds = f.holds;
        later = f.later;
        reads = f.reads;
        same = joined (replay_on u rest) (replay_on w.to w.later) (replayed_in64 (replay_on f.to f.later)) ds xs (seen r after left)
            w.same (seen_so l p r after left w.to.counter promised w.holds.ticks) f.same;
        nearer = omega (arith, w.nearer, f.nearer, took, ap counted way);
      }

-- ── EVERY REPLAY ──
pub fresh_holds : Holds fresh 0 fresh_playback
fresh_holds = record { kept = kept_fresh; node = refl; ticks = refl; taken = refl }

module _ {settings : List (Stream × Settings)} {r : Answer} {p : Playback} (set_up_call : Prepares fresh_playback settings r p) where
  abbrev o : Outcome
  o = set_up_all settings fresh

  set : SetUpAs o fresh 0 r p
  set = prepares_as set_up_call fresh 0 fresh_holds

  begun : {q : Playback} {at count : ℕ} {xs : List Delivery} (recording : List ℕ) → Steps recording p 0 count xs q at
      → Followed recording o.node 0 (recording_in recording) count xs q at
  begun recording steps = follow recording steps o.node set.holds (recording_in recording) (every_recording_is_read recording)

pub every_replay : EveryReplay
every_replay settings recording _ (not_begun reply set_up_call) =
    let (same, bad) = was_refused _ tt (set set_up_call).replied in
    rw (bad, same)
every_replay settings recording _ (ended {p} {q} {at} {count} {xs} set_up_call steps l r after left promised over) =
    let f = begun set_up_call recording steps in
    let e = promised.0 in
    let s = step l.window l.ended l.output q in
    let so = answers_so l.window l.ended l.output q in
    let is_end = ap is_over (sym (ap way_of e ∙ so.way)) ∙ over in
    let last = ends l f.to q f.holds f.later f.reads is_end in
    let whole : ℕ → ℕ → Replayed = λ reply offset. record { deliveries = xs; reply = reply; offset = offset } in
    let with_deliveries : List Delivery → Replayed = λ ds. record { deliveries = ds; reply = of_reader.number_of s.reply; offset = s.offset } in
    let (reply, offset) = so.end is_end in
    rw ((was_done _ tt (set set_up_call).replied).1, e, reply, offset) (sym (f.same ∙ ap (ahead xs) last ∙ ap with_deliveries (append-nil xs)))

pub it_ends : Ends
it_ends settings recording p q r at count xs set_up_call steps =
    let f = begun set_up_call recording steps in
    let none = (set set_up_call).held in
    omega (arith, f.nearer, none)
