-- A step of the code goes as the definition does: what it delivers, and what is left to replay then; and it gets nearer to the end.
use Rattle.std.proofs.Common.{◌≡◌, ℕ, ◌+◌, ◌-◌, ◌<◌, ◌≤◌, true, ◌≢◌, ◌⊎◌, List, [], ◌∷◌, ◌++◌, length, sym, refl, ap, ◌∙◌, subst, inl, true≢false, append_assoc}
use Rattle.std.proofs.Common.{add-zero, zero-add, arith, length-append}
use native.Mathlib.Nat.{mod-add-mod}
use lib.ListN.{replicate-append-replicate}
use Rattle.heard.specs.declared.reply.Reply.TheVariants.{CutRecord}
use Rattle.heard.specs.Replies.{Done, Refused, number_of}
use Rattle.heard.specs.Reading.{HeardAt, heard_at}
use Rattle.heard.specs.Recordings.{Record, Recording, behind, record_in}
use Rattle.heard.specs.RoundTrip.{ReadBy, at_end, at_fault, one_read}
use Rattle.heard.specs.Windows.{moved}
use Rattle.heard.proofs.Passed.{passed, within}
use Rattle.heard.proofs.Windows.{window_answers}
use Rattle.node.specs.declared.Node.{Node}
use Rattle.node.specs.Nodes.{Outcome}
use Rattle.node.specs.Tick.{tick_room}
use Rattle.node.specs.Clock.{unbounded, rolled}
use Rattle.node.specs.Calls.{Call, outcome, roll}
use Rattle.node.proofs.kept.EveryCall.{kept_by}
use Rattle.playback.specs.declared.Playback.{Playback}
use Rattle.playback.specs.Deliveries.{Delivery, deliveries_in, delivered_by, deliveries_from, room}
use Rattle.playback.specs.Gaps.{gap_from}
use Rattle.playback.specs.Replays.{Replayed, calls_from, replay_on}
use Rattle.playback.specs.Quiet.{quiet, standing, ticks, held_in}
use Rattle.playback.specs.Steps.{in64, Step, went_on, jumped, tick_step, hear_step}
use Rattle.playback.specs.Runs.{Lent, counted}
use Rattle.playback.proofs.Stretches.{quiet_at_most}
use Rattle.playback.proofs.Deliveries.{jump_delivers_nothing, gap_in_64, calls_in_parts}
use Rattle.playback.proofs.Held.{ticked_slots, fewer_held, heard_held}
use Rattle.playback.proofs.Holding.{Holds, quiet_rolls, tick_room_law, hear_room_law, jump_holds, call_holds}

-- ── reading on ──
-- a record is read here: what is left are this record and those behind it
record Goes (recording : List ℕ) (at : ℕ) (rest : Recording) : Type 0 where
  later : Recording
  is : rest ≡ behind (record_in recording (heard_at recording at)) later
  reads : ReadBy recording (heard_at recording at).next later

goes : {recording : List ℕ} {at : ℕ} {rest : Recording} → ReadBy recording at rest → (heard_at recording at).ok ≡ true → Goes recording at rest
goes {recording} {at} (at_end past) ok =
    let w = within recording at (heard_at recording at) refl ok in absurd (omega (arith, w.inside, w.ahead))
goes {recording} {at} (at_fault reply inside e) ok = absurd (true≢false (sym ok ∙ ap (λ (x : HeardAt). x.ok) (sym e)))
goes {recording} {at} (one_read {rest = later} r inside e reads) ok =
    record {
      later = later;
      is = ap (λ (x : HeardAt). behind (record_in recording x) later) e;
      reads = subst (λ (x : HeardAt). ReadBy recording x.next later) e reads;
    }

-- the window answers as the whole recording does
abbrev Answers : (window recording : List ℕ) → (at : ℕ) → Type 0
Answers window recording at =
    (heard_at recording at ≡ moved at (heard_at window 0)) × (record_in recording (heard_at recording at) ≡ record_in window (heard_at window 0))

by_the_window : (gone window beyond recording : List ℕ) (at : ℕ) → gone ++ (window ++ beyond) ≡ recording → length gone ≡ at
    → ((heard_at window 0).reply ≢ Refused CutRecord) ⊎ (beyond ≡ []) → Answers window recording at
by_the_window gone window beyond recording at all place tells =
    let a = window_answers gone window beyond 0 tells in
    let here : 0 + length gone ≡ length gone = zero-add (length gone) in
    rw (← all, ← place) (rw here at a.answer, rw here at a.record_in_window)

pub in_the_window : {recording : List ℕ} {at : ℕ} (l : Lent recording at)
    → ((heard_at l.window 0).reply ≢ Refused CutRecord) ⊎ (l.beyond ≡ []) → Answers l.window recording at
in_the_window {recording} {at} l = by_the_window l.gone l.window l.beyond recording at l.all l.place

-- how much of the recording is left
pub what_is_left : {recording : List ℕ} {at : ℕ} (l : Lent recording at) → length recording ≡ at + (length l.window + length l.beyond)
what_is_left l =
    let size = ap length l.all in
    omega (arith, size, l.place, length-append l.gone (l.window ++ l.beyond), length-append l.window l.beyond)

read_is_done : (window : List ℕ) → (heard_at window 0).ok ≡ true → (heard_at window 0).reply ≢ Refused CutRecord
read_is_done window ok cut =
    let done : (heard_at window 0).reply ≡ Done = ap (λ (r : HeardAt). r.reply) (passed window 0 ok).is in
    let n : ◌≡◌ {A = ℕ} 0 15 = ap number_of (sym done ∙ cut) in
    omega arith

-- ── a step that went on ──
abbrev pub ahead : List Delivery → Replayed → Replayed
ahead ds r = record { deliveries = ds ++ r.deliveries; reply = r.reply; offset = r.offset }

pub record Went (recording : List ℕ) (at : ℕ) (u : Node) (rest : Recording) (s : Step) : Type 0 where
  pub to : Node
  pub holds : Holds to (at + s.took) s.playback
  pub later : Recording
  pub reads : ReadBy recording (at + s.took) later
  pub same : replay_on u rest ≡ ahead (deliveries_in to.counter s.bytes) (replay_on to later)
  pub inside : at + s.took ≤ length recording
  pub nearer : counted s.way + (held_in to.slots + (length recording - (at + s.took))) ≤ held_in u.slots + (length recording - at)

module _ (recording : List ℕ) (at : ℕ) (u : Node) (p : Playback) (holds : Holds u at p) (rest : Recording) (reads : ReadBy recording at rest) where
  -- more is asked for, and nothing was done
  pub asked : at ≤ length recording → (s : Step) → s.playback ≡ p → s.took ≡ 0 → s.bytes ≡ [] → counted s.way ≡ 0 → Went recording at u rest s
  asked within_it s same none silent uncounted =
      let here : at + s.took ≡ at = omega arith in
      record {
        to = u;
        holds = rw (here, same) holds;
        later = rest;
        reads = rw here reads;
        same = rw silent refl;
        inside = omega arith;
        nearer = omega (arith, uncounted);
      }

  -- a record is read, and the quiet before it is so long
  module _ (l : Lent recording at) (ok : (heard_at l.window 0).ok ≡ true) (long : tick_room ≤ length l.output) where
    abbrev window : List ℕ
    window = l.window

    abbrev output : List ℕ
    output = l.output

    abbrev pub r : HeardAt
    r = heard_at window 0

    abbrev pub gap : ℕ
    gap = gap_from u.counter r.heard

    abbrev pub still : ℕ
    still = quiet unbounded gap u

    pub same_gap : gap_from p.ticks r.heard ≡ gap
    same_gap = rw holds.ticks (gap_in_64 u.counter r.heard)

    pub same_still : quiet rolled (gap_from p.ticks r.heard) p.node ≡ still
    same_still = rw (same_gap, holds.node) (quiet_rolls gap u holds.kept)

    answer : (heard_at recording at ≡ moved at r) × (record_in recording (heard_at recording at) ≡ record_in window r)
    answer = in_the_window l (inl (read_is_done window ok))

    on : Goes recording at rest
    on = goes reads (rw answer.0 ok)

    abbrev there : Node
    there = standing (u.counter + still) u

    there_holds : Holds there at (jumped still p)
    there_holds = jump_holds u at p holds gap still (omega arith)

    abbrev heard_record : Record
    heard_record = record_in window r

    rest_is : rest ≡ behind heard_record on.later
    rest_is = on.is ∙ ap (λ (x : Record). behind x on.later) answer.1

    -- ── to the tick that ends the quiet ──
    module _ (before : still < gap) where
      abbrev ticked_there : Outcome
      ticked_there = outcome unbounded (Call.tick output) there

      tick_is : tick_step output (jumped still p)
          ≡ went_on (record { node = roll ticked_there.node; ticks = in64 ((jumped still p).ticks + 1); taken = p.taken }) 0 ticked_there.bytes
      unfolding tick_step
      tick_is =
          ap (λ (o : Outcome). went_on (record { node = o.node; ticks = in64 ((jumped still p).ticks + 1); taken = p.taken }) 0 o.bytes)
          (call_holds there at (jumped still p) there_holds (Call.tick output))

      counts : ticked_there.node.counter ≡ u.counter + still + 1
      counts = (ticked_slots output there long).1

      tick_delivers : (x : Record) (xs : List Record) → x.0 ≡ r.heard
          → deliveries_from u (calls_from u.counter (x ∷ xs))
          ≡ delivered_by ticked_there ++ deliveries_from ticked_there.node (calls_from ticked_there.node.counter (x ∷ xs))
      tick_delivers x xs e =
          let next : u.counter + (still + 1) ≡ ticked_there.node.counter = omega (arith, counts) in
          let few : still + 1 ≤ gap_from u.counter x.0 = rw e (omega arith) in
          let cs = calls_from (u.counter + (still + 1)) (x ∷ xs) in
          ap (deliveries_from u)
          (calls_in_parts u.counter (still + 1) x xs few
          ∙ ap (λ (l : List Call). l ++ cs) (sym (replicate-append-replicate still 1 (Call.tick room)))
          ∙ append_assoc (ticks still) (ticks 1) cs)
          ∙ jump_delivers_nothing gap still u (Call.tick room ∷ cs) (omega arith)
          ∙ ap (λ (o : Outcome). delivered_by o ++ deliveries_from o.node cs) (sym (tick_room_law output there long))
          ∙ ap (λ (n : ℕ). delivered_by ticked_there ++ deliveries_from ticked_there.node (calls_from n (x ∷ xs))) next

      pub tick_went : Went recording at u rest (tick_step output (jumped still p))
      tick_went = subst (Went recording at u rest) (sym tick_is) went
        where
          went : Went recording at u rest
              (went_on (record { node = roll ticked_there.node; ticks = in64 ((jumped still p).ticks + 1); taken = p.taken }) 0 ticked_there.bytes)
          went =
              record {
                to = ticked_there.node;
                holds = rw (add-zero at)
                    (record {
                      kept = kept_by (Call.tick output) there there_holds.kept;
                      node = refl;
                      ticks = rw (there_holds.ticks, counts) (mod-add-mod (u.counter + still) 18446744073709551616 1);
                      taken = holds.taken;
                    });
                later = rest;
                reads = rw (add-zero at) reads;
                same = rw rest_is
                    (ap (λ (ds : List Delivery). record { deliveries = ds; reply = (replay_on u on.later).reply; offset = (replay_on u on.later).offset })
                    (tick_delivers heard_record on.later.records refl));
                inside = omega (arith, what_is_left l);
                nearer = omega (arith, fewer_held gap u output holds.kept before long);
              }

    -- ── to the record ──
    module _ (beyond_it : gap ≤ still) where
      abbrev heard_there : Outcome
      heard_there = outcome unbounded (Call.hear r.heard.id r.heard.dlc heard_record.1 output) there

      hear_is : hear_step r window output (jumped still p)
          ≡ went_on (record { node = roll heard_there.node; ticks = (jumped still p).ticks; taken = in64 (p.taken + r.next) }) r.next
          heard_there.bytes
      unfolding hear_step
      hear_is =
          ap (λ (o : Outcome). went_on (record { node = o.node; ticks = (jumped still p).ticks; taken = in64 (p.taken + r.next) }) r.next o.bytes)
          (call_holds there at (jumped still p) there_holds (Call.hear r.heard.id r.heard.dlc heard_record.1 output))

      held : (held_in heard_there.node.slots ≤ held_in u.slots + 1) × (heard_there.node.counter ≡ u.counter + still)
      held = heard_held r.heard.id r.heard.dlc heard_record.1 output there

      arrived : gap ≡ still
      arrived = let most = quiet_at_most unbounded gap u in omega arith

      hear_delivers : (xs : List Record)
          → deliveries_from u (calls_from u.counter (heard_record ∷ xs))
          ≡ delivered_by heard_there ++ deliveries_from heard_there.node (calls_from heard_there.node.counter xs)
      hear_delivers xs =
          let c = Call.hear r.heard.id r.heard.dlc heard_record.1 room in
          ap (λ (k : ℕ). deliveries_from u (ticks k ++ (c ∷ calls_from (u.counter + k) xs))) arrived
          ∙ jump_delivers_nothing gap still u (c ∷ calls_from (u.counter + still) xs) (omega arith)
          ∙ ap (λ (o : Outcome). delivered_by o ++ deliveries_from o.node (calls_from (u.counter + still) xs))
          (sym (hear_room_law r.heard.id r.heard.dlc heard_record.1 output there long))
          ∙ ap (λ (n : ℕ). delivered_by heard_there ++ deliveries_from heard_there.node (calls_from n xs)) (sym held.1)

      -- the record has more than one byte, and ends within the recording
      taken_bytes : (2 ≤ r.next) × (at + r.next ≤ length recording)
      taken_bytes =
          let end : r.next ≤ length window = (within window 0 r refl ok).inside in
          (rw (passed window 0 ok).is (omega arith), omega (arith, end, what_is_left l))

      pub hear_went : Went recording at u rest (hear_step r window output (jumped still p))
      hear_went = subst (Went recording at u rest) (sym hear_is) went
        where
          went : Went recording at u rest
              (went_on (record { node = roll heard_there.node; ticks = (jumped still p).ticks; taken = in64 (p.taken + r.next) }) r.next
              heard_there.bytes)
          went =
              let c = Call.hear r.heard.id r.heard.dlc heard_record.1 output in
              let here : (heard_at recording at).next ≡ at + r.next = ap (λ (x : HeardAt). x.next) answer.0 ∙ omega arith in
              record {
                to = heard_there.node;
                holds =
                    record {
                      kept = kept_by c there there_holds.kept;
                      node = refl;
                      ticks = rw held.1 there_holds.ticks;
                      taken = rw holds.taken (mod-add-mod at 18446744073709551616 r.next);
                    };
                later = on.later;
                reads = subst (λ (n : ℕ). ReadBy recording n on.later) here on.reads;
                same = ap (replay_on u) rest_is
                    ∙ ap (λ (ds : List Delivery). record { deliveries = ds; reply = (replay_on u on.later).reply; offset = (replay_on u on.later).offset })
                    (hear_delivers on.later.records);
                inside = taken_bytes.1;
                nearer = omega (arith, held.0, taken_bytes.0, taken_bytes.1);
              }
