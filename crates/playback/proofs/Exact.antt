-- 64 bits are enough for the ticks and the offset of every recording of fewer than 2^48 bytes.
use Rattle.std.proofs.Common.{◌≡◌, ℕ, zero, suc, ◌+◌, ◌*◌, ◌<◌, ◌≤◌, Bool, true, false, cond, eqb, leb, List, [], ◌∷◌, ◌++◌, map, length, sym, refl, ◌∙◌}
use Rattle.std.proofs.Common.{mod-eq_of_lt, arith}
use Rattle.wire.specs.declared.ids.Stream.{Stream}
use Rattle.wire.specs.declared.settings.Settings.{Settings}
use Rattle.wire.specs.Replies as of_node
use Rattle.wire.specs.Delivered.{messages_at}
use Rattle.heard.specs.Replies.{Done}
use Rattle.heard.specs.Records.{Heard}
use Rattle.heard.specs.Replies as of_reader
use Rattle.heard.specs.Reading.{heard_at}
use Rattle.heard.specs.Recordings.{Record, Recording, stopped, behind, record_in, read_from, recording_in}
use Rattle.heard.specs.RoundTrip.{ReadBy, at_end, at_fault, one_read}
use Rattle.heard.proofs.WrittenThenRead.{every_recording_is_read}
use Rattle.node.specs.declared.Node.{Node}
use Rattle.node.specs.Nodes.{Outcome, fresh}
use Rattle.node.specs.SetUp.{set_up}
use Rattle.node.specs.Clock.{period, unbounded}
use Rattle.node.specs.Calls.{Call, outcome}
use Rattle.node.proofs.Choices.{either_way}
use Rattle.playback.specs.Deliveries.{Delivery, delivered_at, deliveries_in, delivered_by, deliveries_from, room}
use Rattle.playback.specs.Gaps.{gap_from}
use Rattle.playback.specs.Replays.{Replayed, set_up_all, calls_from, fault_in, replay_on, replay}
use Rattle.playback.specs.Quiet.{ticks}
use Rattle.playback.specs.Steps.{in64}
use Rattle.playback.specs.Runs.{replayed_in64, ExactReplay}
use Rattle.playback.proofs.Held.{ticked_slots, heard_held, set_up_held}
use Rattle.playback.proofs.Runs.{delivery64, every_replay}

-- ── no delivery is later than this ──
abbrev UpTo : (most : ℕ) → List Delivery → Type 0
UpTo most [] = Unit {0}
UpTo most (d ∷ ds) = (d.tick ≤ most) × UpTo most ds

gap_small : (now : ℕ) (h : Heard) → gap_from now h < period
unfolding gap_from
gap_small now h = omega arith

module _ (most : ℕ) where
  both_up_to : (xs ys : List Delivery) → UpTo most xs → UpTo most ys → UpTo most (xs ++ ys)
  both_up_to [] ys us vs = vs
  both_up_to (x ∷ xs) ys (u, us) vs = (u, both_up_to xs ys us vs)

  at_up_to : (tick : ℕ) → tick ≤ most → (messages : List (Stream × List ℕ)) → UpTo most (map (delivered_at tick) messages)
  at_up_to tick h [] = tt
  at_up_to tick h (m ∷ messages) = (h, at_up_to tick h messages)

  in_up_to : (tick : ℕ) → tick ≤ most → (bytes : List ℕ) → UpTo most (deliveries_in tick bytes)
  in_up_to tick h bytes = at_up_to tick h (messages_at (length bytes) bytes 0)

  ticks_up_to : (k : ℕ) (n : Node) (cs : List Call) → n.counter + k ≤ most
      → ((m : Node) → m.counter ≡ n.counter + k → UpTo most (deliveries_from m cs)) → UpTo most (deliveries_from n (ticks k ++ cs))
  ticks_up_to zero n cs h others = others n (omega arith)
  ticks_up_to (suc k) n cs h others =
      let o = outcome unbounded (Call.tick room) n in
      let counts = (ticked_slots room n (omega arith)).1 in
      both_up_to (delivered_by o) (deliveries_from o.node (ticks k ++ cs)) (in_up_to o.node.counter (omega (arith, counts)) o.bytes)
      (ticks_up_to k o.node cs (omega (arith, counts)) (λ m e. others m (omega (arith, e, counts))))

  records_up_to : (rs : List Record) (n : Node) → n.counter + 65535 * length rs ≤ most → UpTo most (deliveries_from n (calls_from n.counter rs))
  records_up_to [] n h = tt
  records_up_to ((x, payload) ∷ rs) n h =
      let g : ℕ = gap_from n.counter x in
      let small : g < period = gap_small n.counter x in
      ticks_up_to g n (Call.hear x.id x.dlc payload room ∷ calls_from (n.counter + g) rs) (omega arith) λ m e.
      let o = outcome unbounded (Call.hear x.id x.dlc payload room) m in
      let counts = (heard_held x.id x.dlc payload room m).1 in
      let same : n.counter + g ≡ o.node.counter = sym (counts ∙ e) in
      both_up_to (delivered_by o) (deliveries_from o.node (calls_from (n.counter + g) rs)) (in_up_to o.node.counter (omega (arith, counts, e)) o.bytes)
      (rw same (records_up_to rs o.node (omega (arith, counts, e))))

-- ── nor is any record at fault further on than the recording is long ──
few_records : (most : ℕ) (bytes : List ℕ) (at : ℕ) → length (read_from most bytes at).records ≤ most
few_records zero bytes at = omega arith
few_records (suc most) bytes at = by (few_records most bytes (heard_at bytes at).next) (leb (length bytes) at) (heard_at bytes at).ok
  where
    by : length (read_from most bytes (heard_at bytes at).next).records ≤ most → (end ok : Bool)
        → length
        (cond end (stopped Done at)
        (cond ok (behind (record_in bytes (heard_at bytes at)) (read_from most bytes (heard_at bytes at).next))
        (stopped (heard_at bytes at).reply (heard_at bytes at).next))).records
        ≤ suc most
    by few true ok = omega arith
    by few false true = omega arith
    by few false false = omega arith

fault_inside : {bytes : List ℕ} {at : ℕ} {rest : Recording} → ReadBy bytes at rest → fault_in rest ≤ length bytes
fault_inside (at_end past) = omega arith
fault_inside {bytes} {at} (at_fault reply inside e) = by (eqb (of_reader.refusal_number reply) 0)
  where
    by : (t : Bool) → cond t 0 at ≤ length bytes
    by true = omega arith
    by false = omega arith
fault_inside (one_read r inside e later) = fault_inside later

-- ── the whole ──
set_up_counter : (settings : List (Stream × Settings)) (n : Node) → (set_up_all settings n).node.counter ≡ n.counter
set_up_counter [] n = refl
set_up_counter ((s, x) ∷ rest) n =
    let o = set_up s x n in
    let here = (set_up_held s x n).1 in
    either_way (λ (q : Outcome). q.node.counter) (eqb (of_node.number_of o.reply) 0) (set_up_counter rest o.node ∙ here) here

same_deliveries : (most : ℕ) → most < 18446744073709551616 → (ds : List Delivery) → UpTo most ds → map delivery64 ds ≡ ds
same_deliveries most small [] us = refl
same_deliveries most small (d ∷ ds) (u, us) =
    let low : d.tick < 18446744073709551616 = omega arith in
    let same : in64 d.tick ≡ d.tick = mod-eq_of_lt low in
    rw (same, same_deliveries most small ds us)

pub enough : (settings : List (Stream × Settings)) (recording : List ℕ) → length recording < 281474976710656
    → replayed_in64 (replay settings recording) ≡ replay settings recording
enough settings recording short = by (eqb (of_node.number_of o.reply) 0)
  where
    o : Outcome
    o = set_up_all settings fresh

    rest : Recording
    rest = recording_in recording

    replayed_so : replayed_in64 (replay_on o.node rest) ≡ replay_on o.node rest
    replayed_so =
        let few = few_records (length recording) recording 0 in
        let zero_there : o.node.counter ≡ 0 = set_up_counter settings fresh in
        let most : ℕ = 65535 * length recording in
        let small : most < 18446744073709551616 = omega arith in
        let ds = deliveries_from o.node (calls_from o.node.counter rest.records) in
        let early = records_up_to most rest.records o.node (omega (arith, few, zero_there)) in
        let deliveries : map delivery64 ds ≡ ds = same_deliveries most small ds early in
        let inside = fault_inside (every_recording_is_read recording) in
        let low : fault_in rest < 18446744073709551616 = omega (arith, inside) in
        let offset : in64 (fault_in rest) ≡ fault_in rest = mod-eq_of_lt low in
        rw (deliveries, offset)

    refused : Replayed
    refused = record { deliveries = []; reply = of_node.number_of o.reply; offset = 0 }

    by : (t : Bool) → replayed_in64 (cond t (replay_on o.node rest) refused) ≡ cond t (replay_on o.node rest) refused
    by true = replayed_so
    by false = refl

pub exact_replay : ExactReplay
exact_replay settings recording r short run = every_replay settings recording r run ∙ enough settings recording short
