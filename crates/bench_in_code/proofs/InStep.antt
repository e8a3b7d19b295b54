-- The bench in code goes in step with the bench of the rules: its counts roll over, and at every event its modules do and say what the
-- modules of the rules do and log.
use Prim.Native.Nat.{ℕ, zero, suc, ◌+◌, ◌<◌}
use native.Mathlib.Nat.{zero-add}
use native.Mathlib.Omega.{arith}
use mathlib.Core.Path.{◌≡◌, refl, ap, sym, subst, ◌∙◌}
use mathlib.Core.Logic.{◌⊎◌, inl, inr}
use mathlib.Core.Bool.{Bool, true, false, not, cond, ◌&&◌}
use mathlib.Core.List.{List, [], ◌∷◌, map}
use lib.ListN.{length, length-map, replicate, get_or, drop}
use lib.Seq.{take-append_seam}
use lib.Dec.{T, eqb, eqb→eq}
use borrow.Author.Tests.{lt-leb}
use Rattle.wire.specs.declared.ids.Stream.{Stream}
use Rattle.wire.specs.Frames.{max_payload}
use Rattle.wire.specs.Identifiers.{stream_of, code_of}
use Rattle.wire.specs.Delivered.{over}
use Rattle.node.specs.declared.Node.{Node}
use Rattle.node.specs.Nodes.{Outcome}
use Rattle.node.specs.Clock.{unbounded, rolled}
use Rattle.node.specs.Calls.{Call, hear, tick, request, outcome, roll_outcome}
use Rattle.node.proofs.Choices.{contrary}
use Rattle.node.proofs.Cases.{by_case}
use Rattle.node.proofs.request.Cases.{request_cases}
use Rattle.node.proofs.next_frame.Cases.{next_facts, next_passes, next_cases}
use Rattle.node.proofs.kept.EveryCall.{kept_by}
use Rattle.node.proofs.rollover.SameAnswers.{rolls}
use Rattle.one_stream.proofs.Truth.{and_l, is_true, so}
use Rattle.bench_in_code.specs.declared.outbox.Frame as Kept-frame
use Rattle.bench_in_code.specs.declared.outbox.Frames.{Frames}
use Rattle.bench_in_code.specs.Values as coded
use Rattle.bench_in_code.specs.Values.{Station, Said, Turn, Out, Gave}
use Rattle.bench.specs.Lists.{nth, each}
use Rattle.bench.specs.SetUp.{is_done}
use Rattle.bench.specs.Bench.{Bench, Module, Frame, Delivery, records_of, pending_since, module_at, same_stream, is_live, book_of, Which, frame_of, owner_of}
use Rattle.bench.specs.Events.{To, named, asks, gives, sends, ticks, dies, step, lent, call, with_node, dead, deliveries}
use Rattle.bench.specs.Events.{heard, at_once, gave_out, next, is_next, asked}
use Rattle.bench_in_code.specs.InCode as code
use Rattle.bench_in_code.specs.InCode.{nobody, shown, kept, saying, silence, tick_turn, frame_shown, module_in, is_live_in, call_in, place_count, places}
use Rattle.bench_in_code.specs.InCode.{on_module, after_call, turns_of, after_turns, said_in, tick_of, sending_of, giving_of, given_by, with_frame, capacity}
use Rattle.bench_in_code.specs.InStep.{Mirrors, InStep, SameFrame, Names, places_of}
use Rattle.bench_in_code.specs.Runs.{says, ruled, replied, said, nothing, gave_as}
use Rattle.bench.proofs.laws.SlotAfterCall.{asking, giving}
use Rattle.bench.proofs.laws.ListPlaces.{nth_inside, nth_there, nth_each, length_each, map_each}
use Rattle.bench.proofs.laws.ModuleAfterEvent.{nth_at, length_at, module_step, next_done}
use Rattle.bench.proofs.laws.RecordsAreDeliveries.{tick_writes, heard_writes}
use Rattle.bench_in_code.proofs.LoopsOverStations.{heard_at}

-- ── one module ──
module _ {m : Module} {x : Station} (a : Mirrors m x) where
  -- a call answers the same
  same_outcome : (c : Call) → call rolled c (shown x) ≡ roll_outcome (call unbounded c m)
  same_outcome c = ap (outcome rolled c) a.node ∙ rolls c m.node a.reached

  -- and leaves the same, whatever is logged
  after_call_here : (c : Call) (log : List Delivery) (o : Outcome) → o ≡ roll_outcome (call unbounded c m)
      → Mirrors (record { node = (call unbounded c m).node; live = m.live; log = log }) (record { node = o.node; live = x.live })
  after_call_here c log o e = record { node = ap (λ (o : Outcome). o.node) e; live = a.live; reached = kept_by c m.node a.reached }

  -- a change that both make, or neither does
  if_both : (t t' : Bool) → t' ≡ t → (m' y : Module) → Mirrors m' (kept y) → Mirrors (cond t m' m) (kept (cond t' y (shown x)))
  if_both t t' e m' y changed = subst (λ g. Mirrors (cond t m' m) (kept (cond g y (shown x)))) (sym e) (go t)
    where
      go : (t : Bool) → Mirrors (cond t m' m) (kept (cond t y (shown x)))
      go true = changed
      go false = a

-- what a module says are the records of what it logs
says_records : (o : Outcome) (ds : List Delivery) → o.bytes ≡ records_of ds → saying o ≡ says o ds
says_records o ds e =
    ap (λ (bytes : List ℕ). record { heard = true; reply = o.reply; len = length bytes; bytes = over bytes lent; report = o.report }) e

tick_says : (n : Node) → saying (outcome unbounded (tick lent) n) ≡ says (outcome unbounded (tick lent) n) (deliveries unbounded n)
tick_says n = says_records (outcome unbounded (tick lent) n) (deliveries unbounded n) (tick_writes unbounded n)

heard_says : (g : Frame) (m : Module) → saying (heard g m) ≡ says (heard g m) (at_once g m)
heard_says g m = says_records (heard g m) (at_once g m) (heard_writes g m)

-- ── whom a sending is to ──
pub places_name : (to : To) → Names to (places_of to)
places_name to i h =
    nth_inside false (named to i) i (places_of to) h ∙ nth_each tt (λ (j : ℕ) (x : Unit {0}). named to j) i 0 i (replicate place_count tt) (zero-add i)

-- ── calls on one module, by the rules ──
-- the second bench is the first after a call of module i
abbrev pub Called : Call → ℕ → Bench → Bench → Type 0
Called c i b b' = (j : ℕ) → module_at j b' ≡ cond (eqb j i) (with_node (call unbounded c (module_at j b)).node (module_at j b)) (module_at j b)

-- a request that is refused leaves the node as it was
refusal_leaves : (z : Stream) (p : List ℕ) (n : Node) → is_done (asking z p n).reply ≡ false → (asking z p n).node ≡ n
refusal_leaves z p n =
    by_case (λ (o : Outcome). is_done o.reply ≡ false → o.node ≡ n) (λ r why e. refl) (λ h e. contrary refl e) (request_cases p z n).case

request_is_call : (b : Bench) (i : ℕ) (z : Stream) (p : List ℕ) → is_live i b ≡ true → Called (request z p) i b (step b (asks i z p))
request_is_call b i z p live j =
    module_step b (asks i z p) j ∙ rw live (go (eqb j i) (is_done (asked i z p b).reply) (eqb→eq j i) (refusal_leaves z p (module_at i b).node))
  where
    go : (t d : Bool) → (T t → j ≡ i) → (d ≡ false → (asking z p (module_at i b).node).node ≡ (module_at i b).node)
        → cond (d && t) (with_node (asking z p (module_at j b).node).node (module_at j b)) (module_at j b)
        ≡ cond t (with_node (asking z p (module_at j b).node).node (module_at j b)) (module_at j b)
    go true true same left = refl
    go true false same left =
        let left_here = subst (λ q. (asking z p (module_at q b).node).node ≡ (module_at q b).node) (sym (same tt)) (left refl) in
        ap (λ n. with_node n (module_at j b)) (sym left_here)
    go false true same left = refl
    go false false same left = refl

-- an output of eight bytes does for the next frame
shorter_output : (n : Node) → outcome unbounded code.next n ≡ giving n
shorter_output n =
    let law = next_cases lent n in
    by_case (λ o. o ≡ giving n) (λ r why. sym (law.refused_if r why))
    (λ h. sym (law.accepted_if (next_facts lent n (next_passes eight_bytes n h)))) (next_cases eight_bytes n).case
  where
    eight_bytes : List ℕ
    eight_bytes = replicate max_payload 0

giving_is_call : (b : Bench) (i : ℕ) (z : Stream) (c : ℕ) → is_next i z c b ≡ true → Called code.next i b (step b (gives i z c))
giving_is_call b i z c is_next_here j = module_step b (gives i z c) j ∙ rw (is_next_here, shorter_output (module_at j b).node)

next_live : (b : Bench) (i : ℕ) (z : Stream) (c : ℕ) → is_next i z c b ≡ true → is_live i b ≡ true
next_live b i z c is_next_here =
    let o = next i b in
    is_true (is_live i b) (and_l (is_live i b) (is_done o.reply)
    (and_l (is_live i b && is_done o.reply) (same_stream (stream_of o.id) z)
    (and_l (is_live i b && is_done o.reply && same_stream (stream_of o.id) z) (eqb (code_of o.id) c) (so is_next_here))))

-- ── the bench ──
-- what the turn at a place leaves
turn_at : (turn : ℕ → Station → Turn) (i : ℕ) (k : coded.Bench)
    → nth (turn i nobody).after i (after_turns (turns_of turn k)).modules ≡ (turn i (module_in i k)).after
turn_at turn i k =
    ap (nth (turn i nobody).after i) (map_each (λ (t : Turn). t.after) turn 0 k.modules)
    ∙ nth_each nobody (λ j x. (turn j x).after) i 0 i k.modules (zero-add i)

-- the places from k on, so many
abbrev places_from : (k n : ℕ) → List ℕ
places_from k zero = []
places_from k (suc n) = k ∷ places_from (suc k) n

each_place : {A C : Type 0} (d : A) (f : ℕ → A → C) (g : ℕ → C) (k : ℕ) (l : List A)
    → ((i p : ℕ) → k + i ≡ p → f p (nth d i l) ≡ g p) → each f k l ≡ map g (places_from k (length l))
each_place d f g k [] h = refl
each_place d f g k (x ∷ xs) h = rw (h 0 k (omega arith), each_place d f g (suc k) xs (λ i p e. h (suc i) p (omega arith)))

-- what all turns say
all_say : (turn : ℕ → Station → Turn) (k : coded.Bench) (g : ℕ → Said) → length k.modules ≡ place_count
    → ((i : ℕ) → (turn i (module_in i k)).said ≡ g i) → said_in (turns_of turn k) ≡ map g places
all_say turn k g eight h =
    map_each (λ (t : Turn). t.said) turn 0 k.modules
    ∙ (each_place nobody (λ j x. (turn j x).said) g 0 k.modules
    (λ i p e. let same : i ≡ p = omega arith in ap (λ j. (turn p (module_in j k)).said) same ∙ h p)
    ∙ ap (λ n. map g (places_from 0 n)) eight)

module _ {b : Bench} {k : coded.Bench} (in_step : InStep b k) where
  live_in_code : (i : ℕ) → is_live i b ≡ true → is_live_in i k ≡ true
  live_in_code i live = (in_step.modules i).live ∙ live

  there_in_code : (i : ℕ) → is_live i b ≡ true → i < length k.modules
  there_in_code i live = nth_there nobody (λ (x : Station). T x.live) (λ t. t) i k.modules (so (live_in_code i live))

  pub live_below_eight : (i : ℕ) → is_live i b ≡ true → i < 8
  live_below_eight i live = let h = there_in_code i live in omega (arith, in_step.eight)

  -- every module has its turn
  all_turn : (b' : Bench) (turn : ℕ → Station → Turn) → ((i : ℕ) → (turn i nobody).after ≡ nobody)
      → ((i : ℕ) → Mirrors (module_at i b') (turn i (module_in i k)).after) → InStep b' (after_turns (turns_of turn k))
  all_turn b' turn nobody_turns a =
      let after : Turn → Station = λ t. t.after in
      record {
        eight = length-map (turns_of turn k) after ∙ (length_each turn 0 k.modules ∙ in_step.eight);
        modules = λ i.
            subst (Mirrors (module_at i b'))
            (sym (turn_at turn i k) ∙ ap (λ d. nth d i (map after (turns_of turn k))) (nobody_turns i)) (a i);
      }

  -- one module changes
  one_changes : (b' : Bench) (i : ℕ) (f h : Module → Module) → (i < length k.modules) ⊎ (kept (h (shown nobody)) ≡ nobody)
      → ((j : ℕ) → module_at j b' ≡ cond (eqb j i) (f (module_at j b)) (module_at j b))
      → Mirrors (f (module_at i b)) (kept (h (shown (module_in i k)))) → InStep b' (on_module h i k)
  one_changes b' i f h there e a =
      record {
        eight = length_at change i k.modules ∙ in_step.eight;
        modules = λ j. rw (e j, nth_at nobody change j i k.modules there) (go j (eqb j i) (eqb→eq j i));
      }
    where
      change : Station → Station
      change x = kept (h (shown x))

      go : (j : ℕ) (t : Bool) → (T t → j ≡ i) → Mirrors (cond t (f (module_at j b)) (module_at j b)) (cond t (change (module_in j k)) (module_in j k))
      go j true same = subst (λ q. Mirrors (f (module_at q b)) (change (module_in q k))) (sym (same tt)) a
      go j false same = in_step.modules j

  -- a live module makes a call
  one_calls : (c : Call) (i : ℕ) → is_live i b ≡ true → (b' : Bench) → Called c i b b' → InStep b' (after_call c i k)
  one_calls c i live b' called =
      let a = in_step.modules i in
      one_changes b' i (λ m. with_node (call unbounded c m).node m) (with_node (call_in c i k).node) (inl (there_in_code i live)) called
      (after_call_here a c (module_at i b).log (call_in c i k) (same_outcome a c))

  -- and answers, where it is asked
  module _ (c : Call) (i : ℕ) (there : Bool) (is_there : there ≡ true) where
    pub answer_in_step : is_live i b ≡ true → (b' : Bench) → Called c i b b' → InStep b' (code.asked there c i k).bench
    unfolding code.asked
    answer_in_step live b' called = rw is_there (one_calls c i live b' called)

    pub same_reply : (code.asked there c i k).reply ≡ (call unbounded c (module_at i b)).reply
    unfolding code.asked
    same_reply = rw is_there (ap (λ (o : Outcome). o.reply) (same_outcome (in_step.modules i) c))

  -- ── a tick ──
  pub tick_in_step : InStep (step b ticks) (tick_of k).bench
  unfolding tick_of
  tick_in_step =
      all_turn (step b ticks) (λ i x. tick_turn x) (λ i. refl)
      (λ i. let a = in_step.modules i in
      rw (module_step b ticks i) (if_both a _ _ a.live _ _ (after_call_here a (tick lent) _ _ (same_outcome a (tick lent)))))

  -- a live module says that it is done, with the records of what it logs
  pub tick_answer : said (tick_of k).said ≡ ruled b ticks
  unfolding tick_of
  tick_answer =
      ap said (all_say (λ i x. tick_turn x) k _ in_step.eight λ i.
      let a = in_step.modules i in
      ap (λ t. cond t (saying (call_in (tick lent) i k)) silence) a.live
      ∙ ap (λ o. cond (is_live i b) o silence) (ap saying (same_outcome a (tick lent)) ∙ tick_says (module_at i b).node))

  -- ── a death ──
  pub death_in_step : (i : ℕ) → InStep (step b (dies i)) (on_module dead i k)
  death_in_step i =
      let a = in_step.modules i in
      one_changes (step b (dies i)) i dead dead (inr refl) (module_step b (dies i)) (record { node = a.node; live = refl; reached = a.reached })

  -- ── a request ──
  module _ (i : ℕ) (z : Stream) (p : List ℕ) where
    pub request_in_step : InStep (step b (asks i z p)) (code.asked (is_live_in i k) (request z p) i k).bench
    unfolding code.asked step
    request_in_step = go (is_live i b) refl
      where
        go : (t : Bool) → is_live i b ≡ t → InStep (step b (asks i z p)) (code.asked (is_live_in i k) (request z p) i k).bench
        go true live = answer_in_step (request z p) i (is_live_in i k) (live_in_code i live) live (step b (asks i z p)) (request_is_call b i z p live)
        go false dead = rw ((in_step.modules i).live, dead) in_step

    pub request_answer : is_live i b ≡ true
        → (let a = code.asked (is_live_in i k) (request z p) i k in cond a.there (replied a.reply) nothing ≡ ruled b (asks i z p))
    unfolding code.asked
    request_answer live = rw (live_in_code i live) (ap (λ (o : Outcome). replied o.reply) (same_outcome (in_step.modules i) (request z p)))

  -- ── giving out ──
  module _ (i : ℕ) (z : Stream) (c : ℕ) (is_next_here : is_next i z c b ≡ true) (fs : Frames) (room : fs.count < capacity) where
    live : is_live i b ≡ true
    live = next_live b i z c is_next_here

    same_next : call_in code.next i k ≡ roll_outcome (next i b)
    same_next = same_outcome (in_step.modules i) code.next ∙ ap roll_outcome (shorter_output (module_at i b).node)

    is_done_here : is_done (call_in code.next i k).reply ≡ true
    is_done_here = ap (λ (o : Outcome). is_done o.reply) same_next ∙ is_true _ (next_done b i z c (so is_next_here)).0

    given_out :
        giving_of i fs k
        ≡ record {
          bench = after_call code.next i k;
          frames = with_frame (given_by i (call_in code.next i k)) fs;
          giving = Out;
          frame = given_by i (call_in code.next i k);
        }
    unfolding giving_of
    given_out = rw (live_in_code i live, is_done_here, lt-leb capacity fs.count room)

    pub giving_in_step : InStep (step b (gives i z c)) (giving_of i fs k).bench
    giving_in_step = rw given_out (one_calls code.next i live (step b (gives i z c)) (giving_is_call b i z c is_next_here))

    -- the frame is kept as the last one
    pub frame_kept : (giving_of i fs k).frames ≡ with_frame (giving_of i fs k).frame fs
    frame_kept = rw given_out

    -- and it is what the book's frame becomes
    pub frame_given : (g : Frame) → SameFrame (giving_of i fs k).frame i (gave_out (next i b) g)
    frame_given g =
        rw (given_out, same_next)
        (record { owner = refl; id = refl; payload = take-append_seam (next i b).bytes (drop (length (next i b).bytes) (replicate max_payload 0)) })

    pub giving_answer : gave_as (giving_of i fs k).giving (giving_of i fs k).frame ≡ ruled b (gives i z c)
    giving_answer =
        let same = frame_given (pending_since []) in
        rw (ap (λ (g : Gave). g.giving) given_out, same.id, same.payload)

  -- ── a sending ──
  module _ (z : Stream) (message : ℕ) (w : Which) (to : To) (f : Kept-frame.Frame) (here : List Bool)
      (same : SameFrame f (owner_of w (book_of z message b)) (frame_of w (book_of z message b)))
      (owner_live : is_live (owner_of w (book_of z message b)) b ≡ true) (names : Names to here) where
    abbrev owner : ℕ
    owner = owner_of w (book_of z message b)

    abbrev g : Frame
    g = frame_of w (book_of z message b)

    same_reached : (i : ℕ)
        → (is_live_in i k && get_or here i false && not (eqb i f.owner)) ≡ (is_live i b && named to i && not (eqb i owner))
    same_reached i = rw ((in_step.modules i).live, same.owner) (go (is_live i b) refl)
      where
        go : (t : Bool) → is_live i b ≡ t → (t && get_or here i false && not (eqb i owner)) ≡ (t && named to i && not (eqb i owner))
        go true live = rw (names i (live_below_eight i live))
        go false dead = refl

    same_heard : (i : ℕ) → heard (frame_shown f) (shown (module_in i k)) ≡ roll_outcome (heard g (module_at i b))
    same_heard i =
        rw (same.id, same.payload) (same_outcome (in_step.modules i) (hear g.id (length g.payload) g.payload lent))

    all_reached :
        sending_of f here k
        ≡ record { bench = after_turns (turns_of (heard_at f here) k); sent = true; said = said_in (turns_of (heard_at f here) k) }
    unfolding sending_of
    all_reached = rw (ap (λ q. is_live_in q k) same.owner ∙ live_in_code owner owner_live)

    pub sending_in_step : InStep (step b (sends z message w to)) (sending_of f here k).bench
    sending_in_step =
        rw all_reached
        (all_turn (step b (sends z message w to)) (heard_at f here) (λ i. refl)
        (λ i. let a = in_step.modules i in
        rw (module_step b (sends z message w to) i)
        (if_both a _ _ (same_reached i) _ _ (after_call_here a (hear g.id (length g.payload) g.payload lent) _ _ (same_heard i)))))

    -- a module that hears it replies by the rules, with the record of what it logs at once
    pub sending_answer : cond (sending_of f here k).sent (said (sending_of f here k).said) nothing ≡ ruled b (sends z message w to)
    sending_answer =
        rw all_reached
        (ap said (all_say (heard_at f here) k _ in_step.eight λ i.
        ap (λ t. cond t (saying (heard (frame_shown f) (shown (module_in i k)))) silence) (same_reached i)
        ∙ ap (λ o. cond (is_live i b && named to i && not (eqb i owner)) o silence) (ap saying (same_heard i) ∙ heard_says g (module_at i b))))
