-- Every history that keeps the rules, with no more give-outs than the outbox keeps, runs in code with sendings by number; and every such run
-- answers as the rules do and ends in step with them.
use Prim.Native.Nat.{ℕ, ◌+◌, ◌≤◌, ◌<◌}
use native.Mathlib.Omega.{arith}
use mathlib.Core.Path.{◌≡◌, refl, ap, sym, subst, ◌∙◌}
use mathlib.Core.Bool.{true, not, ◌&&◌}
use mathlib.Core.List.{List, [], ◌∷◌}
use lib.ListN.{length, length-replicate}
use lib.Dec.{T}
use Rattle.wire.specs.declared.ids.Stream.{Stream}
use Rattle.one_stream.proofs.Truth.{and_l, and_r, is_true}
use Rattle.bench_in_code.specs.declared.outbox.Frame as Kept-frame
use Rattle.bench_in_code.specs.declared.outbox.Frames.{Frames}
use Rattle.bench_in_code.specs.Values as coded
use Rattle.bench.specs.SetUp.{Plan, all_entries, proper, start}
use Rattle.bench.specs.Bench.{Bench, Which, is_live, book_of, frame_of, owner_of}
use Rattle.bench.specs.Events.{Event, asks, gives, sends, ticks, dies, To, step, is_next}
use Rattle.bench.specs.Rules.{one, was_full, rule1, rule3, may, keeps_so_far}
use Rattle.bench_in_code.specs.InCode.{capacity, no_frame, frame_in, with_frame, giving_of}
use Rattle.bench_in_code.specs.InStep.{InStep, places_of}
use Rattle.bench_in_code.specs.Runs.{Coded, Command, request, give, send, tick, death, with_bench, after, answer, ruled}
use Rattle.bench_in_code.specs.Runs.{Does, asking, giving, sending, ticking, dying}
use Rattle.bench_in_code.specs.Runs.{Runs, no_more, then, Agrees, gives_out, give_outs, SetUps, ready, Allowed, EveryHistoryRuns, EveryRunAgrees}
use Rattle.bench.proofs.laws.FramesOfBooks.{AllBooks, EveryBook}
use Rattle.bench.proofs.message.PlanGives.{no_books}
use Rattle.bench.proofs.in_code.GiverOwns.{AsPlanned, as_planned_at_start, as_planned_step}
use Rattle.bench_in_code.proofs.InStep.{places_name, tick_in_step, tick_answer, death_in_step, request_in_step, request_answer, giving_in_step}
use Rattle.bench_in_code.proofs.InStep.{frame_kept, frame_given, giving_answer, sending_in_step, sending_answer}
use Rattle.bench_in_code.proofs.SetUpInStep.{plan_in_step, at_most_eight}
use Rattle.bench_in_code.proofs.OutboxKeepsFrames.{Filed, all_kept, refiled, KeepsGiven, filed_step, one_more, still_all_places, still_kept, kept_last}

-- ── what the rules ask of an event ──
module _ (b : Bench) where
  may_ask : (i : ℕ) (z : Stream) (p : List ℕ) → T (may b (asks i z p)) → is_live i b ≡ true
  unfolding may
  may_ask i z p m = is_true (is_live i b) m

  may_give : (i : ℕ) (z : Stream) (c : ℕ) → T (may b (gives i z c)) → is_next i z c b ≡ true
  unfolding may
  may_give i z c m = is_true (is_next i z c b) m

  -- the frame was given out, and its owner is live
  may_send_law : (z : Stream) (message : ℕ) (w : Which) (to : To) → T (may b (sends z message w to))
      → (is_live (owner_of w (book_of z message b)) b ≡ true) × T (frame_of w (book_of z message b)).given
  unfolding may
  may_send_law z message w to m =
      let k = book_of z message b in
      let live = is_live (owner_of w k) b in
      let given = (frame_of w k).given in
      let first = and_l (live && given) (not (was_full (frame_of w k))) (and_l (rule1 b k w) (rule3 b z k w) m) in
      (is_true live (and_l live given first), and_r live given first)

module _ (plan : Plan) (ok : T (proper plan)) where
  -- ── what is carried along a run, where so many give-outs are to come ──
  record Carried (b : Bench) (x : Coded) (to_come : ℕ) : Type 0 where
    pub in_step : InStep b x.bench
    pub planned : AsPlanned plan b
    pub filed : EveryBook (Filed plan x.outbox) b
    pub all_places : length x.outbox.all ≡ capacity
    pub room : x.outbox.count + to_come ≤ capacity

  carried_at_start : (xs : SetUps) (h : List Event) → Allowed plan xs h → Carried (start plan) (ready (length plan) xs) (give_outs h)
  carried_at_start xs h allowed =
      record {
        in_step = plan_in_step plan xs (at_most_eight plan ok) allowed.set_up;
        planned = as_planned_at_start plan;
        filed = λ z. unfold start in subst (AllBooks _) (sym (no_books z (all_entries plan))) tt;
        all_places = length-replicate capacity no_frame;
        room = omega (arith, allowed.enough_room);
      }

  -- ── one event ──
  -- there is a command for it
  command_for : {b : Bench} {x : Coded} {to_come : ℕ} → Carried b x to_come → (e : Event) → T (may b e) → (c : Command) × Does b x e c
  command_for s (asks i z p) m = (request i z p, asking i z p)
  command_for s (gives i z c) m = (give i, giving i z c)
  command_for {b} {x} s (sends z message w to) m =
      let (n, kept) = all_kept plan x.outbox b s.filed z message w (may_send_law b z message w to m).1 in
      (send n (places_of to), sending z message w to n (places_of to) kept (places_name to))
  command_for s ticks m = (tick, ticking)
  command_for s (dies i) m = (death i, dying i)

  -- where nothing is given out the outbox stays
  as_before : {b : Bench} {x : Coded} {k : coded.Bench} (e : Event) (g to_come : ℕ) → Carried b x (g + to_come) → KeepsGiven x.outbox b e
      → InStep (step b e) k → Carried (step b e) (with_bench k x) to_come
  as_before {b} {x} e g to_come s none in_step =
      record {
        in_step = in_step;
        planned = as_planned_step plan b s.planned e;
        filed = filed_step plan ok x.outbox b s.planned s.filed e none;
        all_places = s.all_places;
        room = omega (arith, s.room);
      }

  -- and what it does goes on in step, and is answered by the rules
  carried_step : {b : Bench} {x : Coded} {e : Event} {c : Command} (to_come : ℕ) → Carried b x (one (gives_out e) + to_come) → T (may b e)
      → Does b x e c → Carried (step b e) (after c x) to_come × (answer c x ≡ ruled b e)
  carried_step {b} {x} to_come s m (asking i z p) = (
    as_before (asks i z p) 0 to_come s tt (request_in_step s.in_step i z p),
    request_answer s.in_step i z p (may_ask b i z p m),
  )
  carried_step {b} {x} to_come s m (giving i z c) = (
    record {
      in_step = giving_in_step s.in_step i z c is_next_here x.outbox room;
      planned = as_planned_step plan b s.planned (gives i z c);
      filed = subst (λ fs. EveryBook (Filed plan fs) (step b (gives i z c))) (sym outbox_is)
          (filed_step plan ok (with_frame f x.outbox) b s.planned
          (refiled plan x.outbox (with_frame f x.outbox) (λ n who g. still_kept x.outbox s.all_places room f) b s.filed)
          (gives i z c)
          (λ g. (x.outbox.count, kept_last x.outbox s.all_places room f (frame_given s.in_step i z c is_next_here x.outbox room g))));
      all_places = ap (λ (fs : Frames). length fs.all) outbox_is ∙ still_all_places x.outbox s.all_places room f;
      room = omega (arith, s.room, ap (λ (fs : Frames). fs.count) outbox_is, one_more x.outbox s.all_places room f);
    },
    giving_answer s.in_step i z c is_next_here x.outbox room,
  )
    where
      is_next_here : is_next i z c b ≡ true
      is_next_here = may_give b i z c m

      room : x.outbox.count < capacity
      room = omega (arith, s.room)

      f : Kept-frame.Frame
      f = (giving_of i x.outbox x.bench).frame

      outbox_is : (giving_of i x.outbox x.bench).frames ≡ with_frame f x.outbox
      outbox_is = frame_kept s.in_step i z c is_next_here x.outbox room
  carried_step {b} {x} to_come s m (sending z message w to n here kept names) =
      let live = (may_send_law b z message w to m).0 in (
        as_before (sends z message w to) 0 to_come s tt
            (sending_in_step s.in_step z message w to (frame_in n x.outbox) here kept.same live names),
        sending_answer s.in_step z message w to (frame_in n x.outbox) here kept.same live names,
      )
  carried_step to_come s m ticking = (as_before ticks 0 to_come s tt (tick_in_step s.in_step), tick_answer s.in_step)
  carried_step to_come s m (dying i) = (as_before (dies i) 0 to_come s tt (death_in_step s.in_step i), refl)

  -- ── all events ──
  runs : (h : List Event) {b : Bench} {x : Coded} → Carried b x (give_outs h) → T (keeps_so_far b h) → (cs : List Command) × Runs b x h cs
  runs [] s k = ([], no_more)
  runs (e ∷ h) {b} s k =
      let m = and_l (may b e) (keeps_so_far (step b e) h) k in
      let (c, d) = command_for s e m in
      let (cs, rest) = runs h (carried_step (give_outs h) s m d).0 (and_r (may b e) (keeps_so_far (step b e) h) k) in
      (c ∷ cs, then d rest)

  agrees : {h : List Event} {cs : List Command} {b : Bench} {x : Coded} → Carried b x (give_outs h) → T (keeps_so_far b h) → Runs b x h cs → Agrees b x h cs
  agrees s k (no_more {b = b} {x = x}) = record { same_answers = refl; in_step = s.in_step; all_kept = all_kept plan x.outbox b s.filed }
  agrees s k (then {b = b} {e = e} {h = h} d rest) =
      let (carried, same) = carried_step (give_outs h) s (and_l (may b e) (keeps_so_far (step b e) h) k) d in
      let a = agrees carried (and_r (may b e) (keeps_so_far (step b e) h) k) rest in
      record { same_answers = rw (same, a.same_answers); in_step = a.in_step; all_kept = a.all_kept }

pub every_history_runs : EveryHistoryRuns
every_history_runs plan xs h a = runs plan a.is_proper h (carried_at_start plan a.is_proper xs h a) a.keeps_rules

pub every_run_agrees : EveryRunAgrees
every_run_agrees plan xs h a cs r = agrees plan a.is_proper (carried_at_start plan a.is_proper xs h a) a.keeps_rules r
