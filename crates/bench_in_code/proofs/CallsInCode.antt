-- The ways through the calls of the bench in code: what each return leaves is what the definition says.
use Rattle.std.proofs.Common.{◌≡◌, ℕ, ◌≤◌, ◌<◌, Bool, true, false, not, ◌&&◌, List, map, length, get_or, set, replicate}
use Rattle.std.proofs.Common.{ltb, Some, None, Result, Ok, Err, refl, sym, ap, ◌∙◌, arith}
use borrow.Author.Tests.{le-leb, lt-leb}
use Rattle.wire.specs.declared.reply.Reply.{Reply}
use Rattle.wire.specs.Delivered.{over}
use Rattle.wire.specs.Answers.{answered}
use Rattle.node.specs.declared.Heard.{Heard}
use Rattle.node.specs.Nodes.{Outcome, fresh, as_answered, as_heard}
use Rattle.node.specs.Clock.{rolled}
use Rattle.node.specs.Calls.{Call, outcome, hear}
use Rattle.node.proofs.Answering.{was_refused, was_done}
use Rattle.node_bytes.specs.Decoding.{decode}
use Rattle.node_bytes.specs.Layout.{node_size}
use Rattle.node_bytes.specs.LentCalls.{lent_outcome, Leaves}
use Rattle.node_bytes.proofs.Calling.{as_node_law}
use Rattle.node_bytes.proofs.Lent.{cleared_is_fresh, fresh_written}
use Rattle.bench.specs.Lists.{at}
use Rattle.bench.specs.SetUp.{is_done}
use Rattle.bench.specs.Bench as history
use Rattle.bench.specs.Events.{lent, with_node, dead}
use Rattle.bench.proofs.laws.ListPlaces.{nth_inside, at_inside, at_past}
use Rattle.bench_in_code.specs.declared.outbox.Frame.{Frame}
use Rattle.bench_in_code.specs.declared.outbox.Frames.{Frames}
use Rattle.bench_in_code.specs.declared.stations.Module.{Module}
use Rattle.bench_in_code.specs.declared.Bench as held
use Rattle.bench_in_code.specs.declared.Given.TheVariants as given
use Rattle.bench_in_code.specs.Values.{Station, Bench, Asked, Dead, Nothing, Full, Out, Gave}
use Rattle.bench_in_code.specs.InCode.{nobody, shown, kept, hear_turn, payload_of, module_in, is_live_in, call_in, on_module, places}
use Rattle.bench_in_code.specs.InCode.{not_asked, asked, next, given_by, giving_of, with_frame, not_given, capacity, bench_of}
use Rattle.bench_in_code.specs.InBytes.{station_in, bench_in, fresh_bench, died, outcome_in, left_by, hearing_of, answer_of, given_of}
use Rattle.bench_in_code.proofs.StationsInBytes.{station_read, module_stored, live_is_there, eight_places}

-- ── one module of the bench ──
module _ (b : Bench) (eight : length b.modules ≡ 8) (who : ℕ) where
  pub past_stays : 8 ≤ who → (change : history.Module → history.Module) → b ≡ on_module change who b
  past_stays past change =
      ap (λ (ms : List Station). record { modules = ms })
      (sym (at_past (λ (m : Station). kept (change (shown m))) who b.modules (omega (arith, eight, past))))

  module _ (inside : who < 8) (d : Station) where
    pub read_is : get_or b.modules who d ≡ module_in who b
    read_is = nth_inside d nobody who b.modules (omega (arith, eight, inside))

    pub stored : (change : history.Module → history.Module) (m : Station) → m ≡ kept (change (shown (get_or b.modules who d)))
        → record { modules = set b.modules who m } ≡ on_module change who b
    stored change m e =
        ap (λ (ms : List Station). record { modules = ms })
        (rw (e, read_is) (at_inside (λ (m : Station). kept (change (shown m))) nobody who b.modules (omega (arith, eight, inside))))

    -- a call on its node
    pub answers_there : (there : Bool) → there ≡ true → (c : Call) (o : Outcome) → o ≡ outcome rolled c (get_or b.modules who d).node
        → (m : Station) → m ≡ kept (with_node o.node (shown (get_or b.modules who d)))
        → record { bench = record { modules = set b.modules who m }; there = true; reply = o.reply } ≡ asked there c who b
    unfolding asked
    answers_there there t c o e m e' =
        let o_is : o ≡ call_in c who b = e ∙ ap (λ (m : Station). outcome rolled c m.node) read_is in
        let bench = stored (with_node o.node) m e' in
        rw (t, bench, o_is)

pub nobody_answers : (there : Bool) → there ≡ false → (c : Call) (who : ℕ) (b : Bench) → not_asked b ≡ asked there c who b
unfolding asked
nobody_answers there t c who b = rw t

-- ── a bench in bytes ──
module _ (b : held.Bench) (eight : length b.modules ≡ 8) where
  -- nobody answers, and the bytes stay
  pub nobody_in : (there : Bool) → there ≡ false → (c : Call) (who : ℕ)
      → (None ≡ answer_of (asked there c who (bench_in b))) × (bench_in b ≡ (asked there c who (bench_in b)).bench)
  nobody_in there t c who =
      let e = nobody_answers there t c who (bench_in b) in
      (ap answer_of e, ap (λ (a : Asked). a.bench) e)

  -- the module at a place, before and after a call on its bytes
  module _ (who : ℕ) (inside : who < 8) (d : Module) where
    abbrev before : Module
    before = get_or b.modules who d

    read : get_or (map station_in b.modules) who nobody ≡ station_in before
    read = station_read b.modules who d nobody (omega (arith, eight, inside))

    pub answers_in : (there : Bool) → there ≡ true → (c : Call) {r : Result (Unit {0}) Reply} → r ≡ as_answered (outcome_in c before)
        → (m : Module) → station_in m ≡ left_by c before
        → (Some r ≡ answer_of (asked there c who (bench_in b)))
        × (bench_in (record { modules = set b.modules who m }) ≡ (asked there c who (bench_in b)).bench)
    answers_in there t c r_is m leaves =
        let o_is : outcome_in c before ≡ outcome rolled c (get_or (map station_in b.modules) who nobody).node = rw read in
        let m_is : station_in m ≡ kept (with_node (outcome_in c before).node (shown (get_or (map station_in b.modules) who nobody))) = rw (leaves, read) in
        let e = answers_there (bench_in b) (eight_places b eight) who inside nobody there t c _ o_is (station_in m) m_is in
        (ap Some r_is ∙ ap answer_of e, module_stored b.modules who m ∙ ap (λ (x : Asked). x.bench) e)

    -- ── a death ──
    pub dies_inside : (set b.modules who (died before) ≡ at died who b.modules)
        × (bench_in (record { modules = set b.modules who (died before) }) ≡ on_module dead who (bench_in b))
    dies_inside =
        let in_list : who < length b.modules = omega (arith, eight, inside) in
        let m_is : station_in (died before) ≡ kept (dead (shown (get_or (map station_in b.modules) who nobody))) = rw read in (
          rw (nth_inside d d who b.modules in_list) (at_inside died d who b.modules in_list),
          module_stored b.modules who (died before) ∙ stored (bench_in b) (eight_places b eight) who inside nobody dead _ m_is,
        )

  pub dies_past : (who : ℕ) → 8 ≤ who → (b.modules ≡ at died who b.modules) × (bench_in b ≡ on_module dead who (bench_in b))
  dies_past who past =
      (sym (at_past died who b.modules (omega (arith, eight, past))), past_stays (bench_in b) (eight_places b eight) who past dead)

-- ── fresh nodes ──
abbrev zeros : List ℕ
zeros = replicate node_size 0

zeros_are_fresh : decode zeros ≡ fresh
zeros_are_fresh = ap decode (cleared_is_fresh zeros refl) ∙ fresh_written zeros refl

eight_of : (n : ℕ) (x : List ℕ) → decode x ≡ fresh
    → bench_in (record { modules = map (λ (i : ℕ). record { node = x; live = ltb i n }) places }) ≡ bench_of n
eight_of n x e = rw e

pub all_fresh : (n : ℕ) → bench_in (fresh_bench n) ≡ bench_of n
all_fresh n = eight_of n zeros zeros_are_fresh

-- ── a module's turn ──
module _ (m : Module) (named own : Bool) (f : Frame) where
  pub reached : (m.live && named && not own) ≡ true → length m.node ≡ node_size → (p : List ℕ) → p ≡ payload_of f
      → {r : Result Heard Reply} → r ≡ as_heard (lent_outcome (hear f.id (length p) p lent) m.node)
      → {out : List ℕ} → out ≡ over (lent_outcome (hear f.id (length p) p lent) m.node).bytes lent
      → {after : List ℕ} → Leaves (hear f.id (length p) p lent) m.node after
      → (Some r ≡ hearing_of (hear_turn named own f (station_in m)).said)
      × ((out ≡ (hear_turn named own f (station_in m)).said.bytes)
      × (station_in (record { node = after; live = m.live }) ≡ (hear_turn named own f (station_in m)).after))
  reached e whole p p_is r_is out_is leaves =
      let here = as_node_law (hear f.id (length p) p lent) m.node whole in
      (rw (r_is, here, p_is, e), (rw (out_is, here, p_is, e), rw (leaves.node, here, p_is, e)))

-- ── giving out ──
module _ (b : Bench) (eight : length b.modules ≡ 8) (who : ℕ) (fs : Frames) where
  pub dead_gives_nothing : is_live_in who b ≡ false → not_given Dead fs b ≡ giving_of who fs b
  unfolding giving_of
  dead_gives_nothing e = rw e

  module _ (live : is_live_in who b ≡ true) (inside : who < 8) (d : Station) (o : Outcome)
      (o_is : o ≡ outcome rolled next (get_or b.modules who d).node) where
    by_outcome : o ≡ call_in next who b
    by_outcome = o_is ∙ ap (λ (m : Station). outcome rolled next m.node) (read_is b eight who inside d)

    is_done_here : (t : Bool) → is_done o.reply ≡ t → is_done (call_in next who b).reply ≡ t
    is_done_here t e = ap (λ (p : Outcome). is_done p.reply) (sym by_outcome) ∙ e

    pub nothing_to_give : is_done o.reply ≡ false → not_given Nothing fs b ≡ giving_of who fs b
    unfolding giving_of
    nothing_to_give e = rw (live, is_done_here false e)

    pub no_room : is_done o.reply ≡ true → capacity ≤ fs.count → not_given Full fs b ≡ giving_of who fs b
    unfolding giving_of
    no_room e full = rw (live, is_done_here true e, le-leb capacity fs.count full)

    pub gives_out : is_done o.reply ≡ true → fs.count < capacity
        → (m : Station) → m ≡ kept (with_node o.node (shown (get_or b.modules who d)))
        → record {
          bench = record { modules = set b.modules who m };
          frames = with_frame (given_by who o) fs;
          giving = Out;
          frame = given_by who o;
        }
        ≡ giving_of who fs b
    unfolding giving_of
    gives_out e room m m_is =
        let bench = stored b eight who inside d (with_node o.node) m m_is in
        rw (live, is_done_here true e, lt-leb capacity fs.count room, bench, by_outcome)

-- ── giving out, of nodes in bytes ──
module _ (b : held.Bench) (eight : length b.modules ≡ 8) (who : ℕ) (fs : Frames) where
  abbrev gave : Gave
  gave = giving_of who fs (bench_in b)

  abbrev Tells : Gave → Type 0
  Tells g = (given_of g ≡ given_of gave) × ((g.frames ≡ gave.frames) × (g.bench ≡ gave.bench))

  told : (g : Gave) → g ≡ gave → Tells g
  told g e = (ap given_of e, (ap (λ (x : Gave). x.frames) e, ap (λ (x : Gave). x.bench) e))

  pub dead_in : is_live_in who (bench_in b) ≡ false → Tells (not_given Dead fs (bench_in b))
  dead_in dead = told _ (dead_gives_nothing (bench_in b) (eight_places b eight) who fs dead)

  module _ (is_live : is_live_in who (bench_in b) ≡ true) (d : Module) where
    abbrev asked_here : Outcome
    asked_here = outcome_in next (get_or b.modules who d)

    inside : who < 8
    inside = live_is_there (bench_in b) (eight_places b eight) who is_live

    made_here : asked_here ≡ outcome rolled next (get_or (map station_in b.modules) who nobody).node
    made_here = rw (read b eight who inside d)

    -- what its node answers
    abbrev Answers : Result Frame Reply → Type 0
    Answers r = r ≡ answered asked_here.reply (given_by who asked_here)

    pub nothing_in : {q : Reply} → Answers (Err q) → Tells (not_given Nothing fs (bench_in b))
    nothing_in a =
        told _ (nothing_to_give (bench_in b) (eight_places b eight) who fs is_live inside nobody _ made_here (was_refused _ _ a).1)

    pub full_in : {f : Frame} → Answers (Ok f) → capacity ≤ fs.count → Tells (not_given Full fs (bench_in b))
    full_in a full = told _ (no_room (bench_in b) (eight_places b eight) who fs is_live inside nobody _ made_here (was_done _ _ a).1 full)

    pub given_in : {f : Frame} → Answers (Ok f) → fs.count < capacity
        → (m : Module) → station_in m ≡ left_by next (get_or b.modules who d)
        → {fs' : Frames} → fs' ≡ with_frame f fs
        → (given.Out f ≡ given_of gave) × ((fs' ≡ gave.frames) × (bench_in (record { modules = set b.modules who m }) ≡ gave.bench))
    given_in {f} a room m m_is fs'_is =
        let said = was_done _ _ a in
        let m_is' : station_in m ≡ kept (with_node asked_here.node (shown (get_or (map station_in b.modules) who nobody))) =
        rw (m_is, read b eight who inside d) in
        let t = told _ (gives_out (bench_in b) (eight_places b eight) who fs is_live inside nobody _ made_here said.1 room (station_in m) m_is') in (
          ap (λ (g : Frame). given.Out g) said.0 ∙ t.0,
          (fs'_is ∙ ap (λ (g : Frame). with_frame g fs) said.0 ∙ t.1.0, module_stored b.modules who m ∙ t.1.1),
        )
