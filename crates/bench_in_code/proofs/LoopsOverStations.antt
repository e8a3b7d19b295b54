-- What the loops of the bench in code have done when they come to a place: before it, each module has had its turn.
use Rattle.std.proofs.Common.{◌≡◌, ℕ, zero, suc, ◌+◌, ◌≤◌, ◌<◌, Bool, true, false, List, [], ◌∷◌, ◌++◌, map, length, get_or, set, take, drop}
use Rattle.std.proofs.Common.{replicate, Option, Some, None, eqb, refl, sym, ap, ◌∙◌, arith}
use Rattle.std.proofs.Common.{Result}
use Rattle.std.proofs.lemmas.List.{map-set}
use native.Mathlib.Nat.{le_of_suc-le-suc, not-suc-le-zero}
use Rattle.wire.specs.declared.reply.Reply.{Reply}
use Rattle.node.specs.declared.Heard.{Heard}
use Rattle.node.specs.declared.Ticked.{Ticked}
use Rattle.bench.specs.Lists.{each}
use Rattle.bench.specs.Events.{lent}
use Rattle.bench.proofs.laws.ListPlaces.{map_each, length_each}
use Rattle.bench_in_code.specs.declared.outbox.Frame.{Frame}
use Rattle.bench_in_code.specs.declared.stations.Module.{Module}
use Rattle.bench_in_code.specs.declared.Bench as held
use Rattle.bench_in_code.specs.Values.{Station, Said, Turn, Bench}
use Rattle.bench_in_code.specs.InCode.{tick_turn, hear_turn, is_live_in, turns_of, after_turns, said_in, tick_of, sending_of}
use Rattle.bench_in_code.specs.InBytes.{station_in, bench_in, hearing_of, ticking_of, ticked_in, outputs_in, sent_of}
use Rattle.bench_in_code.proofs.StationsInBytes.{station_read, eight_places}

-- ── a list that is made place by place of what another was ──
abbrev pub made_to : {A : Type 0} → (i : ℕ) (whole before : List A) → List A
made_to i whole before = take i whole ++ drop i before

module _ {A : Type 0} where
  pub one_made : (whole before : List A) → length before ≡ length whole → (i : ℕ) (x d : A) → i < length whole → x ≡ get_or whole i d
      → set (made_to i whole before) i x ≡ made_to (suc i) whole before
  one_made [] before long i x d h is = absurd (not-suc-le-zero h)
  one_made (w ∷ ws) [] long i x d h is = absurd (omega (arith, long))
  one_made (w ∷ ws) (b ∷ bs) long zero x d h is = ap (λ (y : A). y ∷ bs) is
  one_made (w ∷ ws) (b ∷ bs) long (suc i) x d h is =
      ap (λ (r : List A). w ∷ r) (one_made ws bs (omega (arith, long)) i x d (le_of_suc-le-suc h) is)

  pub not_yet_made : (whole before : List A) → length before ≡ length whole → (i : ℕ) (d : A) → i < length whole
      → get_or (made_to i whole before) i d ≡ get_or before i d
  not_yet_made [] before long i d h = absurd (not-suc-le-zero h)
  not_yet_made (w ∷ ws) [] long i d h = absurd (omega (arith, long))
  not_yet_made (w ∷ ws) (b ∷ bs) long zero d h = refl
  not_yet_made (w ∷ ws) (b ∷ bs) long (suc i) d h = not_yet_made ws bs (omega (arith, long)) i d (le_of_suc-le-suc h)

  pub all_made : (whole before : List A) → length before ≡ length whole → (i : ℕ) → length whole ≤ i → made_to i whole before ≡ whole
  all_made [] [] long zero h = refl
  all_made [] [] long (suc i) h = refl
  all_made [] (b ∷ bs) long i h = absurd (omega (arith, long))
  all_made (w ∷ ws) [] long i h = absurd (omega (arith, long))
  all_made (w ∷ ws) (b ∷ bs) long zero h = absurd (not-suc-le-zero h)
  all_made (w ∷ ws) (b ∷ bs) long (suc i) h = ap (λ (r : List A). w ∷ r) (all_made ws bs (omega (arith, long)) i (le_of_suc-le-suc h))

-- a list that is made up to a place of some other of as many places
pub record MadeUp {A : Type 0} (i : ℕ) (l whole : List A) : Type 0 where
  pub rest : List A
  pub long : length rest ≡ length whole
  pub same : l ≡ made_to i whole rest

module _ {A : Type 0} {l whole : List A} where
  pub nothing_made : length l ≡ length whole → MadeUp 0 l whole
  nothing_made long = record { rest = l; long = long; same = refl }

  pub one_more_made : {i : ℕ} (w : MadeUp i l whole) (x : A) → i < length whole → x ≡ get_or whole i x → MadeUp (suc i) (set l i x) whole
  one_more_made {i} w x inside is =
      record { rest = w.rest; long = w.long; same = rw w.same (one_made whole w.rest w.long i x x inside is) }

-- what is made of each element and its place
each_at : {A B : Type 0} (g : ℕ → A → B) (k j n : ℕ) (l : List A) (d : A) (e : B) → j < length l → k + j ≡ n → get_or (each g k l) j e ≡ g n (get_or l j d)
each_at g k j n [] d e h s = absurd (not-suc-le-zero h)
each_at g k zero n (x ∷ xs) d e h s = ap (λ (m : ℕ). g m x) (omega (arith, s))
each_at g k (suc j) n (x ∷ xs) d e h s = each_at g (suc k) j n xs d e (le_of_suc-le-suc h) (omega (arith, s))

module _ {A : Type 0} (reads : Said → A) (turn : ℕ → Station → Turn) (start : List Station) where
  abbrev all : {B : Type 0} → (Turn → B) → List B
  all f = each (λ j m. f (turn j m)) 0 start

  abbrev moved_to : ℕ → List Station
  moved_to i = made_to i (all (λ t. t.after)) start

  abbrev spoken : Turn → A
  spoken t = reads t.said

  abbrev wrote : Turn → List ℕ
  wrote t = t.said.bytes

  many : {B : Type 0} (f : Turn → B) → length (all f) ≡ length start
  many f = length_each (λ j m. f (turn j m)) 0 start

  in_all : {i : ℕ} → i < length start → {B : Type 0} (f : Turn → B) → i < length (all f)
  in_all h f = rw (many f) h

  made_of : {i : ℕ} → i < length start → {B : Type 0} (f : Turn → B) (e : B) (d : Station) {x : Station} → x ≡ get_or start i d
      → f (turn i x) ≡ get_or (all f) i e
  made_of {i} h f e d is = rw is (sym (each_at (λ k z. f (turn k z)) 0 i i start d e h (omega arith)))

  pub record Turned (i : ℕ) (modules : List Station) (said : List A) (outs : List (List ℕ)) : Type 0 where
    pub eight : length start ≡ 8
    pub moved : modules ≡ moved_to i
    pub spoke : MadeUp i said (all spoken)
    pub written : MadeUp i outs (all wrote)

  pub none_turned : length start ≡ 8 → (said : List A) (outs : List (List ℕ)) → length said ≡ 8 → length outs ≡ 8 → Turned 0 start said outs
  none_turned e said outs e' e'' =
      record {
        eight = e;
        moved = refl;
        spoke = nothing_made (e' ∙ sym (many spoken ∙ e));
        written = nothing_made (e'' ∙ sym (many wrote ∙ e));
      }

  module _ {i : ℕ} {modules : List Station} {said : List A} {outs : List (List ℕ)} (w : Turned i modules said outs) where
    pub one_turned : i < 8 → (d m : Station) (s : A) (out : List ℕ)
        → (s ≡ spoken (turn i (get_or modules i d))) × ((out ≡ wrote (turn i (get_or modules i d))) × (m ≡ (turn i (get_or modules i d)).after))
        → Turned (suc i) (set modules i m) (set said i s) (set outs i out)
    one_turned h d m s out (s_is, (out_is, m_is)) =
        let inside : i < length start = omega (arith, w.eight, h) in
        let element : get_or modules i d ≡ get_or start i d =
        rw w.moved (not_yet_made (all (λ t. t.after)) start (sym (many (λ t. t.after))) i d (in_all inside (λ t. t.after))) in
        record {
          eight = w.eight;
          moved =
              rw w.moved (one_made (all (λ t. t.after)) start (sym (many (λ t. t.after))) i m m (in_all inside (λ t. t.after))
              (m_is ∙ made_of inside (λ t. t.after) m d element));
          spoke = one_more_made w.spoke s (in_all inside spoken) (s_is ∙ made_of inside spoken s d element);
          written = one_more_made w.written out (in_all inside wrote) (out_is ∙ made_of inside wrote out d element);
        }

    -- ── when the loop ends ──
    module _ (h : 8 ≤ i) where
      past : {B : Type 0} (f : Turn → B) → length (all f) ≤ i
      past f = omega (arith, many f, w.eight, h)

      pub all_turned : record { modules = modules } ≡ after_turns (turns_of turn (record { modules = start }))
      all_turned =
          ap (λ (ms : List Station). record { modules = ms })
          (w.moved ∙ all_made (all (λ t. t.after)) start (sym (many (λ t. t.after))) i (past (λ t. t.after))
          ∙ sym (map_each (λ (t : Turn). t.after) turn 0 start))

      as_made : {B : Type 0} (f : Said → B) → all (λ (t : Turn). f t.said) ≡ map f (said_in (turns_of turn (record { modules = start })))
      as_made f = sym (ap (map f) (map_each (λ (t : Turn). t.said) turn 0 start) ∙ map_each f (λ j m. (turn j m).said) 0 start)

      pub all_spoke : said ≡ map reads (said_in (turns_of turn (record { modules = start })))
      all_spoke = w.spoke.same ∙ all_made (all spoken) w.spoke.rest w.spoke.long i (past spoken) ∙ as_made reads

      pub all_wrote : outs ≡ outputs_in (said_in (turns_of turn (record { modules = start })))
      all_wrote = w.written.same ∙ all_made (all wrote) w.written.rest w.written.long i (past wrote) ∙ as_made (λ (s : Said). s.bytes)

-- a module's turn in a sending
abbrev pub heard_at : Frame → (to : List Bool) → ℕ → Station → Turn
heard_at f to j m = hear_turn (get_or to j false) (eqb j f.owner) f m

-- ── modules in bytes ──
module _ {A : Type 0} (reads : Said → A) (turn : ℕ → Station → Turn) (b : held.Bench) where
  abbrev pub TurnedTo : (i : ℕ) (modules : List Module) (said : List A) (outs : List (List ℕ)) → Type 0
  TurnedTo i modules said outs = Turned reads turn (map station_in b.modules) i (map station_in modules) said outs

  pub at_first : length b.modules ≡ 8 → (said : List A) (outs : List (List ℕ)) → length said ≡ 8 → length outs ≡ 8 → TurnedTo 0 b.modules said outs
  at_first eight said outs = none_turned reads turn (map station_in b.modules) (eight_places b eight) said outs

  pub one_place_turned : {i : ℕ} (modules : List Module) {said : List A} {outs : List (List ℕ)} → TurnedTo i modules said outs → i < 8
      → length modules ≡ 8 → (d m : Module) (s : A) (out : List ℕ)
      → let t = turn i (station_in (get_or modules i d)) in (s ≡ reads t.said) × ((out ≡ t.said.bytes) × (station_in m ≡ t.after))
      → TurnedTo (i + 1) (set modules i m) (set said i s) (set outs i out)
  one_place_turned {i} modules {said} {outs} w h eight d m s out is =
      let here = station_read modules i d (station_in d) (omega (arith, eight, h)) in
      let next : suc i ≡ i + 1 = omega arith in
      rw (sym next, map-set station_in modules i m)
      (one_turned reads turn (map station_in b.modules) w h (station_in d) (station_in m) s out (rw here is))

module _ (b : held.Bench) {i : ℕ} (h : 8 ≤ i) (modules : List Module) {outs : List (List ℕ)} where
  pub all_ticked : {said : List (Option (Result Ticked Reply))} → TurnedTo ticking_of (λ j m. tick_turn m) b i modules said outs
      → (said ≡ ticked_in (tick_of (bench_in b)).said)
      × ((outs ≡ outputs_in (tick_of (bench_in b)).said) × (bench_in (record { modules = modules }) ≡ (tick_of (bench_in b)).bench))
  unfolding tick_of
  all_ticked w = (all_spoke _ _ _ w h, (all_wrote _ _ _ w h, all_turned _ _ _ w h))

  pub all_heard : {said : List (Option (Result Heard Reply))} (f : Frame) (to : List Bool) → is_live_in f.owner (bench_in b) ≡ true
      → TurnedTo hearing_of (heard_at f to) b i modules said outs
      → (Some said ≡ sent_of (sending_of f to (bench_in b)))
      × ((outs ≡ outputs_in (sending_of f to (bench_in b)).said) × (bench_in (record { modules = modules }) ≡ (sending_of f to (bench_in b)).bench))
  unfolding sending_of
  all_heard f to live w = rw live (ap Some (all_spoke _ _ _ w h), (all_wrote _ _ _ w h, all_turned _ _ _ w h))

pub none_heard : (b : Bench) (f : Frame) (to : List Bool) → is_live_in f.owner b ≡ false
    → (None ≡ sent_of (sending_of f to b)) × ((replicate 8 lent ≡ outputs_in (sending_of f to b).said) × (b ≡ (sending_of f to b).bench))
unfolding sending_of
none_heard b f to dead = rw dead (refl, (refl, refl))
