-- Laws of the bench in bytes: a place that is read, one that is stored, and who is live.
use Rattle.std.proofs.Common.{◌≡◌, ℕ, ◌≤◌, ◌<◌, true, false, List, length, get_or, set, map, sym, ap, ◌∙◌, arith}
use Rattle.std.proofs.lemmas.List.{length-map, get_or-map, map-set}
use mathlib.Core.Bool.{true≢false}
use Rattle.bench_in_code.specs.declared.stations.Module.{Module}
use Rattle.bench_in_code.specs.declared.Bench as held
use Rattle.bench_in_code.specs.Values.{Station, Bench}
use Rattle.bench_in_code.specs.InCode.{nobody, is_live_in}
use Rattle.bench_in_code.specs.InBytes.{station_in, bench_in}
use Rattle.bench.proofs.laws.ListPlaces.{nth_inside, nth_past, nth_there}

pub station_read : (ms : List Module) (i : ℕ) (d : Module) (e : Station) → i < length ms
    → get_or (map station_in ms) i e ≡ station_in (get_or ms i d)
station_read ms i d e h = get_or-map station_in ms i d e h

pub module_stored : (ms : List Module) (i : ℕ) (m : Module)
    → ◌≡◌ {A = Bench} (record { modules = map station_in (set ms i m) }) (record { modules = set (map station_in ms) i (station_in m) })
module_stored ms i m = ap (λ (l : List Station). record { modules = l }) (map-set station_in ms i m)

pub live_is_there : (b : Bench) → length b.modules ≡ 8 → (i : ℕ) → is_live_in i b ≡ true → i < 8
live_is_there b eight i e =
    let h = nth_there nobody (λ (m : Station). m.live ≡ true) (λ d. true≢false (sym d)) i b.modules e in
    omega (arith, eight, h)

module _ (b : held.Bench) (eight : length b.modules ≡ 8) where
  pub eight_places : length (map station_in b.modules) ≡ 8
  eight_places = length-map b.modules station_in ∙ eight

  pub live_here : (i : ℕ) (d : Module) → i < 8 → (get_or b.modules i d).live ≡ is_live_in i (bench_in b)
  live_here i d h =
      ap (λ (m : Station). m.live)
      (sym (station_read b.modules i d nobody (omega (arith, eight, h)))
      ∙ nth_inside nobody nobody i (map station_in b.modules) (omega (arith, eight_places, h)))

  pub dead_past : (i : ℕ) → 8 ≤ i → false ≡ is_live_in i (bench_in b)
  dead_past i h = ap (λ (m : Station). m.live) (sym (nth_past nobody i (map station_in b.modules) (omega (arith, eight_places, h))))
