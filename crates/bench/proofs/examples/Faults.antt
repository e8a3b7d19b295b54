-- Histories of the faults that a bus has: sendings that fail and are repeated, and modules that die in between.
use mathlib.Core.Path.{refl}
use mathlib.Core.List.{List, [], ◌∷◌, ◌++◌}
use Rattle.bench.specs.Bench.{the_payload, the_confirmation, the_abort}
use Rattle.bench.specs.Events.{Event, asks, gives, sends, dies, all, only}
use Rattle.bench.specs.MomentTen.{five, three, message, wait, got, Shows}
use Rattle.bench.proofs.examples.ExampleHistories.{computing}

-- the request is at 10, and the data is given out
abbrev asked : List Event
asked = wait 10 ++ (asks 0 five message ∷ gives 0 five 0 ∷ [])

-- A alone hears the data at 10; the repeat at 11 is full, and A hears it twice
abbrev pub repeated : List Event
repeated =
    asked ++ (sends five 0 the_payload (only (1 ∷ [])) ∷ []) ++ wait 1 ++ (sends five 0 the_payload all ∷ []) ++ wait 1
    ++ (gives 0 five 1 ∷ sends five 0 the_confirmation all ∷ []) ++ wait 7

pub each_delivers_once : Shows three repeated ([] ∷ (got 18 five message ∷ []) ∷ (got 18 five message ∷ []) ∷ [])
unfolding computing
each_delivers_once = record { set_up = refl; keeps_rules = refl; delivers = refl }

-- A alone hears the data at 10; the sender's battery comes out before the repeat; A drops at 14, and its abort is full at 15
abbrev pub battery_out : List Event
battery_out =
    asked ++ (sends five 0 the_payload (only (1 ∷ [])) ∷ dies 0 ∷ []) ++ wait 5
    ++ (gives 1 five 2 ∷ sends five 0 (the_abort 1 0) all ∷ []) ++ wait 4

pub then_nobody_delivers : Shows three battery_out ([] ∷ [] ∷ [] ∷ [])
unfolding computing
then_nobody_delivers = record { set_up = refl; keeps_rules = refl; delivers = refl }

-- all hear the data at 10, and A alone the confirmation at 12; the sender lives; B drops at 14, and this happens at 15
abbrev heard_by_one : List Event → List Event
heard_by_one then =
    asked ++ (sends five 0 the_payload all ∷ []) ++ wait 2
    ++ (gives 0 five 1 ∷ sends five 0 the_confirmation (only (1 ∷ [])) ∷ []) ++ wait 3 ++ then ++ wait 4

-- B's abort is full
abbrev pub omitted : List Event
omitted = heard_by_one (gives 2 five 2 ∷ sends five 0 (the_abort 2 0) all ∷ [])

pub an_omitted_confirmation_drops_it : Shows three omitted ([] ∷ [] ∷ [] ∷ [])
unfolding computing
an_omitted_confirmation_drops_it = record { set_up = refl; keeps_rules = refl; delivers = refl }

-- B dies with its abort given out and unsent: A, the only receiver that lives, delivers
abbrev pub unsent_abort : List Event
unsent_abort = heard_by_one (gives 2 five 2 ∷ dies 2 ∷ [])

pub an_unsent_abort_drops_nothing : Shows three unsent_abort ([] ∷ (got 17 five message ∷ []) ∷ [] ∷ [])
unfolding computing
an_unsent_abort_drops_nothing = record { set_up = refl; keeps_rules = refl; delivers = refl }

-- the sender's hold ends at 19, and it is asked again; the payload is the same, and no duplicate
abbrev sent_full : List Event
sent_full =
    asks 0 five message ∷ gives 0 five 0 ∷ sends five 0 the_payload all ∷ gives 0 five 1 ∷ sends five 0 the_confirmation all ∷ []

abbrev pub in_a_row : List Event
in_a_row = wait 10 ++ sent_full ++ wait 9 ++ sent_full ++ wait 9

pub both_are_delivered :
    Shows three in_a_row
    ([] ∷ (got 26 five message ∷ got 17 five message ∷ []) ∷ (got 26 five message ∷ got 17 five message ∷ []) ∷ [])
unfolding computing
both_are_delivered = record { set_up = refl; keeps_rules = refl; delivers = refl }
