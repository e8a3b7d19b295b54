-- A history of eight modules with streams of all three classes and several messages: it keeps the rules, demand 3 judges a message
-- of it, and two of its messages are seen for their order.
use Prim.Native.Nat.{ℕ}
use mathlib.Core.Path.{refl}
use mathlib.Core.List.{List, [], ◌∷◌, ◌++◌}
use Rattle.wire.specs.declared.ids.Stream.{Stream}
use Rattle.wire.specs.Settings.{of_plain, of_imd}
use Rattle.bench.specs.Bench.{Delivery, the_payload, the_confirmation, the_abort}
use Rattle.bench.specs.SetUp.{Entry, Plan, start}
use Rattle.bench.specs.Events.{Event, asks, gives, sends, ticks, dies, all, only}
use Rattle.bench.specs.Demands.{MessageIn, OneTickBeyond, FullData}
use Rattle.bench.specs.MomentTen.{five, two_m, message, wait, got, Shows}
use Rattle.bench.proofs.examples.ExampleHistories.{computing}

-- ── the streams: 3 is plain, 4 IMD, 5 and 6 are 2M ──
abbrev three : Stream
three = record { 0 = 3 }

abbrev four : Stream
four = record { 0 = 4 }

abbrev pub six : Stream
six = record { 0 = 6 }

-- what a module is set up with, by its role: 0 receive, 1 send
abbrev three_as : (role : ℕ) → Entry
three_as role = record { stream = three; settings = of_plain role }

abbrev four_as : (role : ℕ) → Entry
four_as role = record { stream = four; settings = of_imd role 2 4 }

abbrev five_as : (role : ℕ) → Entry
five_as role = two_m five 2 3 2 6 role

abbrev six_as : (role : ℕ) → Entry
six_as role = two_m six 1 2 1 4 role

abbrev pub eight : Plan
eight =
    (five_as 1 ∷ three_as 0 ∷ four_as 0 ∷ six_as 0 ∷ []) ∷
    (three_as 1 ∷ five_as 0 ∷ four_as 0 ∷ []) ∷
    (four_as 1 ∷ five_as 0 ∷ three_as 0 ∷ []) ∷
    (five_as 0 ∷ six_as 0 ∷ four_as 0 ∷ three_as 0 ∷ []) ∷
    (six_as 0 ∷ five_as 0 ∷ []) ∷
    (five_as 0 ∷ three_as 0 ∷ []) ∷
    (five_as 0 ∷ three_as 0 ∷ six_as 0 ∷ []) ∷
    (six_as 1 ∷ five_as 0 ∷ three_as 0 ∷ []) ∷ []

-- ── the history ──
-- at 3 there are requests on 5, 3, 4 and 6
abbrev on_three_and_four : List Event
on_three_and_four = asks 1 three (1 ∷ []) ∷ asks 2 four (2 ∷ 3 ∷ []) ∷ []

-- the frames with their payload; 4's is short
abbrev at_3 : List Event
at_3 =
    gives 1 three 3 ∷ sends three 0 the_payload all ∷ gives 0 five 0 ∷ sends five 0 the_payload all ∷
    gives 2 four 0 ∷ sends four 0 the_payload (only (0 ∷ 3 ∷ [])) ∷ gives 7 six 0 ∷ sends six 0 the_payload all ∷ []

-- 4's is repeated, 6's is confirmed
abbrev at_4 : List Event
at_4 = sends four 0 the_payload all ∷ gives 7 six 1 ∷ sends six 0 the_confirmation all ∷ gives 0 five 1 ∷ []

-- 5's confirmation is short; a second plain frame is heard by 0 only
abbrev at_5 : List Event
at_5 =
    sends five 0 the_confirmation (only (1 ∷ 2 ∷ [])) ∷
    asks 1 three (9 ∷ []) ∷ gives 1 three 3 ∷ sends three 0 the_payload (only (0 ∷ [])) ∷ []

-- 5's confirmation is repeated, and module 6 dies
abbrev at_6 : List Event
at_6 = sends five 0 the_confirmation all ∷ dies 6 ∷ []

-- a second message on 6: 3 alone hears its data, and the sender dies
abbrev at_10 : List Event
at_10 = asks 7 six (7 ∷ []) ∷ gives 7 six 0 ∷ sends six 0 the_payload (only (3 ∷ [])) ∷ dies 7 ∷ []

-- a second message on 5
abbrev at_12 : List Event
at_12 =
    asks 0 five (4 ∷ 5 ∷ 6 ∷ []) ∷ gives 0 five 0 ∷ sends five 0 the_payload all ∷
    gives 0 five 1 ∷ sends five 0 the_confirmation all ∷ []

-- 3 has dropped the second message on 6
abbrev at_13 : List Event
at_13 = gives 3 six 2 ∷ sends six 0 (the_abort 3 0) all ∷ []

abbrev until_10 : List Event
until_10 = at_3 ++ wait 1 ++ at_4 ++ wait 1 ++ at_5 ++ wait 1 ++ at_6 ++ wait 4

abbrev since : List Event
since = on_three_and_four ++ (asks 7 six [] ∷ until_10) ++ at_10 ++ wait 1

abbrev rest : List Event
rest = at_12 ++ wait 1 ++ at_13 ++ wait 7

abbrev pub busy_day : List Event
busy_day = wait 3 ++ (asks 0 five message ∷ (since ++ (ticks ∷ rest)))

-- ── what the modules deliver ──
abbrev again : List ℕ
again = 4 ∷ 5 ∷ 6 ∷ []

abbrev pub their_logs : List (List Delivery)
their_logs =
    (got 9 four (2 ∷ 3 ∷ []) ∷ got 8 six [] ∷ got 5 three (9 ∷ []) ∷ got 3 three (1 ∷ []) ∷ []) ∷
    (got 19 five again ∷ got 10 five message ∷ got 9 four (2 ∷ 3 ∷ []) ∷ []) ∷
    (got 19 five again ∷ got 10 five message ∷ got 3 three (1 ∷ []) ∷ []) ∷
    (got 19 five again ∷ got 10 five message ∷ got 9 four (2 ∷ 3 ∷ []) ∷ got 8 six [] ∷ got 3 three (1 ∷ []) ∷ []) ∷
    (got 19 five again ∷ got 10 five message ∷ got 8 six [] ∷ []) ∷
    (got 19 five again ∷ got 10 five message ∷ got 3 three (1 ∷ []) ∷ []) ∷
    (got 3 three (1 ∷ []) ∷ []) ∷
    (got 10 five message ∷ got 3 three (1 ∷ []) ∷ []) ∷ []

pub a_busy_day : Shows eight busy_day their_logs
unfolding computing
a_busy_day = record { set_up = refl; keeps_rules = refl; delivers = refl }

-- the first message on 5, one tick beyond Rd + dd after its request
unfoldable pub first_on_five : MessageIn (start eight) busy_day
unfolding computing
first_on_five =
    record {
      before = wait 3;
      sender = 0;
      stream = five;
      payload = message;
      since = since ++ (ticks ∷ []);
      rest = rest;
      split = refl;
      accepted = tt;
    }

pub first_judged : OneTickBeyond (start eight) busy_day first_on_five
unfolding computing first_on_five
first_judged = record { earlier = since; last = refl; long = refl }

-- the first message on 6, until the second one there is asked for
unfoldable pub first_on_six : MessageIn (start eight) busy_day
unfolding computing
first_on_six =
    record {
      before = wait 3 ++ (asks 0 five message ∷ on_three_and_four);
      sender = 7;
      stream = six;
      payload = [];
      since = until_10;
      rest = at_10 ++ wait 1 ++ (ticks ∷ rest);
      split = refl;
      accepted = tt;
    }

-- the data of both was full
pub full_on_five : FullData (start eight) busy_day first_on_five
unfolding computing first_on_five
full_on_five = record { two_message = tt; newest = tt; full = tt }

pub full_on_six : FullData (start eight) busy_day first_on_six
unfolding computing first_on_six
full_on_six = record { two_message = tt; newest = tt; full = tt }
