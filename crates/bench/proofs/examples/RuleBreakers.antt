-- For each bench rule, and each part of it, a history that keeps the rules up to one event, which breaks this part and no other.
use mathlib.Core.Path.{◌≡◌, refl}
use mathlib.Core.Bool.{Bool, true, false, not, ◌||◌}
use mathlib.Core.List.{List, [], ◌∷◌, ◌++◌}
use Rattle.bench.specs.Lists.{nth}
use Rattle.bench.specs.Bench.{Bench, Book, Which, the_payload, the_confirmation, the_abort, is_live, now, book_of, settings_of, frame_of, owner_of}
use Rattle.bench.specs.SetUp.{is_done, start}
use Rattle.bench.specs.Events.{Event, asks, gives, sends, ticks, dies, To, all, only, next, step, run}
use Rattle.bench.specs.Rules.{was_sent, was_full, in_turn, in_reach, served_aborts, omissions, keeps_so_far, keeps}
use Rattle.bench.specs.MomentTen.{five, three, message, wait}
use Rattle.bench.proofs.examples.ExampleHistories.{computing}

-- the bench after a history, and the book of the newest message
abbrev pub after : List Event → Bench
after h = run (start three) h

abbrev pub book : List Event → Book
book h = book_of five 0 (after h)

-- the history keeps the rules, and with this event it does not
pub record Breaks (h : List Event) (e : Event) : Type 0 where
  pub keeps_rules : keeps (start three) h ≡ true
  pub broken : keeps (start three) (h ++ (e ∷ [])) ≡ false

-- ── rules 1 and 3: what is asked of a sending ──
pub record OfSending : Type 0 where
  pub live : Bool
  pub given : Bool
  pub not_full : Bool
  pub in_turn : Bool
  pub in_reach : Bool

abbrev pub of_sending : Bench → Book → Which → OfSending
of_sending b k w =
    record {
      live = is_live (owner_of w k) b;
      given = (frame_of w k).given;
      not_full = not (was_full (frame_of w k));
      in_turn = in_turn k w;
      in_reach = in_reach (settings_of five k b) k w (now b);
    }

pub record BadSending (h : List Event) (w : Which) (to : To) (tests : OfSending) : Type 0 where
  pub breaks : Breaks h (sends five 0 w to)
  pub because : of_sending (after h) (book h) w ≡ tests

-- the request is at 10; the data is given out
abbrev asked : List Event
asked = wait 10 ++ (asks 0 five message ∷ [])

abbrev given : List Event
given = asked ++ (gives 0 five 0 ∷ [])

-- rule 1: a frame given out earlier
pub not_given_out : BadSending asked the_payload all (record { live = true; given = false; not_full = true; in_turn = true; in_reach = true })
unfolding computing
not_given_out = record { breaks = record { keeps_rules = refl; broken = refl }; because = refl }

-- rule 1: by a module that is still live
pub by_a_dead_module :
    BadSending (given ++ (dies 0 ∷ [])) the_payload all (record { live = false; given = true; not_full = true; in_turn = true; in_reach = true })
unfolding computing
by_a_dead_module = record { breaks = record { keeps_rules = refl; broken = refl }; because = refl }

-- rule 1: no frame is sent again after a full sending
pub after_a_full_sending :
    BadSending (given ++ (sends five 0 the_payload all ∷ [])) the_payload (only [])
    (record { live = true; given = true; not_full = false; in_turn = true; in_reach = true })
unfolding computing
after_a_full_sending = record { breaks = record { keeps_rules = refl; broken = refl }; because = refl }

abbrev data_short : List Event
data_short = given ++ (sends five 0 the_payload (only (1 ∷ [])) ∷ [])

abbrev data_full : List Event
data_full = given ++ (sends five 0 the_payload all ∷ [])

-- rule 3: data within Rd of the request (sent again at 13)
pub data_past_its_reach :
    BadSending (data_short ++ wait 3) the_payload all (record { live = true; given = true; not_full = true; in_turn = true; in_reach = false })
unfolding computing
data_past_its_reach = record { breaks = record { keeps_rules = refl; broken = refl }; because = refl }

-- rule 3: a confirmation only after its data, with whose first sending its reach begins
pub confirmation_before_data :
    BadSending (given ++ (gives 0 five 1 ∷ [])) the_confirmation all
    (record { live = true; given = true; not_full = true; in_turn = false; in_reach = false })
unfolding computing
confirmation_before_data = record { breaks = record { keeps_rules = refl; broken = refl }; because = refl }

-- rule 3: the data is not sent again then
pub data_after_confirmation :
    BadSending (data_short ++ (gives 0 five 1 ∷ sends five 0 the_confirmation all ∷ [])) the_payload all
    (record { live = true; given = true; not_full = true; in_turn = false; in_reach = true })
unfolding computing
data_after_confirmation = record { breaks = record { keeps_rules = refl; broken = refl }; because = refl }

abbrev confirmation_short : List Event
confirmation_short = data_full ++ wait 2 ++ (gives 0 five 1 ∷ sends five 0 the_confirmation (only (1 ∷ [])) ∷ [])

-- rule 3: a confirmation within dc of the first sending of its data (sent again at 14)
pub confirmation_past_its_reach :
    BadSending (confirmation_short ++ wait 2) the_confirmation all
    (record { live = true; given = true; not_full = true; in_turn = true; in_reach = false })
unfolding computing
confirmation_past_its_reach = record { breaks = record { keeps_rules = refl; broken = refl }; because = refl }

-- rule 3: an abort within Ra of its becoming pending at 14 (B's is sent again at 17)
abbrev abort_short : List Event
abort_short =
    data_full ++ (dies 0 ∷ []) ++ wait 4
    ++ (gives 1 five 2 ∷ sends five 0 (the_abort 1 0) all ∷ gives 2 five 2 ∷ sends five 0 (the_abort 2 0) (only []) ∷ [])

pub abort_past_its_reach :
    BadSending (abort_short ++ wait 3) (the_abort 2 0) all (record { live = true; given = true; not_full = true; in_turn = true; in_reach = false })
unfolding computing
abort_past_its_reach = record { breaks = record { keeps_rules = refl; broken = refl }; because = refl }

-- ── rule 2, first half: data and confirmation of one message are omissions; every event is as the rules ask ──
pub record TwoOmissions (h : List Event) (e : Event) : Type 0 where
  pub breaks : Breaks h e
  pub so_far : keeps_so_far (start three) (h ++ (e ∷ [])) ≡ true
  pub two : omissions (book (h ++ (e ∷ []))) ≡ 2

pub data_and_confirmation_omitted :
    TwoOmissions (data_short ++ (gives 0 five 1 ∷ [])) (sends five 0 the_confirmation (only (2 ∷ [])))
unfolding computing
data_and_confirmation_omitted = record { breaks = record { keeps_rules = refl; broken = refl }; so_far = refl; two = refl }

-- two aborts of one message are omissions
pub two_aborts_omitted :
    TwoOmissions
    (data_full ++ (dies 0 ∷ []) ++ wait 4 ++ (gives 1 five 2 ∷ sends five 0 (the_abort 1 0) (only []) ∷ gives 2 five 2 ∷ []))
    (sends five 0 (the_abort 2 0) (only []))
unfolding computing
two_aborts_omitted = record { breaks = record { keeps_rules = refl; broken = refl }; so_far = refl; two = refl }

-- ── rule 2, second half: what is sent at least once within its reach, or has still time at t ──
pub record Served : Type 0 where
  pub payload : Bool
  pub confirmation : Bool
  pub aborts_of_A : Bool
  pub aborts_of_B : Bool

abbrev pub served_at : Bench → Book → Bench → Served
served_at b k b' =
    record {
      payload = was_sent k.payload_frame || in_reach (settings_of five k b) k the_payload (now b');
      confirmation = not (was_sent k.payload_frame) || was_sent k.confirmation || in_reach (settings_of five k b) k the_confirmation (now b');
      aborts_of_A = served_aborts (settings_of five k b) b (now b') 1 (nth [] 1 k.aborts);
      aborts_of_B = served_aborts (settings_of five k b) b (now b') 2 (nth [] 2 k.aborts);
    }

pub record Unserved (h : List Event) (tests : Served) : Type 0 where
  pub breaks : Breaks h ticks
  pub because : served_at (after h) (book h) (step (after h) ticks) ≡ tests

-- at 13
pub data_not_sent : Unserved (given ++ wait 2) (record { payload = false; confirmation = true; aborts_of_A = true; aborts_of_B = true })
unfolding computing
data_not_sent = record { breaks = record { keeps_rules = refl; broken = refl }; because = refl }

-- at 14
pub confirmation_not_sent : Unserved (data_full ++ wait 3) (record { payload = true; confirmation = false; aborts_of_A = true; aborts_of_B = true })
unfolding computing
confirmation_not_sent = record { breaks = record { keeps_rules = refl; broken = refl }; because = refl }

-- at 17; B dropped at 14
pub abort_not_sent : Unserved (confirmation_short ++ wait 4) (record { payload = true; confirmation = true; aborts_of_A = true; aborts_of_B = false })
unfolding computing
abort_not_sent = record { breaks = record { keeps_rules = refl; broken = refl }; because = refl }

-- ── rule 4: a dead module does nothing more, though its node could ──
abbrev dead : List Event
dead = given ++ (dies 0 ∷ [])

pub is_dead : is_live 0 (after dead) ≡ false
unfolding computing
is_dead = refl

pub asked_when_dead : Breaks (wait 10 ++ (dies 0 ∷ [])) (asks 0 five message)
unfolding computing
asked_when_dead = record { keeps_rules = refl; broken = refl }

-- its node has a next frame, the confirmation
pub gives_when_dead : Breaks dead (gives 0 five 1) × (is_done (next 0 (after dead)).reply ≡ true)
unfolding computing
gives_when_dead = (record { keeps_rules = refl; broken = refl }, refl)

pub dies_when_dead : Breaks dead (dies 0)
unfolding computing
dies_when_dead = record { keeps_rules = refl; broken = refl }
