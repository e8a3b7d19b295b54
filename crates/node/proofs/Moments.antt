-- The worked moments 1 to 9 of the rules paper hold: the table computes.
use Rattle.std.proofs.Common.{◌≡◌, ℕ, zero, suc, ◌+◌, ◌%◌, List, [], ◌∷◌, ◌++◌, map, replicate, sym, refl, ap, ◌∙◌, arith}
use Rattle.wire.specs.Identifiers.{join, split}
use Rattle.wire.specs.Classes.{carries}
use Rattle.wire.specs.Delivered.{record_of}
use Rattle.wire.specs.Settings.{legal}
use Rattle.node.specs.declared.Node.{Node}
use Rattle.node.specs.Slots.{slot_for, empty, same_bytes, first, on_first, some}
use Rattle.node.specs.Nodes.{fresh, Outcome}
use Rattle.node.specs.Clock.{Clock, period, unbounded, rolled}
use Rattle.node.specs.SetUp.{less_free, in_place, set_up}
use Rattle.node.specs.Hear.{hear, heard_by, delivered_at_once}
use Rattle.node.specs.Tick.{tick, late, due, hold_over, lapsed, due_slots, records_from}
use Rattle.node.specs.Request.{request, requested}
use Rattle.node.specs.NextFrame.{next_frame, give, given_out, payload_for}
use Rattle.node.specs.Calls.{Call, outcome, after_from, after, roll, roll_outcome}
use Rattle.node.specs.Moments.{five, receive, send, settings, ticks, Start, from_fresh, receiving, sending, Trial, call, splits, Shown, calls_to, shown_by}
use Rattle.node.specs.Moments.{shows, Row, moments, MomentsHold}
use Rattle.node.proofs.rollover.SameAnswers.{slot_rolls, rolled_node, unrolled}

-- ── ticks of a node that holds nothing only move the counter ──
abbrev idle_node : (role counter : ℕ) → Node
idle_node role counter = record { slots = slot_for five (settings role 6) ∷ replicate 31 empty; counter = counter }

abbrev Idles : ℕ → Type 0
Idles role = (k c : ℕ) → after_from unbounded (idle_node role c) (ticks k) ≡ idle_node role (c + k)

receiver_idles : Idles receive
unfolding tick lapsed late due hold_over
receiver_idles zero c = ap (idle_node receive) (omega arith)
receiver_idles (suc k) c = receiver_idles k (c + 1) ∙ ap (idle_node receive) (omega arith)

sender_idles : Idles send
unfolding tick lapsed late due hold_over
sender_idles zero c = ap (idle_node send) (omega arith)
sender_idles (suc k) c = sender_idles k (c + 1) ∙ ap (idle_node send) (omega arith)

-- what the calls to a start leave
abbrev start_node : Start → Node
start_node from_fresh = fresh
start_node (receiving n) = idle_node receive n
start_node (sending n) = idle_node send n

started : (start : Start) → after unbounded (calls_to start) ≡ start_node start
unfolding set_up less_free in_place legal on_first some
started from_fresh = refl
started (receiving n) = receiver_idles n 0 ∙ ap (idle_node receive) (omega arith)
started (sending n) = sender_idles n 0 ∙ ap (idle_node send) (omega arith)

after_append : (clock : Clock) (n : Node) (g h : List Call) → after_from clock n (g ++ h) ≡ after_from clock (after_from clock n g) h
after_append clock n [] h = refl
after_append clock n (c ∷ g) h = after_append clock (outcome clock c n).node g h

-- the same without the calls to the start
abbrev shortly : Trial → Shown
shortly (call start before last) = shown_by (outcome rolled last (after_from rolled (roll (start_node start)) before))
shortly (splits id) = shows rolled (splits id)

shows_shortly : (t : Trial) → shows rolled t ≡ shortly t
shows_shortly (call start before last) =
    let e : after rolled (calls_to start) ≡ roll (start_node start) = rolled_node (calls_to start) ∙ ap roll (started start) in
    ap (λ (n : Node). shown_by (outcome rolled last n))
    (after_append rolled fresh (calls_to start) before ∙ ap (λ (n : Node). after_from rolled n before) e)
shows_shortly (splits id) = refl

each_same : (f g : Trial → Shown) → ((t : Trial) → f t ≡ g t) → (rows : List Row)
    → map (λ (r : Row). f r.trial) rows ≡ map (λ (r : Row). g r.trial) rows
each_same f g same [] = refl
each_same f g same (r ∷ rows) = rw (same r.trial, each_same f g same rows)

computed : map (λ (r : Row). shortly r.trial) moments ≡ map (λ (r : Row). r.shown) moments
unfolding moments set_up less_free in_place hear heard_by delivered_at_once tick late due hold_over lapsed due_slots records_from request requested
    next_frame join give given_out payload_for split carries record_of legal same_bytes first on_first some
computed = refl

-- the definitions, with the counter rolling over, show what the table says
pub moments_hold : MomentsHold rolled
moments_hold = each_same (shows rolled) shortly shows_shortly moments ∙ computed

shown_rolls : (o : Outcome) → shown_by (roll_outcome o) ≡ shown_by o
shown_rolls o =
    let again : o.node.counter % period % period ≡ o.node.counter % period = omega arith in
    rw (slot_rolls five o.node, again)

same_shown : (t : Trial) → shows unbounded t ≡ shows rolled t
same_shown (call start before last) =
    sym (ap shown_by (unrolled (calls_to start ++ before) last) ∙ shown_rolls (outcome unbounded last (after unbounded (calls_to start ++ before))))
same_shown (splits id) = refl

-- and so they do with unbounded counts
pub moments_hold_unbounded : MomentsHold unbounded
moments_hold_unbounded = each_same (shows unbounded) (shows rolled) same_shown moments ∙ moments_hold
