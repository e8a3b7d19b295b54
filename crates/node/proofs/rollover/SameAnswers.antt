-- The node with its counts rolled over does what the node with unbounded counts does, in every history of calls.
use Rattle.std.proofs.Common.{◌≡◌, ℕ, ◌+◌, ◌-◌, ◌%◌, ◌<◌, ◌≤◌, Bool, true, false, cond, not, ◌&&◌, ◌||◌, eqb, ltb, List, [], ◌∷◌, ◌++◌, map, sym}
use Rattle.std.proofs.Common.{refl, ap, ◌∙◌, arith}
use Rattle.wire.specs.declared.ids.Stream.{Stream}
use Rattle.wire.specs.declared.ids.BusId.{BusId}
use Rattle.wire.specs.declared.settings.Settings.{Settings}
use Rattle.wire.specs.Identifiers.{stream_of, code_of}
use Rattle.wire.specs.Settings.{sends, is_plain, is_two_message, max_data_reach, max_deliver_delay}
use Rattle.wire.specs.Refusals.{Refusals}
use Rattle.node.specs.declared.slots.Message.{Message}
use Rattle.node.specs.declared.slots.Slot.{Slot}
use Rattle.node.specs.declared.Node.{Node}
use Rattle.node.specs.Slots.{restamped, to_send, slot_for, is_of, is_free, is_receiver, is_sender, with_parts, with_message, many}
use Rattle.node.specs.Nodes.{fresh, slot_of, on_slot, Outcome, unless_refused, done, telling}
use Rattle.node.specs.Told.{told_by, of_frame}
use Rattle.node.specs.Clock.{period, unbounded, rolled}
use Rattle.node.specs.SetUp.{set_up_refusals, less_free, in_place, set_up}
use Rattle.node.specs.Hear.{heard_by, delivered_at_once, hear_refusals, hear}
use Rattle.node.specs.Request.{requested, request_refusals, request}
use Rattle.node.specs.NextFrame.{has_frame, lowest_given, given_out, payload_for, give, next_refusals, next_frame}
use Rattle.node.specs.Tick.{late, due, hold_over, lapsed, tick_slot, age_of, due_slots, records_from, record_from, tick_refusals, tick}
use Rattle.node.specs.Calls.{Call, outcome, after_from, after, Answer, answer_of, answers_from, answers, roll_slot, roll, roll_outcome}
use Rattle.node.specs.Reachable.{longest, KeptSlot, All, Kept}
use Rattle.node.proofs.Choices.{into}
use Rattle.node.proofs.slots.Table.{some_map, first_map, on_first_map, all_weaken}
use Rattle.node.proofs.kept.LawfulSettings.{Lawful, lawful}
use Rattle.node.proofs.kept.EachSlot.{held_used}
use Rattle.node.proofs.kept.EveryCall.{kept_fresh, kept_by, kept}

-- tests that say the same of both nodes
unless_refused_rolls : (u : Node) (tests : Refusals) (o p : Outcome) → roll_outcome o ≡ p
    → roll_outcome (unless_refused u tests o) ≡ unless_refused (roll u) tests p
unless_refused_rolls u [] o p e = e
unless_refused_rolls u ((r, t) ∷ rest) o p e = into roll_outcome t refl (unless_refused_rolls u rest o p e)

-- ── setting up ──
less_free_rolls : (ys : List Slot) → map roll_slot (less_free ys) ≡ less_free (map roll_slot ys)
unfolding less_free
less_free_rolls [] = refl
less_free_rolls (y ∷ ys) = into (map roll_slot) (is_free y) refl (ap (λ (l : List Slot). roll_slot y ∷ l) (less_free_rolls ys))

in_place_rolls : (x : Slot) (ys : List Slot) → map roll_slot (in_place x ys) ≡ in_place (roll_slot x) (map roll_slot ys)
unfolding in_place
in_place_rolls x [] = refl
in_place_rolls x (y ∷ ys) =
    into (map roll_slot) (is_free y || ltb x.stream.0 y.stream.0)
    (ap (λ (l : List Slot). roll_slot x ∷ l) (less_free_rolls (y ∷ ys)))
    (ap (λ (l : List Slot). roll_slot y ∷ l) (in_place_rolls x ys))

set_up_rolls : (s : Stream) (settings : Settings) (u : Node) → roll_outcome (set_up s settings u) ≡ set_up s settings (roll u)
unfolding set_up
set_up_rolls s settings u =
    rw (some_map (is_of s) roll_slot (λ x. refl) u.slots, some_map is_free roll_slot (λ x. refl) u.slots)
    (rw (← (in_place_rolls (slot_for s settings) u.slots))
    (unless_refused_rolls u (set_up_refusals s settings u) _ _ refl))

-- ── the slot of a stream ──
pub slot_rolls : (s : Stream) (u : Node) → slot_of s (roll u) ≡ roll_slot (slot_of s u)
slot_rolls s u = first_map (is_of s) roll_slot (λ x. refl) refl u.slots

-- a change of one slot that does the same to the rolled slot
on_slot_rolls : (s : Stream) (g h : Slot → Slot) → ((x : Slot) → roll_slot (h x) ≡ g (roll_slot x))
    → (u : Node) → roll (on_slot s h u) ≡ on_slot s g (roll u)
on_slot_rolls s g h same u =
    ap (λ (xs : List Slot). record { slots = xs; counter = u.counter % period })
    (sym (on_first_map (is_of s) roll_slot (λ x. refl) g h (λ x. sym (same x)) u.slots))

abbrev roll_message : Message → Message
roll_message m = restamped (m.stamp % period) m

-- ── hearing ──
heard_rolls : (now code : ℕ) (payload : List ℕ) (x : Slot)
    → roll_slot (heard_by now code payload x) ≡ heard_by (now % period) code payload (roll_slot x)
unfolding heard_by
heard_rolls now code payload x =
    into roll_slot (eqb code 0) (ap (λ (m : Message). with_message m x) (into roll_message x.message.held refl refl))
    (into roll_slot (eqb code 1) (into roll_slot x.message.held refl refl)
    (into roll_slot (eqb code 2) (into roll_slot x.message.held refl refl) refl))

hear_rolls : (id : BusId) (dlc : ℕ) (payload output : List ℕ) (u : Node)
    → roll_outcome (hear id dlc payload output u) ≡ hear id dlc payload output (roll u)
unfolding hear told_by
hear_rolls id dlc payload output u =
    rw (slot_rolls (stream_of id) u)
    (unless_refused_rolls u (hear_refusals id dlc payload output (slot_of (stream_of id) u)) _ _
    (ap (λ (n : Node). telling (of_frame (told_by (code_of id) (slot_of (stream_of id) u))) (done n (delivered_at_once id payload)))
    (on_slot_rolls (stream_of id) _ _ (heard_rolls u.counter (code_of id) payload) u)))

-- ── requesting ──
requested_rolls : (now : ℕ) (payload : List ℕ) (x : Slot)
    → roll_slot (requested now payload x) ≡ requested (now % period) payload (roll_slot x)
unfolding requested
requested_rolls now payload x =
    ap (λ (m : Message). with_parts x m (to_send (is_two_message x.settings)))
    (into roll_message (is_plain x.settings) refl refl)

request_rolls : (s : Stream) (payload : List ℕ) (u : Node) → roll_outcome (request s payload u) ≡ request s payload (roll u)
unfolding request
request_rolls s payload u =
    rw (slot_rolls s u)
    (unless_refused_rolls u (request_refusals payload (slot_of s u)) _ _
    (ap (λ (n : Node). done n []) (on_slot_rolls s _ _ (requested_rolls u.counter payload) u)))

-- ── the next frame ──
give_rolls : (u : Node) → roll_outcome (give u) ≡ give (roll u)
unfolding give payload_for given_out
give_rolls u =
    rw (
      first_map has_frame roll_slot (λ x. refl) refl u.slots,
      on_first_map has_frame roll_slot (λ x. refl) lowest_given lowest_given (λ x. refl) u.slots,
    )

next_frame_rolls : (output : List ℕ) (u : Node) → roll_outcome (next_frame output u) ≡ next_frame output (roll u)
unfolding next_frame
next_frame_rolls output u =
    rw (some_map has_frame roll_slot (λ x. refl) u.slots) (unless_refused_rolls u (next_refusals output u) _ _ (give_rolls u))

-- ── a tick ──
next_rolls : (now : ℕ) → unbounded.next now % period ≡ rolled.next (now % period)
next_rolls now = omega arith

pub age_rolls : (now stamp : ℕ) → stamp ≤ now → now - stamp < period → unbounded.age now stamp ≡ rolled.age (now % period) (stamp % period)
age_rolls now stamp past young = omega arith

-- what a slot must have for its age to be seen by a counter that rolls over
abbrev pub Counted : ℕ → Slot → Type 0
Counted now x = x.message.held ≡ true → (x.message.stamp ≤ now) × (now - x.message.stamp < period)

-- a slot that holds nothing has no age
idle : (r h : Bool) → h ≡ false → (r && h) ≡ false
idle true h e = e
idle false h e = refl

-- what a tick asks of a slot says the same of two ages
pub record Agree (a b : ℕ) (x : Slot) : Type 0 where
  pub lapsing : lapsed a x ≡ lapsed b x
  pub lateness : late a x ≡ late b x
  pub being_due : due a x ≡ due b x

ageless : (a b : ℕ) (x : Slot) → x.message.held ≡ false → Agree a b x
unfolding lapsed late due hold_over
ageless a b x e =
    let unheld = idle (is_receiver x) x.message.held e in
    record { lapsing = rw (unheld, idle (is_sender x) x.message.held e); lateness = rw unheld; being_due = rw unheld }

same_age : (a b : ℕ) (x : Slot) (h : Bool) → x.message.held ≡ h → (x.message.held ≡ true → a ≡ b)
    → Agree a b x
same_age a b x true e k = rw (k e) (record { lapsing = refl; lateness = refl; being_due = refl })
same_age a b x false e k = ageless a b x e

lapsed_rolls : (age : ℕ) (x : Slot) → roll_slot (lapsed age x) ≡ lapsed age (roll_slot x)
unfolding lapsed late due hold_over
lapsed_rolls age x =
    into roll_slot (late age x) refl
    (into roll_slot (due age x) refl
    (into roll_slot (hold_over age x) refl refl))

due_rolls : (age : ℕ) (x : Slot) → due age (roll_slot x) ≡ due age x
unfolding due
due_rolls age x = refl

late_rolls : (age : ℕ) (x : Slot) → late age (roll_slot x) ≡ late age x
unfolding late
late_rolls age x = refl

module _ (now : ℕ) where
  agree : (x : Slot) → Counted now x → Agree (age_of unbounded now x) (age_of rolled (now % period) (roll_slot x)) (roll_slot x)
  agree x k = same_age _ _ (roll_slot x) _ refl (λ h. age_rolls now x.message.stamp (k h).0 (k h).1)

  tick_slot_rolls : (x : Slot) → Counted now x → roll_slot (tick_slot unbounded now x) ≡ tick_slot rolled (now % period) (roll_slot x)
  tick_slot_rolls x k =
      lapsed_rolls (age_of unbounded now x) x
      ∙ (agree x k).lapsing

  slots_roll : (xs : List Slot) → All (Counted now) xs
      → map roll_slot (map (tick_slot unbounded now) xs) ≡ map (tick_slot rolled (now % period)) (map roll_slot xs)
  slots_roll [] ks = refl
  slots_roll (x ∷ xs) ks = rw (tick_slot_rolls x ks.0, slots_roll xs ks.1)

  due_slot_rolls : (x : Slot) → Counted now x → due (age_of unbounded now x) x ≡ due (age_of rolled (now % period) (roll_slot x)) (roll_slot x)
  due_slot_rolls x k =
      sym (due_rolls (age_of unbounded now x) x) ∙ (agree x k).being_due

  late_slot_rolls : (x : Slot) → Counted now x → late (age_of unbounded now x) x ≡ late (age_of rolled (now % period) (roll_slot x)) (roll_slot x)
  late_slot_rolls x k = sym (late_rolls (age_of unbounded now x) x) ∙ (agree x k).lateness

  -- as many slots
  many_roll : (test by_rolled : Slot → Bool) → ((x : Slot) → Counted now x → test x ≡ by_rolled (roll_slot x))
      → (xs : List Slot) → All (Counted now) xs → many test xs ≡ many by_rolled (map roll_slot xs)
  unfolding many
  many_roll test by_rolled same [] ks = refl
  many_roll test by_rolled same (x ∷ xs) ks = rw (same x ks.0, many_roll test by_rolled same xs ks.1)

due_slots_roll : (now : ℕ) (xs : List Slot) → All (Counted now) xs
    → map roll_slot (due_slots unbounded now xs) ≡ due_slots rolled (now % period) (map roll_slot xs)
unfolding due_slots
due_slots_roll now [] ks = refl
due_slots_roll now (x ∷ xs) ks =
    rw (← (due_slot_rolls now x ks.0), ← (due_slots_roll now xs ks.1))
    (into (map roll_slot) (due (age_of unbounded now x) x) refl refl)

records_roll : (xs : List Slot) → records_from (map roll_slot xs) ≡ records_from xs
unfolding records_from
records_roll [] = refl
records_roll (x ∷ xs) = ap (λ (l : List ℕ). record_from x ++ l) (records_roll xs)

tick_rolls : (output : List ℕ) (u : Node) → All (Counted (u.counter + 1)) u.slots
    → roll_outcome (tick unbounded output u) ≡ tick rolled output (roll u)
unfolding tick
tick_rolls output u ks =
    let now : ℕ = u.counter + 1 in
    rw (
      ← (next_rolls u.counter),
      ← (slots_roll now u.slots ks),
      ← (due_slots_roll now u.slots ks),
      records_roll (due_slots unbounded now u.slots),
      ← (many_roll now _ (λ x. late (age_of rolled (now % period) x) x) (late_slot_rolls now) u.slots ks),
      ← (many_roll now _ (λ x. due (age_of rolled (now % period) x) x) (due_slot_rolls now) u.slots ks),
    )
    (unless_refused_rolls u (tick_refusals output) _ _ refl)

-- ── every history ──
-- what is held is at most this old, far below the period of the counter
pub longest_bound : (s : Settings) (m : Message) → Lawful s → longest s m ≤ max_data_reach + max_deliver_delay
longest_bound s m l = by_role (sends s) (is_two_message s && not m.confirmed)
  where
    by_role : (own waits : Bool) → cond own (s.rd + s.dd) (cond waits s.dc s.dd) ≤ max_data_reach + max_deliver_delay
    by_role true waits = omega (arith, l.reach_small, l.delay_small)
    by_role false true = omega (arith, l.confirmed_first, l.delay_small)
    by_role false false = omega (arith, l.delay_small)

pub kept_counted : (now : ℕ) (x : Slot) → KeptSlot now x → Counted (now + 1) x
kept_counted now x k held =
    let bound = longest_bound x.settings x.message (lawful _ _ (k.lawful (held_used now x k held))) in
    omega (arith, k.message.stamped held, k.message.young held, bound)

pub rolls : (c : Call) (u : Node) → Kept u → outcome rolled c (roll u) ≡ roll_outcome (outcome unbounded c u)
rolls (Call.set_up s settings) u k = sym (set_up_rolls s settings u)
rolls (Call.hear id dlc payload output) u k = sym (hear_rolls id dlc payload output u)
rolls (Call.tick output) u k =
    sym (tick_rolls output u (all_weaken (KeptSlot u.counter) (Counted (u.counter + 1)) (kept_counted u.counter) u.slots k.each))
rolls (Call.request s payload) u k = sym (request_rolls s payload u)
rolls (Call.next_frame output) u k = sym (next_frame_rolls output u)

after_rolls : (u : Node) → Kept u → (h : List Call) → after_from rolled (roll u) h ≡ roll (after_from unbounded u h)
after_rolls u k [] = refl
after_rolls u k (c ∷ cs) = rw (rolls c u k) (after_rolls (outcome unbounded c u).node (kept_by c u k) cs)

answers_roll : (u : Node) → Kept u → (h : List Call) → answers_from rolled (roll u) h ≡ answers_from unbounded u h
answers_roll u k [] = refl
answers_roll u k (c ∷ cs) =
    rw (rolls c u k) (ap (λ (l : List Answer). answer_of (outcome unbounded c u) ∷ l) (answers_roll (outcome unbounded c u).node (kept_by c u k) cs))

-- the rolled node is the unbounded one, modulo 65,536
pub rolled_node : (h : List Call) → after rolled h ≡ roll (after unbounded h)
rolled_node h = after_rolls fresh kept_fresh h

-- after every history each call does what it does with unbounded counts
pub unrolled : (h : List Call) (c : Call) → outcome rolled c (after rolled h) ≡ roll_outcome (outcome unbounded c (after unbounded h))
unrolled h c = rw (rolled_node h) (rolls c (after unbounded h) (kept h))

-- and no caller ever sees a difference
pub same_answers : (h : List Call) → answers rolled h ≡ answers unbounded h
same_answers h = answers_roll fresh kept_fresh h
