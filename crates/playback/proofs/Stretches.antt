-- A node stays as it is, but for its counter, for as long as `quiet` says, and no longer.
use Rattle.std.proofs.Common.{◌≡◌, ℕ, zero, suc, ◌+◌, ◌-◌, ◌%◌, ◌<◌, ◌≤◌, min, Bool, true, false, cond, not, ◌&&◌, List, [], ◌∷◌, sym, refl, ap, ◌∙◌, add-zero}
use Rattle.std.proofs.Common.{zero-add, arith}
use Rattle.wire.specs.Settings.{sends, is_two_message}
use Rattle.node.specs.declared.slots.Slot.{Slot}
use Rattle.node.specs.declared.Node.{Node}
use Rattle.node.specs.Nodes.{Outcome, done}
use Rattle.node.specs.Slots.{many}
use Rattle.node.specs.Told as told
use Rattle.node.specs.Tick.{hold_length, age_of, lapses, records_from}
use Rattle.node.specs.Clock.{Clock, period, unbounded, rolled}
use Rattle.node.specs.Calls.{Call, outcome, after_from, Answer, answer_of, answers_from}
use Rattle.node.specs.Reachable.{longest, All}
use Rattle.node.proofs.Choices.{contrary}
use Rattle.node.proofs.slots.Table.{all_weaken}
use Rattle.node.proofs.tick.Cases.{tick_cases}
use Rattle.node.proofs.tick.Stirring.{young_is_not_late, young_is_not_due, young_is_held_on, sender_is_not_late, sender_is_not_due, waiting_is_not_due}
use Rattle.node.proofs.tick.Stirring.{ready_is_not_late, other_is_not_over, Still, unheld_is_still, StillAt, still_tick}
use Rattle.playback.specs.Deliveries.{room}
use Rattle.playback.specs.Quiet.{with_slot, quiet_in, quiet, standing, ticks, silent, NothingButCounts, JumpIsTicking, RolledJumpIsTicking}
use Rattle.playback.specs.Quiet.{QuietWithoutEnd}

-- ── a slot ──
-- what is no older than it gets at the longest is not changed
young_is_quiet : (age : ℕ) (x : Slot) → age ≤ longest x.settings x.message → Still age x
young_is_quiet age x young = go (sends x.settings) (is_two_message x.settings && not x.message.confirmed) refl refl young
  where
    go : (own waits : Bool) → sends x.settings ≡ own → is_two_message x.settings && not x.message.confirmed ≡ waits
        → age ≤ cond own (hold_length x.settings) (cond waits x.settings.dc x.settings.dd) → Still age x
    go true waits e f h =
        record { not_late = sender_is_not_late age x e; not_due = sender_is_not_due age x e; not_over = sym (young_is_held_on age x h) }
    go false true e f h =
        record { not_late = sym (young_is_not_late age x h); not_due = waiting_is_not_due age x f; not_over = other_is_not_over age x e }
    go false false e f h =
        record { not_late = ready_is_not_late age x f; not_due = sym (young_is_not_due age x h); not_over = other_is_not_over age x e }

-- what holds of no slot holds of 0 of them
none_of : (test : Slot → Bool) (xs : List Slot) → All (λ x. test x ≡ false) xs → many test xs ≡ 0
unfolding many
none_of test [] none = refl
none_of test (x ∷ xs) (here, others) = rw here (zero-add _ ∙ none_of test xs others)

-- ── a stretch ──
module _ (clock : Clock) where
  -- for so many ticks the slot's message does not get older than it gets at the longest
  abbrev Stays : (now k : ℕ) → Slot → Type 0
  Stays now k x = x.message.held ≡ true → k + age_of clock now x ≤ longest x.settings x.message

  as_told : (now others k : ℕ) (x : Slot) → suc k ≤ with_slot clock now x others → (suc k ≤ others) × Stays now (suc k) x
  unfolding with_slot
  as_told now others k x = go x.message.held refl
    where
      go : (held : Bool) → x.message.held ≡ held
          → suc k ≤ cond held (min (longest x.settings x.message - age_of clock now x) others) others → (suc k ≤ others) × Stays now (suc k) x
      go true e h = (omega arith, λ _. omega arith)
      go false e h = (h, λ f. contrary f e)

  all_as_told : (now most k : ℕ) (xs : List Slot) → suc k ≤ quiet_in clock now most xs → All (Stays now (suc k)) xs
  unfolding quiet_in
  all_as_told now most k [] h = tt
  all_as_told now most k (x ∷ xs) h =
      let (others, here) = as_told now (quiet_in clock now most xs) k x h in (here, all_as_told now most k xs others)

  -- the node's count after so many ticks
  abbrev advanced : (k now : ℕ) → ℕ
  advanced zero now = now
  advanced (suc k) now = advanced k (clock.next now)

  -- a tick makes nothing older by more than one
  module _ (steady : (now stamp : ℕ) → clock.age (clock.next now) stamp ≤ clock.age now stamp + 1) where
    quiet_slot : (now k : ℕ) (x : Slot) → Stays now (suc k) x → StillAt clock (clock.next now) x
    quiet_slot now k x stays = go x.message.held refl
      where
        go : (held : Bool) → x.message.held ≡ held → StillAt clock (clock.next now) x
        go true e = young_is_quiet _ x (omega (arith, steady now x.message.stamp, stays e))
        go false e = unheld_is_still _ x e

    -- where no slot changes, nothing is dropped and nothing delivered
    tells_none : (now : ℕ) (xs : List Slot) → All (StillAt clock now) xs → lapses clock now xs ≡ told.silent
    tells_none now xs still =
        rw (
          none_of _ xs (all_weaken (StillAt clock now) _ (λ x s. s.not_late) xs still),
          none_of _ xs (all_weaken (StillAt clock now) _ (λ x s. s.not_due) xs still),
        )

    -- one tick
    quiet_tick : (k : ℕ) (n : Node) → All (Stays n.counter (suc k)) n.slots
        → outcome clock (Call.tick room) n ≡ done (standing (clock.next n.counter) n) []
    unfolding records_from
    quiet_tick k n all =
        let now = clock.next n.counter in
        let still = all_weaken (Stays n.counter (suc k)) (StillAt clock now) (quiet_slot n.counter k) n.slots all in
        let (same, none) = still_tick clock now n.slots still in
        (tick_cases room clock n).accepted_if (record { room = omega arith }) ∙ rw (same, none, tells_none now n.slots still)

    goes_on : (now k : ℕ) (xs : List Slot) → All (Stays now (suc k)) xs → All (Stays (clock.next now) k) xs
    goes_on now k xs all =
        all_weaken (Stays now (suc k)) (Stays (clock.next now) k) (λ x stays held. omega (arith, steady now x.message.stamp, stays held)) xs all

    quiet_ticks : (k : ℕ) (n : Node) → All (Stays n.counter k) n.slots → NothingButCounts clock k n (advanced k n.counter)
    quiet_ticks zero n all = (refl, refl)
    quiet_ticks (suc k) n all =
        let (node, answers) = quiet_ticks k (standing (clock.next n.counter) n) (goes_on n.counter k n.slots all) in
        let one = quiet_tick k n all in (
          ap (λ (o : Outcome). after_from clock o.node (ticks k)) one ∙ node,
          ap (λ (o : Outcome). answer_of o ∷ answers_from clock o.node (ticks k)) one ∙ ap (λ (l : List Answer). silent ∷ l) answers,
        )

-- so many at most
pub quiet_at_most : (clock : Clock) (most : ℕ) (n : Node) → quiet clock most n ≤ most
unfolding quiet_in with_slot
quiet_at_most clock most n = go n.slots
  where
    one : (held : Bool) (mine others : ℕ) → others ≤ most → cond held (min mine others) others ≤ most
    one true mine others h = omega arith
    one false mine others h = h

    go : (xs : List Slot) → quiet_in clock n.counter most xs ≤ most
    go [] = omega arith
    go (x ∷ xs) = one x.message.held _ (quiet_in clock n.counter most xs) (go xs)

-- ── with counts without bound, and with the counter that rolls over ──
advanced_unbounded : (k now : ℕ) → advanced unbounded k now ≡ now + k
advanced_unbounded zero now = omega arith
advanced_unbounded (suc k) now = advanced_unbounded k (now + 1) ∙ omega arith

advanced_rolled : (k now : ℕ) → now < period → advanced rolled k now ≡ (now + k) % period
advanced_rolled zero now low = omega arith
advanced_rolled (suc k) now low = advanced_rolled k ((now + 1) % period) (omega arith) ∙ omega arith

pub jump_is_ticking : JumpIsTicking
jump_is_ticking most zero n h = (rw (add-zero n.counter), refl)
jump_is_ticking most (suc k) n h =
    rw (← (advanced_unbounded (suc k) n.counter))
    (quiet_ticks unbounded (λ now stamp. omega arith) (suc k) n (all_as_told unbounded n.counter most k n.slots h))

pub rolled_jump_is_ticking : RolledJumpIsTicking
rolled_jump_is_ticking most zero n low h = let same : (n.counter + 0) % period ≡ n.counter = omega arith in (rw same, refl)
rolled_jump_is_ticking most (suc k) n low h =
    rw (← (advanced_rolled (suc k) n.counter low))
    (quiet_ticks rolled (λ now stamp. omega arith) (suc k) n (all_as_told rolled n.counter most k n.slots h))

-- ── without end ──
pub quiet_without_end : QuietWithoutEnd
unfolding quiet_in with_slot
quiet_without_end clock most n none = go n.slots none
  where
    go : (xs : List Slot) → All (λ x. x.message.held ≡ false) xs → quiet_in clock n.counter most xs ≡ most
    go [] none = refl
    go (x ∷ xs) (here, others) = rw here (go xs others)
