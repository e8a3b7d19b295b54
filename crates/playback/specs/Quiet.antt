-- Quiet stretches: for how many ticks a node stays as it is but for its counter, read from its slots, and that ticking so often is no more than
-- moving the counter.
use Rattle.std.specs.Prelude.{◌≡◌, ℕ, suc, ◌+◌, ◌-◌, ◌%◌, ◌<◌, ◌≤◌, min, false, cond, List, [], ◌∷◌, replicate}
use Rattle.wire.specs.declared.reply.Reply.TheVariants.{Done}
use Rattle.node.specs.declared.slots.Slot.{Slot}
use Rattle.node.specs.declared.Node.{Node}
use Rattle.node.specs.Nodes.{no_id}
use Rattle.node.specs.Told as told
use Rattle.node.specs.Tick.{age_of}
use Rattle.node.specs.Clock.{Clock, period, unbounded, rolled}
use Rattle.node.specs.Calls.{Call, tick, after_from, Answer, answers_from}
use Rattle.node.specs.Reachable.{longest, All, Kept}
use Rattle.playback.specs.Deliveries.{room}

module _ (clock : Clock) (now : ℕ) where
  -- a slot stays as it is while its message is no older than it gets at the longest; without end, where it holds none
  unfoldable pub with_slot : Slot → (others : ℕ) → ℕ
  with_slot x others = cond x.message.held (min (longest x.settings x.message - age_of clock now x) others) others

  -- of so many ticks at most
  unfoldable pub quiet_in : (most : ℕ) → List Slot → ℕ
  quiet_in most [] = most
  quiet_in most (x ∷ xs) = with_slot x (quiet_in most xs)

abbrev pub quiet : Clock → (most : ℕ) → Node → ℕ
quiet clock most n = quiet_in clock n.counter most n.slots

-- the same node at another count
abbrev pub standing : (counter : ℕ) → Node → Node
standing counter n = record { slots = n.slots; counter = counter }

abbrev pub ticks : (k : ℕ) → List Call
ticks k = replicate k (tick room)

-- a tick that delivers nothing and drops nothing
abbrev pub silent : Answer
silent = record { reply = Done; id = no_id; bytes = []; report = told.silent }

-- k ticks on a node that come to no more than another count
abbrev pub NothingButCounts : Clock → (k : ℕ) → Node → (counter : ℕ) → Type 0
NothingButCounts clock k n counter = (after_from clock n (ticks k) ≡ standing counter n) × (answers_from clock n (ticks k) ≡ replicate k silent)

-- THE JUMP is ticking, with counts without bound and with the counter that rolls over, on every node
abbrev pub JumpIsTicking : Type 0
JumpIsTicking = (most k : ℕ) (n : Node) → k ≤ quiet unbounded most n → NothingButCounts unbounded k n (n.counter + k)

abbrev pub RolledJumpIsTicking : Type 0
RolledJumpIsTicking =
    (most k : ℕ) (n : Node) → n.counter < period → k ≤ quiet rolled most n → NothingButCounts rolled k n ((n.counter + k) % period)

-- a node that holds nothing is quiet without end
abbrev pub QuietWithoutEnd : Type 0
QuietWithoutEnd = (clock : Clock) (most : ℕ) (n : Node) → All (λ x. x.message.held ≡ false) n.slots → quiet clock most n ≡ most

-- how many messages are held
abbrev pub held_in : List Slot → ℕ
held_in [] = 0
held_in (x ∷ xs) = cond x.message.held 1 0 + held_in xs

-- and no stretch is longer: of a node that calls made, the tick behind it ends the holding of a message
abbrev pub NoLongerQuiet : Type 0
NoLongerQuiet =
    (most : ℕ) (n : Node) → Kept n → quiet unbounded most n < most
    → held_in (after_from unbounded n (ticks (suc (quiet unbounded most n)))).slots < held_in n.slots
