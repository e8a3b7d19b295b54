-- The listing of protocol rules in HURRAY-TR-0014, as it stands there, for one registered identifier. The text that we have of it lost the
-- signs for "in" and "not in" (each test reads `id I received_messages_set`); they are read by what each branch does: a message is added, and
-- a confirmation answered by an abort, where it is not in the set; an abort takes away what is in it.
use Rattle.std.specs.Prelude.{ℕ, ◌+◌, Bool, true, false, cond, List, [], ◌∷◌, nat_lt}

-- the types of frames
pub data Frame : Type 0 where
  message unreliable : (payload : List ℕ) → Frame
  confirmation abort : Frame

pub data State : Type 0 where
  unstable confirmed delivered : State

-- interval_to_confirm (id) and interval_to_deliver (id)
pub record Intervals : Type 0 where
  pub to_confirm : ℕ
  pub to_deliver : ℕ

-- time_to_confirm (id) and time_to_deliver (id)
pub record Times : Type 0 where
  pub to_confirm : ℕ
  pub to_deliver : ℕ

-- msg (id, data), with its state and its times
pub record Received : Type 0 where
  pub payload : List ℕ
  pub state : State
  pub times : Times

-- received_messages_set, as far as this identifier goes
pub data ReceivedSet : Type 0 where
  absent : ReceivedSet
  present : Received → ReceivedSet

-- what a rule leaves in the set, whether it sends an abort, and the payloads whose state it makes delivered
pub record Ruled : Type 0 where
  pub set : ReceivedSet
  pub sends_abort : Bool
  pub delivers : List (List ℕ)

abbrev pub leaves : ReceivedSet → Ruled
leaves set = record { set = set; sends_abort = false; delivers = [] }

abbrev pub aborts : Ruled
aborts = record { set = absent; sends_abort = true; delivers = [] }

abbrev pub delivers : (payload : List ℕ) → Times → Ruled
delivers payload times =
    record {
      set = present (record { payload = payload; state = State.delivered; times = times });
      sends_abort = false;
      delivers = payload ∷ [];
    }

-- current_time + the intervals
abbrev pub times_from : (now : ℕ) → Intervals → Times
times_from now i = record { to_confirm = now + i.to_confirm; to_deliver = now + i.to_deliver }

-- times that were never set are 0
abbrev pub times_of : ReceivedSet → Times
times_of absent = record { to_confirm = 0; to_deliver = 0 }
times_of (present m) = m.times

-- when receive (id, type, data)
abbrev pub receive : Intervals → (now : ℕ) → Frame → ReceivedSet → Ruled
receive i now (message payload) absent =
    leaves (present (record { payload = payload; state = State.unstable; times = times_from now i }))
receive i now (message payload) (present m) =
    leaves (present (record { payload = m.payload; state = m.state; times = times_from now i }))
receive i now confirmation absent = aborts
receive i now confirmation (present m) = leaves (present (record { payload = m.payload; state = State.confirmed; times = m.times }))
receive i now abort absent = leaves absent
receive i now abort (present m) = leaves absent
receive i now (unreliable payload) set = delivers payload (times_of set)

-- deliver_or_abort, for a message in the set, by its state
abbrev pub deliver_or_abort_in : State → (now : ℕ) → Received → Ruled
deliver_or_abort_in State.confirmed now m =
    cond (nat_lt m.times.to_deliver now) (delivers m.payload m.times) (leaves (present m))
deliver_or_abort_in State.unstable now m = cond (nat_lt m.times.to_confirm now) aborts (leaves (present m))
deliver_or_abort_in State.delivered now m = leaves (present m)

abbrev pub deliver_or_abort : (now : ℕ) → ReceivedSet → Ruled
deliver_or_abort now absent = leaves absent
deliver_or_abort now (present m) = deliver_or_abort_in m.state now m

-- atomic_multicast (id, data): what is sent, in this order
abbrev pub atomic_multicast : (payload : List ℕ) → List Frame
atomic_multicast payload = message payload ∷ confirmation ∷ []
