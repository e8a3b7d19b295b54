-- A request, by cases: refused, or taken with what the slot of its stream and the payload then have.
use Rattle.std.proofs.Common.{◌≡◌, ℕ, ◌≤◌, Bool, true, false, not, ◌&&◌, ltb, List, [], length, refl, ap, ltb-false, le-ltb}
use mathlib.Core.Bool.{false≢true}
use borrow.Author.Tests.{not-false}
use Rattle.wire.specs.declared.ids.Stream.{Stream}
use Rattle.wire.specs.Frames.{max_payload}
use Rattle.wire.proofs.Refusing.{Passes}
use Rattle.node.specs.declared.slots.Slot.{Slot}
use Rattle.node.specs.declared.Node.{Node}
use Rattle.node.specs.Slots.{is_sender}
use Rattle.node.specs.Nodes.{slot_of, on_slot, Outcome, done}
use Rattle.node.specs.Request.{busy, requested, request_refusals, request}
use Rattle.node.proofs.Cases.{Cases, cases}

module _ (payload : List ℕ) where
  pub record RequestFacts (x : Slot) : Type 0 where
    pub short : length payload ≤ max_payload
    pub own : is_sender x ≡ true
    pub free : busy x ≡ false

  pub request_facts : (x : Slot) → Passes (request_refusals payload x) → RequestFacts x
  request_facts x (short, (own, (free, end))) = record { short = ltb-false _ _ short; own = not-false _ own; free = free }

  pub request_passes : (x : Slot) → RequestFacts x → Passes (request_refusals payload x)
  request_passes x h = (le-ltb _ _ h.short, (ap not h.own, (h.free, tt)))

  -- the same as a test of the slot
  abbrev pub accepts : Slot → Bool
  accepts x = not (ltb max_payload (length payload)) && (is_sender x && not (busy x))

  pub accepts_says : (x : Slot) → accepts x ≡ true → RequestFacts x
  accepts_says x t = go (ltb max_payload (length payload)) (is_sender x) (busy x) refl refl refl t
    where
      go : (a b c : Bool) → ltb max_payload (length payload) ≡ a → is_sender x ≡ b → busy x ≡ c → (not a && (b && not c)) ≡ true → RequestFacts x
      go false true false short own free t = record { short = ltb-false _ _ short; own = own; free = free }
      go true b c short own free t = absurd (false≢true t)
      go false false c short own free t = absurd (false≢true t)
      go false true true short own free t = absurd (false≢true t)

  pub accepts_back : (x : Slot) → RequestFacts x → accepts x ≡ true
  accepts_back x h = rw (le-ltb max_payload (length payload) h.short, h.own, h.free)

  module _ (s : Stream) (n : Node) where
    abbrev pub taken : Outcome
    taken = done (on_slot s (requested n.counter payload) n) []

    pub request_cases : Cases n (request_refusals payload (slot_of s n)) (RequestFacts (slot_of s n)) taken (request s payload n)
    unfolding request
    request_cases = cases n (request_refusals payload (slot_of s n)) taken refl (request_facts (slot_of s n)) (request_passes (slot_of s n))
