-- The ways through a request: on each of them the outcome of the definition.
use Rattle.std.proofs.Common.{◌≡◌, ℕ, ◌<◌, ◌≤◌, true, false, eqb, List, [], length, get_or, take, set, sym, refl, ◌∙◌, take_all, le-ltb, lt-ltb}
use Rattle.wire.specs.Frames.{max_payload}
use Rattle.wire.specs.declared.ids.Stream.{Stream}
use Rattle.wire.specs.declared.reply.Reply.{Reply}
use Rattle.wire.specs.declared.reply.Reply.TheVariants.{BadLength, NotSender}
use Rattle.wire.specs.Replies.{number_of}
use Rattle.wire.specs.Refusals.{reply_of}
use Rattle.wire.proofs.Refusing.{Refuses, here, later, reply_refuses, reply_passes}
use Rattle.node.specs.declared.slots.Slot.{Slot}
use Rattle.node.specs.declared.Node.{Node}
use Rattle.node.specs.Slots.{empty, is_of}
use Rattle.node.specs.Nodes.{slot_of, with_slots, Outcome, refused, done}
use Rattle.node.specs.Request.{requested, slot_request_refusals, request_refusals, request}
use Rattle.node.proofs.request.Cases.{request_facts, request_cases}
use Rattle.node.proofs.slots.Finding.{index_of, slot_found, slot_stored, slot_missed}

module _ (s : Stream) (payload : List ℕ) (n : Node) where
  abbrev Gives : Outcome → Type 0
  Gives o = request s payload n ≡ o

  refused_at : (x : Slot) → slot_of s n ≡ x → {r : Reply} → Refuses (request_refusals payload x) r → Gives (refused n r)
  refused_at x there {r} why = (request_cases payload s n).refused_if r (rw there why)

  pub too_long : max_payload < length payload → Gives (refused n BadLength)
  too_long h = refused_at _ refl (here (lt-ltb _ _ h))

  module _ (short : length payload ≤ max_payload) (i : ℕ) (found : i ≡ index_of (is_of s) n.slots) where
    pub no_slot_law : length n.slots ≤ i → Gives (refused n NotSender)
    no_slot_law h = refused_at empty (slot_missed n s i found h) (later (le-ltb _ _ short) (here refl))

    -- the slot of the stream, as it stands in the table, and what it answers
    module _ (d : Slot) (inside : i < length n.slots) where
      abbrev slot : Slot
      slot = get_or n.slots i d

      there : slot_of s n ≡ slot
      there = sym (slot_found n s i found d inside)

      module _ (reply : Reply) (said : reply ≡ reply_of (slot_request_refusals slot)) where
        pub slot_refuses : eqb (number_of reply) 0 ≡ false → Gives (refused n reply)
        slot_refuses e = rw said (refused_at slot there (later (le-ltb _ _ short) (reply_refuses (slot_request_refusals slot) (rw said at e))))

        pub request_taken : (x : Slot) → eqb (number_of reply) 0 ≡ true → x ≡ requested n.counter (take max_payload payload) slot
            → Gives (done (with_slots (set n.slots i x) n) [])
        request_taken x e made =
            let passed = reply_passes (slot_request_refusals slot) refl (rw said at e) in
            let taken = (request_cases payload s n).accepted_if (rw there (request_facts payload slot (le-ltb _ _ short, passed))) in
            taken ∙ rw (made, take_all max_payload payload short, slot_stored n s i found (requested n.counter payload) d inside)
