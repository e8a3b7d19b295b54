-- The ways through the next frame: on each of them the outcome of the definition.
use Rattle.std.proofs.Common.{◌≡◌, ℕ, ◌<◌, ◌≤◌, Bool, true, false, cond, not, ◌&&◌, leb, List, length, get_or, set, refl, ap, arith, le-ltb, lt-ltb}
use mathlib.Core.Bool.{and-eq-true_iff}
use Rattle.wire.specs.declared.reply.Reply.{Reply}
use Rattle.wire.specs.declared.reply.Reply.TheVariants.{Done, ShortOutput, Nothing}
use Rattle.wire.specs.declared.ids.BusId.{BusId}
use Rattle.wire.specs.Identifiers.{max_stream, max_code, join}
use Rattle.wire.specs.Settings.{is_plain}
use Rattle.wire.specs.Frames.{max_payload}
use Rattle.wire.specs.Delivered.{fitting}
use Rattle.wire.proofs.Records.{does_fit}
use Rattle.wire.proofs.Refusing.{Refuses, here, later}
use Rattle.node.specs.declared.slots.Slot.{Slot}
use Rattle.node.specs.declared.Node.{Node}
use Rattle.node.specs.Slots.{first, some}
use Rattle.node.specs.Told.{silent}
use Rattle.node.specs.Nodes.{with_slots, Outcome, refused}
use Rattle.node.specs.Request.{has_pending}
use Rattle.node.specs.NextFrame.{next_room, lowest_code, has_frame, lowest_given, given_out, payload_for, give, next_refusals, next_frame}
use Rattle.node.proofs.next_frame.Cases.{next_cases}
use Rattle.node.proofs.slots.Finding.{index_of, found, missed}

module _ (output : List ℕ) (n : Node) where
  abbrev Gives : Outcome → Type 0
  Gives o = next_frame output n ≡ o

  refused_for : {r : Reply} → Refuses (next_refusals output n) r → Gives (refused n r)
  refused_for {r} why = (next_cases output n).refused_if r why

  pub short_output : length output < next_room → Gives (refused n ShortOutput)
  short_output h = refused_for (here (lt-ltb _ _ h))

  module _ (room : next_room ≤ length output) (i : ℕ) (at_index : i ≡ index_of has_frame n.slots) where
    pub none_pending : length n.slots ≤ i → Gives (refused n Nothing)
    none_pending past =
        let none = (missed has_frame n.slots (omega arith)).not_there in
        refused_for (later (le-ltb _ _ room) (here (ap not none)))

    -- the slot that the code finds, with what it makes of it
    module _ (inside : i < length n.slots) (d : Slot) (code : ℕ) (lowest_code_law : code ≡ lowest_code (get_or n.slots i d)) where
      abbrev here_found : Slot
      here_found = get_or n.slots i d

      is_first : here_found ≡ first has_frame n.slots
      is_first = rw at_index ((found has_frame n.slots (omega arith)).is_first d)

      pending : some has_frame n.slots ≡ true
      pending = (found has_frame n.slots (omega arith)).there

      low_code : leb code max_code ≡ true
      low_code =
          let p = here_found.pending in
          rw lowest_code_law (go (p.payload && not (is_plain here_found.settings)) p.confirmation p.abort)
        where
          go : (t u v : Bool) → leb (cond t 0 (cond u 1 (cond v 2 3))) max_code ≡ true
          go true u v = refl
          go false true v = refl
          go false false true = refl
          go false false false = refl

      -- its stream and code make an identifier
      pub joins : (join here_found.stream code).reply ≡ Done
      unfolding join
      joins =
          let x = here_found in
          let holds = rw (← at_index) at ((found has_frame n.slots (omega arith)).holds d) in
          let frame = (and-eq-true_iff (has_pending x.pending) (x.used && leb x.stream.0 max_stream)).0 holds in
          let stream = (and-eq-true_iff x.used (leb x.stream.0 max_stream)).0 frame.1 in
          rw (stream.1, low_code)

      pub frame_given : (x : Slot) (id : BusId) → id ≡ (join here_found.stream code).id → x ≡ given_out code here_found
          → Gives (record {
            node = with_slots (set n.slots i x) n;
            reply = Done;
            id = id;
            bytes = payload_for code here_found;
            report = silent;
          })
      unfolding give
      frame_given x id joined made =
          let stored = rw (← at_index) at ((found has_frame n.slots (omega arith)).changes lowest_given d) in
          let given = (next_cases output n).accepted_if (record { room = room; pending = pending }) in
          rw (given, ← is_first, ← stored, joined, made, lowest_code_law)

      -- and its payload fits
      pub payload_fits : length (payload_for code here_found) ≤ max_payload → fitting (payload_for code here_found) output ≡ payload_for code here_found
      payload_fits small = does_fit (payload_for code here_found) output (omega arith)
