-- Hearing a frame, by cases: refused, or taken with what the slot of its stream and the frame then have.
use Rattle.std.proofs.Common.{◌≡◌, ℕ, ◌≤◌, Bool, true, false, not, eqb, List, ◌++◌, length, refl, ap, ltb-false, le-ltb}
use borrow.Author.Tests.{not-false}
use Rattle.wire.specs.declared.ids.BusId.{BusId}
use Rattle.wire.specs.declared.reply.Reply.{Reply}
use Rattle.wire.specs.Replies.{number_of}
use Rattle.wire.specs.Refusals.{reply_of}
use Rattle.wire.specs.Identifiers.{stream_of, code_of}
use Rattle.wire.specs.Classes.{carries}
use Rattle.wire.specs.Frames.{is_bare, frame_refusals}
use Rattle.wire.proofs.Frames.{IsFrame, frame_bounds, frame_passes}
use Rattle.wire.proofs.Refusing.{Passes, reply_passes, reply_passed}
use Rattle.node.specs.declared.slots.Slot.{Slot}
use Rattle.node.specs.declared.Node.{Node}
use Rattle.node.specs.Slots.{is_receiver}
use Rattle.node.specs.Told.{told_by, of_frame}
use Rattle.node.specs.Nodes.{slot_of, on_slot, Outcome, done, telling}
use Rattle.node.specs.Hear.{hear_room, clashes, heard_by, delivered_at_once, slot_hear_refusals, hear_refusals, hear}
use Rattle.node.proofs.Cases.{Cases, cases}

-- the slot takes the frame
abbrev pub takes : BusId → (dlc : ℕ) → (payload : List ℕ) → Slot → Bool
takes id dlc payload x =
    eqb (number_of (reply_of (frame_refusals (is_bare id) id dlc (length payload) ++ slot_hear_refusals (code_of id) payload x))) 0

module _ (id : BusId) (dlc : ℕ) (payload output : List ℕ) where
  pub record HearFacts (x : Slot) : Type 0 where
    pub room : hear_room ≤ length output
    pub good : IsFrame (is_bare id) id dlc (length payload)
    pub own : is_receiver x ≡ true
    pub fits : carries x.settings.class (code_of id) ≡ true
    pub agrees : clashes (code_of id) payload x ≡ false

  pub hear_facts : (x : Slot) → Passes (hear_refusals id dlc payload output x) → HearFacts x
  hear_facts x (room, (low, (low_dlc, (exact, (wanted, (own, (fits, (agrees, end)))))))) =
      record {
        room = ltb-false _ _ room;
        good = frame_bounds (is_bare id) id dlc (length payload) (low, (low_dlc, (exact, (wanted, tt))));
        own = not-false _ own;
        fits = not-false _ fits;
        agrees = agrees;
      }

  pub hear_passes : (x : Slot) → HearFacts x → Passes (hear_refusals id dlc payload output x)
  hear_passes x h =
      let (low, (low_dlc, (exact, (wanted, end)))) = frame_passes (is_bare id) id dlc (length payload) h.good in
      (le-ltb _ _ h.room, (low, (low_dlc, (exact, (wanted, (ap not h.own, (ap not h.fits, (h.agrees, tt))))))))

  -- the same as a test of the slot, where the output is long enough
  pub takes_says : (x : Slot) → hear_room ≤ length output → takes id dlc payload x ≡ true → HearFacts x
  takes_says x room t =
      hear_facts x (le-ltb _ _ room, reply_passes (frame_refusals (is_bare id) id dlc (length payload) ++ slot_hear_refusals (code_of id) payload x) refl t)

  pub takes_back : (x : Slot) → HearFacts x → takes id dlc payload x ≡ true
  takes_back x h =
      ap (λ (r : Reply). eqb (number_of r) 0)
      (reply_passed (frame_refusals (is_bare id) id dlc (length payload) ++ slot_hear_refusals (code_of id) payload x) (hear_passes x h).1)

  module _ (n : Node) where
    abbrev slot : Slot
    slot = slot_of (stream_of id) n

    abbrev pub heard : Outcome
    heard =
        telling (of_frame (told_by (code_of id) slot))
        (done (on_slot (stream_of id) (heard_by n.counter (code_of id) payload) n) (delivered_at_once id payload))

    pub hear_cases : Cases n (hear_refusals id dlc payload output slot) (HearFacts slot) heard (hear id dlc payload output n)
    unfolding hear
    hear_cases = cases n (hear_refusals id dlc payload output slot) heard refl (hear_facts slot) (hear_passes slot)
