-- DLC 8 to 15 are one to a node: the frame test alone looks at the DLC, and what is held is as long as the payload.
use Rattle.std.proofs.Common.{◌≡◌, ℕ, ◌≤◌, Bool, true, false, not, ◌&&◌, eqb, ltb, List, [], ◌∷◌, ◌++◌, length, drop, replicate, sym, refl, ap, ◌∙◌}
use Rattle.std.proofs.Common.{eq-eqb, eqb-true}
use mathlib.Core.Bool.{and-eq-true_iff}
use lib.Seq.{take-append_seam}
use borrow.Author.Tests.{not-false}
use Rattle.wire.specs.declared.ids.BusId.{BusId}
use Rattle.wire.specs.declared.reply.Reply.{Reply}
use Rattle.wire.specs.declared.reply.Reply.TheVariants.{Done, ShortOutput}
use Rattle.wire.specs.Replies.{number_of}
use Rattle.wire.specs.Refusals.{Refusals}
use Rattle.wire.specs.Identifiers.{stream_of, code_of}
use Rattle.wire.specs.Settings.{receives}
use Rattle.wire.specs.Classes.{carries}
use Rattle.wire.specs.Frames.{max_payload, max_dlc, bytes_of_dlc, is_bare}
use Rattle.node.specs.declared.slots.Slot.{Slot}
use Rattle.node.specs.declared.Node.{Node}
use Rattle.node.specs.Slots.{holding, same_bytes, same}
use Rattle.node.specs.Nodes.{slot_of, Outcome, unless_refused}
use Rattle.node.specs.Hear.{hear_room, clashes, heard_by, slot_hear_refusals, hear}
use Rattle.node.specs.EqualDlcs.{HeardAlike, HeldAsMeant, Duplicate, HeardAgain}
use Rattle.wire.proofs.Frames.{equal_dlcs, equal_frames}
use Rattle.node.proofs.Choices.{contrary}
use Rattle.node.proofs.Cases.{by_case}
use Rattle.node.proofs.hear.Cases.{HearFacts, heard, hear_cases}
use Rattle.node.proofs.slots.Streams.{Kind, kind_of, heard_keeps, slot_of_changed}
use Rattle.node.proofs.EarlierErrors.{duplicate_restamps}

pub heard_alike : HeardAlike
unfolding hear
heard_alike id dlc other payload output n low low_too e =
    ap (λ (tests : Refusals).
    unless_refused n ((ShortOutput, ltb (length output) hear_room) ∷ tests ++ slot_hear_refusals (code_of id) payload (slot_of (stream_of id) n))
    (heard id dlc payload output n))
    (equal_dlcs (is_bare id) id dlc other (length payload) low low_too e)

same_self : (b : List ℕ) → same_bytes b b ≡ true
unfolding same_bytes
same_self [] = refl
same_self (x ∷ b) = rw (eq-eqb x x refl, same_self b)

-- ── data that is taken ──
module _ (id : BusId) (dlc : ℕ) (payload output : List ℕ) (n : Node) (is_data : code_of id ≡ 0) (done : (hear id dlc payload output n).reply ≡ Done) where
  abbrev x : Slot
  x = slot_of (stream_of id) n

  facts : HearFacts id dlc payload output x
  facts =
      by_case (λ (o : Outcome). o.reply ≡ Done → HearFacts id dlc payload output x)
      (λ r why e. contrary (ap (λ (q : Reply). eqb (number_of q) 0) e) ((hear_cases id dlc payload output n).not_done r why)) (λ h e. h)
      (hear_cases id dlc payload output n).case done

  abbrev y : Slot
  y = slot_of (stream_of id) (hear id dlc payload output n).node

  becomes : y ≡ heard_by n.counter 0 payload x
  becomes =
      ap (λ (o : Outcome). slot_of (stream_of id) o.node) ((hear_cases id dlc payload output n).accepted_if facts)
      ∙ slot_of_changed (stream_of id) _ (heard_keeps n.counter (code_of id) payload) n ((and-eq-true_iff x.used _).0 facts.own).0
      ∙ rw is_data refl

  kind : kind_of y ≡ kind_of x
  kind = ap kind_of becomes ∙ heard_keeps n.counter 0 payload x

  -- what was held was the same
  agreed : x.message.held ≡ true → same x.message payload ≡ true
  agreed held =
      let told : clashes (code_of id) payload x ≡ not (same x.message payload) = rw (is_data, held) refl in
      not-false _ (sym told ∙ facts.agrees)

  new : same (holding n.counter payload) payload ≡ true
  new = rw (eq-eqb (length payload) (length payload) refl, take-append_seam payload (drop (length payload) (replicate max_payload 0))) (same_self payload)

  -- the payload is held now
  holds : (y.message.held ≡ true) × (same y.message payload ≡ true)
  unfolding heard_by
  holds = rw becomes (go x.message.held refl)
    where
      go : (h : Bool) → x.message.held ≡ h
          → ((heard_by n.counter 0 payload x).message.held ≡ true) × (same (heard_by n.counter 0 payload x).message payload ≡ true)
      go true held = rw held (refl, agreed held)
      go false free = rw free (refl, new)

  as_meant : length payload ≡ bytes_of_dlc dlc
  as_meant = facts.good.exact

  pub held_length : y.message.len ≡ bytes_of_dlc dlc
  held_length = eqb-true y.message.len (length payload) ((and-eq-true_iff (eqb y.message.len (length payload)) _).0 holds.1).0 ∙ as_meant

  -- ── and heard again ──
  module _ (other : ℕ) (low : other ≤ max_dlc) (equal : bytes_of_dlc dlc ≡ bytes_of_dlc other) where
    abbrev then : Node
    then = (hear id dlc payload output n).node

    facts_again : HearFacts id other payload output y
    facts_again =
        record {
          room = facts.room;
          good = equal_frames (is_bare id) id dlc other (length payload) facts.good low equal;
          own = ap (λ (k : Kind). k.used && receives k.settings) kind ∙ facts.own;
          fits = ap (λ (k : Kind). carries k.settings.class (code_of id)) kind ∙ facts.fits;
          agrees = rw (is_data, holds.0, holds.1);
        }

    pub again : Duplicate (stream_of id) then (hear id other payload output then)
    again =
        let heard = (hear_cases id other payload output then).accepted_if facts_again in
        record {
          reply = ap (λ (o : Outcome). o.reply) heard;
          slot =
              ap (λ (o : Outcome). slot_of (stream_of id) o.node) heard
              ∙ slot_of_changed (stream_of id) _ (heard_keeps then.counter (code_of id) payload) then
              ((and-eq-true_iff y.used _).0 facts_again.own).0
              ∙ rw is_data (duplicate_restamps then.counter payload y holds.0);
        }

pub held_as_meant : HeldAsMeant
held_as_meant = held_length

pub heard_again : HeardAgain
heard_again id dlc other payload output n is_data done low equal = again id dlc payload output n is_data done other low equal
