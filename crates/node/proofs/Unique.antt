-- Every public promise is met by one answer only, for every node and every input, and leaves a lent output one content only.
use Rattle.std.proofs.Common.{◌≡◌}
use Rattle.wire.specs.Uniqueness.{OneAnswer, OneContent}
use Rattle.wire.proofs.Unique.{same}
use Rattle.node.specs.declared.Node.{Node}
use Rattle.node.proofs.Node.set_up.Reads as set_up_call
use Rattle.node.proofs.Node.hear.Reads as hear
use Rattle.node.proofs.Node.tick.Reads as tick
use Rattle.node.proofs.Node.request.Reads as request
use Rattle.node.proofs.Node.next_frame.Reads as next_frame_call
use Rattle.node.proofs.Node.fresh.Reads as fresh
use Rattle.node.proofs.slots.Slot.empty.Reads as empty
use Rattle.node.proofs.slots.Slot.is_free.Reads as is_free
use Rattle.node.proofs.slots.Slot.is_of.Reads as is_of_law
use Rattle.node.proofs.slots.Slot.is_receiver.Reads as is_receiver
use Rattle.node.proofs.slots.Slot.is_sender.Reads as is_sender
use Rattle.node.proofs.slots.Slot.is_busy.Reads as is_busy
use Rattle.node.proofs.slots.Slot.set_up.Reads as slot_set_up
use Rattle.node.proofs.slots.Slot.check_hear.Reads as check_hear
use Rattle.node.proofs.slots.Slot.hear.Reads as slot_hear
use Rattle.node.proofs.hear.deliver_plain.Reads as deliver_plain
use Rattle.node.proofs.next_frame.give_payload.Reads as give_payload
use Rattle.node.proofs.slots.Slot.check_request.Reads as check_request
use Rattle.node.proofs.slots.Slot.requested.Reads as requested
use Rattle.node.proofs.tick.next.Reads as next
use Rattle.node.proofs.tick.age.Reads as age
use Rattle.node.proofs.slots.Slot.late.Reads as late
use Rattle.node.proofs.slots.Slot.due.Reads as due
use Rattle.node.proofs.slots.Slot.hold_over.Reads as hold_over
use Rattle.node.proofs.slots.Slot.may_stir.Reads as may_stir
use Rattle.node.proofs.slots.Slot.dropped.Reads as dropped
use Rattle.node.proofs.slots.Slot.delivered.Reads as delivered
use Rattle.node.proofs.slots.Slot.hold_ended.Reads as hold_ended
use Rattle.node.proofs.slots.Slot.has_frame.Reads as has_frame
use Rattle.node.proofs.slots.Slot.lowest_code.Reads as lowest_code_law
use Rattle.node.proofs.slots.Slot.given_out.Reads as given_out
use Rattle.node.proofs.slots.Message.payload_length.Reads as payload_length
use Rattle.node.proofs.slots.Message.same.Reads as same_payload
use Rattle.node.proofs.slots.pad.Reads as pad
use Rattle.node.proofs.slots.Pending.any.Reads as any_pending

-- and so it leaves a lent node as one node only
module _ {L : Type 0} {I A E : L → Type 0} where
  abbrev pub OneNode : ((l : L) → I l → A l → E l → Type 0) → ((l : L) → E l → Node) → Type 0
  OneNode promise left =
      (l : L) (input : I l) (a b : A l) (s t : E l) → promise l input a s → promise l input b t → left l s ≡ left l t

-- ── the five calls ──
pub set_up_unique : OneAnswer set_up_call.Post
set_up_unique l input a b s t p q = same p.0.0 q.0.0

pub set_up_node_unique : OneNode set_up_call.Post (λ l e. e.0.now)
set_up_node_unique l input a b s t p q = same p.0.1 q.0.1

pub hear_unique : OneAnswer hear.Post
hear_unique l input a b s t p q = same p.0.0 q.0.0

pub hear_content_unique : OneContent hear.Post (λ l e. e.1.1.1.1.0.now)
hear_content_unique l input a b s t p q = same p.0.2 q.0.2

pub hear_node_unique : OneNode hear.Post (λ l e. e.0.now)
hear_node_unique l input a b s t p q = same p.0.1 q.0.1

pub tick_unique : OneAnswer tick.Post
tick_unique l input a b s t p q = same p.0.0 q.0.0

pub tick_content_unique : OneContent tick.Post (λ l e. e.1.0.now)
tick_content_unique l input a b s t p q = same p.0.2 q.0.2

pub tick_node_unique : OneNode tick.Post (λ l e. e.0.now)
tick_node_unique l input a b s t p q = same p.0.1 q.0.1

pub request_unique : OneAnswer request.Post
request_unique l input a b s t p q = same p.0.0 q.0.0

pub request_node_unique : OneNode request.Post (λ l e. e.0.now)
request_node_unique l input a b s t p q = same p.0.1 q.0.1

pub next_frame_unique : OneAnswer next_frame_call.Post
next_frame_unique l input a b s t p q = same p.0.0 q.0.0

pub next_frame_content_unique : OneContent next_frame_call.Post (λ l e. e.1.0.now)
next_frame_content_unique l input a b s t p q = same p.0.2 q.0.2

pub next_frame_node_unique : OneNode next_frame_call.Post (λ l e. e.0.now)
next_frame_node_unique l input a b s t p q = same p.0.1 q.0.1

-- ── a slot's steps ──
pub check_hear_unique : OneAnswer check_hear.Post
check_hear_unique l input a b s t = same

pub slot_hear_unique : OneAnswer slot_hear.Post
slot_hear_unique l input a b s t = same

pub deliver_plain_unique : OneAnswer deliver_plain.Post
deliver_plain_unique l input a b s t p q = same p.0 q.0

pub deliver_plain_content_unique : OneContent deliver_plain.Post (λ l e. e.0.now)
deliver_plain_content_unique l input a b s t p q = same p.1 q.1

pub give_payload_unique : OneAnswer give_payload.Post
give_payload_unique l input a b s t p q = same p.0 q.0

pub give_payload_content_unique : OneContent give_payload.Post (λ l e. e.0.now)
give_payload_content_unique l input a b s t p q = same p.1.0 q.1.0

pub check_request_unique : OneAnswer check_request.Post
check_request_unique l input a b s t = same

pub requested_unique : OneAnswer requested.Post
requested_unique l input a b s t = same

pub next_unique : OneAnswer next.Post
next_unique l input a b s t = same

pub age_unique : OneAnswer age.Post
age_unique l input a b s t = same

pub late_unique : OneAnswer late.Post
late_unique l input a b s t = same

pub due_unique : OneAnswer due.Post
due_unique l input a b s t = same

pub hold_over_unique : OneAnswer hold_over.Post
hold_over_unique l input a b s t = same

pub may_stir_unique : OneAnswer may_stir.Post
may_stir_unique l input a b s t = same

pub dropped_unique : OneAnswer dropped.Post
dropped_unique l input a b s t = same

pub delivered_unique : OneAnswer delivered.Post
delivered_unique l input a b s t = same

pub hold_ended_unique : OneAnswer hold_ended.Post
hold_ended_unique l input a b s t = same

-- ── the leaves ──
pub fresh_unique : OneAnswer fresh.Post
fresh_unique l input a b s t = same

pub empty_unique : OneAnswer empty.Post
empty_unique l input a b s t = same

pub is_free_unique : OneAnswer is_free.Post
is_free_unique l input a b s t = same

pub is_of_unique : OneAnswer is_of_law.Post
is_of_unique l input a b s t = same

pub is_receiver_unique : OneAnswer is_receiver.Post
is_receiver_unique l input a b s t = same

pub is_sender_unique : OneAnswer is_sender.Post
is_sender_unique l input a b s t = same

pub is_busy_unique : OneAnswer is_busy.Post
is_busy_unique l input a b s t = same

pub slot_set_up_unique : OneAnswer slot_set_up.Post
slot_set_up_unique l input a b s t = same

pub has_frame_unique : OneAnswer has_frame.Post
has_frame_unique l input a b s t = same

pub lowest_code_unique : OneAnswer lowest_code_law.Post
lowest_code_unique l input a b s t = same

pub given_out_unique : OneAnswer given_out.Post
given_out_unique l input a b s t = same

pub payload_length_unique : OneAnswer payload_length.Post
payload_length_unique l input a b s t = same

pub same_payload_unique : OneAnswer same_payload.Post
same_payload_unique l input a b s t = same

pub pad_unique : OneAnswer pad.Post
pad_unique l input a b s t = same

pub any_pending_unique : OneAnswer any_pending.Post
any_pending_unique l input a b s t = same
