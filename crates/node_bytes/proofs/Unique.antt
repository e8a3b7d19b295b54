-- Every public promise is met by one answer only, and leaves a lent buffer one content only, or one node.
use Rattle.wire.specs.Uniqueness.{OneAnswer, OneContent}
use Rattle.wire.proofs.Unique.{same}
use Rattle.node_bytes.specs.LentCalls.{OneNode}
use Rattle.node_bytes.proofs.layout.is_node.Reads as is_node_law
use Rattle.node_bytes.proofs.layout.is_slot.Reads as is_slot_law
use Rattle.node_bytes.proofs.slots.read_slot.Reads as read_slot
use Rattle.node_bytes.proofs.slots.store_slot.Reads as store_slot
use Rattle.node_bytes.proofs.slots.is_of.Reads as is_of_law
use Rattle.node_bytes.proofs.slots.is_free.Reads as is_free
use Rattle.node_bytes.proofs.slots.has_pending.Reads as has_pending
use Rattle.node_bytes.proofs.slots.is_held.Reads as is_held_lem
use Rattle.node_bytes.proofs.slots.stamp.Reads as stamp
use Rattle.node_bytes.proofs.counter.read_counter.Reads as read_counter
use Rattle.node_bytes.proofs.counter.store_counter.Reads as store_counter
use Rattle.node_bytes.proofs.fresh.fresh.Reads as fresh
use Rattle.node_bytes.proofs.request.request.Reads as request
use Rattle.node_bytes.proofs.hear.hear.Reads as hear
use Rattle.node_bytes.proofs.tick.tick.Reads as tick
use Rattle.node_bytes.proofs.next_frame.next_frame.Reads as next_frame_call
use Rattle.node_bytes.proofs.set_up.set_up.Reads as set_up_call

pub is_node_unique : OneAnswer is_node_law.Post
is_node_unique l input a b s t = same

pub is_slot_unique : OneAnswer is_slot_law.Post
is_slot_unique l input a b s t = same

pub read_slot_unique : OneAnswer read_slot.Post
read_slot_unique l input a b s t = same

pub store_slot_content_unique : OneContent store_slot.Post (λ l e. e.0.now)
store_slot_content_unique l input a b s t p q = same p.0 q.0

pub is_of_unique : OneAnswer is_of_law.Post
is_of_unique l input a b s t = same

pub is_free_unique : OneAnswer is_free.Post
is_free_unique l input a b s t = same

pub has_pending_unique : OneAnswer has_pending.Post
has_pending_unique l input a b s t = same

pub is_held_unique : OneAnswer is_held_lem.Post
is_held_unique l input a b s t = same

pub stamp_unique : OneAnswer stamp.Post
stamp_unique l input a b s t = same

pub read_counter_unique : OneAnswer read_counter.Post
read_counter_unique l input a b s t = same

pub store_counter_content_unique : OneContent store_counter.Post (λ l e. e.0.now)
store_counter_content_unique l input a b s t p q = same p.0 q.0

pub fresh_unique : OneAnswer fresh.Post
fresh_unique l input a b s t p q = same p.0 q.0

pub fresh_content_unique : OneContent fresh.Post (λ l e. e.0.now)
fresh_content_unique l input a b s t p q = same p.1 q.1

-- ── the calls ──
pub set_up_unique : OneAnswer set_up_call.Post
set_up_unique l input a b s t p q = same p.0 q.0

pub set_up_node_unique : OneNode set_up_call.Post (λ l e. e.0.now)
set_up_node_unique l input a b s t p q = same p.1.node q.1.node

pub request_unique : OneAnswer request.Post
request_unique l input a b s t p q = same p.0 q.0

pub request_node_unique : OneNode request.Post (λ l e. e.0.now)
request_node_unique l input a b s t p q = same p.1.node q.1.node

pub hear_unique : OneAnswer hear.Post
hear_unique l input a b s t p q = same p.0 q.0

pub hear_content_unique : OneContent hear.Post (λ l e. e.1.1.1.1.0.now)
hear_content_unique l input a b s t p q = same p.1.0 q.1.0

pub hear_node_unique : OneNode hear.Post (λ l e. e.0.now)
hear_node_unique l input a b s t p q = same p.1.1.node q.1.1.node

pub tick_unique : OneAnswer tick.Post
tick_unique l input a b s t p q = same p.0 q.0

pub tick_content_unique : OneContent tick.Post (λ l e. e.1.0.now)
tick_content_unique l input a b s t p q = same p.1.0 q.1.0

pub tick_node_unique : OneNode tick.Post (λ l e. e.0.now)
tick_node_unique l input a b s t p q = same p.1.1.node q.1.1.node

pub next_frame_unique : OneAnswer next_frame_call.Post
next_frame_unique l input a b s t p q = same p.0 q.0

pub next_frame_content_unique : OneContent next_frame_call.Post (λ l e. e.1.0.now)
next_frame_content_unique l input a b s t p q = same p.1.0 q.1.0

pub next_frame_node_unique : OneNode next_frame_call.Post (λ l e. e.0.now)
next_frame_node_unique l input a b s t p q = same p.1.1.node q.1.1.node
