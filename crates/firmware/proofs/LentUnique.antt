-- Every promise of the calls on a lent node is met by one answer only, and leaves a lent output and a lent tally one content only, and the bytes one node.
use Rattle.wire.specs.Uniqueness.{OneAnswer, OneContent}
use Rattle.wire.proofs.Unique.{same}
use Rattle.node_bytes.specs.LentCalls.{OneNode}
use Rattle.firmware.proofs.lent.kosmydore_count.Reads as count
use Rattle.firmware.proofs.lent.kosmydore_module_fresh.Reads as fresh
use Rattle.firmware.proofs.lent.kosmydore_module_set_up.Reads as set_up_call
use Rattle.firmware.proofs.lent.kosmydore_module_hear.Reads as hear
use Rattle.firmware.proofs.lent.kosmydore_module_tick.Reads as tick
use Rattle.firmware.proofs.lent.kosmydore_module_request.Reads as request
use Rattle.firmware.proofs.lent.kosmydore_module_next_frame.Reads as next_frame_call

pub count_unique : OneAnswer count.Post
count_unique l input a b s t p q = same p.0 q.0

pub count_tally_unique : OneContent count.Post (λ l e. e.0.now)
count_tally_unique l input a b s t p q = same p.1 q.1

pub fresh_unique : OneAnswer fresh.Post
fresh_unique l input a b s t p q = same p.0 q.0

pub fresh_content_unique : OneContent fresh.Post (λ l e. e.0.now)
fresh_content_unique l input a b s t p q = same p.1 q.1

-- ── set up and request ──
pub set_up_unique : OneAnswer set_up_call.Post
set_up_unique l input a b s t p q = same p.0 q.0

pub set_up_node_unique : OneNode set_up_call.Post (λ l e. e.0.now)
set_up_node_unique l input a b s t p q = same p.1.0.node q.1.0.node

pub set_up_tally_unique : OneContent set_up_call.Post (λ l e. e.1.1.1.0.now)
set_up_tally_unique l input a b s t p q = same p.1.1 q.1.1

pub request_unique : OneAnswer request.Post
request_unique l input a b s t p q = same p.0 q.0

pub request_node_unique : OneNode request.Post (λ l e. e.0.now)
request_node_unique l input a b s t p q = same p.1.0.node q.1.0.node

pub request_tally_unique : OneContent request.Post (λ l e. e.1.1.1.0.now)
request_tally_unique l input a b s t p q = same p.1.1 q.1.1

-- ── hear, tick and next frame, which are lent an output ──
pub hear_unique : OneAnswer hear.Post
hear_unique l input a b s t p q = same p.0 q.0

pub hear_content_unique : OneContent hear.Post (λ l e. e.1.1.1.1.0.now)
hear_content_unique l input a b s t p q = same p.1.0 q.1.0

pub hear_node_unique : OneNode hear.Post (λ l e. e.0.now)
hear_node_unique l input a b s t p q = same p.1.1.0.node q.1.1.0.node

pub hear_tally_unique : OneContent hear.Post (λ l e. e.1.1.1.1.1.0.now)
hear_tally_unique l input a b s t p q = same p.1.1.1 q.1.1.1

pub tick_unique : OneAnswer tick.Post
tick_unique l input a b s t p q = same p.0 q.0

pub tick_content_unique : OneContent tick.Post (λ l e. e.1.0.now)
tick_content_unique l input a b s t p q = same p.1.0 q.1.0

pub tick_node_unique : OneNode tick.Post (λ l e. e.0.now)
tick_node_unique l input a b s t p q = same p.1.1.0.node q.1.1.0.node

pub tick_tally_unique : OneContent tick.Post (λ l e. e.1.1.0.now)
tick_tally_unique l input a b s t p q = same p.1.1.1 q.1.1.1

pub next_frame_unique : OneAnswer next_frame_call.Post
next_frame_unique l input a b s t p q = same p.0 q.0

pub next_frame_content_unique : OneContent next_frame_call.Post (λ l e. e.1.0.now)
next_frame_content_unique l input a b s t p q = same p.1.0 q.1.0

pub next_frame_node_unique : OneNode next_frame_call.Post (λ l e. e.0.now)
next_frame_node_unique l input a b s t p q = same p.1.1.0.node q.1.1.0.node

pub next_frame_tally_unique : OneContent next_frame_call.Post (λ l e. e.1.1.0.now)
next_frame_tally_unique l input a b s t p q = same p.1.1.1 q.1.1.1
