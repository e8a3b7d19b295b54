-- Every promise of the C boundary is met by one answer only, and leaves a lent output one content only.
use Rattle.wire.specs.Uniqueness.{OneAnswer, OneContent}
use Rattle.wire.proofs.Unique.{same}
use Rattle.firmware.proofs.calls.kosmydore_fresh.Reads as fresh
use Rattle.firmware.proofs.calls.kosmydore_set_up.Reads as set_up_call
use Rattle.firmware.proofs.calls.kosmydore_hear.Reads as hear
use Rattle.firmware.proofs.calls.kosmydore_tick.Reads as tick
use Rattle.firmware.proofs.calls.kosmydore_request.Reads as request
use Rattle.firmware.proofs.calls.kosmydore_next_frame.Reads as next_frame_call
use Rattle.firmware.proofs.kosmydore_join.Reads as join
use Rattle.firmware.proofs.kosmydore_join_reply.Reads as join_reply
use Rattle.firmware.proofs.kosmydore_record_length.Reads as record_length_law
use Rattle.firmware.proofs.kosmydore_record_length_reply.Reads as record_length_reply
use Rattle.firmware.proofs.kosmydore_settings_reply.Reads as settings_reply
use Rattle.firmware.proofs.kosmydore_split_code.Reads as split_code
use Rattle.firmware.proofs.kosmydore_split_reply.Reads as split_reply
use Rattle.firmware.proofs.kosmydore_split_stream.Reads as split_stream

pub join_reply_unique : OneAnswer join_reply.Post
join_reply_unique l input a b s t = same

pub join_unique : OneAnswer join.Post
join_unique l input a b s t = same

pub split_reply_unique : OneAnswer split_reply.Post
split_reply_unique l input a b s t = same

pub split_stream_unique : OneAnswer split_stream.Post
split_stream_unique l input a b s t = same

pub split_code_unique : OneAnswer split_code.Post
split_code_unique l input a b s t = same

pub settings_reply_unique : OneAnswer settings_reply.Post
settings_reply_unique l input a b s t = same

pub record_length_reply_unique : OneAnswer record_length_reply.Post
record_length_reply_unique l input a b s t = same

pub record_length_unique : OneAnswer record_length_law.Post
record_length_unique l input a b s t = same

-- ── the node's calls ──
pub fresh_unique : OneAnswer fresh.Post
fresh_unique l input a b s t = same

pub set_up_unique : OneAnswer set_up_call.Post
set_up_unique l input a b s t = same

pub hear_unique : OneAnswer hear.Post
hear_unique l input a b s t p q = same p.0 q.0

pub hear_content_unique : OneContent hear.Post (λ l e. e.1.1.1.1.0.now)
hear_content_unique l input a b s t p q = same p.1 q.1

pub tick_unique : OneAnswer tick.Post
tick_unique l input a b s t p q = same p.0 q.0

pub tick_content_unique : OneContent tick.Post (λ l e. e.1.0.now)
tick_content_unique l input a b s t p q = same p.1 q.1

pub request_unique : OneAnswer request.Post
request_unique l input a b s t = same

pub next_frame_unique : OneAnswer next_frame_call.Post
next_frame_unique l input a b s t p q = same p.0 q.0

pub next_frame_content_unique : OneContent next_frame_call.Post (λ l e. e.1.0.now)
next_frame_content_unique l input a b s t p q = same p.1 q.1
