-- Every promise of the bench in code is met by one answer only, and leaves one bench only, one outbox, and the lent outputs one content only.
use Rattle.wire.specs.Uniqueness.{OneAnswer}
use Rattle.wire.proofs.Unique.{same}
use Rattle.bench_in_code.specs.InBytes.{OneBench, OneOutputs, OneRead, OneLeft}
use Rattle.bench_in_code.proofs.Bench.of.Reads as of
use Rattle.bench_in_code.proofs.Bench.is_live.Reads as is_live
use Rattle.bench_in_code.proofs.Bench.set_up.Reads as set_up_call
use Rattle.bench_in_code.proofs.Bench.request.Reads as request
use Rattle.bench_in_code.proofs.Bench.give.Reads as give
use Rattle.bench_in_code.proofs.Bench.send.Reads as send
use Rattle.bench_in_code.proofs.Bench.tick.Reads as tick
use Rattle.bench_in_code.proofs.Bench.death.Reads as death
use Rattle.bench_in_code.proofs.stations.Module.fresh.Reads as fresh
use Rattle.bench_in_code.proofs.outbox.Frame.payload.Reads as payload
use Rattle.bench_in_code.proofs.outbox.Frames.none.Reads as no_frames
use Rattle.bench_in_code.proofs.outbox.Frames.push.Reads as push
use Rattle.bench_in_code.proofs.outbox.Frames.at.Reads as frame_at
use Rattle.bench_in_code.proofs.outbox.Frames.get.Reads as frame_get

pub of_unique : OneAnswer of.Post
of_unique l input a b s t p q = same p.0 q.0

pub fresh_unique : OneAnswer fresh.Post
fresh_unique l input a b s t = same

pub is_live_unique : OneAnswer is_live.Post
is_live_unique l input a b s t = same

pub set_up_unique : OneAnswer set_up_call.Post
set_up_unique l input a b s t p q = same p.0 q.0

pub set_up_bench_unique : OneBench set_up_call.Post (λ l e. e.0.now)
set_up_bench_unique l input a b s t p q = same p.1 q.1

pub request_unique : OneAnswer request.Post
request_unique l input a b s t p q = same p.0 q.0

pub request_bench_unique : OneBench request.Post (λ l e. e.0.now)
request_bench_unique l input a b s t p q = same p.1 q.1

pub give_unique : OneAnswer give.Post
give_unique l input a b s t p q = same p.0 q.0

pub give_frames_unique : OneLeft give.Post (λ l e. e.1.1.0.now)
give_frames_unique l input a b s t p q = same p.1.0 q.1.0

pub give_bench_unique : OneBench give.Post (λ l e. e.0.now)
give_bench_unique l input a b s t p q = same p.1.1 q.1.1

pub send_unique : OneAnswer send.Post
send_unique l input a b s t p q = same p.0 q.0

pub send_outputs_unique : OneOutputs send.Post (λ l e. e.1.1.1.0.now)
send_outputs_unique l input a b s t p q = same p.1.0 q.1.0

pub send_bench_unique : OneBench send.Post (λ l e. e.0.now)
send_bench_unique l input a b s t p q = same p.1.1 q.1.1

pub tick_unique : OneAnswer tick.Post
tick_unique l input a b s t p q = same p.0 q.0

pub tick_outputs_unique : OneOutputs tick.Post (λ l e. e.1.0.now)
tick_outputs_unique l input a b s t p q = same p.1.0 q.1.0

pub tick_bench_unique : OneBench tick.Post (λ l e. e.0.now)
tick_bench_unique l input a b s t p q = same p.1.1 q.1.1

pub death_modules_unique : OneLeft death.Post (λ l e. e.0.now.modules)
death_modules_unique l input a b s t p q = same p.0 q.0

pub payload_unique : OneRead payload.Post (λ l a. a.now)
payload_unique l input a b s t = λ p q. same p.0 q.0

pub no_frames_unique : OneAnswer no_frames.Post
no_frames_unique l input a b s t = same

pub push_unique : OneLeft push.Post (λ l e. e.0.now)
push_unique l input a b s t = same

pub frame_at_unique : OneAnswer frame_at.Post
frame_at_unique l input a b s t = same

pub frame_get_unique : OneAnswer frame_get.Post
frame_get_unique l input a b s t = same
