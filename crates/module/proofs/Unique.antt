-- Every public promise of the crate is met by one answer only, by one content of a lent output, and by one content of the lent tally.
use mathlib.Core.Path.{◌≡◌, refl}
use seplogic.Ra.Ura.{Ura}
use base.Logic.{SProp}
use prog.Memory.{Memory}
use prog.Routine.{Routine}
use types.Logic.{Logic}
use contract.Lifetimes.{Lfts}
use contract.Monad.{Fun, fact}
use denote.Triple.Clauses.{AtExit}
use denote.Triple.Entry.{Args, Res}
use Rattle.std.proofs.Common.{Result}
use Rattle.wire.specs.declared.reply.Reply.{Reply}
use Rattle.wire.specs.Uniqueness.{OneAnswer, OneContent}
use Rattle.wire.proofs.Unique.{same}
use Rattle.node.specs.Calls.{Call, set_up, hear, tick, request, next_frame}
use Rattle.module.specs.declared.Module.{Module}
use Rattle.module.specs.declared.tally.Tally.{Tally}
use Rattle.module.specs.Tallies.{reply_in, tallied}
use Rattle.module.specs.Histories.{Returned, Left, Promised}
use Rattle.module.proofs.tally.Tally.numbers.Reads as numbers
use Rattle.module.proofs.tally.Tally.place.Reads as place
use Rattle.module.proofs.tally.Tally.place_of.Reads as place_of
use Rattle.module.proofs.tally.Tally.zero.Reads as zero
use Rattle.module.proofs.Module.fresh.Reads as fresh
use Rattle.module.specs.contracts.tally.Tally.count as count
use Rattle.module.proofs.tally.count_in.Reads as count_in
use Rattle.module.proofs.values.heard_in.Reads as heard_values
use Rattle.module.proofs.values.ticked_in.Reads as ticked_values
use Rattle.module.proofs.values.given_in.Reads as given_values
use Rattle.module.specs.contracts.Module.set_up as set_up_call
use Rattle.module.specs.contracts.Module.hear as hearing
use Rattle.module.specs.contracts.Module.tick as ticking
use Rattle.module.specs.contracts.Module.request as requesting
use Rattle.module.specs.contracts.Module.next_frame as giving

pub numbers_unique : OneAnswer numbers.Post
numbers_unique l input a b s t = same

pub place_unique : OneAnswer place.Post
place_unique l input a b s t = same

pub place_of_unique : OneAnswer place_of.Post
place_of_unique l input a b s t = same

pub zero_unique : OneAnswer zero.Post
zero_unique l input a b s t = same

pub fresh_unique : OneAnswer fresh.Post
fresh_unique l input a b s t = same

pub count_in_unique : OneAnswer count_in.Post
count_in_unique l input a b s t p q = same p.0 q.0

pub count_in_content_unique : OneContent count_in.Post (λ l e. e.0.now)
count_in_content_unique l input a b s t p q = same p.1 q.1

-- what `count` makes of the tally
pub count_unique : (t : Tally) (reply : Reply) (w w' : Tally) → w ≡ tallied t reply → w' ≡ tallied t reply → w ≡ w'
count_unique t reply w w' = same

-- and of a call's answer, of which the reply is told too
pub reply_of_unique : {A : Type 0} (answer : Result A Reply) (w w' : Reply) → w ≡ reply_in answer → w' ≡ reply_in answer → w ≡ w'
reply_of_unique answer w w' = same

pub count_answer_unique : {A : Type 0} (t : Tally) (answer : Result A Reply) (w w' : Tally)
    → w ≡ tallied t (reply_in answer) → w' ≡ tallied t (reply_in answer) → w ≡ w'
count_answer_unique t answer w w' = same

-- what a call returns, what it leaves in the lent output, and what it makes of the module
pub promised_unique : (c : Call) (m : Module) (r r' : Returned c) (left left' : Left c) (then then' : Module)
    → Promised c m r left then → Promised c m r' left' then' → (r ≡ r') × (left ≡ left') × (then ≡ then')
promised_unique (set_up s settings) m r r' left left' t t' p q = (same p.0 q.0, refl, same p.1 q.1)
promised_unique (hear id dlc payload output) m r r' left left' t t' p q = (same p.0 q.0, same p.1 q.1, same p.2 q.2)
promised_unique (tick output) m r r' left left' t t' p q = (same p.0 q.0, same p.1 q.1, same p.2 q.2)
promised_unique (request s payload) m r r' left left' t t' p q = (same p.0 q.0, refl, same p.1 q.1)
promised_unique (next_frame output) m r r' left left' t t' p q = (same p.0 q.0, same p.1 q.1, same p.2 q.2)

-- ── these are the promises of the sources ──
-- the values of an answer, a refusal too
pub heard_in_unique : OneAnswer heard_values.Post
heard_in_unique l input a b s t = same

pub ticked_in_unique : OneAnswer ticked_values.Post
ticked_in_unique l input a b s t = same

pub given_in_unique : OneAnswer given_values.Post
given_in_unique l input a b s t = same

-- the contract of each function that changes the tally or the module, as it is read from its source: `a` is what it is passed, `e`
-- what is behind its parameters at the exit
module _ {M : Type 1} {𝓤 : Ura M} (𝓛 : Logic 𝓤) (mem : Memory → SProp 𝓤) (run : Routine → Fun 𝓤) where
  pub count_says : (κs : Lfts 1) (a : Args count.signature κs) (r : Res count.signature κs) (e : AtExit count.ended κs)
      → (count.clauses 𝓛 mem run κs a).ensures tt r e ≡ fact 𝓤 (e.0.now ≡ tallied a.0.now a.1.0)
  count_says κs a r e = refl

  pub set_up_says : (κs : Lfts 1) (a : Args set_up_call.signature κs) (r : Res set_up_call.signature κs) (e : AtExit set_up_call.ended κs)
      → (set_up_call.clauses 𝓛 mem run κs a).ensures tt r e
      ≡ fact 𝓤 (Promised (set_up a.1.0 a.1.1.0) a.0.now r tt e.0.now)
  set_up_says κs a r e = refl

  pub hear_says : (κs : Lfts 3) (a : Args hearing.signature κs) (r : Res hearing.signature κs) (e : AtExit hearing.ended κs)
      → (hearing.clauses 𝓛 mem run κs a).ensures tt r e
      ≡ fact 𝓤 (Promised (hear a.1.0 a.1.1.0 a.1.1.1.0.now a.1.1.1.1.0.now) a.0.now r e.1.1.1.1.0.now e.0.now)
  hear_says κs a r e = refl

  pub tick_says : (κs : Lfts 2) (a : Args ticking.signature κs) (r : Res ticking.signature κs) (e : AtExit ticking.ended κs)
      → (ticking.clauses 𝓛 mem run κs a).ensures tt r e ≡ fact 𝓤 (Promised (tick a.1.0.now) a.0.now r e.1.0.now e.0.now)
  tick_says κs a r e = refl

  pub request_says : (κs : Lfts 2) (a : Args requesting.signature κs) (r : Res requesting.signature κs) (e : AtExit requesting.ended κs)
      → (requesting.clauses 𝓛 mem run κs a).ensures tt r e
      ≡ fact 𝓤 (Promised (request a.1.0 a.1.1.0.now) a.0.now r tt e.0.now)
  request_says κs a r e = refl

  pub next_frame_says : (κs : Lfts 2) (a : Args giving.signature κs) (r : Res giving.signature κs) (e : AtExit giving.ended κs)
      → (giving.clauses 𝓛 mem run κs a).ensures tt r e
      ≡ fact 𝓤 (Promised (next_frame a.1.0.now) a.0.now r e.1.0.now e.0.now)
  next_frame_says κs a r e = refl
