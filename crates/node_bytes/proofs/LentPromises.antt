-- What the sources of the calls on a lent node promise is what a run asks of each.
use mathlib.Core.Path.{◌≡◌}
use mathlib.Core.List.{[]}
use Rattle.node.specs.Calls.{set_up, hear, tick, request, next_frame}
use Rattle.node_bytes.specs.Lent.{fresh_in}
use Rattle.node_bytes.specs.LentHistories.{Promised}
use Rattle.node_bytes.proofs.fresh.fresh.Reads as fresh_source
use Rattle.node_bytes.proofs.set_up.set_up.Reads as set_up_source
use Rattle.node_bytes.proofs.hear.hear.Reads as hear_source
use Rattle.node_bytes.proofs.tick.tick.Reads as tick_source
use Rattle.node_bytes.proofs.request.request.Reads as request_source
use Rattle.node_bytes.proofs.next_frame.next_frame.Reads as next_frame_source

-- a promise as it is read from the source, of the lifetimes, the input, the answer and what is behind each parameter at the exit; and what it tells
module _ {L : Type 0} {I A E : L → Type 0} where
  abbrev Tells : (promise what : (l : L) → I l → A l → E l → Type 0) → Type 0
  Tells promise what = (l : L) (i : I l) (a : A l) (e : E l) → promise l i a e → what l i a e

pub fresh_tells : Tells fresh_source.Post (λ l i a e. e.0.now ≡ fresh_in i.0.now)
fresh_tells l i a e p = p.1

pub set_up_tells : Tells set_up_source.Post (λ l i a e. Promised (set_up i.1.0 i.1.1.0) i.0.now a [] e.0.now)
set_up_tells l i a e p = p

pub hear_tells :
    Tells hear_source.Post
    (λ l i a e.
    Promised (hear i.1.0 i.1.1.0 i.1.1.1.0.now i.1.1.1.1.0.now) i.0.now a e.1.1.1.1.0.now e.0.now)
hear_tells l i a e (answer, (output, leaves)) = ((answer, output), leaves)

pub tick_tells : Tells tick_source.Post (λ l i a e. Promised (tick i.1.0.now) i.0.now a e.1.0.now e.0.now)
tick_tells l i a e (answer, (output, leaves)) = ((answer, output), leaves)

pub request_tells : Tells request_source.Post (λ l i a e. Promised (request i.1.0 i.1.1.0.now) i.0.now a [] e.0.now)
request_tells l i a e p = p

pub next_frame_tells : Tells next_frame_source.Post (λ l i a e. Promised (next_frame i.1.0.now) i.0.now a e.1.0.now e.0.now)
next_frame_tells l i a e (answer, (output, leaves)) = ((answer, output), leaves)
