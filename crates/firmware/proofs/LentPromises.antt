-- What the C functions on a lent node promise is what a run of calls asks of each; and of every list of calls there is such a run.
use mathlib.Core.Path.{◌≡◌, refl}
use mathlib.Core.List.{List, [], ◌∷◌}
use Prim.Native.Nat.{ℕ}
use Rattle.wire.specs.Replies.{number_of}
use Rattle.node.specs.Nodes.{Outcome}
use Rattle.node.specs.Calls.{Call, set_up, hear, tick, request, next_frame, Answer}
use Rattle.node_bytes.specs.Lent.{fresh_in}
use Rattle.node_bytes.specs.LentCalls.{lent_outcome}
use Rattle.node_bytes.specs.LentHistories as in_bytes
use Rattle.node_bytes.proofs.LentHistories.{some_run}
use Rattle.module.specs.Tallies.{zero_tally, counted_in}
use Rattle.firmware.specs.Judged.{in_numbers}
use Rattle.firmware.specs.Lent.{lent_heard_c, lent_ticked_c, given_out_c}
use Rattle.firmware.specs.Histories.{Seen}
use Rattle.firmware.specs.LentHistories.{Lent, Returned, Answers, Promised, seen, Run, start, next, SomeLentRun}
use Rattle.firmware.proofs.lent.kosmydore_module_fresh.Reads as fresh_source
use Rattle.firmware.proofs.lent.kosmydore_module_set_up.Reads as set_up_source
use Rattle.firmware.proofs.lent.kosmydore_module_hear.Reads as hear_source
use Rattle.firmware.proofs.lent.kosmydore_module_tick.Reads as tick_source
use Rattle.firmware.proofs.lent.kosmydore_module_request.Reads as request_source
use Rattle.firmware.proofs.lent.kosmydore_module_next_frame.Reads as next_frame_source

-- a promise as it is read from the source, of the lifetimes, the input, the answer and what is behind each parameter at the exit; and what it tells
module _ {L : Type 0} {I A E : L → Type 0} where
  abbrev Tells : (promise what : (l : L) → I l → A l → E l → Type 0) → Type 0
  Tells promise what = (l : L) (i : I l) (a : A l) (e : E l) → promise l i a e → what l i a e

abbrev lent : (bytes counts : List ℕ) → Lent
lent bytes counts = record { bytes = bytes; counts = counts }

pub fresh_tells : Tells fresh_source.Post (λ l i a e. e.0.now ≡ fresh_in i.0.now)
fresh_tells l i a e p = p.1

pub set_up_tells :
    Tells set_up_source.Post
    (λ l i a e.
    Promised (set_up (record { 0 = i.1.0 }) (in_numbers i.1.1.0)) (lent i.0.now i.1.1.1.0.now) a []
    (lent e.0.now e.1.1.1.0.now))
set_up_tells l i a e (answer, (bytes, tally)) = record { answers = answer; leaves = bytes; counts = tally }

pub hear_tells :
    Tells hear_source.Post
    (λ l i a e.
    Promised (hear (record { 0 = i.1.0 }) i.1.1.0 i.1.1.1.0.now i.1.1.1.1.0.now)
    (lent i.0.now i.1.1.1.1.1.0.now) a e.1.1.1.1.0.now (lent e.0.now e.1.1.1.1.1.0.now))
hear_tells l i a e (answer, (output, (bytes, tally))) = record { answers = (answer, output); leaves = bytes; counts = tally }

pub tick_tells :
    Tells tick_source.Post
    (λ l i a e.
    Promised (tick i.1.0.now) (lent i.0.now i.1.1.0.now) a e.1.0.now (lent e.0.now e.1.1.0.now))
tick_tells l i a e (answer, (output, (bytes, tally))) = record { answers = (answer, output); leaves = bytes; counts = tally }

pub request_tells :
    Tells request_source.Post
    (λ l i a e.
    Promised (request (record { 0 = i.1.0 }) i.1.1.0.now) (lent i.0.now i.1.1.1.0.now) a []
    (lent e.0.now e.1.1.1.0.now))
request_tells l i a e (answer, (bytes, tally)) = record { answers = answer; leaves = bytes; counts = tally }

pub next_frame_tells :
    Tells next_frame_source.Post
    (λ l i a e.
    Promised (next_frame i.1.0.now) (lent i.0.now i.1.1.0.now) a e.1.0.now (lent e.0.now e.1.1.0.now))
next_frame_tells l i a e (answer, (output, (bytes, tally))) = record { answers = (answer, output); leaves = bytes; counts = tally }

-- ── there are such runs: those on the bytes, with what C gets of each answer, and the counts beside them ──
abbrev in_c : (c : Call) → Outcome → Returned c
in_c (set_up s settings) o = number_of o.reply
in_c (hear id dlc payload output) o = lent_heard_c o
in_c (tick output) o = lent_ticked_c o
in_c (request s payload) o = number_of o.reply
in_c (next_frame output) o = given_out_c o

answered : (c : Call) (bytes : List ℕ) (r : in_bytes.Returned c) (left : List ℕ) → in_bytes.Answers c (lent_outcome c bytes) r left
    → Answers c bytes (in_c c (lent_outcome c bytes)) left
answered (set_up s settings) bytes r left a = refl
answered (hear id dlc payload output) bytes r left (same, written) = (refl, written)
answered (tick output) bytes r left (same, written) = (refl, written)
answered (request s payload) bytes r left a = refl
answered (next_frame output) bytes r left (same, written) = (refl, written)

from_bytes : {before end : List ℕ} {calls : List Call} {xs : List Answer} → in_bytes.Run before calls xs end → (counts : List ℕ)
    → (ys : List Seen) × ((m : Lent) × Run (lent before counts) calls ys m)
from_bytes {before} in_bytes.start counts = ([], (lent before counts, start))
from_bytes {before} (in_bytes.next c r left after (answers, leaves) rest) counts =
    let after_it : List ℕ = counted_in (number_of (lent_outcome c before).reply) counts in
    let (ys, (m, run)) = from_bytes rest after_it in
    let got : Returned c = in_c c (lent_outcome c before) in
    let kept : Promised c (lent before counts) got left (lent after after_it) =
    record { answers = answered c before r left answers; leaves = leaves; counts = refl } in
    (seen c got left ∷ ys, (m, next c got left (lent after after_it) kept run))

pub some_lent_run : SomeLentRun
some_lent_run bytes calls = let (xs, (end, run)) = some_run bytes calls in from_bytes run zero_tally.counts
