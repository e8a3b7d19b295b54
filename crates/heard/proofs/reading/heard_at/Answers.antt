-- `heard_at` meets its contract: each return is one of the ways to an answer (`Ways.antt`).
use native.Mathlib.Omega.{arith}
use borrow.Author.Tests.{ltb-false}
use mathlib.Core.Path.{◌≡◌, ◌∙◌}
use Rattle.std.specs.Prelude.{Err}
use Rattle.std.proofs.lemmas.Grind.{common_steps}
use Rattle.heard.specs.declared.reply.Reply.TheVariants.{UnknownKind}
use Rattle.heard.proofs.Numbers.{kind_here}
use Rattle.heard.proofs.Ways.{no_head, no_body, unknown_kind, too_short, too_long, whole}
use Rattle.heard.proofs.reading.heard_at.Goals as goal

pub returns-then-left-lt4 : goal.returns-then-left-lt4
returns-then-left-lt4 c =
    let a = c.args in no_head a.bytes.now a.at (omega arith)

pub returns-then-left-follow : goal.returns-then-left-follow
returns-then-left-follow c =
    let a = c.args in
    let follow = c.number_at-follow.ensures.0 in
    no_body a.bytes.now a.at (omega (arith, follow))

pub returns-in_err-kind : goal.returns-in_err-kind
returns-in_err-kind c =
    let a = c.args in
    let follow = c.number_at-follow.ensures.0 in
    let (unknown, number) = c.in_err-kind.ensures in
    let e : c.from_residual.result ≡ Err UnknownKind = grind (arith, common_steps) in
    rw e (unknown_kind a.bytes.now a.at (omega arith) (omega (arith, follow)) (ltb-false _ _ (rw c.number_at-number.ensures.0 at number)))

pub returns-then-follow-head : goal.returns-then-follow-head
returns-then-follow-head c =
    let a = c.args in
    let follow = c.number_at-follow.ensures.0 in
    let (width, known) = kind_here c.in_ok-kind.kind _ _ _ c.in_ok-kind.ensures c.number_at-number.ensures.0 c.count_bytes-width.ensures.0 in
    too_short a.bytes.now a.at (omega arith) (omega (arith, follow)) known (omega (arith, follow, width))

pub returns-then-follow-head-2 : goal.returns-then-follow-head-2
returns-then-follow-head-2 c =
    let a = c.args in
    let follow = c.number_at-follow.ensures.0 in
    let (width, known) = kind_here c.in_ok-kind.kind _ _ _ c.in_ok-kind.ensures c.number_at-number.ensures.0 c.count_bytes-width.ensures.0 in
    too_long a.bytes.now a.at (omega arith) (omega (arith, follow)) known (omega (arith, follow, width))

pub returns : goal.returns
returns c =
    let a = c.args in
    let follow = c.number_at-follow.ensures.0 in
    let kind = c.in_ok-kind.ensures ∙ c.number_at-number.ensures.0 in
    let (width, known) = kind_here c.in_ok-kind.kind _ _ _ c.in_ok-kind.ensures c.number_at-number.ensures.0 c.count_bytes-width.ensures.0 in
    rw (c.number_at.ensures.0, c.number_at-2.ensures.0, width, kind, follow)
    (whole a.bytes.now a.at (omega arith) (omega (arith, follow))
    known (omega (arith, follow, width)) (omega (arith, follow, width)))
