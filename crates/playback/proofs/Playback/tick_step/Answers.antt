-- `Playback::tick_step` meets its contract: it is the node's tick, counted.
use Rattle.std.proofs.Common.{◌≡◌, rules}
use Rattle.std.specs.Prelude.{MatchResult}
use Rattle.playback.specs.Steps.{tick_step}
use Rattle.playback.proofs.Ways.{ticks_once}
use Rattle.playback.proofs.Playback.tick_step.Goals as goal

pub returns : goal.returns
unfolding tick_step
returns c =
    let p = c.args.self.now in
    let ticked = c.tick.ensures.exact in
    let written : MatchResult c.tick.result (λ t. c.map_or-written.result ≡ t.written) (λ reply. c.map_or-written.result ≡ 0) = search rules in
    (ticks_once p _ _ _ ticked.0 written, rw ticked.1, ticked.2)
