-- `Playback::hear_step` meets its contract: the node hears the frame of the record.
use Rattle.std.proofs.Common.{◌≡◌, ◌-◌, arith, rules}
use Rattle.std.specs.Prelude.{MatchResult}
use Rattle.heard.specs.Answers.{was_read}
use Rattle.playback.proofs.Ways.{hears_once}
use Rattle.playback.proofs.Playback.hear_step.Goals as goal

pub returns : goal.returns
returns c =
    let a = c.args in
    let long : a.read.next - a.read.payload ≡ a.read.length = omega (arith, c.requires.0) in
    let written : MatchResult c.hear.result (λ h. c.map_or-written.result ≡ h.written) (λ reply. c.map_or-written.result ≡ 0) = search rules in
    hears_once a.self.now (was_read a.read) a.window.now a.out.now _ _ _ _ _ long c.hear.ensures.exact written
