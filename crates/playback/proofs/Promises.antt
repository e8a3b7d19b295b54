-- The promises that the runs speak of are those of the sources.
use Rattle.std.proofs.Common.{◌≡◌, refl}
use Rattle.heard.proofs.WrittenThenRead.{Says}
use Rattle.playback.specs.Steps.{fresh_playback}
use Rattle.playback.specs.Runs.{SetUpPromises, StepPromises}
use Rattle.playback.proofs.Playback.fresh.Reads as fresh
use Rattle.playback.proofs.Playback.set_up.Reads as set_up_call
use Rattle.playback.proofs.Playback.step.Reads as step

pub fresh_says : Says fresh.Post (λ l i a e. a ≡ fresh_playback)
fresh_says l i a e = refl

pub set_up_says : Says set_up_call.Post (λ l i a e. SetUpPromises i.1.0 i.1.1.0 i.0.now a e.0.now)
set_up_says l i a e = refl

pub step_says : Says step.Post (λ l i a e. StepPromises i.1.0.now i.1.1.0 i.1.1.1.0.now i.0.now a e.0.now e.1.1.1.0.now)
step_says l i a e = refl
