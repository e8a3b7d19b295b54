-- Every public promise is met by one answer only, and leaves a lent output one content only.
use Rattle.std.proofs.Common.{◌≡◌, ℕ, refl}
use Rattle.wire.specs.Uniqueness.{OneAnswer, OneContent}
use Rattle.wire.proofs.Unique.{same}
use Rattle.heard.specs.Records.{Heard}
use Rattle.playback.specs.declared.Playback.{Playback}
use Rattle.playback.proofs.Playback.fresh.Reads as fresh
use Rattle.playback.proofs.Playback.set_up.Reads as set_up_call
use Rattle.playback.proofs.Playback.step.Reads as step
use Rattle.playback.proofs.gap.gap.Reads as gap
use Rattle.playback.proofs.quiet.quiet.Reads as quiet
use Rattle.playback.proofs.step.number_of.Reads as number
use Rattle.playback.proofs.step.offset_of.Reads as offset

-- and so it leaves a lent playback as one playback only
module _ {L : Type 0} {I A E : L → Type 0} where
  abbrev pub OnePlayback : ((l : L) → I l → A l → E l → Type 0) → ((l : L) → E l → Playback) → Type 0
  OnePlayback promise left =
      (l : L) (input : I l) (a b : A l) (s t : E l) → promise l input a s → promise l input b t → left l s ≡ left l t

pub fresh_unique : OneAnswer fresh.Post
fresh_unique l input a b s t = same

pub set_up_unique : OneAnswer set_up_call.Post
set_up_unique l input a b s t p q = same p.0 q.0

pub set_up_playback_unique : OnePlayback set_up_call.Post (λ l e. e.0.now)
set_up_playback_unique l input a b s t p q = same p.1 q.1

pub step_unique : OneAnswer step.Post
step_unique l input a b s t p q = same p.0 q.0

pub step_content_unique : OneContent step.Post (λ l e. e.1.1.1.0.now)
step_content_unique l input a b s t p q = same p.2 q.2

pub step_playback_unique : OnePlayback step.Post (λ l e. e.0.now)
step_playback_unique l input a b s t p q = same p.1 q.1

pub number_unique : OneAnswer number.Post
number_unique l input a b s t = same

pub offset_unique : OneAnswer offset.Post
offset_unique l input a b s t = same

-- a record that holds the count
of_count : ℕ → Heard
of_count count = record { kind = 0; count = count; id = record { 0 = 0 }; dlc = 0 }

pub gap_unique : OneAnswer gap.Post
unfolding of_count
gap_unique l input a b s t p q = same (p (of_count input.1.0) refl) (q (of_count input.1.0) refl)

pub quiet_unique : OneAnswer quiet.Post
quiet_unique l input a b s t = same
