-- Every public promise is met by one answer only, and leaves a lent output one content only.
use mathlib.Core.Path.{◌≡◌, sym, ◌∙◌}
use Rattle.wire.specs.Uniqueness.{OneAnswer, OneContent}
use Rattle.wire.proofs.class.carries.Reads as carries
use Rattle.wire.proofs.copying.copy.Reads as copy
use Rattle.wire.proofs.delivered.copy_eight.Reads as copy_eight
use Rattle.wire.proofs.delivered.record_at.Reads as record_at
use Rattle.wire.proofs.delivered.record_length.Reads as record_length_law
use Rattle.wire.proofs.delivered.write_record.Reads as write_record
use Rattle.wire.proofs.frame.at_most_payload.Reads as at_most_payload
use Rattle.wire.proofs.ids.BusId.is_bare.Reads as is_bare
use Rattle.wire.proofs.frame.check_frame.Reads as check_frame
use Rattle.wire.proofs.ids.BusId.split.Reads as split
use Rattle.wire.proofs.ids.Stream.join.Reads as join
use Rattle.wire.proofs.reply.Reply.number.Reads as number
use Rattle.wire.proofs.settings.Settings.legal.Reads as legal
use Rattle.wire.proofs.settings.Settings.of.Reads as settings_of
use Rattle.wire.proofs.settings.Settings.of_plain.Reads as of_plain
use Rattle.wire.proofs.settings.Settings.of_imd.Reads as of_imd
use Rattle.wire.proofs.settings.Settings.of_two_message.Reads as of_two_message
use Rattle.wire.proofs.settings.legal_numbers.Reads as legal_numbers

-- the one law: two values that meet the same definition are equal
pub same : {A : Type 0} {d a b : A} → a ≡ d → b ≡ d → a ≡ b
same p q = p ∙ sym q

pub carries_unique : OneAnswer carries.Post
carries_unique l input a b s t = same

pub record_length_unique : OneAnswer record_length_law.Post
record_length_unique l input a b s t = same

pub write_record_unique : OneAnswer write_record.Post
write_record_unique l input a b s t p q = same p.0 q.0

pub write_record_content_unique : OneContent write_record.Post (λ l e. e.0.now)
write_record_content_unique l input a b s t p q = same p.1 q.1

pub copy_content_unique : OneContent copy.Post (λ l e. e.0.now)
copy_content_unique l input a b s t p q = same p.0 q.0

pub copy_eight_content_unique : OneContent copy_eight.Post (λ l e. e.0.now)
copy_eight_content_unique l input a b s t p q = same p q

pub record_at_unique : OneAnswer record_at.Post
record_at_unique l input a b s t = same

pub at_most_payload_unique : OneAnswer at_most_payload.Post
at_most_payload_unique l input a b s t = same

pub is_bare_unique : OneAnswer is_bare.Post
is_bare_unique l input a b s t = same

pub check_frame_unique : OneAnswer check_frame.Post
check_frame_unique l input a b s t = same

pub split_unique : OneAnswer split.Post
split_unique l input a b s t = same

pub join_unique : OneAnswer join.Post
join_unique l input a b s t = same

pub number_unique : OneAnswer number.Post
number_unique l input a b s t = same

pub legal_unique : OneAnswer legal.Post
legal_unique l input a b s t = same

pub legal_numbers_unique : OneAnswer legal_numbers.Post
legal_numbers_unique l input a b s t = same

pub settings_of_unique : OneAnswer settings_of.Post
settings_of_unique l input a b s t = same

pub of_plain_unique : OneAnswer of_plain.Post
of_plain_unique l input a b s t = same

pub of_imd_unique : OneAnswer of_imd.Post
of_imd_unique l input a b s t = same

pub of_two_message_unique : OneAnswer of_two_message.Post
of_two_message_unique l input a b s t = same
