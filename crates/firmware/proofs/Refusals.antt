-- Every value of the C boundary is 0 unless the number of its reply is 0.
use mathlib.Core.Path.{◌≡◌, refl, sym, ap}
use Rattle.std.specs.Result.{result_unwrap_or}
use mathlib.Core.Bool.{Bool, true, false, cond, ◌&&◌}
use mathlib.Core.Logic.{◌≢◌}
use Prim.Native.Nat.{ℕ}
use lib.Dec.{leb}
use Rattle.wire.specs.declared.reply.Reply.{Reply}
use Rattle.wire.specs.declared.reply.Reply.TheVariants.{Done}
use Rattle.wire.specs.declared.ids.Stream.{Stream}
use Rattle.wire.specs.declared.ids.BusId.{BusId}
use Rattle.wire.specs.Replies.{number_of}
use Rattle.wire.specs.Answers.{is_done, answered}
use Rattle.wire.specs.Identifiers.{Joined, Parts, max_stream, max_bus_id, max_code, join, split}
use Rattle.wire.specs.Frames.{max_payload}
use Rattle.wire.specs.Delivered.{RecordLength, record_length}

-- of two answers by a test, the first of which is Done and the second of which has the value 0
refused : {A : Type 0} (reply : A → Reply) (value : A → ℕ) (test : Bool) (a b : A)
    → reply a ≡ Done → value b ≡ 0 → number_of (reply (cond test a b)) ≢ 0 → value (cond test a b) ≡ 0
refused reply value true a b done none h = absurd (h (ap number_of done))
refused reply value false a b done none h = none

pub join_value : (s : Stream) (code : ℕ) → number_of (join s code).reply ≢ 0 → (join s code).id.0 ≡ 0
unfolding join
join_value s code = refused {A = Joined} (λ j. j.reply) (λ j. j.id.0) (leb s.0 max_stream && leb code max_code) _ _ refl refl

pub split_stream_value : (i : BusId) → number_of (split i).reply ≢ 0 → (split i).stream.0 ≡ 0
unfolding split
split_stream_value i = refused {A = Parts} (λ p. p.reply) (λ p. p.stream.0) (leb i.0 max_bus_id) _ _ refl refl

pub split_code_value : (i : BusId) → number_of (split i).reply ≢ 0 → (split i).code ≡ 0
unfolding split
split_code_value i = refused {A = Parts} (λ p. p.reply) (λ p. p.code) (leb i.0 max_bus_id) _ _ refl refl

pub record_length_value : (payload : ℕ) → number_of (record_length payload).reply ≢ 0 → (record_length payload).length ≡ 0
unfolding record_length
record_length_value payload = refused {A = RecordLength} (λ r. r.reply) (λ r. r.length) (leb payload max_payload) _ _ refl refl

-- ── as they are answered: the value, or 0 ──
module _ {A B : Type 0} (reply : A → Reply) (value : A → B) (a b : A) (none : B) where
  value_or : (test : Bool) → reply a ≡ Done → is_done (reply b) ≡ false → value b ≡ none
      → result_unwrap_or (answered (reply (cond test a b)) (value (cond test a b))) none ≡ value (cond test a b)
  value_or true done other nothing = rw done
  value_or false done other nothing = rw other (sym nothing)

pub join_or : (s : Stream) (code : ℕ) → result_unwrap_or (answered (join s code).reply (join s code).id) (record { 0 = 0 }) ≡ (join s code).id
unfolding join
join_or s code = value_or {A = Joined} (λ j. j.reply) (λ j. j.id) _ _ _ (leb s.0 max_stream && leb code max_code) refl refl refl

pub split_or : (i : BusId)
    → result_unwrap_or {T = Stream × ℕ} (answered (split i).reply ((split i).stream, (split i).code)) (record { 0 = 0 }, 0) ≡ ((split i).stream, (split i).code)
unfolding split
split_or i = value_or {A = Parts} {B = Stream × ℕ} (λ p. p.reply) (λ p. (p.stream, p.code)) _ _ _ (leb i.0 max_bus_id) refl refl refl

pub record_length_or : (payload : ℕ)
    → result_unwrap_or (answered (record_length payload).reply (record_length payload).length) 0 ≡ (record_length payload).length
unfolding record_length
record_length_or payload = value_or {A = RecordLength} (λ r. r.reply) (λ r. r.length) _ _ _ (leb payload max_payload) refl refl refl
