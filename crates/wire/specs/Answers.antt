-- What is answered where a value comes with a reply: the value, or the reply that refuses it.
use Rattle.std.specs.Prelude.{Bool, cond, eqb, Result, Ok, Err}
use Rattle.wire.specs.declared.reply.Reply.{Reply}
use Rattle.wire.specs.Replies.{number_of}

abbrev pub is_done : Reply → Bool
is_done reply = eqb (number_of reply) 0

-- the value where the reply is Done, and else the reply
abbrev pub answered : {A : Type 0} → Reply → A → Result A Reply
answered reply value = cond (is_done reply) (Ok value) (Err reply)
