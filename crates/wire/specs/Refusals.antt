-- What a call is refused for: each reply with its test, in their order; the first test that holds gives the reply.
use Rattle.std.specs.Prelude.{Bool, cond, List, [], ◌∷◌}
use Rattle.wire.specs.declared.reply.Reply.{Reply}
use Rattle.wire.specs.declared.reply.Reply.TheVariants.{Done}

abbrev pub Refusals : Type 0
Refusals = List (Reply × Bool)

-- where no test holds, Done
abbrev pub reply_of : Refusals → Reply
reply_of [] = Done
reply_of ((reply, test) ∷ rest) = cond test reply (reply_of rest)
