-- The replies' numbers are distinct.
use mathlib.Core.Path.{◌≡◌, refl}
use Rattle.wire.specs.declared.reply.Reply.{Reply}
use Rattle.wire.specs.Replies.{number_of}
use Rattle.wire.specs.contracts.reply.Reply.{enum}
use Rattle.wire.proofs.Variants.{told_apart}

pub numbers_distinct : (a b : Reply) → number_of a ≡ number_of b → a ≡ b
numbers_distinct = told_apart enum number_of refl
