-- `harness::sending::read_hearers` ends: each word starts past the one before, and the measure is what is left of the line.
use Rattle.std.proofs.Common.{suc, ◌-◌, length}
use Rattle.harness.proofs.sending.read_hearers.Given as goal

abbrev pub decreases-loop-words : goal.decreases-loop-words
decreases-loop-words l = suc (length l.words.line) - l.words.at
