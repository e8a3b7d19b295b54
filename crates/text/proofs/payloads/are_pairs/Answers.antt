-- `text::payloads::are_pairs` meets its contract.
use native.Mathlib.Omega.{arith}
use Rattle.text.proofs.PayloadLaws.{odd}
use Rattle.text.proofs.payloads.are_pairs.Goals as goal

pub returns-then-word-ne0 : goal.returns-then-word-ne0
returns-then-word-ne0 c = odd c.args.word.now (omega arith)
