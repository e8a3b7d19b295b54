-- `text::output::write_hex` meets its contract. The invariant: the digits of the bytes so far are written.
use Rattle.std.proofs.Common.{◌*◌, take}
use Rattle.text.specs.Payloads.{to_hex}
use Rattle.text.specs.Output.{Wrote}
use Rattle.text.proofs.output.write_hex.Given as goal

abbrev pub invariant-loop-i : goal.invariant-loop-i
invariant-loop-i l = Wrote l.initial.out 0 (to_hex (take l.i l.s)) l.out (2 * l.i)
