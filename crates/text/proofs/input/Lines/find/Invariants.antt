-- `text::input::Lines::find` meets its contract. The invariant: so many reads are made, and what was answered is printed before the first.
use Rattle.std.proofs.Common.{◌≡◌, cond, eqb}
use Rattle.text.specs.Lines.{ReadTimes}
use Rattle.text.proofs.input.Lines.find.Given as goal

abbrev pub invariant-loop-reads : goal.invariant-loop-reads
invariant-loop-reads l = record {
  came : ReadTimes l._reads l.initial.self l.self;
  buffer : l.out.buffer ≡ l.initial.out.buffer;
  at : l.out.at ≡ cond (eqb l._reads 0) l.initial.out.at 0;
}
