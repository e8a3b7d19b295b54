-- Laws on the lines that `text::input` reads.
use Prim.Native.Nat.{ℕ}
use native.Mathlib.Omega.{arith}
use mathlib.Core.Path.{◌≡◌, refl, sym, ap, ◌∙◌}
use mathlib.Core.Bool.{Bool, true, false, cond}
use mathlib.Core.List.{List}
use Rattle.std.specs.Prelude.{Option, None, Some, Result, Ok, Err, is_some}
use Rattle.std.specs.Borrow.{Bor}
use Rattle.text.specs.Input.{Input, More, Step, kind_of, start_of, stop_of, line_of, more_of, none_of, step_of, Refilled}
use Rattle.text.specs.Lines.{input_of, step_at, GoneOn, IsAtHand, long_of, ReadOn, IsFound, Found, IsLine, IsHanded, IsLeft}
use Rattle.text.specs.declared.input.Lines.{Lines}
use Rattle.text.specs.declared.input.TooLong.{TooLong}
use Rattle.text.specs.declared.output.Printer.{Printer}
use Rattle.text.specs.declared.input.AtHand.TheVariants.{Part}

not_more : (over : Bool) → kind_of over ≡ More → ⊥
not_more true e = cc
not_more false e = cc

more_by : (i : Input) (end next : ℕ) (a b c : Bool)
    → (cond a (line_of i end next) (cond b (cond c (line_of i (stop_of i) (stop_of i)) (none_of i)) (more_of i))).kind ≡ More
    → cond a (line_of i end next) (cond b (cond c (line_of i (stop_of i) (stop_of i)) (none_of i)) (more_of i)) ≡ more_of i
more_by i end next true b c e = absurd (not_more i.over e)
more_by i end next false true true e = absurd (not_more i.over e)
more_by i end next false true false e = cc
more_by i end next false false c e = refl

-- a step that asks for more
more_is : (s : List ℕ) (i : Input) → (step_of s i).kind ≡ More → step_of s i ≡ more_of i
more_is s i e = more_by i _ _ _ i.ended _ e

over_by : (i : Input) (end next : ℕ) (a b c : Bool)
    → ((cond a (line_of i end next) (cond b (cond c (line_of i (stop_of i) (stop_of i)) (none_of i)) (more_of i))).kind ≡ More → ⊥)
    → (cond a (line_of i end next) (cond b (cond c (line_of i (stop_of i) (stop_of i)) (none_of i)) (more_of i))).input.over ≡ false
over_by i end next true b c h = refl
over_by i end next false true true h = refl
over_by i end next false true false h = refl
over_by i end next false false c h = absurd (h refl)

no_long : (over : Option TooLong) → is_some over ≡ false → over ≡ None
no_long None e = refl
no_long (Some long) e = cc

-- a step that doesn't ask for more leaves no line that is too long
pub none_over : (old new : Lines) → ((step_at old).kind ≡ More → ⊥) → GoneOn old new → new.over ≡ None
none_over old new h gone =
    let i = input_of old in
    no_long new.over (ap (λ (j : Input). j.over) gone.input ∙ over_by i _ _ _ i.ended _ h)

known : (t : Bool) (of long : TooLong) → cond t (Some of) None ≡ Some long → long ≡ of
known true of long e = cc
known false of long e = cc

-- a step that asks for more, and the read that follows
pub read_on : (old mid new : Lines) → IsAtHand old Part mid → GoneOn old mid
    → Refilled mid.window.buffer (input_of mid) new.window.buffer (input_of new) → new.over ≡ long_of mid → ReadOn old new
read_on old mid new part gone read over =
    let i = input_of old in
    let is : step_at old ≡ more_of i = more_is old.window.buffer i part.0 in
    let from : mid.window.from ≡ start_of i = ap (λ (j : Input). j.from) gone.input ∙ ap (λ (r : Step). r.input.from) is in
    let to : mid.window.to ≡ stop_of i = ap (λ (j : Input). j.to) gone.input ∙ ap (λ (r : Step). r.input.to) is in
    let start : start_of (input_of mid) ≡ start_of i = omega (arith, from, to) in
    record {
      more = part.0;
      refilled = rw (gone.buffer, gone.input) at read;
      comment = λ long e.
          ap (λ (t : TooLong). t.comment) (known _ _ long (sym over ∙ e)) ∙ rw (is, part.1, gone.buffer, start);
    }

handed_by : (n : ℕ) (last new : Lines) (found : Result (ℕ × ℕ) TooLong) (line : Result (Bor (List ℕ)) TooLong) → IsFound n last (Some found) new
    → IsLine new.window.buffer found line → IsHanded n last (Some line) × GoneOn last new
handed_by n last new (Ok p) (Ok line) f l = ((f.0.0, l ∙ rw (f.0.1, f.0.2, f.1.buffer)), f.1)
handed_by n last new (Ok p) (Err long) f l = absurd l
handed_by n last new (Err long) (Ok line) f l = absurd l
handed_by n last new (Err found) (Err long) f l = ((f.0.0, f.0.1 ∙ ap (λ (t : TooLong). Some t) (sym l)), f.1)

-- the line that was found is the next one
pub handed : {old new : Lines} {from to : Printer} {found : Result (ℕ × ℕ) TooLong} {line : Result (Bor (List ℕ)) TooLong}
    → Found old from (Some found) new to → IsLine new.window.buffer found line → IsLeft old from (Some line) to new
handed {old} {new} {from} {to} {found} {line} f l =
    let h = handed_by f.reads f.last new found line f.found l in
    record {
      next = record { reads = f.reads; last = f.last; came = f.came; handed = h.0; buffer = f.buffer; at = f.at };
      behind = h.1;
    }

-- where none was found, there is none
pub none_left : {old new : Lines} {from to : Printer} → Found old from None new to → IsLeft old from None to new
none_left {old} {new} {from} {to} f = record {
  next = record { reads = f.reads; last = f.last; came = f.came; handed = λ few. (f.found.0 few).0; buffer = f.buffer; at = f.at };
  behind = ((λ few. (f.found.0 few).1), f.found.1);
}
