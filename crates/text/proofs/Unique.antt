-- Every public promise is met by one answer only, and leaves a buffer one content only. `Lines::read`, `Lines::next` and `Window::read` read from
-- outside. Where no read is needed, `Lines::next` has one answer too.
use Prim.Native.Nat.{ℕ, zero, suc}
use native.Mathlib.Omega.{arith}
use mathlib.Core.Path.{◌≡◌, refl, sym, ap, ◌∙◌}
use mathlib.Core.Bool.{Bool}
use mathlib.Core.List.{List}
use denote.Builtin
use denote.RattleType.{RattleType}
use denote.Param.Laws.{Laws, IsCopy}
use mir.Syntax.{Dict, w64}
use borrow.Author.Tests.{ne_eqb}
use Rattle.std.specs.Prelude.{Option, Some, None, Result, Ok, Err}
use Rattle.std.specs.Borrow.{Bor}
use Rattle.std.specs.Bool.{IsTrue}
use Rattle.std.specs.Option.{SomeIff, option_map}
use Rattle.std.specs.declared.clone.Clone
use Rattle.std.specs.contracts.prelude.U8Clone.TheImpl as U8Clone
use Rattle.std.specs.contracts.prelude.U16Clone.TheImpl as U16Clone
use Rattle.std.specs.contracts.prelude.U32Clone.TheImpl as U32Clone
use Rattle.std.specs.contracts.prelude.U64Clone.TheImpl as U64Clone
use Rattle.std.specs.contracts.prelude.UsizeClone.TheImpl as UsizeClone
use lib.ListN.{length}
use Rattle.text.specs.declared.numbers.Unsigned
use Rattle.text.specs.contracts.numbers.U8Unsigned.TheImpl as U8
use Rattle.text.specs.contracts.numbers.U8Unsigned.TheImpl.Laws as U8Laws
use Rattle.text.specs.contracts.numbers.U16Unsigned.TheImpl as U16
use Rattle.text.specs.contracts.numbers.U16Unsigned.TheImpl.Laws as U16Laws
use Rattle.text.specs.contracts.numbers.U32Unsigned.TheImpl as U32
use Rattle.text.specs.contracts.numbers.U32Unsigned.TheImpl.Laws as U32Laws
use Rattle.text.specs.contracts.numbers.U64Unsigned.TheImpl as U64
use Rattle.text.specs.contracts.numbers.U64Unsigned.TheImpl.Laws as U64Laws
use Rattle.text.specs.contracts.numbers.UsizeUnsigned.TheImpl as Usize
use Rattle.text.specs.contracts.numbers.UsizeUnsigned.TheImpl.Laws as UsizeLaws
use Rattle.text.specs.Words.{done_at}
use Rattle.text.specs.Numbers.{number_of, number_at}
use Rattle.text.specs.Payloads.{payload_of, payload_at}
use Rattle.text.specs.Settings.{settings_at}
use mir.Val.{Fits}
use Rattle.text.specs.Input.{Kind, Line, Long, More, End}
use Rattle.text.specs.Lines.{input_of, step_at, GoneOn, IsAtHand, ReadTimes, IsLine, IsHanded, IsNext, printed_at}
use Rattle.text.specs.declared.input.Lines.{Lines}
use Rattle.text.specs.declared.input.TooLong.{TooLong}
use Rattle.text.specs.declared.output.Printer.{Printer}
use Rattle.text.specs.declared.input.AtHand.{AtHand}
use Rattle.text.specs.declared.input.AtHand.TheVariants.{Whole, Part, Nothing}
use Rattle.text.specs.Window.{span_of}
use Rattle.text.specs.Unique.{OneAnswer, OneContent}
use Rattle.text.proofs.LineLaws.{none_over}
use Rattle.text.proofs.part.Reads as part
use Rattle.text.proofs.input.Lines.new.Reads as new
use Rattle.text.proofs.input.Lines.next.Reads as next
use Rattle.text.proofs.input.Lines.step.Reads as step
use Rattle.text.proofs.input.Lines.line.Reads as line
use Rattle.text.proofs.input.Lines.read.Reads as read
use Rattle.text.proofs.comments.is_skipped.Reads as is_skipped
use Rattle.text.proofs.comments.has_no_answer.Reads as has_no_answer
use Rattle.text.proofs.window.Window.new.Reads as new_window
use Rattle.text.proofs.window.Window.skip.Reads as skip
use Rattle.text.proofs.window.Window.bytes.Reads as window_bytes
use Rattle.text.proofs.words.Words.of.Reads as of
use Rattle.text.proofs.words.Words.word.Reads as word
use Rattle.text.proofs.words.Words.is_done.Reads as is_done
use Rattle.text.proofs.words.Words.end.Reads as end
use Rattle.text.proofs.words.is.Reads as is
use Rattle.text.proofs.numbers.decimal.Reads as decimal
use Rattle.text.proofs.words.Words.number.Reads as number
use Rattle.text.proofs.payloads.hex.Reads as hex
use Rattle.text.proofs.words.Words.payload.Reads as payload
use Rattle.text.proofs.words.Words.settings.Reads as settings
use Rattle.text.proofs.output.Printer.new.Reads as new_printer
use Rattle.text.proofs.output.Printer.flush.Reads as flush
use Rattle.text.proofs.output.Printer.put.Reads as put
use Rattle.text.proofs.output.Printer.put_byte.Reads as put_byte
use Rattle.text.proofs.output.Printer.put_decimal.Reads as put_decimal
use Rattle.text.proofs.output.Printer.put_parted.Reads as put_parted
use Rattle.text.proofs.output.Printer.put_hex.Reads as put_hex
use Rattle.text.proofs.output.Printer.put_told.Reads as put_told

-- two values that meet the same definition are equal
same : {A : Type 0} {d a b : A} → a ≡ d → b ≡ d → a ≡ b
same p q = p ∙ sym q

-- two answers that are there in the same case, and then the same value, are equal
one_some : {A : Type 0} (ok : Bool) (v : A) (a b : Option A) → SomeIff a (IsTrue ok) v → SomeIff b (IsTrue ok) v → a ≡ b
one_some ok v None None p q = refl
one_some ok v None (Some y) p q = absurd (p q.0)
one_some ok v (Some x) None p q = absurd (q p.0)
one_some ok v (Some x) (Some y) p q = ap Some (p.1 ∙ sym q.1)

one_mapped : {A : Type 0} (f : A → ℕ) → ((x y : A) → f x ≡ f y → x ≡ y) → (a b : Option A) → option_map f a ≡ option_map f b → a ≡ b
one_mapped f h None None e = refl
one_mapped f h None (Some y) e = cc
one_mapped f h (Some x) None e = cc
one_mapped f h (Some x) (Some y) e = ap Some (h x y (cc))

part_unique : OneAnswer (λ l a. a.now) part.Post
part_unique l input a b s t = same

new_unique : OneAnswer (λ l a. input_of a) new.Post
new_unique l input a b s t p q = same p.0 q.0

new_buffer_unique : OneAnswer (λ l a. a.window.buffer) new.Post
new_buffer_unique l input a b s t p q = same p.1.0 q.1.0

new_stdin_unique : OneAnswer (λ l a. a.window.stdin) new.Post
new_stdin_unique l input a b s t p q = same p.1.1 q.1.1

-- between two reads the lines go on in one way
step_unique : OneContent (λ l e. input_of e.0.now) step.Post
step_unique l input a b s t p q = same p.1.input q.1.input

one_line : (a b c d : ℕ) → a ≡ c → b ≡ d → ◌≡◌ {A = AtHand} (Whole (Ok (a, b))) (Whole (Ok (c, d)))
one_line a b c d p q = rw (p, q)

one_at_hand : (old new other : Lines) (a b : AtHand) → IsAtHand old a new → IsAtHand old b other → a ≡ b
one_at_hand old new other (Whole (Ok p)) (Whole (Ok q)) f g = one_line p.0 p.1 q.0 q.1 (same f.1 g.1) (same f.2 g.2)
one_at_hand old new other (Whole (Ok p)) (Whole (Err long)) f g = cc
one_at_hand old new other (Whole (Ok p)) Part f g = cc
one_at_hand old new other (Whole (Ok p)) Nothing f g = cc
one_at_hand old new other (Whole (Err long)) (Whole (Ok q)) f g = cc
one_at_hand old new other (Whole (Err long)) (Whole (Err also)) f g = cc
one_at_hand old new other (Whole (Err long)) Part f g = cc
one_at_hand old new other (Whole (Err long)) Nothing f g = cc
one_at_hand old new other Part (Whole (Ok q)) f g = cc
one_at_hand old new other Part (Whole (Err long)) f g = cc
one_at_hand old new other Part Part f g = refl
one_at_hand old new other Part Nothing f g = cc
one_at_hand old new other Nothing (Whole (Ok q)) f g = cc
one_at_hand old new other Nothing (Whole (Err long)) f g = cc
one_at_hand old new other Nothing Part f g = cc
one_at_hand old new other Nothing Nothing f g = refl

step_answer_unique : OneAnswer (λ l a. a) step.Post
step_answer_unique l input a b s t p q = one_at_hand _ _ _ a b p.0 q.0

step_buffer_unique : OneContent (λ l e. e.0.now.window.buffer) step.Post
step_buffer_unique l input a b s t p q = same p.1.buffer q.1.buffer

-- what is known of a line that is too long
one_over : (old new other : Lines) (a : AtHand) → IsAtHand old a new → IsAtHand old a other → GoneOn old new → GoneOn old other → new.over ≡ other.over
one_over old new other (Whole (Ok p)) f g gone on = same (none_over old new (λ e. cc) gone) (none_over old other (λ e. cc) on)
one_over old new other (Whole (Err long)) f g gone on = same (none_over old new (λ e. cc) gone) (none_over old other (λ e. cc) on)
one_over old new other Part f g gone on = same f.1 g.1
one_over old new other Nothing f g gone on = same (none_over old new (λ e. cc) gone) (none_over old other (λ e. cc) on)

step_over_unique : OneContent (λ l e. e.0.now.over) step.Post
step_over_unique l input a b s t p q =
    one_over _ _ _ a p.0 (rw (← one_at_hand _ _ _ a b p.0 q.0) at q.0) p.1 q.1

-- the bytes of a line
abbrev said : Result (Bor (List ℕ)) TooLong → Result (List ℕ) TooLong
said (Ok line) = Ok line.now
said (Err long) = Err long

one_line_in : (s : List ℕ) (found : Result (ℕ × ℕ) TooLong) (a b : Result (Bor (List ℕ)) TooLong) → IsLine s found a → IsLine s found b → said a ≡ said b
one_line_in s (Ok p) (Ok line) (Ok other) f g = ap (λ t. Ok t) (same f g)
one_line_in s (Ok p) (Ok line) (Err long) f g = absurd g
one_line_in s (Ok p) (Err long) b f g = absurd f
one_line_in s (Err found) (Ok line) b f g = absurd f
one_line_in s (Err found) (Err long) (Ok line) f g = absurd g
one_line_in s (Err found) (Err long) (Err other) f g = ap (λ t. Err t) (same f g)

line_unique : OneAnswer (λ l a. said a) line.Post
line_unique l input a b s t = one_line_in _ _ a b

-- a read comes from outside: what is known of a line that is too long, and the output
read_over_unique : OneContent (λ l e. e.0.now.over) read.Post
read_over_unique l input a b s t p q = same p.1.0 q.1.0

read_index_unique : OneContent (λ l e. e.1.0.now.at) read.Post
read_index_unique l input a b s t p q = same p.1.1.0 q.1.1.0

read_output_unique : OneContent (λ l e. e.1.0.now.buffer) read.Post
read_output_unique l input a b s t p q = same p.1.1.1 q.1.1.1

-- the next line needs a read only where more is to be read
read_for_more : (n : ℕ) (old new : Lines) → ReadTimes (suc n) old new → (step_at old).kind ≡ More
read_for_more zero old new r = ap (λ x. (step_at x).kind) (sym r.1.0) ∙ r.1.1.more
read_for_more (suc n) old new r = read_for_more n old r.0 r.1.0

-- so where no more is, what is handed out is what is at hand
handed_at_hand : (n : ℕ) (old last : Lines) (r : Option (Result (Bor (List ℕ)) TooLong)) → ((step_at old).kind ≡ More → ⊥)
    → ReadTimes n old last → IsHanded n last r → IsHanded zero old r
handed_at_hand zero old last r h came handed = rw (sym came) handed
handed_at_hand (suc n) old last r h came handed = absurd (h (read_for_more n old last came))

-- an answer with the bytes of its line
abbrev bytes_of : Option (Result (Bor (List ℕ)) TooLong) → Option (Result (List ℕ) TooLong)
bytes_of None = None
bytes_of (Some line) = Some (said line)

end_alone : (old : Lines) → IsHanded zero old None → (step_at old).kind ≡ End
end_alone old f = f (omega arith)

not_line : (k : Kind) → k ≡ End → k ≡ Line → ⊥
not_line k p q = cc

not_long : (k : Kind) → k ≡ End → k ≡ Long → ⊥
not_long k p q = cc

line_or_long : (k : Kind) → k ≡ Line → k ≡ Long → ⊥
line_or_long k p q = cc

one_long : (o : Option TooLong) (x y : TooLong) → o ≡ Some x → o ≡ Some y → x ≡ y
one_long o x y p q = cc

one_handed : (old : Lines) (a b : Option (Result (Bor (List ℕ)) TooLong)) → IsHanded zero old a → IsHanded zero old b → bytes_of a ≡ bytes_of b
one_handed old None None f g = refl
one_handed old None (Some (Ok line)) f g = absurd (not_line _ (end_alone old f) g.0)
one_handed old None (Some (Err long)) f g = absurd (not_long _ (end_alone old f) g.0)
one_handed old (Some (Ok line)) None f g = absurd (not_line _ (end_alone old g) f.0)
one_handed old (Some (Ok line)) (Some (Ok other)) f g = ap (λ s. Some (Ok s)) (same f.1 g.1)
one_handed old (Some (Ok line)) (Some (Err long)) f g = absurd (line_or_long _ f.0 g.0)
one_handed old (Some (Err long)) None f g = absurd (not_long _ (end_alone old g) f.0)
one_handed old (Some (Err long)) (Some (Ok line)) f g = absurd (line_or_long _ g.0 f.0)
one_handed old (Some (Err long)) (Some (Err other)) f g = ap (λ x. Some (Err x)) (one_long old.over long other f.1 g.1)

-- and there is one next line
one_next : (old : Lines) (from to other : Printer) (a b : Option (Result (Bor (List ℕ)) TooLong)) → ((step_at old).kind ≡ More → ⊥)
    → IsNext old from a to → IsNext old from b other → bytes_of a ≡ bytes_of b
one_next old from to other a b h p q =
    one_handed old a b (handed_at_hand p.reads old p.last a h p.came p.handed) (handed_at_hand q.reads old q.last b h q.came q.handed)

next_unique : OneAnswer (λ l a. bytes_of a) (λ l input a s. ((step_at input.0.now).kind ≡ More → ⊥) × next.Post l input a s)
next_unique l input a b s t p q = one_next input.0.now input.1.0.now _ _ a b p.0 p.1 q.1

-- what is printed before a read and at the end
abbrev printed_to : Kind → ℕ → ℕ
printed_to Line at = at
printed_to Long at = at
printed_to More at = 0
printed_to End at = 0

printed_by : (n : ℕ) (old last : Lines) (r : Option (Result (Bor (List ℕ)) TooLong)) (at : ℕ) → ReadTimes n old last → IsHanded n last r
    → printed_at n r at ≡ printed_to (step_at old).kind at
printed_by zero old last None at came f = rw (← came, f (omega arith))
printed_by zero old last (Some (Ok line)) at came f = rw (← came, f.0)
printed_by zero old last (Some (Err long)) at came f = rw (← came, f.0)
printed_by (suc n) old last None at came f = rw (read_for_more n old last came)
printed_by (suc n) old last (Some line) at came f = rw (read_for_more n old last came, ne_eqb (suc n) 0 (λ e. omega (arith, e)))

printed_next : (old : Lines) (from to : Printer) (r : Option (Result (Bor (List ℕ)) TooLong)) → IsNext old from r to
    → to.at ≡ printed_to (step_at old).kind from.at
printed_next old from to r p = p.at ∙ printed_by p.reads old p.last r from.at p.came p.handed

next_index_unique : OneContent (λ l e. e.1.0.now.at) next.Post
next_index_unique l input a b s t p q = same (printed_next _ _ _ a p) (printed_next _ _ _ b q)

next_output_unique : OneContent (λ l e. e.1.0.now.buffer) next.Post
next_output_unique l input a b s t p q = same p.buffer q.buffer

is_skipped_unique : OneAnswer (λ l a. a) is_skipped.Post
is_skipped_unique l input a b s t = same

has_no_answer_unique : OneAnswer (λ l a. a) has_no_answer.Post
has_no_answer_unique l input a b s t = same

new_window_unique : (n : ℕ) (fits : Fits w64 n) → OneAnswer (λ l a. span_of a) (new_window.Post n fits)
new_window_unique n fits l input a b s t p q = same p.0 q.0

new_window_buffer_unique : (n : ℕ) (fits : Fits w64 n) → OneAnswer (λ l a. a.buffer) (new_window.Post n fits)
new_window_buffer_unique n fits l input a b s t p q = same p.1.0 q.1.0

new_window_stdin_unique : (n : ℕ) (fits : Fits w64 n) → OneAnswer (λ l a. a.stdin) (new_window.Post n fits)
new_window_stdin_unique n fits l input a b s t p q = same p.1.1 q.1.1

window_bytes_unique : (n : ℕ) (fits : Fits w64 n) → OneAnswer (λ l a. a.now) (window_bytes.Post n fits)
window_bytes_unique n fits l input a b s t = same

skip_unique : (n : ℕ) (fits : Fits w64 n) → OneContent (λ l e. span_of e.0.now) (skip.Post n fits)
skip_unique n fits l input a b s t p q = same p.0 q.0

skip_buffer_unique : (n : ℕ) (fits : Fits w64 n) → OneContent (λ l e. e.0.now.buffer) (skip.Post n fits)
skip_buffer_unique n fits l input a b s t p q = same p.1 q.1

of_unique : OneAnswer (λ l a. a) of.Post
of_unique l input a b s t = same

word_unique : OneAnswer (λ l a. a.now) word.Post
word_unique l input a b s t p q = same p.0 q.0

word_content_unique : OneContent (λ l e. e.0.now) word.Post
word_content_unique l input a b s t p q = same p.1.0 q.1.0

is_done_unique : OneAnswer (λ l a. a) is_done.Post
is_done_unique l input a b s t = same

end_unique : OneAnswer (λ l a. a) end.Post
end_unique l input a b s t = one_some (done_at input.0.now.line input.0.now.at) tt a b

is_unique : OneAnswer (λ l a. a) is.Post
is_unique l input a b s t = same

decimal_unique : OneAnswer (λ l a. a) decimal.Post
decimal_unique l input a b s t p q = let n = number_of input.1.0 input.0.now in one_some n.ok n.value a b p.0 q.0

-- at each width of which no two values are one number
module _ (T : RattleType) (L : Laws T) (C : IsCopy T) (U : Unsigned.Ghosts T.Denot) (D : Dict) (K : Clone.Ghosts T.Denot) (E : Dict) where
  number_unique : ((x y : T.Denot) → U.number x ≡ U.number y → x ≡ y) → OneAnswer (λ l a. a) (number.Post T L C U D K E)
  number_unique h l input a b s t p q =
      let n = number_at (U.number input.1.0) input.0.now.line input.0.now.at in
      one_mapped U.number h a b (one_some n.ok n.value (option_map U.number a) (option_map U.number b) p.0 q.0)

  number_content_unique : OneContent (λ l e. e.0.now) (number.Post T L C U D K E)
  number_content_unique l input a b s t p q = same p.1.1.0 q.1.1.0

-- so at each width there is one answer
u8_unique : (L : Laws Builtin.u8) (C : IsCopy Builtin.u8)
    → OneAnswer (λ l a. a) (number.Post Builtin.u8 L C U8.ghosts U8.dict U8Clone.ghosts U8Clone.dict)
u8_unique L C = number_unique Builtin.u8 L C U8.ghosts U8.dict U8Clone.ghosts U8Clone.dict U8Laws.apart-law

u16_unique : (L : Laws Builtin.u16) (C : IsCopy Builtin.u16)
    → OneAnswer (λ l a. a) (number.Post Builtin.u16 L C U16.ghosts U16.dict U16Clone.ghosts U16Clone.dict)
u16_unique L C = number_unique Builtin.u16 L C U16.ghosts U16.dict U16Clone.ghosts U16Clone.dict U16Laws.apart-law

u32_unique : (L : Laws Builtin.u32) (C : IsCopy Builtin.u32)
    → OneAnswer (λ l a. a) (number.Post Builtin.u32 L C U32.ghosts U32.dict U32Clone.ghosts U32Clone.dict)
u32_unique L C = number_unique Builtin.u32 L C U32.ghosts U32.dict U32Clone.ghosts U32Clone.dict U32Laws.apart-law

u64_unique : (L : Laws Builtin.u64) (C : IsCopy Builtin.u64)
    → OneAnswer (λ l a. a) (number.Post Builtin.u64 L C U64.ghosts U64.dict U64Clone.ghosts U64Clone.dict)
u64_unique L C = number_unique Builtin.u64 L C U64.ghosts U64.dict U64Clone.ghosts U64Clone.dict U64Laws.apart-law

usize_unique : (L : Laws Builtin.usize) (C : IsCopy Builtin.usize)
    → OneAnswer (λ l a. a) (number.Post Builtin.usize L C Usize.ghosts Usize.dict UsizeClone.ghosts UsizeClone.dict)
usize_unique L C = number_unique Builtin.usize L C Usize.ghosts Usize.dict UsizeClone.ghosts UsizeClone.dict UsizeLaws.apart-law

hex_unique : OneAnswer (λ l a. a) hex.Post
hex_unique l input a b s t p q = let n = payload_of (length input.1.0.now) input.0.now in one_some n.ok n.len a b p.0 q.0

hex_content_unique : OneContent (λ l e. e.1.0.now) hex.Post
hex_content_unique l input a b s t p q = same p.1 q.1

payload_unique : OneAnswer (λ l a. a) payload.Post
payload_unique l input a b s t p q =
    let n = payload_at (length input.1.0.now) input.0.now.line input.0.now.at in one_some n.ok n.len a b p.0 q.0

payload_content_unique : OneContent (λ l e. e.1.0.now) payload.Post
payload_content_unique l input a b s t p q = same p.1.0 q.1.0

payload_words_unique : OneContent (λ l e. e.0.now) payload.Post
payload_words_unique l input a b s t p q = same p.1.1.1.0 q.1.1.1.0

settings_unique : OneAnswer (λ l a. a) settings.Post
settings_unique l input a b s t p q =
    let n = settings_at input.0.now.line input.0.now.at in one_some n.ok (n.stream, n.settings) a b p.0 q.0

settings_content_unique : OneContent (λ l e. e.0.now) settings.Post
settings_content_unique l input a b s t p q = same p.1 q.1

new_printer_unique : OneAnswer (λ l a. a.at) new_printer.Post
new_printer_unique l input a b s t p q = same p.0 q.0

new_printer_buffer_unique : OneAnswer (λ l a. a.buffer) new_printer.Post
new_printer_buffer_unique l input a b s t p q = same p.1.0 q.1.0

new_printer_stdout_unique : OneAnswer (λ l a. a.stdout) new_printer.Post
new_printer_stdout_unique l input a b s t p q = same p.1.1 q.1.1

flush_unique : OneContent (λ l e. e.0.now.at) flush.Post
flush_unique l input a b s t p q = same p.0 q.0

flush_buffer_unique : OneContent (λ l e. e.0.now.buffer) flush.Post
flush_buffer_unique l input a b s t p q = same p.1 q.1

-- what is put ends at one index, and leaves one buffer
put_unique : OneContent (λ l e. e.0.now.at) put.Post
put_unique l input a b s t p q = same p.past q.past

put_buffer_unique : OneContent (λ l e. e.0.now.buffer) put.Post
put_buffer_unique l input a b s t p q = same p.whole q.whole

put_byte_unique : OneContent (λ l e. e.0.now.at) put_byte.Post
put_byte_unique l input a b s t p q = same p.past q.past

put_byte_buffer_unique : OneContent (λ l e. e.0.now.buffer) put_byte.Post
put_byte_buffer_unique l input a b s t p q = same p.whole q.whole

put_decimal_unique : OneContent (λ l e. e.0.now.at) put_decimal.Post
put_decimal_unique l input a b s t p q = same p.past q.past

put_decimal_buffer_unique : OneContent (λ l e. e.0.now.buffer) put_decimal.Post
put_decimal_buffer_unique l input a b s t p q = same p.whole q.whole

put_parted_unique : OneContent (λ l e. e.0.now.at) put_parted.Post
put_parted_unique l input a b s t p q = same p.past q.past

put_parted_buffer_unique : OneContent (λ l e. e.0.now.buffer) put_parted.Post
put_parted_buffer_unique l input a b s t p q = same p.whole q.whole

put_hex_unique : OneContent (λ l e. e.0.now.at) put_hex.Post
put_hex_unique l input a b s t p q = same p.past q.past

put_hex_buffer_unique : OneContent (λ l e. e.0.now.buffer) put_hex.Post
put_hex_buffer_unique l input a b s t p q = same p.whole q.whole

put_told_unique : OneContent (λ l e. e.0.now.at) put_told.Post
put_told_unique l input a b s t p q = same p.past q.past

put_told_buffer_unique : OneContent (λ l e. e.0.now.buffer) put_told.Post
put_told_buffer_unique l input a b s t p q = same p.whole q.whole
