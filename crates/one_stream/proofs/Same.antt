-- For every class: receivers that are live at the end of a history have delivered the same list of messages.
use Prim.Native.Nat.{ℕ}
use mathlib.Core.Path.{◌≡◌, ap, sym, ◌∙◌}
use mathlib.Core.Logic.{inl, inr}
use mathlib.Core.Bool.{Bool, false}
use mathlib.Core.List.{List, [], ◌∷◌}
use Rattle.one_stream.specs.Sendings.{Delays}
use Rattle.one_stream.specs.Classes.{Note, Class, Live, tick}
use Rattle.one_stream.proofs.Events.{live_before}
use Rattle.one_stream.proofs.Histories.{Strand, Act, opens, ticks, sender_dies, on, act, OneOmission, acts, Keeps, Fresh, EachOnce, payloads}
use Rattle.one_stream.proofs.Histories.{SameList}
use Rattle.one_stream.proofs.Twice.{not_twice}
use Rattle.one_stream.proofs.Chain.{Past, AllOrNone, Works, Stays, Inv, act_keeps, past_all, open_inv, fresh_inv}

module _ (S : Delays) (C : Class) (W : Works S C) where
  -- the logs from which the newest message started agree
  abbrev SameBase : Strand C → (ℕ → List Note) → Type 0
  SameBase Z base = (i j : ℕ) → Live Z.state i → Live Z.state j → payloads (base i) ≡ payloads (base j)

  settled : (Z : Strand C) (a : Bool) (base : ℕ → List Note) → Inv S C W Z a base → SameBase Z base → OneOmission C Z.state
      → ((i : ℕ) → Live Z.state i → Past S C Z.state i) → SameList C Z
  settled Z a base v s o p = go (W.judge Z.state a base v.books v.slots (not_twice S C Z.state o))
    where
      go : AllOrNone S C Z.state base → SameList C Z
      go (inl h) i j x y =
          ap payloads (h i x (p i x)).1 ∙ (ap (λ l. Z.state.message ∷ l) (s i j x y) ∙ sym (ap payloads (h j y (p j y)).1))
      go (inr h) i j x y = ap payloads (h i x (p i x)) ∙ (s i j x y ∙ sym (ap payloads (h j y (p j y))))

  -- an event that opens no message
  act_back : (Z : Strand C) (x : Act) → Stays x → (base : ℕ → List Note) → SameBase Z base → SameBase (act C Z x) base
  unfolding act
  act_back Z (opens b) t base s = absurd t
  act_back Z (ticks r) t base s = λ i j x y.
      s i j (live_before S C Z.state (tick r) i x) (live_before S C Z.state (tick r) j y)
  act_back Z sender_dies t base s = s
  act_back Z (on e) t base s = λ i j x y. s i j (live_before S C Z.state e i x) (live_before S C Z.state e j y)

  pub record Judged (Z : Strand C) : Type 0 where
    pub a : Bool
    pub base : ℕ → List Note
    pub inv : Inv S C W Z a base
    pub same : SameBase Z base
    pub once : OneOmission C Z.state

  run : (Z : Strand C) (a : Bool) (base : ℕ → List Note) → Inv S C W Z a base → SameBase Z base
      → (xs : List Act) → Keeps C S Z xs → EachOnce C Z xs → Judged (acts C Z xs)
  run Z a base v s [] k o = record { a = a; base = base; inv = v; same = s; once = o }
  run Z a base v s (opens b ∷ xs) k o =
      run (act C Z (opens b)) false (λ i. (Z.state.receiver i).log) (open_inv S C W Z a base v k.0.0 k.0.1 b)
      (unfold act in settled Z a base v s o.0 (past_all S C W Z a base v k.0.0 k.0.1)) xs k.1 o.1
  run Z a base v s (ticks r ∷ xs) k o =
      let z = act_keeps S C W Z a base v (ticks r) k.0 tt in
      run (act C Z (ticks r)) z.0 base z.1 (act_back Z (ticks r) tt base s) xs k.1 o
  run Z a base v s (sender_dies ∷ xs) k o =
      let z = act_keeps S C W Z a base v sender_dies k.0 tt in
      run (act C Z sender_dies) z.0 base z.1 (act_back Z sender_dies tt base s) xs k.1 o
  run Z a base v s (on e ∷ xs) k o =
      let z = act_keeps S C W Z a base v (on e) k.0 tt in
      run (act C Z (on e)) z.0 base z.1 (act_back Z (on e) tt base s) xs k.1 o

  -- a history that keeps the rules, at whose end every live receiver has counted past the last message (or none was sent)
  pub same_list : (Z₀ : Strand C) → Fresh C Z₀ → SameList C Z₀ → (xs : List Act) → Keeps C S Z₀ xs → EachOnce C Z₀ xs
      → ((i : ℕ) → Live (acts C Z₀ xs).state i → Past S C (acts C Z₀ xs).state i) → SameList C (acts C Z₀ xs)
  same_list Z₀ f s xs k o p =
      let z = run Z₀ false (λ i. (Z₀.state.receiver i).log) (fresh_inv S C W Z₀ f) s xs k o in
      settled (acts C Z₀ xs) z.a z.base z.inv z.same z.once p
