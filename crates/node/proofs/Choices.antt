-- Laws of choices and tests: what a function makes of a choice, what a refusal keeps, what tests exclude.
use Rattle.std.proofs.Common.{◌≡◌, Bool, true, false, cond, ◌||◌, sym, refl, ◌∙◌, true≢false}
use Rattle.wire.specs.declared.reply.Reply.{Reply}
use Rattle.node.specs.declared.Node.{Node}
use Rattle.node.specs.Nodes.{Outcome, refused}

-- a function goes into both arms of a choice
pub into : {A B : Type 0} (f : A → B) (t : Bool) {x y : A} {u v : B} → f x ≡ u → f y ≡ v → f (cond t x y) ≡ cond t u v
into f true p q = p
into f false p q = q

-- a function that gives the same in both arms
pub either_way : {A B : Type 0} (f : A → B) (t : Bool) {x y : A} {u : B} → f x ≡ u → f y ≡ u → f (cond t x y) ≡ u
either_way f true p q = p
either_way f false p q = q

-- a refusal changes nothing
pub unless : (P : Node → Type 0) (n : Node) (t : Bool) (r : Reply) (o : Outcome)
    → P n → (t ≡ false → P o.node) → P (cond t (refused n r) o).node
unless P n true r o p f = p
unless P n false r o p f = f refl

-- a test is not both true and false
pub contrary : {b : Bool} {A : Type 0} → b ≡ true → b ≡ false → A
contrary t f = absurd (true≢false (sym t ∙ f))

pub refuted : (b : Bool) → (b ≡ true → ⊥) → b ≡ false
refuted true no_way = absurd (no_way refl)
refuted false no_way = refl

pub neither : (a b : Bool) → (a || b) ≡ false → (a ≡ false) × (b ≡ false)
neither true b e = absurd (true≢false e)
neither false b e = (refl, e)
