-- Laws of the table of slots: what `first`, `onFirst`, `some` and `map` do to each other and to what all slots keep.
use Rattle.std.proofs.Common.{◌≡◌, ℕ, zero, suc, Bool, true, false, cond, ◌||◌, List, [], ◌∷◌, map, length, replicate, sym, refl, ap, ◌∙◌}
use mathlib.Core.Bool.{false≢true}
use Rattle.node.specs.declared.slots.Slot.{Slot}
use Rattle.node.specs.Slots.{empty, first, on_first, some}
use Rattle.node.specs.Reachable.{All}
use Rattle.node.proofs.Choices.{into, either_way, neither}

-- ── a change of every slot that the test does not see ──
module _ (test : Slot → Bool) (f : Slot → Slot) (unseen : (x : Slot) → test (f x) ≡ test x) where
  pub some_map : (xs : List Slot) → some test (map f xs) ≡ some test xs
  unfolding some
  some_map [] = refl
  some_map (x ∷ xs) = rw (unseen x, some_map xs)

  pub first_map : f empty ≡ empty → (xs : List Slot) → first test (map f xs) ≡ f (first test xs)
  unfolding first
  first_map e [] = sym e
  first_map e (x ∷ xs) = rw (unseen x) (sym (into f (test x) refl (sym (first_map e xs))))

  pub on_first_map : (g h : Slot → Slot) → ((x : Slot) → g (f x) ≡ f (h x))
      → (xs : List Slot) → on_first test g (map f xs) ≡ map f (on_first test h xs)
  unfolding on_first
  on_first_map g h same [] = refl
  on_first_map g h same (x ∷ xs) =
      rw (unseen x)
      (sym (into (map f) (test x) (ap (λ y. y ∷ map f xs) (sym (same x))) (ap (λ l. f x ∷ l) (sym (on_first_map g h same xs)))))

-- where the test is true of no slot, the empty one is found
pub none_first : (test : Slot → Bool) (xs : List Slot) → some test xs ≡ false → first test xs ≡ empty
unfolding some first
none_first test [] e = refl
none_first test (x ∷ xs) e = let h = neither (test x) (some test xs) e in rw h.0 (none_first test xs h.1)

-- the test is true of one exactly where it is true of the one found
pub some_first : (test : Slot → Bool) → test empty ≡ false → (xs : List Slot) → some test xs ≡ test (first test xs)
unfolding some first
some_first test none [] = sym none
some_first test none (x ∷ xs) = arm (test x) refl (some_first test none xs)
  where
    arm : (t : Bool) → test x ≡ t → some test xs ≡ test (first test xs) → (t || some test xs) ≡ test (cond t x (first test xs))
    arm true e rest = sym e
    arm false e rest = rest

-- ── a change of the first slot ──
pub length_on_first : (test : Slot → Bool) (change : Slot → Slot) (xs : List Slot) → length (on_first test change xs) ≡ length xs
unfolding on_first
length_on_first test change [] = refl
length_on_first test change (x ∷ xs) = either_way length (test x) refl (ap suc (length_on_first test change xs))

pub some_on_first : (test seen : Slot → Bool) (change : Slot → Slot) → ((x : Slot) → seen (change x) ≡ seen x)
    → (xs : List Slot) → some seen (on_first test change xs) ≡ some seen xs
unfolding on_first some
some_on_first test seen change same [] = refl
some_on_first test seen change same (x ∷ xs) =
    either_way (some seen) (test x) (ap (λ (b : Bool). b || some seen xs) (same x))
    (ap (λ (b : Bool). seen x || b) (some_on_first test seen change same xs))

-- the slot that is changed is found again
pub first_on_first : (test : Slot → Bool) (change : Slot → Slot) → ((x : Slot) → test (change x) ≡ test x)
    → (xs : List Slot) → (first test xs).used ≡ true → first test (on_first test change xs) ≡ change (first test xs)
unfolding first on_first
first_on_first test change unseen [] used = absurd (false≢true used)
first_on_first test change unseen (x ∷ xs) used = arm (test x) refl used (first_on_first test change unseen xs)
  where
    arm : (t : Bool) → test x ≡ t → (cond t x (first test xs)).used ≡ true
        → ((first test xs).used ≡ true → first test (on_first test change xs) ≡ change (first test xs))
        → first test (cond t (change x ∷ xs) (x ∷ on_first test change xs)) ≡ change (cond t x (first test xs))
    arm true e u rest = rw (unseen x ∙ e)
    arm false e u rest = rw e (rest u)

-- ── what all slots have ──
module _ (P : Slot → Type 0) where
  pub all_map : (Q : Slot → Type 0) (f : Slot → Slot) → ((x : Slot) → P x → Q (f x)) → (xs : List Slot) → All P xs → All Q (map f xs)
  all_map Q f step [] ps = tt
  all_map Q f step (x ∷ xs) ps = (step x ps.0, all_map Q f step xs ps.1)

  pub all_weaken : (Q : Slot → Type 0) → ((x : Slot) → P x → Q x) → (xs : List Slot) → All P xs → All Q xs
  all_weaken Q step [] ps = tt
  all_weaken Q step (x ∷ xs) ps = (step x ps.0, all_weaken Q step xs ps.1)

  pub all_replicate : (n : ℕ) (x : Slot) → P x → All P (replicate n x)
  all_replicate zero x p = tt
  all_replicate (suc n) x p = (p, all_replicate n x p)

  pub all_first : (test : Slot → Bool) → P empty → (xs : List Slot) → All P xs → P (first test xs)
  unfolding first
  all_first test none [] ps = none
  all_first test none (x ∷ xs) ps = arm (test x) ps.0 (all_first test none xs ps.1)
    where
      arm : (t : Bool) {y z : Slot} → P y → P z → P (cond t y z)
      arm true p q = p
      arm false p q = q

  -- the slot that is changed is the one found
  pub all_on_first : (test : Slot → Bool) (change : Slot → Slot) (xs : List Slot) → All P xs
      → (test (first test xs) ≡ true → P (first test xs) → P (change (first test xs))) → All P (on_first test change xs)
  unfolding first on_first
  all_on_first test change [] ps step = tt
  all_on_first test change (x ∷ xs) ps step = arm (test x) refl step (all_on_first test change xs ps.1)
    where
      Step : Slot → Type 0
      Step y = test y ≡ true → P y → P (change y)

      arm : (t : Bool) → test x ≡ t → Step (cond t x (first test xs)) → (Step (first test xs) → All P (on_first test change xs))
          → All P (cond t (change x ∷ xs) (x ∷ on_first test change xs))
      arm true e step rest = (step e ps.0, ps.1)
      arm false e step rest = (ps.0, rest step)
