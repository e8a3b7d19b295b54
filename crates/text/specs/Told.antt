-- The words for what a frame did, by its number as the node tells it, in bytes.
use Rattle.std.specs.Prelude.{ℕ, cond, List, [], ◌∷◌, eqb}

-- `new`
abbrev new : List ℕ
new = 110 ∷ 101 ∷ 119 ∷ []

-- `duplicate`
abbrev duplicate : List ℕ
duplicate = 100 ∷ 117 ∷ 112 ∷ 108 ∷ 105 ∷ 99 ∷ 97 ∷ 116 ∷ 101 ∷ []

-- `confirmed`
abbrev confirmed : List ℕ
confirmed = 99 ∷ 111 ∷ 110 ∷ 102 ∷ 105 ∷ 114 ∷ 109 ∷ 101 ∷ 100 ∷ []

-- `confirmed-again`
abbrev confirmed_again : List ℕ
confirmed_again = 99 ∷ 111 ∷ 110 ∷ 102 ∷ 105 ∷ 114 ∷ 109 ∷ 101 ∷ 100 ∷ 45 ∷ 97 ∷ 103 ∷ 97 ∷ 105 ∷ 110 ∷ []

-- `abort-pending`
abbrev abort_pending : List ℕ
abort_pending = 97 ∷ 98 ∷ 111 ∷ 114 ∷ 116 ∷ 45 ∷ 112 ∷ 101 ∷ 110 ∷ 100 ∷ 105 ∷ 110 ∷ 103 ∷ []

-- `dropped`
abbrev dropped : List ℕ
dropped = 100 ∷ 114 ∷ 111 ∷ 112 ∷ 112 ∷ 101 ∷ 100 ∷ []

-- `nothing-to-drop`
abbrev nothing_to_drop : List ℕ
nothing_to_drop = 110 ∷ 111 ∷ 116 ∷ 104 ∷ 105 ∷ 110 ∷ 103 ∷ 45 ∷ 116 ∷ 111 ∷ 45 ∷ 100 ∷ 114 ∷ 111 ∷ 112 ∷ []

-- `delivered`
abbrev delivered : List ℕ
delivered = 100 ∷ 101 ∷ 108 ∷ 105 ∷ 118 ∷ 101 ∷ 114 ∷ 101 ∷ 100 ∷ []

-- `-`
abbrev nothing : List ℕ
nothing = 45 ∷ []

unfoldable pub told_text : (number : ℕ) → List ℕ
told_text n =
    cond (eqb n 1) new
    (cond (eqb n 2) duplicate
    (cond (eqb n 3) confirmed
    (cond (eqb n 4) confirmed_again
    (cond (eqb n 5) abort_pending
    (cond (eqb n 6) dropped
    (cond (eqb n 7) nothing_to_drop
    (cond (eqb n 8) delivered
    nothing)))))))
