-- Where a byte first stands in a list, and a part of a list.
use Rattle.std.specs.Prelude.{ℕ, suc, Bool, true, false, List, [], ◌∷◌, eqb, take, drop}

-- an index that moves on by one, unless the byte is here
unfoldable pub index_after : (here : Bool) → ℕ → ℕ
index_after true k = 0
index_after false k = suc k

-- the index of the first b in a list, or the length of the list if there is none
unfoldable pub index_of : ℕ → List ℕ → ℕ
index_of b [] = 0
index_of b (x ∷ s) = index_after (eqb x b) (index_of b s)

-- the bytes from one index up to another
unfoldable pub slice : (from to : ℕ) → List ℕ → List ℕ
slice from to s = drop from (take to s)
