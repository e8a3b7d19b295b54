-- Which codes a class may carry.
use Rattle.std.specs.Prelude.{ℕ, Bool, true, false, List, [], ◌∷◌, get_or}

-- a row for each class, in it a cell for each of the codes 0 to 3: plain carries 3; IMD 0; 2M 0, 1 and 2
abbrev pub table : List (List Bool)
table =
    (false ∷ false ∷ false ∷ true ∷ []) ∷
    (true ∷ false ∷ false ∷ false ∷ []) ∷
    (true ∷ true ∷ true ∷ false ∷ []) ∷ []

-- outside the table no class carries any code
unfoldable pub carries : ℕ → ℕ → Bool
carries class code = get_or (get_or table class []) code false
