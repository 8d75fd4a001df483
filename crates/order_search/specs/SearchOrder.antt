-- The order in which a breadth-first search visits paths, each given by the places of its edges: a shorter one before a
-- longer one, and of two equally long ones the one that takes the earlier edge where they first differ.
use Rattle.std.specs.Prelude.{◌≡◌, ◌<◌, ℕ, List, [], ◌∷◌, length, ◌⊎◌}

-- where two lists first differ, the first has the smaller number
unfoldable pub IsLower : List ℕ → List ℕ → Type 0
IsLower [] ys = ⊥
IsLower (x ∷ xs) [] = ⊥
IsLower (x ∷ xs) (y ∷ ys) = (x < y) ⊎ ((x ≡ y) × IsLower xs ys)

-- one path comes before the other
unfoldable pub Precedes : List ℕ → List ℕ → Type 0
Precedes xs ys = (length xs < length ys) ⊎ ((length xs ≡ length ys) × IsLower xs ys)

-- one path is the other, or comes before it
abbrev pub IsNotAfter : List ℕ → List ℕ → Type 0
IsNotAfter xs ys = (xs ≡ ys) ⊎ Precedes xs ys
