-- A list of nodes without duplicates, and the numbers of its nodes (from graph theory).
use Rattle.std.specs.Prelude.{◌≡◌, ℕ, ◌<◌, List, [], ◌∷◌, ◌++◌, length, Bool, true, false}
use Rattle.std.specs.List.{Contains, slice_index_or}

-- the node with a number, from 0
abbrev pub node_at : List (List ℕ) → ℕ → List ℕ
node_at nodes number = slice_index_or nodes number []

-- after a node is added to a list, unless it is already there: the list before and after, the node, its number, and
-- whether it is new
abbrev pub AddsNode : List (List ℕ) → List (List ℕ) → List ℕ → ℕ → Bool → Type 0
AddsNode old new node number true = (new ≡ old ++ node ∷ []) × (number ≡ length old) × ¬ Contains old node
AddsNode old new node number false = (new ≡ old) × (number < length old) × (node_at old number ≡ node)
