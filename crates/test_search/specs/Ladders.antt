-- A ladder: two edges lead from each node to the next.
use Rattle.std.specs.Prelude.{◌≡◌, ◌≤◌, ◌+◌, ℕ, List, [], ◌∷◌, Option, Some, None, ◌==◌, nat_lt, slice_index, if◌then◌else◌, length}
use Rattle.order_search.specs.Paths.{EdgeView}

-- a node is the byte of its number
abbrev pub IsRung : ℕ → List ℕ → Type 0
IsRung last node = (length node ≡ 1) × (slice_index node 0 ≤ last)

-- the edges that leave a node
abbrev pub rungs : ℕ → List ℕ → List (EdgeView ℕ)
rungs last node = if nat_lt (slice_index node 0) last
    then (record { label = 0; node = (slice_index node 0 + 1) ∷ [] }) ∷ (record { label = 1; node = (slice_index node 0 + 1) ∷ [] }) ∷ []
    else []

-- the fault of the broken node is its number
abbrev pub IsBroken : Option ℕ → List ℕ → ℕ → Type 0
IsBroken broken node fault = (broken ≡ Some (slice_index node 0)) × (fault ≡ slice_index node 0)

-- the fault of the node with a number
abbrev pub fault_at : Option ℕ → ℕ → Option ℕ
fault_at None number = None
fault_at (Some broken) number = if broken == number then Some number else None
