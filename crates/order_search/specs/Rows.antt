-- To which nodes the edges of each node lead, by the numbers of the nodes.
use Rattle.std.specs.Prelude.{◌≡◌, ◌<◌, ◌≤◌, ℕ, zero, suc, List, [], ◌∷◌, length, slice_index}
use Rattle.std.specs.List.{slice_index_or, slice_range, AllZip}
use Rattle.order_search.specs.declared.reached.NumberedEdge.{NumberedEdge}
use Rattle.order_search.specs.Numbers.{node_at}
use Rattle.order_search.specs.Paths.{EdgeView, EdgesOf}

-- a list in pieces: from the index `from` to each of these ends in turn
abbrev pub pieces_to : {X : Type 0} → ℕ → List ℕ → List X → List (List X)
pieces_to from [] list = []
pieces_to from (end ∷ ends) list = slice_range list from end ∷ pieces_to end ends list

-- the ends do not decrease from `from` on, and the last of them is `total`
abbrev pub AreEnds : ℕ → List ℕ → ℕ → Type 0
AreEnds from [] total = from ≡ total
AreEnds from (end ∷ ends) total = (from ≤ end) × AreEnds end ends total

-- where the piece with a number begins
abbrev pub piece_start : ℕ → List ℕ → ℕ → ℕ
piece_start from ends zero = from
piece_start from ends (suc before) = slice_index ends before

-- a number is that of the node to which an edge leads
pub record IsTarget {L : Type 0} (nodes : List (List ℕ)) (to : ℕ) (edge : EdgeView L) : Type 0 where
  pub within : to < length nodes
  pub node : node_at nodes to ≡ edge.node

-- the numbers of the nodes to which edges lead, in their order
abbrev pub AreTargets : {L : Type 0} → List (List ℕ) → List ℕ → List (EdgeView L) → Type 0
AreTargets nodes targets edges = AllZip (IsTarget nodes) targets edges

-- the row with a number
abbrev pub numbered_row : {X : Type 0} → List (List X) → ℕ → List X
numbered_row rows number = slice_index_or rows number []

-- for each of the first nodes a row: the numbers of the nodes to which its edges lead
abbrev pub AreRows : {L : Type 0} → EdgesOf L → List (List ℕ) → List (List ℕ) → Type 0
AreRows leads nodes rows = (i : ℕ) → i < length rows → AreTargets nodes (numbered_row rows i) (leads (node_at nodes i))

-- an edge with the number of the node to which it leads
pub record IsNumbered {L : Type 0} (nodes : List (List ℕ)) (numbered : NumberedEdge L) (edge : EdgeView L) : Type 0 where
  pub name : numbered.label ≡ edge.label
  pub target : IsTarget nodes numbered.to edge

-- edges with the numbers of the nodes to which they lead, in their order
abbrev pub AreNumbered : {L : Type 0} → List (List ℕ) → List (NumberedEdge L) → List (EdgeView L) → Type 0
AreNumbered nodes numbered edges = AllZip (IsNumbered nodes) numbered edges
