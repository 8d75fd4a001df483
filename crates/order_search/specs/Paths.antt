-- Directed graphs whose nodes are byte strings: paths, what is reached, and paths that end in a fault (from graph theory).
use Rattle.std.specs.Prelude.{◌≡◌, ℕ, List, [], ◌∷◌, Some, slice_get, ◌⊎◌}

-- an edge: its label, and the node that it leads to
pub record EdgeView (L : Type 0) : Type 0 where
  pub label : L
  pub node : List ℕ

-- a graph: the edges that leave each node
abbrev pub EdgesOf : Type 0 → Type 0
EdgesOf L = List ℕ → List (EdgeView L)

-- what may be wrong with an edge that leaves a node, and what may be wrong with a node
abbrev pub EdgeFaults : Type 0 → Type 0 → Type 1
EdgeFaults L F = List ℕ → EdgeView L → F → Type 0

abbrev pub NodeFaults : Type 0 → Type 1
NodeFaults F = List ℕ → F → Type 0

-- a path from a node: for each edge its place among the edges that leave its source, and the edge
unfoldable pub IsEdgePath : {L : Type 0} → EdgesOf L → List ℕ → List ℕ → List (EdgeView L) → Type 0
IsEdgePath leads from [] [] = Unit {0}
IsEdgePath leads from [] (e ∷ es) = ⊥
IsEdgePath leads from (place ∷ places) [] = ⊥
IsEdgePath leads from (place ∷ places) (e ∷ es) = (slice_get (leads from) place ≡ Some e) × IsEdgePath leads e.node places es

-- the node at the end of a path
unfoldable pub path_end : {L : Type 0} → List ℕ → List (EdgeView L) → List ℕ
path_end from [] = from
path_end from (e ∷ es) = path_end e.node es

-- a path leads from one node to the other
pub record IsReachable {L : Type 0} (leads : EdgesOf L) (from to : List ℕ) : Type 0 where
  pub places : List ℕ
  pub edges : List (EdgeView L)
  pub path : IsEdgePath leads from places edges
  pub end : path_end from edges ≡ to

-- the fault of visiting an edge: its own, or otherwise one of the node that it leads to
unfoldable pub HasEdgeFault : {L F : Type 0} → EdgeFaults L F → NodeFaults F → List ℕ → EdgeView L → F → Type 0
HasEdgeFault {L} {F} wrong flawed from e fault = wrong from e fault ⊎ (((other : F) → wrong from e other → ⊥) × flawed e.node fault)

-- nothing is wrong with an edge, nor with the node that it leads to
pub record IsFaultless {L F : Type 0} (wrong : EdgeFaults L F) (flawed : NodeFaults F) (from : List ℕ) (e : EdgeView L) : Type 0 where
  pub edge : (fault : F) → wrong from e fault → ⊥
  pub node : (fault : F) → flawed e.node fault → ⊥

-- the fault at the last edge of a path
unfoldable pub HasLastFault : {L F : Type 0} → EdgeFaults L F → NodeFaults F → List ℕ → List (EdgeView L) → F → Type 0
HasLastFault wrong flawed from [] fault = ⊥
HasLastFault wrong flawed from (e ∷ []) fault = HasEdgeFault wrong flawed from e fault
HasLastFault wrong flawed from (e ∷ d ∷ es) fault = HasLastFault wrong flawed e.node (d ∷ es) fault

-- a path that ends in this fault
pub record EndsInFault {L F : Type 0} (leads : EdgesOf L) (wrong : EdgeFaults L F) (flawed : NodeFaults F) (from places : List ℕ)
    (edges : List (EdgeView L)) (fault : F) : Type 0 where
  pub path : IsEdgePath leads from places edges
  pub last : HasLastFault wrong flawed from edges fault
