-- The answer of a breadth-first search (from graph theory).
use Rattle.std.specs.Prelude.{◌≡◌, ◌≢◌, ℕ, ◌≤◌, ◌<◌, List, length, map, sum_by, count_by}
use Rattle.std.specs.List.{Contains, AllPairs}
use Rattle.order_search.specs.Paths.{EdgeView, EdgesOf, EdgeFaults, NodeFaults, IsEdgePath, path_end, IsReachable, EndsInFault}
use Rattle.order_search.specs.Routes.{is_none}
use Rattle.order_search.specs.SearchOrder.{Precedes, IsNotAfter}

-- the labels of the first path, in the order of the search, that ends in a fault; so no shorter path ends in a fault.
-- At most `most` nodes are reached by earlier paths
pub record IsFirstFault {L F : Type 0} (leads : EdgesOf L) (wrong : EdgeFaults L F) (flawed : NodeFaults F) (first : List ℕ) (most : ℕ)
    (labels : List L) (fault : F) : Type 0 where
  pub places : List ℕ
  pub edges : List (EdgeView L)
  pub names : labels ≡ map (λ e. e.label) edges
  pub ends : EndsInFault leads wrong flawed first places edges fault
  pub least : (others : List ℕ) (path : List (EdgeView L)) (other : F) → EndsInFault leads wrong flawed first others path other → IsNotAfter places others
  pub nodes : List (List ℕ)
  pub few : length nodes ≤ most
  pub earlier : (others : List ℕ) (path : List (EdgeView L)) → IsEdgePath leads first others path → Precedes others places →
      Contains nodes (path_end first path)

-- a path to the first node comes before each path to the second
pub record HasEarlierPath {L : Type 0} (leads : EdgesOf L) (first earlier later : List ℕ) : Type 0 where
  pub places : List ℕ
  pub edges : List (EdgeView L)
  pub path : IsEdgePath leads first places edges
  pub end : path_end first edges ≡ earlier
  pub before : (others : List ℕ) (path : List (EdgeView L)) → IsEdgePath leads first others path → path_end first path ≡ later → Precedes places others

-- all nodes that are reached, each once, in the order in which they are first reached, at most `most`; how many edges
-- leave them, and how many of them have no outgoing edge; and no path ends in a fault
pub record IsCounted {L F : Type 0} (leads : EdgesOf L) (wrong : EdgeFaults L F) (flawed : NodeFaults F) (first : List ℕ) (most : ℕ)
    (nodes : List (List ℕ)) (moves dead : ℕ) : Type 0 where
  pub once : AllPairs (λ a b. a ≢ b) nodes
  pub in_order : AllPairs (HasEarlierPath leads first) nodes
  pub reached : (node : List ℕ) → Contains nodes node → IsReachable leads first node
  pub all : (node : List ℕ) → IsReachable leads first node → Contains nodes node
  pub few : length nodes ≤ most
  pub edges : moves ≡ sum_by (λ node. length (leads node)) nodes
  pub ends : dead ≡ count_by (λ node. is_none (leads node)) nodes
  pub sound : (places : List ℕ) (path : List (EdgeView L)) (fault : F) → EndsInFault leads wrong flawed first places path fault → ⊥

-- a path that is not after this one leads to the node
pub record IsReachedBy {L : Type 0} (leads : EdgesOf L) (first last node : List ℕ) : Type 0 where
  pub places : List ℕ
  pub edges : List (EdgeView L)
  pub path : IsEdgePath leads first places edges
  pub end : path_end first edges ≡ node
  pub early : IsNotAfter places last

-- paths that are not after one of these places reach more than `most` nodes, and each path that ends in a fault is
-- after it
pub record HasMore {L F : Type 0} (leads : EdgesOf L) (wrong : EdgeFaults L F) (flawed : NodeFaults F) (first : List ℕ) (most : ℕ) : Type 0 where
  pub nodes : List (List ℕ)
  pub last : List ℕ
  pub once : AllPairs (λ a b. a ≢ b) nodes
  pub many : most < length nodes
  pub near : (node : List ℕ) → Contains nodes node → IsReachedBy leads first last node
  pub least : (places : List ℕ) (path : List (EdgeView L)) (fault : F) → EndsInFault leads wrong flawed first places path fault → Precedes last places
