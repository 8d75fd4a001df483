-- The routes of a graph from a node to its ends, and their number (from graph theory).
use Rattle.std.specs.Prelude.{◌≡◌, ◌≤◌, ◌^◌, ℕ, suc, zero, List, [], ◌∷◌, Bool, true, false, length, map, if◌then◌else◌}
use Rattle.std.specs.List.{flat_map}
use Rattle.order_search.specs.declared.orders.Orders.{Orders}
use Rattle.order_search.specs.declared.orders.Orders.TheVariants.{Exactly, More, Endless}
use Rattle.order_search.specs.Paths.{EdgeView, EdgesOf, IsEdgePath}

-- whether there is no edge
abbrev pub is_none : {X : Type 0} → List X → Bool
is_none [] = true
is_none (x ∷ xs) = false

-- the edge, followed by each route
abbrev pub each_behind : {L : Type 0} → L → List (List L) → List (List L)
each_behind label = map (λ route. label ∷ route)

-- the labels of each path of at most `depth` edges from a node to one without outgoing edges
unfoldable pub routes : {L : Type 0} → EdgesOf L → ℕ → List ℕ → List (List L)
routes leads zero node = if is_none (leads node) then [] ∷ [] else []
routes leads (suc depth) node = if is_none (leads node) then [] ∷ []
    else flat_map (λ e. each_behind e.label (routes leads depth e.node)) (leads node)

-- no path from a node has more than `depth` edges
abbrev pub HasPathsUpTo : {L : Type 0} → EdgesOf L → ℕ → List ℕ → Type 0
HasPathsUpTo {L} leads depth node = (places : List ℕ) (edges : List (EdgeView L)) → IsEdgePath leads node places edges → length edges ≤ depth

-- this many routes lead from a node to the ends; all paths from it end
pub record HasRoutes {L : Type 0} (leads : EdgesOf L) (node : List ℕ) (count : ℕ) : Type 0 where
  pub depth : ℕ
  pub bounded : HasPathsUpTo leads depth node
  pub whole : count ≡ length (routes leads depth node)

-- a path of this many edges leads from a node
pub record HasPath {L : Type 0} (leads : EdgesOf L) (node : List ℕ) (count : ℕ) : Type 0 where
  pub places : List ℕ
  pub edges : List (EdgeView L)
  pub path : IsEdgePath leads node places edges
  pub long : length edges ≡ count

-- more routes than fit into a number of 64 bits
pub record HasManyRoutes {L : Type 0} (leads : EdgesOf L) (node : List ℕ) : Type 0 where
  pub count : ℕ
  pub routes : HasRoutes leads node count
  pub many : 2 ^ 64 ≤ count

-- the answer for the routes that lead from a node
abbrev pub AreOrders : {L : Type 0} → EdgesOf L → List ℕ → Orders → Type 0
AreOrders leads node (Exactly count) = HasRoutes leads node count
AreOrders leads node More = HasManyRoutes leads node
AreOrders leads node Endless = (count : ℕ) → HasPath leads node count
