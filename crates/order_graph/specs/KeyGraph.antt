-- The graph that is searched: its nodes are the keys of states, and its edges the moves that lead on.
use Rattle.std.specs.Prelude.{◌≡◌, ◌⊎◌, ◌&&◌, ◌||◌, ℕ, List, [], ◌∷◌, Bool, not, nat_lt, map}
use Rattle.mem_regions.specs.Memory.{Memory}
use Rattle.cf_bind.specs.declared.moves.Move.{Move}
use Rattle.cf_semantics.specs.claims.Weight.{is_issue}
use Rattle.cf_semantics.specs.runs.Runs.{opened}
use Rattle.cf_semantics.specs.state.Options.{is_some}
use Rattle.cf_semantics.specs.state.State.{State, Moment}
use Rattle.mem_changes.specs.Applied.{memory_after}
use Rattle.order_model.specs.RuleBars.{bar_without}
use Rattle.order_model.specs.Situations.{lone_moment, in_memory}
use Rattle.order_keys.specs.declared.node.Node.{Node}
use Rattle.order_keys.specs.Keys.{key_of_node, node_of}
use Rattle.order_keys.specs.Situations.{without_memory, IsWhole}
use Rattle.order_claims.specs.declared.wrong_kind.WrongKind.{WrongKind}
use Rattle.order_claims.specs.MoveLists.{issued_with}
use Rattle.order_claims.specs.WrongLists.{IsWrongMove, IsWrongMoment}
use Rattle.order_search.specs.Paths.{EdgeView}
use Rattle.order_graph.specs.OrderTrial.{OrderTrial, IssuedState, first_moment, leads_on, moment_next, IsTrialOrder}
use Rattle.order_graph.specs.ChangesNext.{changes_next}

-- the memory as it was loaded
abbrev pub memory_loaded : OrderTrial → Memory
memory_loaded t = t.machine.hart.mem

-- the state of a node, in its memory
abbrev pub state_of_node : OrderTrial → Node → State
state_of_node t n = in_memory n.situation (memory_after n.changes (memory_loaded t))

-- the moves that lead on from a node
abbrev pub moves_from : OrderTrial → Node → List Move
moves_from t n = leads_on t (state_of_node t n) n.issues

-- whether the move leads on from a node
abbrev pub leads_from : OrderTrial → Node → Move → Bool
leads_from t n mv = not (is_some (bar_without t.away t.plan (state_of_node t n) mv)) && (nat_lt n.issues t.most || not (is_issue mv))

-- the node to which a move leads
unfoldable pub node_next : OrderTrial → Node → Move → Node
node_next t n mv = record {
  situation = without_memory (moment_next t (lone_moment (state_of_node t n)) mv).state;
  changes = changes_next t.plan (memory_loaded t) (state_of_node t n) mv n.changes;
  issues = issued_with n.issues mv;
}

-- the node of the start, and the node after some moves from a node
unfoldable pub first_node : OrderTrial → Node
first_node t = record {
  situation = without_memory (opened t.plan t.machine);
  changes = record { bytes = []; code = []; program_break = (memory_loaded t).program_break };
  issues = 0;
}

unfoldable pub nodes_after : OrderTrial → Node → List Move → Node
nodes_after t n [] = n
nodes_after t n (mv ∷ moves) = nodes_after t (node_next t n mv) moves

-- the edges that leave the node with a key
abbrev pub edge_of : OrderTrial → Node → Move → EdgeView Move
edge_of t n mv = record { label = mv; node = key_of_node (node_next t n mv) }

unfoldable pub edges_from : OrderTrial → List ℕ → List (EdgeView Move)
edges_from t key = let n = node_of key in map (edge_of t n) (moves_from t n)

-- the move from the node is wrong in this way; and the node is
abbrev pub IsWrongFrom : OrderTrial → Node → Move → WrongKind → Type 0
IsWrongFrom t n mv kind = IsWrongMove t.away t.plan t.machine (lone_moment (state_of_node t n)) mv kind

abbrev pub IsWrongThere : OrderTrial → Node → WrongKind → Type 0
IsWrongThere t n kind = IsWrongMoment t.plan t.machine (moves_from t n) (lone_moment (state_of_node t n)) kind

-- making the move is wrong in this way: the move is, or otherwise the node that it leads to
abbrev pub IsWrongAlong : OrderTrial → Node → Move → WrongKind → Type 0
IsWrongAlong t n mv kind = IsWrongFrom t n mv kind ⊎ (((other : WrongKind) → IsWrongFrom t n mv other → ⊥) × IsWrongThere t (node_next t n mv) kind)

-- the same for an edge, and for a key
abbrev pub IsWrongEdge : OrderTrial → List ℕ → EdgeView Move → WrongKind → Type 0
IsWrongEdge t key e kind = IsWrongFrom t (node_of key) e.label kind

abbrev pub IsWrongNode : OrderTrial → List ℕ → WrongKind → Type 0
IsWrongNode t key kind = IsWrongThere t (node_of key) kind

-- none of the moves is wrong
unfoldable pub AreRightMoves : OrderTrial → Moment → List Move → Type 0
AreRightMoves t m [] = Unit {0}
AreRightMoves t m (mv ∷ moves) =
    ((kind : WrongKind) → IsWrongMove t.away t.plan t.machine m mv kind → ⊥) × AreRightMoves t (moment_next t m mv) moves

-- moves that lead on lead to the node
pub record IsOrderNode (t : OrderTrial) (n : Node) : Type 0 where
  pub moves : List Move
  pub allowed : IsTrialOrder t moves
  pub is : n ≡ nodes_after t (first_node t) moves

-- moves that lead on, none of which is wrong, lead to the node
pub record IsRightNode (t : OrderTrial) (n : Node) : Type 0 where
  pub moves : List Move
  pub allowed : IsTrialOrder t moves
  pub right : AreRightMoves t (first_moment t) moves
  pub is : n ≡ nodes_after t (first_node t) moves

-- the key is that of such a node
pub record IsOrderKey (t : OrderTrial) (key : List ℕ) : Type 0 where
  pub node : Node
  pub right : IsRightNode t node
  pub whole : IsWhole node.situation
  pub is : key ≡ key_of_node node

-- and the memory is as it was loaded
abbrev pub IsNodeIn : OrderTrial → Memory → List ℕ → Type 0
IsNodeIn t mem key = (mem ≡ memory_loaded t) × IsOrderKey t key

-- the state of the node with a key
unfoldable pub state_at : OrderTrial → List ℕ → IssuedState
state_at t key = let n = node_of key in record { state = state_of_node t n; issued = n.issues }
