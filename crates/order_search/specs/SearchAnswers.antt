-- What the answers of a search mean (from graph theory).
use Rattle.std.specs.Prelude.{◌≡◌, ℕ, ◌+◌, ◌*◌, ◌≤◌, List, length, take, Option, Some, None, sum_by, count_by}
use Rattle.std.specs.List.{All}
use Rattle.order_search.specs.declared.breadth_first.SearchAnswer.{SearchAnswer}
use Rattle.order_search.specs.declared.breadth_first.SearchAnswer.TheVariants.{Found, Counted, TooMany}
use Rattle.order_search.specs.declared.trail.Entered.{Entered}
use Rattle.order_search.specs.Answers.{IsFirstFault, IsCounted, HasMore}
use Rattle.order_search.specs.Exploring.{Explored}
use Rattle.order_search.specs.Numbers.{node_at}
use Rattle.order_search.specs.Paths.{EdgesOf, EdgeFaults, NodeFaults}
use Rattle.order_search.specs.ReachedGraph.{ReachedGraph}
use Rattle.order_search.specs.Routes.{is_none, AreOrders}
use Rattle.order_search.specs.Rows.{AreRows}

-- what was reached: all is counted, each row has the targets of its node, and this many routes lead to the ends
pub record IsReachedGraph {L F : Type 0} (known : List ℕ → Type 0) (leads : EdgesOf L) (wrong : EdgeFaults L F) (flawed : NodeFaults F) (first : List ℕ)
    (most : ℕ) (reached : ReachedGraph) : Type 0 where
  pub counted : IsCounted leads wrong flawed first most reached.nodes reached.edges reached.ends
  pub all_known : All known reached.nodes
  pub as_many : length reached.rows ≡ length reached.nodes
  pub targets : AreRows leads reached.nodes reached.rows
  pub orders : AreOrders leads first reached.orders

-- the answer of a search from the first node in a graph with these edges and faults, of at most `most` nodes
abbrev pub AnswersOf : {L F : Type 0} → (List ℕ → Type 0) → EdgesOf L → EdgeFaults L F → NodeFaults F → List ℕ → ℕ → SearchAnswer L F → Type 0
AnswersOf known leads wrong flawed first most (Found labels fault) = IsFirstFault leads wrong flawed first most labels.items fault
AnswersOf known leads wrong flawed first most (Counted reached) = IsReachedGraph known leads wrong flawed first most reached
AnswersOf known leads wrong flawed first most TooMany = HasMore leads wrong flawed first most

-- the nodes and rows of a search that is at the node with this number and has visited this many of its edges
pub record IsUnderWay {L F : Type 0} (known : List ℕ → Type 0) (leads : EdgesOf L) (wrong : EdgeFaults L F) (flawed : NodeFaults F) (first : List ℕ) (most : ℕ)
    (nodes : List (List ℕ)) (entered : List (Entered L)) (rows : List (List ℕ)) (at part : ℕ) : Type 0 where
  pub explored : Explored leads wrong flawed first nodes entered at part
  pub all_known : All known nodes
  pub room : length nodes ≤ most
  pub as_many : length rows ≡ at
  pub targets : AreRows leads nodes rows

-- before the node at `at` is visited: those before it have been, with these totals
pub record Progress {L F : Type 0} (known : List ℕ → Type 0) (leads : EdgesOf L) (wrong : EdgeFaults L F) (flawed : NodeFaults F) (first : List ℕ) (most : ℕ)
    (nodes : List (List ℕ)) (entered : List (Entered L)) (rows : List (List ℕ)) (at moves dead : ℕ) : Type 0 where
  pub under_way : IsUnderWay known leads wrong flawed first most nodes entered rows at 0
  pub within : at ≤ length nodes
  pub edges : moves ≡ sum_by (λ node. length (leads node)) (take at nodes)
  pub ends : dead ≡ count_by (λ node. is_none (leads node)) (take at nodes)
  pub few : dead ≤ at
  pub bounded : moves ≤ at * 4294967295

-- after the edges of the node at `at`: all have been visited, and the nodes up to it are as before; or there is an
-- answer
abbrev pub PassesEdges : {L F : Type 0} → (List ℕ → Type 0) → EdgesOf L → EdgeFaults L F → NodeFaults F → ℕ → List (List ℕ) → List (List ℕ) →
    List (Entered L) → List (List ℕ) → ℕ → Option (SearchAnswer L F) → Type 0
PassesEdges known leads wrong flawed most old new entered rows at None =
    IsUnderWay known leads wrong flawed (node_at old 0) most new entered rows (at + 1) 0 × (take (at + 1) new ≡ take (at + 1) old)
PassesEdges known leads wrong flawed most old new entered rows at (Some answer) = AnswersOf known leads wrong flawed (node_at old 0) most answer

-- after the node at `at` was visited: the search goes on, or there is an answer
abbrev pub Visits : {L F : Type 0} → (List ℕ → Type 0) → EdgesOf L → EdgeFaults L F → NodeFaults F → ℕ → List (List ℕ) → List (List ℕ) →
    List (Entered L) → List (List ℕ) → ℕ → ℕ → ℕ → Option (SearchAnswer L F) → Type 0
Visits known leads wrong flawed most old new entered rows at moves dead None =
    Progress known leads wrong flawed (node_at old 0) most new entered rows (at + 1) moves dead
Visits known leads wrong flawed most old new entered rows at moves dead (Some answer) = AnswersOf known leads wrong flawed (node_at old 0) most answer
