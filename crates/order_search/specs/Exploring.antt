-- What a breadth-first search has reached (from graph theory).
use Rattle.std.specs.Prelude.{◌≡◌, ◌≢◌, ℕ, ◌+◌, ◌<◌, List, [], ◌∷◌, ◌++◌, length, slice_get, Some, Bool, if◌then◌else◌, ◌⊎◌}
use Rattle.std.specs.List.{Contains, AllPairs}
use Rattle.order_search.specs.Numbers.{node_at}
use Rattle.order_search.specs.declared.trail.Entered.{Entered}
use Rattle.order_search.specs.declared.trail.Passed.{Passed}
use Rattle.order_search.specs.declared.trail.Passed.TheVariants.{Fault, Node}
use Rattle.order_search.specs.Paths.{EdgeView, EdgesOf, EdgeFaults, NodeFaults, HasEdgeFault, IsFaultless}
use Rattle.order_search.specs.SearchOrder.{Precedes, IsNotAfter}

-- the node with this number was first reached by an edge of an earlier one
pub record HasPredecessor {L : Type 0} (leads : EdgesOf L) (nodes : List (List ℕ)) (paths : ℕ → List ℕ) (number : ℕ)
    (by : Entered L) : Type 0 where
  pub edge : EdgeView L
  pub place : ℕ
  pub earlier : by.from < number
  pub leaves : slice_get (leads (node_at nodes by.from)) place ≡ Some edge
  pub name : edge.label ≡ by.label
  pub node : node_at nodes number ≡ edge.node
  pub path : paths number ≡ paths by.from ++ place ∷ []

-- the edge at this place of the node with this number has no fault, and leads to a node of the list that this edge or
-- an earlier path reached first
pub record IsGoneThrough {L F : Type 0} (wrong : EdgeFaults L F) (flawed : NodeFaults F) (nodes : List (List ℕ)) (paths : ℕ → List ℕ) (number place : ℕ)
    (edge : EdgeView L) : Type 0 where
  pub sound : IsFaultless wrong flawed (node_at nodes number) edge
  pub to : ℕ
  pub within : to < length nodes
  pub node : node_at nodes to ≡ edge.node
  pub early : IsNotAfter (paths to) (paths number ++ place ∷ [])

-- the nodes that were reached, and how each except the first was; all edges of those before `at`, and this many edges
-- of the node at `at`, have been visited
pub record Explored {L F : Type 0} (leads : EdgesOf L) (wrong : EdgeFaults L F) (flawed : NodeFaults F) (first : List ℕ)
    (nodes : List (List ℕ)) (entered : List (Entered L)) (at part : ℕ) : Type 0 where
  pub paths : ℕ → List ℕ
  pub begins : node_at nodes 0 ≡ first
  pub nowhere : paths 0 ≡ []
  pub as_many : length nodes ≡ length entered + 1
  pub once : AllPairs (λ a b. a ≢ b) nodes
  pub sound : (i : ℕ) (fault : F) → 0 < i → i < length nodes → flawed (node_at nodes i) fault → ⊥
  pub came : (i : ℕ) (by : Entered L) → slice_get entered i ≡ Some by → HasPredecessor leads nodes paths (i + 1) by
  pub rising : (i j : ℕ) → i < j → j < length nodes → Precedes (paths i) (paths j)
  pub near : (i : ℕ) → i < length nodes → at < length nodes → Precedes (paths i) (paths at ++ part ∷ [])
  pub closed : (i k : ℕ) (e : EdgeView L) → i < at → slice_get (leads (node_at nodes i)) k ≡ Some e → IsGoneThrough wrong flawed nodes paths i k e
  pub begun : (k : ℕ) (e : EdgeView L) → k < part → slice_get (leads (node_at nodes at)) k ≡ Some e → IsGoneThrough wrong flawed nodes paths at k e

-- the labels of the edges by which the node with a number was reached from the first
pub data LabelsTo {L : Type 0} (entered : List (Entered L)) : ℕ → List L → Type 0 where
  at_first : (number : ℕ) (labels : List L) → number ≡ 0 → labels ≡ [] → LabelsTo entered number labels
  by_edge : (number : ℕ) (labels : List L) (before : ℕ) (by : Entered L) (earlier : List L) → number ≡ before + 1 →
      slice_get entered before ≡ Some by → LabelsTo entered by.from earlier → labels ≡ earlier ++ by.label ∷ [] → LabelsTo entered number labels

-- the edge leads to the node of the list with this number
pub record LeadsBack {L : Type 0} (old new : List (List ℕ)) (entered after : List (Entered L)) (e : EdgeView L) (to : ℕ) : Type 0 where
  pub within : to < length old
  pub node : node_at old to ≡ e.node
  pub nodes : new ≡ old
  pub same : after ≡ entered

-- the edge leads to a new node, which gets this number, and has no fault
pub record LeadsOn {L F : Type 0} (flawed : NodeFaults F) (old new : List (List ℕ)) (entered after : List (Entered L)) (at : ℕ)
    (e : EdgeView L) (to : ℕ) : Type 0 where
  pub fresh : ¬ Contains old e.node
  pub sound : (fault : F) → flawed e.node fault → ⊥
  pub last : to ≡ length old
  pub nodes : new ≡ old ++ e.node ∷ []
  pub more : after ≡ entered ++ record { from = at; label = e.label } ∷ []

-- how each node was reached, and one more if it is new
abbrev pub entered_if : {L : Type 0} → Bool → List (Entered L) → Entered L → List (Entered L)
entered_if is_new entered by = if is_new then entered ++ by ∷ [] else entered

-- how visiting an edge of the node at `at` changes the nodes reached, and how each was reached; the answer is the
-- edge's fault, or otherwise the number of the node that it leads to
unfoldable pub GoesAlong : {L F : Type 0} → EdgeFaults L F → NodeFaults F → List (List ℕ) → List (List ℕ) → List (Entered L) → List (Entered L) →
    ℕ → EdgeView L → Passed F → Type 0
GoesAlong wrong flawed old new entered after at e (Fault fault) = HasEdgeFault wrong flawed (node_at old at) e fault × (after ≡ entered)
GoesAlong wrong flawed old new entered after at e (Node to) =
    IsFaultless wrong flawed (node_at old at) e × (LeadsBack old new entered after e to ⊎ LeadsOn flawed old new entered after at e to)

-- a list of labels with one more at its end: the list leads to the node with a number, and from there an edge with the
-- last label
pub record EndsWithLabel {L : Type 0} (entered : List (Entered L)) (number : ℕ) (label : L) (labels : List L) : Type 0 where
  pub before : List L
  pub lead : LabelsTo entered number before
  pub whole : labels ≡ before ++ label ∷ []
