-- The lists of moves of a trial are the paths of its graph, and are wrong if and only if these end in a fault.
use Rattle.std.proofs.Common.{◌≡◌, ℕ, zero, suc, ◌+◌, List, [], ◌∷◌, Some, refl, sym, ap, subst, ◌∙◌, arith, map}
use Rattle.std.specs.Prelude.{slice_get}
use Rattle.std.specs.List.{Contains}
use Rattle.std.proofs.lemmas.Option.{slice_get_within, slice_get-get_or, get_or_from_slice_get}
use Rattle.cf_bind.specs.declared.moves.Move.{Move}
use Rattle.cf_semantics.specs.claims.Weight.{issues, counts, is_issue}
use Rattle.cf_semantics.specs.state.State.{State, Moment}
use Rattle.order_keys.specs.declared.node.Node.{Node}
use Rattle.order_keys.specs.Keys.{key_of_node}
use Rattle.order_claims.specs.MoveLists.{issued_with, moment_after_without, IsOrder}
use Rattle.order_search.specs.Paths.{EdgeView, IsEdgePath, path_end}
use Rattle.order_graph.specs.OrderTrial.{OrderTrial, first_moment, leads_on, moment_next}
use Rattle.order_graph.specs.OrderLists.{IsPlacedFrom}
use Rattle.order_graph.specs.TrialParts.{IsSoundTrial}
use Rattle.order_graph.specs.KeyGraph.{moves_from, node_next, first_node, nodes_after, edge_of, edges_from}
use Rattle.order_graph.proofs.Nodes.{StandsFor, its_state, its_key, first_stands, next_stands}

-- the path that makes these moves from a node
unfoldable pub path_of : OrderTrial → Node → List Move → List (EdgeView Move)
path_of t n [] = []
path_of t n (mv ∷ moves) = edge_of t n mv ∷ path_of t (node_next t n mv) moves

pub names_of_path : (t : OrderTrial) (n : Node) (moves : List Move) → map (λ (e : EdgeView Move). e.label) (path_of t n moves) ≡ moves
unfolding path_of
names_of_path t n [] = refl
names_of_path t n (mv ∷ moves) = ap (λ (l : List Move). mv ∷ l) (names_of_path t (node_next t n mv) moves)

pub end_of_path : (t : OrderTrial) (n : Node) (moves : List Move) → path_end (key_of_node n) (path_of t n moves) ≡ key_of_node (nodes_after t n moves)
unfolding path_of nodes_after path_end
end_of_path t n [] = refl
end_of_path t n (mv ∷ moves) = end_of_path t (node_next t n mv) moves

-- the moment, and the number of Issue moves, after the moves
pub stands_after : (t : OrderTrial) (m : Moment) (issued : ℕ) (n : Node) (moves : List Move) → IsSoundTrial t → StandsFor t m issued n →
    StandsFor t (moment_after_without t.away t.plan m moves) (issued + issues moves) (nodes_after t n moves)
unfolding moment_after_without nodes_after
stands_after t m issued n [] is h = subst (λ (i : ℕ). StandsFor t m i n) (omega arith) h
stands_after t m issued n (mv ∷ moves) is h =
    let later = stands_after t (moment_next t m mv) (issued_with issued mv) (node_next t n mv) moves is (next_stands t m issued n mv is h) in
    let sum : issued_with issued mv + issues moves ≡ issued + (counts (is_issue mv) 1 + issues moves) = omega arith in
    subst (λ (i : ℕ). StandsFor t (moment_after_without t.away t.plan (moment_next t m mv) moves) i (nodes_after t (node_next t n mv) moves)) sum later

pub stands_at : (t : OrderTrial) (moves : List Move) → IsSoundTrial t →
    StandsFor t (moment_after_without t.away t.plan (first_moment t) moves) (issues moves) (nodes_after t (first_node t) moves)
stands_at t moves is =
    let sum : 0 + issues moves ≡ issues moves = omega arith in
    subst (λ (i : ℕ). StandsFor t (moment_after_without t.away t.plan (first_moment t) moves) i (nodes_after t (first_node t) moves)) sum
    (stands_after t (first_moment t) 0 (first_node t) moves is (first_stands t is))

-- the edges of a node's key are the moves that lead on from it
pub edges_are : (t : OrderTrial) (m : Moment) (issued : ℕ) (n : Node) → StandsFor t m issued n →
    edges_from t (key_of_node n) ≡ map (edge_of t n) (leads_on t m.state issued)
unfolding edges_from
edges_are t m issued n h =
    ap (λ (k : Node). map (edge_of t k) (moves_from t k)) (its_key t m issued n h)
    ∙ ap (λ (s : State). map (edge_of t n) (leads_on t s n.issues)) (its_state t m issued n h)
    ∙ ap (λ (i : ℕ). map (edge_of t n) (leads_on t m.state i)) h.issues

-- an element of a mapped list
pub get_mapped : {A B : Type 0} (f : A → B) (xs : List A) (i : ℕ) (x : A) → slice_get xs i ≡ Some x → slice_get (map f xs) i ≡ Some (f x)
get_mapped f [] i x e = absurd (cc)
get_mapped f (y ∷ xs) zero x e = let same : y ≡ x = cc in ap (λ z. Some (f z)) same
get_mapped f (y ∷ xs) (suc i) x e = get_mapped f xs i x e

record IsMapped {A B : Type 0} (f : A → B) (xs : List A) (i : ℕ) (y : B) : Type 0 where
  pub from : A
  pub there : slice_get xs i ≡ Some from
  pub is : y ≡ f from

mapped_get : {A B : Type 0} (f : A → B) (xs : List A) (i : ℕ) (y : B) → slice_get (map f xs) i ≡ Some y → IsMapped f xs i y
mapped_get f [] i y e = absurd (cc)
mapped_get f (x ∷ xs) zero y e = record { from = x; there = refl; is = (let same : f x ≡ y = cc in sym same) }
mapped_get f (x ∷ xs) (suc i) y e = let later = mapped_get f xs i y e in record { from = later.from; there = later.there; is = later.is }

-- a list of moves is a path
pub path_is : (t : OrderTrial) (m : Moment) (issued : ℕ) (n : Node) (places : List ℕ) (moves : List Move) → IsSoundTrial t → StandsFor t m issued n →
    IsPlacedFrom t m issued places moves → IsEdgePath (edges_from t) (key_of_node n) places (path_of t n moves)
unfolding IsPlacedFrom IsEdgePath path_of
path_is t m issued n [] [] is h p = tt
path_is t m issued n [] (mv ∷ moves) is h p = p
path_is t m issued n (place ∷ places) [] is h p = p
path_is t m issued n (place ∷ places) (mv ∷ moves) is h p = (
  subst (λ (l : List (EdgeView Move)). slice_get l place ≡ Some (edge_of t n mv)) (sym (edges_are t m issued n h))
      (get_mapped (edge_of t n) (leads_on t m.state issued) place mv p.0),
  path_is t (moment_next t m mv) (issued_with issued mv) (node_next t n mv) places moves is (next_stands t m issued n mv is h) p.1,
)

-- and a path is a list of moves
pub record IsPathOfMoves (t : OrderTrial) (m : Moment) (issued : ℕ) (n : Node) (places : List ℕ) (path : List (EdgeView Move)) : Type 0 where
  pub moves : List Move
  pub placed : IsPlacedFrom t m issued places moves
  pub is : path ≡ path_of t n moves

pub moves_are : (t : OrderTrial) (m : Moment) (issued : ℕ) (n : Node) (places : List ℕ) (path : List (EdgeView Move)) → IsSoundTrial t →
    StandsFor t m issued n →
    IsEdgePath (edges_from t) (key_of_node n) places path → IsPathOfMoves t m issued n places path
unfolding IsPlacedFrom IsEdgePath path_of
moves_are t m issued n [] [] is h p = record { moves = []; placed = tt; is = refl }
moves_are t m issued n [] (e ∷ path) is h p = absurd p
moves_are t m issued n (place ∷ places) [] is h p = absurd p
moves_are t m issued n (place ∷ places) (e ∷ path) is h p =
    let first = mapped_get (edge_of t n) (leads_on t m.state issued) place e
    (subst (λ (l : List (EdgeView Move)). slice_get l place ≡ Some e) (edges_are t m issued n h) p.0) in
    let mv : Move = first.from in
    let later = moves_are t (moment_next t m mv) (issued_with issued mv) (node_next t n mv) places path is (next_stands t m issued n mv is h)
    (subst (λ (d : EdgeView Move). IsEdgePath (edges_from t) d.node places path) first.is p.1) in
    record {
      moves = mv ∷ later.moves;
      placed = (first.there, later.placed);
      is = ap (λ (d : EdgeView Move). d ∷ path) first.is ∙ ap (λ (l : List (EdgeView Move)). edge_of t n mv ∷ l) later.is;
    }

-- a list in which each move leads on is placed
get_of_contained : {A : Type 0} (xs : List A) (x : A) → Contains xs x → (i : ℕ) × (slice_get xs i ≡ Some x)
get_of_contained xs x (i, within, is) = (i, slice_get-get_or xs i x within ∙ ap Some is)

pub record IsSomewhere (t : OrderTrial) (m : Moment) (issued : ℕ) (moves : List Move) : Type 0 where
  pub places : List ℕ
  pub placed : IsPlacedFrom t m issued places moves

pub placed_of : (t : OrderTrial) (m : Moment) (issued : ℕ) (moves : List Move) → IsOrder t.away t.plan t.most m issued moves → IsSomewhere t m issued moves
unfolding IsPlacedFrom IsOrder
placed_of t m issued [] o = record { places = []; placed = tt }
placed_of t m issued (mv ∷ moves) o =
    let first = get_of_contained (leads_on t m.state issued) mv o.0 in
    let later = placed_of t (moment_next t m mv) (issued_with issued mv) moves o.1 in
    record { places = first.0 ∷ later.places; placed = (first.1, later.placed) }

contained_of_get : {A : Type 0} (xs : List A) (x : A) (i : ℕ) → slice_get xs i ≡ Some x → Contains xs x
contained_of_get xs x i e = (i, slice_get_within xs i x e, get_or_from_slice_get xs i x x e)

pub order_of : (t : OrderTrial) (m : Moment) (issued : ℕ) (places : List ℕ) (moves : List Move) → IsPlacedFrom t m issued places moves →
    IsOrder t.away t.plan t.most m issued moves
unfolding IsPlacedFrom IsOrder
order_of t m issued [] [] p = tt
order_of t m issued [] (mv ∷ moves) p = absurd p
order_of t m issued (place ∷ places) [] p = absurd p
order_of t m issued (place ∷ places) (mv ∷ moves) p =
    (contained_of_get (leads_on t m.state issued) mv place p.0, order_of t (moment_next t m mv) (issued_with issued mv) places moves p.1)
