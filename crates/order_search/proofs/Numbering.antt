-- Edges with the numbers of the nodes that they lead to.
use Rattle.std.proofs.Common.{◌≡◌, ℕ, List, [], ◌∷◌, map, refl, sym, ap, ◌∙◌, subst, Some, slice_get, Vec, Global}
use Rattle.std.specs.Prelude.{Result, Ok, Err, IfOk}
use Rattle.std.proofs.lemmas.Option.{get_or_from_slice_get}
use Rattle.std.specs.List.{zip}
use Rattle.order_search.specs.declared.graph.Edge.{Edge}
use Rattle.order_search.specs.declared.reached.NumberedEdge.{NumberedEdge}
use Rattle.order_search.specs.Numbers.{node_at}
use Rattle.order_search.specs.Paths.{EdgesOf}
use Rattle.order_search.specs.Rows.{AreTargets, AreNumbered, numbered_row}
use Rattle.order_search.specs.Views.{edge_view, number_edge}

pub numbering : {L F : Type 0} (nodes : List (List ℕ)) (items : List (Edge L F)) (row : List ℕ) → AreTargets nodes row (map edge_view items) →
    AreNumbered nodes (map number_edge (zip items row)) (map edge_view items)
numbering nodes [] [] h = tt
numbering nodes [] (to ∷ row) h = absurd h
numbering nodes (e ∷ items) [] h = absurd h
numbering nodes (e ∷ items) (to ∷ row) h = (record { name = refl; target = h.0 }, numbering nodes items row h.1)

-- the result of reading the edges of a node with its row
pub all_numbered : {L F E : Type 0} (leads : EdgesOf L) (nodes rows : List (List ℕ)) (items : List (Edge L F)) (row : List ℕ) (number : ℕ) (node : List ℕ)
    (result : Result (Vec (NumberedEdge L) Global) E) → slice_get nodes number ≡ Some node → row ≡ numbered_row rows number → map edge_view items ≡ leads node →
    AreTargets nodes (numbered_row rows number) (leads (node_at nodes number)) → IfOk result (λ found. found.items ≡ map number_edge (zip items row)) →
    IfOk result (λ found. AreNumbered nodes found.items (leads (node_at nodes number)))
all_numbered leads nodes rows items row number node (Err error) is same list targets found = tt
all_numbered leads nodes rows items row number node (Ok numbered) is same list targets found =
    let whole : map edge_view items ≡ leads (node_at nodes number) = list ∙ ap leads (sym (get_or_from_slice_get nodes number node [] is)) in
    subst (λ l. AreNumbered nodes l (leads (node_at nodes number))) (sym found)
    (subst (AreNumbered nodes (map number_edge (zip items row))) whole
    (numbering nodes items row (subst (λ l. AreTargets nodes l (map edge_view items)) (sym same) (subst (AreTargets nodes (numbered_row rows number))
    (sym whole) targets))))
