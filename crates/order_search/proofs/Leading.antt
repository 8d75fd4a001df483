-- Paths; and the labels by which a search reached a node are those of its path.
use Rattle.std.proofs.Common.{◌≡◌, ℕ, zero, suc, ◌+◌, ◌<◌, ◌≤◌, List, [], ◌∷◌, ◌++◌, length, map, get_or, slice_get, Some, None, refl, sym, ap, subst, ◌∙◌, arith, Contains, ◌⊎◌, inl, inr}
use Rattle.std.proofs.lemmas.List.{map-append, get_or_default}
use Rattle.std.proofs.lemmas.Option.{slice_get_cases}
use Rattle.order_search.specs.declared.trail.Entered.{Entered}
use Rattle.order_search.specs.Numbers.{node_at}
use Rattle.order_search.specs.Paths.{EdgeView, EdgesOf, EdgeFaults, NodeFaults, IsEdgePath, path_end, IsReachable, HasEdgeFault, HasLastFault}
use Rattle.order_search.specs.Answers.{IsReachedBy}
use Rattle.order_search.specs.SearchOrder.{IsNotAfter}
use Rattle.order_search.specs.Exploring.{HasPredecessor, Explored, LabelsTo, at_first, by_edge}

module _ {L : Type 0} (leads : EdgesOf L) where
  -- a path and one more edge
  pub path-push : (from : List ℕ) (ps : List ℕ) (es : List (EdgeView L)) (p : ℕ) (e : EdgeView L) → IsEdgePath leads from ps es →
      slice_get (leads (path_end from es)) p ≡ Some e → IsEdgePath leads from (ps ++ p ∷ []) (es ++ e ∷ [])
  unfolding IsEdgePath path_end
  path-push from [] [] p e path leaves = (leaves, tt)
  path-push from [] (d ∷ ds) p e path leaves = absurd path
  path-push from (q ∷ ps) [] p e path leaves = absurd path
  path-push from (q ∷ ps) (d ∷ ds) p e path leaves = (path.0, path-push d.node ps ds p e path.1 leaves)

  pub end-push : (from : List ℕ) (es : List (EdgeView L)) (e : EdgeView L) → path_end from (es ++ e ∷ []) ≡ e.node
  unfolding path_end
  end-push from [] e = refl
  end-push from (d ∷ ds) e = end-push d.node ds e

  pub last-push : {F : Type 0} (wrong : EdgeFaults L F) (flawed : NodeFaults F) (from : List ℕ) (es : List (EdgeView L)) (e : EdgeView L) (fault : F) →
      HasEdgeFault wrong flawed (path_end from es) e fault → HasLastFault wrong flawed from (es ++ e ∷ []) fault
  unfolding HasLastFault path_end
  last-push wrong flawed from [] e fault h = h
  last-push wrong flawed from (d ∷ []) e fault h = h
  last-push wrong flawed from (d ∷ c ∷ cs) e fault h = last-push wrong flawed d.node (c ∷ cs) e fault h

-- the path of the node with a number leads to it, with these labels
pub record LeadsTo {L : Type 0} (leads : EdgesOf L) (first : List ℕ) (nodes : List (List ℕ)) (paths : ℕ → List ℕ) (number : ℕ)
    (labels : List L) : Type 0 where
  pub edges : List (EdgeView L)
  pub path : IsEdgePath leads first (paths number) edges
  pub end : path_end first edges ≡ node_at nodes number
  pub names : labels ≡ map (λ e. e.label) edges

module _ {L F : Type 0} (leads : EdgesOf L) (wrong : EdgeFaults L F) (flawed : NodeFaults F) (first : List ℕ) (nodes : List (List ℕ)) (entered : List
    (Entered L))
    (at part : ℕ) (x : Explored leads wrong flawed first nodes entered at part) where
  pub path_to : (number : ℕ) (labels : List L) → LabelsTo entered number labels → LeadsTo leads first nodes x.paths number labels
  unfolding IsEdgePath path_end
  path_to number labels (at_first _ _ start none) = record {
    edges = [];
    path = subst (λ l. IsEdgePath leads first l []) (sym (ap x.paths start ∙ x.nowhere)) tt;
    end = sym x.begins ∙ ap (node_at nodes) (sym start);
    names = none;
  }
  path_to number labels (by_edge _ _ before by earlier is there rest names) =
      let p : HasPredecessor leads nodes x.paths (before + 1) by = x.came before by there in
      let h = path_to by.from earlier rest in record {
        edges = h.edges ++ p.edge ∷ [];
        path = subst (λ l. IsEdgePath leads first l (h.edges ++ p.edge ∷ [])) (sym (ap x.paths is ∙ p.path))
            (path-push leads first (x.paths by.from) h.edges p.place p.edge h.path (subst (λ node. slice_get (leads node) p.place ≡ Some p.edge)
            (sym h.end) p.leaves));
        end = end-push leads first h.edges p.edge ∙ sym p.node ∙ ap (node_at nodes) (sym is);
        names = names ∙ ap (λ l. l ++ by.label ∷ []) h.names ∙ ap (λ n. map (λ e. e.label) h.edges ++ n ∷ []) (sym p.name)
            ∙ sym (map-append (λ e. e.label) h.edges (p.edge ∷ []));
      }

  -- each node has labels that lead to it
  pub labelled : (below number : ℕ) → number < below → number < length nodes → (labels : List L) × LabelsTo entered number labels
  labelled zero number early within = absurd (omega (arith, early))
  labelled (suc below) zero early within = ([], at_first 0 [] refl refl)
  labelled (suc below) (suc before) early within =
      by_case (λ by there. labelled below by.from (omega (arith, (x.came before by there).earlier, early))
      (omega (arith, (x.came before by there).earlier, within))) (slice_get_cases entered before).1
    where
      by_case : ((by : Entered L) → slice_get entered before ≡ Some by → (labels : List L) × LabelsTo entered by.from labels) →
          ((by : Entered L) × (before < length entered) × (slice_get entered before ≡ Some by) × (get_or entered before by ≡ by))
          ⊎ ((length entered ≤ before) × (slice_get entered before ≡ None)) → (labels : List L) × LabelsTo entered (suc before) labels
      by_case earlier (inl (by, inside, there, same)) =
          let labels = earlier by there in
          (labels.0 ++ by.label ∷ [], by_edge (suc before) _ before by labels.0 (omega arith) there labels.1 refl)
      by_case earlier (inr (past, none)) = absurd (omega (arith, past, x.as_many, within))

  -- so each node of the list is reached
  pub is_reached : (node : List ℕ) → Contains nodes node → IsReachable leads first node
  is_reached node (number, within, is) =
      let labels = labelled (number + 1) number (omega arith) within in
      let h = path_to number labels.0 labels.1 in record {
        places = x.paths number;
        edges = h.edges;
        path = h.path;
        end = h.end ∙ get_or_default nodes number [] node within ∙ is;
      }

  -- and it is reached by its path
  pub reached_by : (last node : List ℕ) → ((number : ℕ) → number < length nodes → IsNotAfter (x.paths number) last) → Contains nodes node →
      IsReachedBy leads first last node
  reached_by last node early (number, within, is) =
      let labels = labelled (number + 1) number (omega arith) within in
      let h = path_to number labels.0 labels.1 in record {
        places = x.paths number;
        edges = h.edges;
        path = h.path;
        end = h.end ∙ get_or_default nodes number [] node within ∙ is;
        early = early number within;
      }
