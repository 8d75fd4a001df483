-- The numbers of the nodes are in the order in which the nodes are first reached.
use Rattle.std.proofs.Common.{◌≡◌, ◌≢◌, ℕ, ◌+◌, ◌<◌, ◌≤◌, List, [], length, sym, subst, ◌∙◌, arith, ◌⊎◌, inl, inr}
use Rattle.std.specs.List.{AllPairs}
use Rattle.std.proofs.lemmas.Bool.{cases_order}
use Rattle.std.proofs.lemmas.List.{get_or_default}
use Rattle.order_search.specs.declared.trail.Entered.{Entered}
use Rattle.order_search.specs.Answers.{HasEarlierPath}
use Rattle.order_search.specs.Exploring.{Explored}
use Rattle.order_search.specs.Numbers.{node_at}
use Rattle.order_search.specs.Paths.{EdgeView, EdgesOf, EdgeFaults, NodeFaults, IsEdgePath, path_end}
use Rattle.order_search.specs.SearchOrder.{Precedes}
use Rattle.order_search.proofs.Along.{first_come}
use Rattle.order_search.proofs.Leading.{labelled, path_to}
use Rattle.order_search.proofs.Precedence.{precedes_not_after}

-- a node of a list without duplicates has one number
one_number : (nodes : List (List ℕ)) → AllPairs (λ a b. a ≢ b) nodes → (i j : ℕ) → i < length nodes → j < length nodes →
    node_at nodes i ≡ node_at nodes j → i ≡ j
one_number nodes once i j inside within same = by (cases_order i j)
  where
    by : (i ≡ j) ⊎ ((i < j) ⊎ (j < i)) → i ≡ j
    by (inl e) = e
    by (inr (inl below)) = absurd (once i j [] below within same)
    by (inr (inr above)) = absurd (once j i [] above inside (sym same))

module _ {L F : Type 0} (leads : EdgesOf L) (wrong : EdgeFaults L F) (flawed : NodeFaults F) (first : List ℕ) (nodes : List (List ℕ)) (entered : List
    (Entered L))
    (at part : ℕ) (x : Explored leads wrong flawed first nodes entered at part) (ended : length nodes ≤ at) (some : 0 < length nodes) where
  -- each path to a node comes after those of the nodes with lower numbers
  after : (i j : ℕ) → i < j → j < length nodes → (others : List ℕ) (path : List (EdgeView L)) → IsEdgePath leads first others path →
      path_end first path ≡ node_at nodes j → Precedes (x.paths i) others
  after i j order within others path is_path end =
      let h = first_come leads wrong flawed first nodes entered at part x ended some others path is_path in
      let same : h.to ≡ j = one_number nodes x.once h.to j h.within within (h.node ∙ end) in
      precedes_not_after (x.paths i) (x.paths h.to) others (subst (λ k. Precedes (x.paths i) (x.paths k)) (sym same) (x.rising i j order within)) h.early

  pub in_order : AllPairs (HasEarlierPath leads first) nodes
  in_order i j d order within =
      let inside : i < length nodes = omega (arith, order, within) in
      let labels = labelled leads wrong flawed first nodes entered at part x (i + 1) i (omega arith) inside in
      let h = path_to leads wrong flawed first nodes entered at part x i labels.0 labels.1 in record {
        places = x.paths i;
        edges = h.edges;
        path = h.path;
        end = h.end ∙ get_or_default nodes i [] d inside;
        before = λ others path is_path end. after i j order within others path is_path (end ∙ sym (get_or_default nodes j [] d within));
      }
