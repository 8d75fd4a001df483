-- What the loop over the nodes maintains, from its start to its end.
use Rattle.std.proofs.Common.{◌≡◌, ℕ, ◌+◌, ◌≤◌, ◌<◌, List, [], ◌∷◌, length, get_or, Option, Some, None, refl, sym, ap, subst, arith}
use Rattle.std.specs.List.{All}
use Rattle.order_search.specs.declared.breadth_first.SearchAnswer.{SearchAnswer}
use Rattle.order_search.specs.declared.orders.Orders.{Orders}
use Rattle.order_search.specs.declared.trail.Entered.{Entered}
use Rattle.order_search.specs.Counting.{IsSettled}
use Rattle.order_search.specs.Numbers.{node_at}
use Rattle.order_search.specs.Paths.{EdgesOf, EdgeFaults, NodeFaults}
use Rattle.order_search.specs.Routes.{AreOrders}
use Rattle.order_search.specs.SearchAnswers.{AnswersOf, Progress, Visits, IsReachedGraph}
use Rattle.order_search.proofs.Exploring.{first_node}
use Rattle.order_search.proofs.Settled.{answered}
use Rattle.order_search.specs.Rows.{numbered_row}
use Rattle.order_search.proofs.Turns.{all_counted, targets_below}
use Rattle.std.proofs.lemmas.List.{get_or_default}

module _ {L F : Type 0} (known : List ℕ → Type 0) (leads : EdgesOf L) (wrong : EdgeFaults L F) (flawed : NodeFaults F) (most : ℕ) (first : List ℕ) where
  start : 1 ≤ most → known first → Progress known leads wrong flawed first most (first ∷ []) [] [] 0 0 0
  start some is_known = record {
    under_way = record {
      explored = first_node leads wrong flawed first;
      all_known = λ k d within. by k d within;
      room = omega (arith, some);
      as_many = refl;
      targets = λ i within. absurd (omega (arith, within));
    };
    within = omega arith;
    edges = refl;
    ends = refl;
    few = omega arith;
    bounded = omega arith;
  }
    where
      by : All known (first ∷ [])
      by k d within = let e : k ≡ 0 = omega (arith, within) in subst (λ n. known (get_or (first ∷ []) n d)) (sym e) is_known

  -- before the first node
  pub started : (nodes : List (List ℕ)) (entered : List (Entered L)) (rows : List (List ℕ)) → 1 ≤ most → known first → nodes ≡ first ∷ [] → entered ≡ [] →
      rows ≡ [] → Progress known leads wrong flawed first most nodes entered rows 0 0 0
  started nodes entered rows some is_known is none no_rows =
      subst (λ l. Progress known leads wrong flawed first most l entered rows 0 0 0) (sym is)
      (subst (λ l. Progress known leads wrong flawed first most (first ∷ []) l rows 0 0 0) (sym none)
      (subst (λ l. Progress known leads wrong flawed first most (first ∷ []) [] l 0 0 0) (sym no_rows) (start some is_known)))

  -- the rows of all nodes contain numbers of nodes
  pub rows_within : (nodes : List (List ℕ)) (entered : List (Entered L)) (rows : List (List ℕ)) (at moves dead : ℕ) → length nodes ≤ at →
      Progress known leads wrong flawed first most nodes entered rows at moves dead → All (λ row. All (λ to. to < length rows) row) rows
  rows_within nodes entered rows at moves dead ended p i d within j e inside =
      let many : length rows ≡ length nodes = omega (arith, p.under_way.as_many, p.within, ended) in
      let same : get_or rows i [] ≡ get_or rows i d = get_or_default rows i [] d within in
      let below = targets_below nodes (numbered_row rows i) (leads (node_at nodes i)) (p.under_way.targets i within) j e
      (subst (λ row. j < length row) (sym same) inside) in
      let alike = ap (λ row. get_or row j e) same in omega (arith, below, alike, many)

  -- after the last node
  pub all_reached : (nodes : List (List ℕ)) (entered : List (Entered L)) (rows : List (List ℕ)) (at moves dead : ℕ) (orders : Orders) → length nodes ≤ at →
      Progress known leads wrong flawed first most nodes entered rows at moves dead → IsSettled rows orders →
      IsReachedGraph known leads wrong flawed first most (record { nodes = nodes; rows = rows; edges = moves; ends = dead; orders = orders })
  all_reached nodes entered rows at moves dead orders ended p settled =
      let many : length rows ≡ length nodes = omega (arith, p.under_way.as_many, p.within, ended) in record {
        counted = all_counted known leads wrong flawed first most nodes entered rows at 0 moves dead ended p;
        all_known = p.under_way.all_known;
        as_many = many;
        targets = p.under_way.targets;
        orders = subst (λ n. AreOrders leads n orders) p.under_way.explored.begins
            (answered leads nodes rows p.under_way.targets orders many (omega (arith, many, p.under_way.explored.as_many)) settled);
      }

module _ {L F : Type 0} (known : List ℕ → Type 0) (leads : EdgesOf L) (wrong : EdgeFaults L F) (flawed : NodeFaults F) (most : ℕ) (first : List ℕ)
    (old nodes : List (List ℕ))
    (entered : List (Entered L)) (rows : List (List ℕ)) (at moves dead : ℕ) (answer : Option (SearchAnswer L F)) where
  -- if a node gives no answer
  pub went_on : ((a : SearchAnswer L F) → answer ≡ Some a → ⊥) → Visits known leads wrong flawed most old nodes entered rows at moves dead answer →
      node_at old 0 ≡ first → Progress known leads wrong flawed first most nodes entered rows (at + 1) moves dead
  went_on none visits begins = by answer none visits
    where
      by : (a : Option (SearchAnswer L F)) → ((b : SearchAnswer L F) → a ≡ Some b → ⊥) →
          Visits known leads wrong flawed most old nodes entered rows at moves dead a →
          Progress known leads wrong flawed first most nodes entered rows (at + 1) moves dead
      by None none visits = subst (λ f. Progress known leads wrong flawed f most nodes entered rows (at + 1) moves dead) begins visits
      by (Some b) none visits = absurd (none b refl)

  -- if it does
  pub answered_early : (a : SearchAnswer L F) → answer ≡ Some a → Visits known leads wrong flawed most old nodes entered rows at moves dead answer →
      node_at old 0 ≡ first → AnswersOf known leads wrong flawed first most a
  answered_early a is visits begins =
      subst (λ f. AnswersOf known leads wrong flawed f most a) begins (subst
      (Visits known leads wrong flawed most old nodes entered rows at moves dead) is visits)
