-- What the search answers for the graph of keys holds for the lists of moves and the states.
use Rattle.std.proofs.Common.{◌≡◌, ℕ, zero, suc, ◌<◌, List, [], ◌∷◌, Bool, length, get_or, map, refl, sym, ap, subst, ◌∙◌, arith}
use Rattle.std.specs.Prelude.{if◌then◌else◌}
use Rattle.std.specs.List.{AllPairs, Contains, flat_map}
use Rattle.std.proofs.lemmas.List.{get_or-map, get_or_default, length-map}
use Rattle.cf_bind.specs.declared.moves.Move.{Move}
use Rattle.cf_semantics.specs.claims.Weight.{issues}
use Rattle.cf_semantics.specs.state.State.{State, Moment}
use Rattle.order_keys.specs.declared.node.Node.{Node}
use Rattle.order_keys.specs.Keys.{key_of_node, node_of}
use Rattle.order_claims.specs.declared.wrong_kind.WrongKind.{WrongKind}
use Rattle.order_claims.specs.MoveLists.{issued_with, moment_after_without}
use Rattle.order_search.specs.declared.orders.Orders.{Orders}
use Rattle.order_search.specs.declared.orders.Orders.TheVariants.{Exactly, More, Endless}
use Rattle.order_search.specs.Answers.{HasEarlierPath, IsFirstFault, IsCounted, IsReachedBy, HasMore}
use Rattle.order_search.specs.Paths.{EdgeView, EndsInFault, HasLastFault, IsEdgePath, IsReachable, path_end}
use Rattle.order_search.specs.Routes.{AreOrders, HasRoutes, each_behind, is_none, routes}
use Rattle.order_graph.specs.OrderTrial.{OrderTrial, IssuedState, first_moment, leads_on, moment_next, IsWrongOrderOf, reached_by}
use Rattle.order_graph.specs.OrderLists.{IsFirstWrong, IsPlaced, IsReachedBefore, IsReachedEarly, IsReachedState, whole_orders}
use Rattle.order_graph.specs.StateCounts.{AreAllStates, CountsOrders, HasMoreStates, HasWholeOrders}
use Rattle.order_graph.specs.TrialParts.{IsSoundTrial}
use Rattle.order_graph.specs.KeyGraph.{IsWrongEdge, IsWrongNode, edge_of, edges_from, first_node, moves_from, node_next, nodes_after, state_at, state_of_node}
use Rattle.order_graph.proofs.Faults.{fault_of, wrong_of}
use Rattle.order_graph.proofs.Lists.{ComesFrom, contains_mapped, mapped_contains, pairs_mapped, sum_mapped, count_mapped, none_mapped, flat_mapped}
use Rattle.order_graph.proofs.Nodes.{StandsFor, first_stands, its_key, its_state, next_stands, stands_once}
use Rattle.order_graph.proofs.Paths.{IsPathOfMoves, edges_are, end_of_path, moves_are, names_of_path, order_of, path_is, path_of, placed_of, stands_at}

-- the state of the key after some moves
state_of_key : (t : OrderTrial) (moves : List Move) → IsSoundTrial t → state_at t (key_of_node (nodes_after t (first_node t) moves)) ≡ reached_by t moves
unfolding state_at reached_by
state_of_key t moves is =
    let h = stands_at t moves is in
    let n : Node = nodes_after t (first_node t) moves in
    ap (λ (k : Node). let r : IssuedState = record { state = state_of_node t k; issued = k.issues } in r) (its_key t _ _ n h)
    ∙ ap (λ (s : State). let r : IssuedState = record { state = s; issued = n.issues } in r) (its_state t _ _ n h)
    ∙ ap (λ (i : ℕ). let r : IssuedState = record { state = (moment_after_without t.away t.plan (first_moment t) moves).state; issued = i } in r) h.issues

module _ (t : OrderTrial) (is : IsSoundTrial t) where
  -- a placed list of moves as a path
  path_placed : (places : List ℕ) (moves : List Move) → IsPlaced t places moves →
      IsEdgePath (edges_from t) (key_of_node (first_node t)) places (path_of t (first_node t) moves)
  path_placed places moves p = path_is t (first_moment t) 0 (first_node t) places moves is (first_stands t is) p

  -- a wrong list as a path that ends in a fault
  fault_placed : (places : List ℕ) (moves : List Move) (kind : WrongKind) → IsPlaced t places moves → IsWrongOrderOf t moves kind →
      EndsInFault (edges_from t) (IsWrongEdge t) (IsWrongNode t) (key_of_node (first_node t)) places (path_of t (first_node t) moves) kind
  fault_placed places moves kind p w = record {
    path = path_placed places moves p;
    last = fault_of t (first_moment t) 0 (first_node t) moves kind is (first_stands t is) w.wrong;
  }

  -- a path as a list of moves
  moves_of : (places : List ℕ) (path : List (EdgeView Move)) → IsEdgePath (edges_from t) (key_of_node (first_node t)) places path →
      IsPathOfMoves t (first_moment t) 0 (first_node t) places path
  moves_of places path p = moves_are t (first_moment t) 0 (first_node t) places path is (first_stands t is) p

  -- a state that is reached is the state of a key that is reached
  reached_key : (n : IssuedState) → IsReachedState t n → (key : List ℕ) × IsReachable (edges_from t) (key_of_node (first_node t)) key × (state_at t key ≡ n)
  reached_key n h =
      let somewhere = placed_of t (first_moment t) 0 h.moves h.allowed in (
        key_of_node (nodes_after t (first_node t) h.moves),
        record {
          places = somewhere.places;
          edges = path_of t (first_node t) h.moves;
          path = path_placed somewhere.places h.moves somewhere.placed;
          end = end_of_path t (first_node t) h.moves;
        },
        state_of_key t h.moves is ∙ sym h.is,
      )

  -- the moves that lead to a key
  record LeadsTo (key : List ℕ) : Type 0 where
    pub places : List ℕ
    pub moves : List Move
    pub placed : IsPlaced t places moves
    pub is_key : key ≡ key_of_node (nodes_after t (first_node t) moves)

  key_reached : (key : List ℕ) → IsReachable (edges_from t) (key_of_node (first_node t)) key → LeadsTo key
  key_reached key h =
      let p = moves_of h.places h.edges h.path in
      record {
        places = h.places;
        moves = p.moves;
        placed = p.placed;
        is_key = sym h.end ∙ ap (path_end (key_of_node (first_node t))) p.is ∙ end_of_path t (first_node t) p.moves;
      }

  state_reached : (key : List ℕ) → IsReachable (edges_from t) (key_of_node (first_node t)) key → IsReachedState t (state_at t key)
  state_reached key h =
      let l = key_reached key h in
      record {
        moves = l.moves;
        allowed = order_of t (first_moment t) 0 l.places l.moves l.placed;
        is = ap (state_at t) l.is_key ∙ state_of_key t l.moves is;
      }

  -- two keys of the same state are the same
  told_apart : (a b : List ℕ) → IsReachable (edges_from t) (key_of_node (first_node t)) a → IsReachable (edges_from t) (key_of_node (first_node t)) b →
      state_at t a ≡ state_at t b → a ≡ b
  unfolding reached_by
  told_apart a b h g e =
      let x = key_reached a h in
      let y = key_reached b g in
      let same : reached_by t x.moves ≡ reached_by t y.moves
      = sym (state_of_key t x.moves is) ∙ ap (state_at t) (sym x.is_key) ∙ e ∙ ap (state_at t) y.is_key ∙ state_of_key t y.moves is in
      let states : (moment_after_without t.away t.plan (first_moment t) x.moves).state ≡ (moment_after_without t.away t.plan (first_moment t) y.moves).state
      = ap (λ (n : IssuedState). n.state) same in
      let counts : issues x.moves ≡ issues y.moves = ap (λ (n : IssuedState). n.issued) same in
      let nodes : nodes_after t (first_node t) x.moves ≡ nodes_after t (first_node t) y.moves
      = stands_once t _ _ (issues y.moves) _ _ is
      (subst (λ (i : ℕ). StandsFor t (moment_after_without t.away t.plan (first_moment t) x.moves) i (nodes_after t (first_node t) x.moves)) counts
      (stands_at t x.moves is))
      (stands_at t y.moves is) states in
      x.is_key ∙ ap key_of_node nodes ∙ sym y.is_key

  -- how many moves lead on from the state of a key
  as_many : (key : List ℕ) → length (edges_from t key) ≡ length (leads_on t (state_at t key).state (state_at t key).issued)
  unfolding edges_from state_at
  as_many key = length-map (moves_from t (node_of key)) (edge_of t (node_of key))

  as_none : (key : List ℕ) → is_none (edges_from t key) ≡ is_none (leads_on t (state_at t key).state (state_at t key).issued)
  unfolding edges_from state_at
  as_none key = none_mapped (edge_of t (node_of key)) (moves_from t (node_of key))

  -- the first wrong list of moves
  pub first_wrong : (bound : ℕ) (moves : List Move) (kind : WrongKind) →
      IsFirstFault (edges_from t) (IsWrongEdge t) (IsWrongNode t) (key_of_node (first_node t)) bound moves kind → IsFirstWrong t bound moves kind
  first_wrong bound moves kind x =
      let p = moves_of x.places x.edges x.ends.path in
      let same : p.moves ≡ moves
      = sym (names_of_path t (first_node t) p.moves) ∙ sym (ap (map (λ (e : EdgeView Move). e.label)) p.is) ∙ sym x.names in
      let found : IsWrongOrderOf t p.moves kind = record {
        allowed = order_of t (first_moment t) 0 x.places p.moves p.placed;
        wrong = wrong_of t (first_moment t) 0 (first_node t) p.moves kind is (first_stands t is)
            (subst (λ (l : List (EdgeView Move)). HasLastFault (IsWrongEdge t) (IsWrongNode t) (key_of_node (first_node t)) l kind) p.is x.ends.last);
      } in
      record {
        places = x.places;
        placed = subst (λ (l : List Move). IsPlaced t x.places l) same p.placed;
        wrong = subst (λ (l : List Move). IsWrongOrderOf t l kind) same found;
        least = λ others list other a w. x.least others (path_of t (first_node t) list) other (fault_placed others list other a w);
        before = map (state_at t) x.nodes;
        few = omega (arith, x.few, length-map x.nodes (state_at t));
        earlier = λ others list a e. subst (Contains (map (state_at t) x.nodes)) (state_of_key t list is)
            (contains_mapped (state_at t) x.nodes (key_of_node (nodes_after t (first_node t) list))
            (subst (Contains x.nodes) (end_of_path t (first_node t) list) (x.earlier others (path_of t (first_node t) list) (path_placed others list a) e)));
      }

  -- all states
  pub all_states : (bound : ℕ) (nodes : List (List ℕ)) (moves ends : ℕ) →
      IsCounted (edges_from t) (IsWrongEdge t) (IsWrongNode t) (key_of_node (first_node t)) bound nodes moves ends →
      AreAllStates t bound (map (state_at t) nodes) moves ends
  all_states bound nodes moves ends x = record {
    once = pairs_mapped (state_at t) nodes (λ a b h g e. told_apart a b (x.reached a h) (x.reached b g) e) x.once;
    reached = λ n h. reached_from n (mapped_contains (state_at t) nodes n h);
    all = λ n h. listed n (reached_key n h);
    few = omega (arith, x.few, length-map nodes (state_at t));
    lead = x.edges ∙ sum_mapped (state_at t) (λ key. length (edges_from t key)) (λ n. length (leads_on t n.state n.issued)) as_many nodes;
    last = x.ends ∙ count_mapped (state_at t) (λ key. is_none (edges_from t key)) (λ n. is_none (leads_on t n.state n.issued)) as_none nodes;
    sound = λ list kind w. sound list kind w;
  }
    where
      reached_from : (n : IssuedState) → ComesFrom (state_at t) nodes n → IsReachedState t n
      reached_from n h = subst (IsReachedState t) (sym h.is) (state_reached h.from (x.reached h.from h.inside))

      listed : (n : IssuedState) → (key : List ℕ) × IsReachable (edges_from t) (key_of_node (first_node t)) key × (state_at t key ≡ n) →
          Contains (map (state_at t) nodes) n
      listed n (key, h, e) = subst (Contains (map (state_at t) nodes)) e (contains_mapped (state_at t) nodes key (x.all key h))

      sound : (list : List Move) (kind : WrongKind) → IsWrongOrderOf t list kind → ⊥
      sound list kind w =
          let somewhere = placed_of t (first_moment t) 0 list w.allowed in
          x.sound somewhere.places (path_of t (first_node t) list) kind (fault_placed somewhere.places list kind somewhere.placed w)

  -- if a path to one key comes before each path to another, so do the lists of moves to their states
  before_of : (nodes : List (List ℕ)) (a b : List ℕ) → ((node : List ℕ) → Contains nodes node → IsReachable (edges_from t) (key_of_node (first_node t)) node) →
      Contains nodes b → HasEarlierPath (edges_from t) (key_of_node (first_node t)) a b → IsReachedBefore t (state_at t a) (state_at t b)
  before_of nodes a b reached inside h =
      let p = moves_of h.places h.edges h.path in
      record {
        places = h.places;
        moves = p.moves;
        placed = p.placed;
        is = ap (state_at t) (sym h.end ∙ ap (path_end (key_of_node (first_node t))) p.is ∙ end_of_path t (first_node t) p.moves) ∙ state_of_key t p.moves is;
        before = λ others list placed e.
            let key : List ℕ = key_of_node (nodes_after t (first_node t) list) in
            let path = path_placed others list placed in
            let ends = end_of_path t (first_node t) list in
            let same : key ≡ b = told_apart key b (record { places = others; edges = path_of t (first_node t) list; path = path; end = ends })
            (reached b inside) (state_of_key t list is ∙ sym e) in
            h.before others (path_of t (first_node t) list) path (ends ∙ same);
      }

  -- the numbers of the states are in the order in which the states are first reached
  pub in_order : (bound : ℕ) (nodes : List (List ℕ)) (moves ends : ℕ) →
      IsCounted (edges_from t) (IsWrongEdge t) (IsWrongNode t) (key_of_node (first_node t)) bound nodes moves ends →
      AllPairs (IsReachedBefore t) (map (state_at t) nodes)
  in_order bound nodes moves ends x i j d order within =
      let high : j < length nodes = omega (arith, within, length-map nodes (state_at t)) in
      let low : i < length nodes = omega (arith, high, order) in
      let a : List ℕ = get_or nodes i [] in
      let b : List ℕ = get_or nodes j [] in
      let inside : Contains nodes b = (j, high, get_or_default nodes j b [] high) in
      subst (λ (n : IssuedState). IsReachedBefore t n (get_or (map (state_at t) nodes) j d)) (sym (get_or-map (state_at t) nodes i [] d low))
      (subst (IsReachedBefore t (state_at t a)) (sym (get_or-map (state_at t) nodes j [] d high))
      (before_of nodes a b x.reached inside (x.in_order i j [] order high)))

  -- more states than the limit
  pub more_states : (bound : ℕ) → HasMore (edges_from t) (IsWrongEdge t) (IsWrongNode t) (key_of_node (first_node t)) bound → HasMoreStates t bound
  more_states bound x = record {
    nodes = map (state_at t) x.nodes;
    last = x.last;
    once = pairs_mapped (state_at t) x.nodes (λ a b h g e. told_apart a b (reachable a (x.near a h)) (reachable b (x.near b g)) e) x.once;
    many = omega (arith, x.many, length-map x.nodes (state_at t));
    near = λ n h. near_from n (mapped_contains (state_at t) x.nodes n h);
    least = λ places list kind p w. x.least places (path_of t (first_node t) list) kind (fault_placed places list kind p w);
  }
    where
      reachable : (key : List ℕ) → IsReachedBy (edges_from t) (key_of_node (first_node t)) x.last key →
          IsReachable (edges_from t) (key_of_node (first_node t)) key
      reachable key h = record { places = h.places; edges = h.edges; path = h.path; end = h.end }

      early : (key : List ℕ) → IsReachedBy (edges_from t) (key_of_node (first_node t)) x.last key → IsReachedEarly t x.last (state_at t key)
      early key h =
          let p = moves_of h.places h.edges h.path in
          record {
            places = h.places;
            moves = p.moves;
            placed = p.placed;
            early = h.early;
            is = ap (state_at t) (sym h.end ∙ ap (path_end (key_of_node (first_node t))) p.is ∙ end_of_path t (first_node t) p.moves)
                ∙ state_of_key t p.moves is;
          }

      near_from : (n : IssuedState) → ComesFrom (state_at t) x.nodes n → IsReachedEarly t x.last n
      near_from n h = subst (IsReachedEarly t x.last) (sym h.is) (early h.from (x.near h.from h.inside))

  -- the routes are the complete lists of moves
  routes_are : (depth : ℕ) (m : Moment) (issued : ℕ) (n : Node) → StandsFor t m issued n →
      routes (edges_from t) depth (key_of_node n) ≡ whole_orders t depth m issued
  unfolding routes whole_orders
  routes_are zero m issued n h =
      ap (λ (b : Bool). let none : List Move = [] in if b then none ∷ [] else [])
      (ap is_none (edges_are t m issued n h) ∙ none_mapped (edge_of t n) (leads_on t m.state issued))
  routes_are (suc depth) m issued n h =
      ap (λ (l : List (EdgeView Move)). let none : List Move = [] in if is_none l then none ∷ []
      else flat_map (λ e. each_behind e.label (routes (edges_from t) depth e.node)) l)
      (edges_are t m issued n h)
      ∙ ap (λ (b : Bool). let none : List Move = [] in if b then none ∷ []
      else flat_map (λ e. each_behind e.label (routes (edges_from t) depth e.node)) (map (edge_of t n) (leads_on t m.state issued)))
      (none_mapped (edge_of t n) (leads_on t m.state issued))
      ∙ ap (λ (l : List (List Move)). let none : List Move = [] in if is_none (leads_on t m.state issued) then none ∷ [] else l)
      (flat_mapped (edge_of t n) (λ e. each_behind e.label (routes (edges_from t) depth e.node))
      (λ mv. each_behind mv (whole_orders t depth (moment_next t m mv) (issued_with issued mv)))
      (λ mv. ap (each_behind mv) (routes_are depth (moment_next t m mv) (issued_with issued mv) (node_next t n mv) (next_stands t m issued n mv is h)))
      (leads_on t m.state issued))

  path_length : (n : Node) (moves : List Move) → length (path_of t n moves) ≡ length moves
  unfolding path_of
  path_length n [] = refl
  path_length n (mv ∷ moves) = ap (λ (i : ℕ). suc i) (path_length (node_next t n mv) moves)

  whole : (count : ℕ) → HasRoutes (edges_from t) (key_of_node (first_node t)) count → HasWholeOrders t count
  whole count h = record {
    depth = h.depth;
    bounded = λ moves o.
        let somewhere = placed_of t (first_moment t) 0 moves o in
        let few = h.bounded somewhere.places (path_of t (first_node t) moves) (path_placed somewhere.places moves somewhere.placed) in
        omega (arith, few, path_length (first_node t) moves);
    all = h.whole ∙ ap length (routes_are h.depth (first_moment t) 0 (first_node t) (first_stands t is));
  }

  pub orders_counted : (orders : Orders) → AreOrders (edges_from t) (key_of_node (first_node t)) orders → CountsOrders t orders
  orders_counted (Exactly count) h = whole count h
  orders_counted More h = record { count = h.count; all = whole h.count h.routes; many = h.many }
  orders_counted Endless h =
      let end = is.ends t.away t.plan t.most (first_moment t) in
      let longer = h (suc end.0) in
      let p = moves_of longer.places longer.edges longer.path in
      let few = end.1 p.moves (order_of t (first_moment t) 0 longer.places p.moves p.placed) in
      let long : length p.moves ≡ suc end.0 = sym (path_length (first_node t) p.moves) ∙ ap length (sym p.is) ∙ longer.long in
      omega (arith, few, long)
