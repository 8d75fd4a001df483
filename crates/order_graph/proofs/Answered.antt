-- The answer of the search of the graph, in terms of the trial.
use Rattle.std.proofs.Common.{◌≡◌, ℕ, ◌<◌, List, [], ◌∷◌, Option, Some, None, length, map, refl, sym, ap, subst, ◌∙◌}
use Rattle.std.specs.List.{All, AllZip}
use Rattle.std.proofs.lemmas.Option.{slice_get-get_or}
use Rattle.mem_regions.specs.Memory.{Memory}
use Rattle.rv_machine.specs.Hart.{Hart}
use Rattle.rv_machine.specs.Machine.{Machine}
use Rattle.cf_layout.specs.Accepted.{IsAccepted}
use Rattle.cf_layout.specs.Layout.{Plan}
use Rattle.cf_bind.specs.declared.moves.Move.{Move}
use Rattle.cf_semantics.specs.runs.Runs.{opened, start}
use Rattle.cf_semantics.specs.state.State.{State}
use Rattle.mem_changes.specs.Differing.{AreChangesOf}
use Rattle.mem_changes.specs.Images.{IsAsLoaded}
use Rattle.mem_changes.specs.MemoryChanges.{MemoryChanges}
use Rattle.mem_changes.proofs.Made.{no_changes}
use Rattle.mem_changes.proofs.Once.{listed_once}
use Rattle.order_rules.specs.declared.rule.Rule.{Rule}
use Rattle.order_model.specs.Situations.{lone_moment, in_memory}
use Rattle.order_keys.specs.declared.node.Node.{Node}
use Rattle.order_keys.specs.Keys.{key_of_node, node_of}
use Rattle.order_keys.specs.Situations.{IsWhole, without_memory}
use Rattle.order_machine.specs.Waypoints.{machine_of}
use Rattle.order_claims.specs.Claims.{NoneIsWrong}
use Rattle.order_claims.specs.declared.wrong_kind.WrongKind.{WrongKind}
use Rattle.order_claims.specs.MoveLists.{IsOrder, issued_with}
use Rattle.order_claims.specs.WrongLists.{IsWrongOrder}
use Rattle.order_search.specs.declared.reached.NumberedEdge.{NumberedEdge}
use Rattle.order_search.specs.Answers.{HasMore, IsFirstFault}
use Rattle.order_search.specs.Numbers.{node_at}
use Rattle.order_search.specs.ReachedGraph.{ReachedGraph}
use Rattle.order_search.specs.Rows.{AreNumbered}
use Rattle.order_search.specs.declared.breadth_first.SearchAnswer.{SearchAnswer}
use Rattle.order_search.specs.SearchAnswers.{AnswersOf, IsReachedGraph}
use Rattle.order_graph.specs.declared.found.OrdersFound.{OrdersFound}
use Rattle.order_graph.specs.declared.found.OrdersFound.TheVariants.{Wrong, Reached, TooMany}
use Rattle.order_graph.specs.declared.graph.OrderGraph.{OrderGraph}
use Rattle.order_graph.specs.declared.reached.OrdersReached.{OrdersReached}
use Rattle.order_graph.specs.OrderTrial.{OrderTrial, IssuedState, moment_next}
use Rattle.order_graph.specs.OrderAnswers.{trial_of, AreNumberedMoves, AreOrdersFound, IsCountOf, IsNotWrong, IsNumberedMove, IsSearched, state_next}
use Rattle.order_graph.specs.OrderLists.{IsFirstWrong}
use Rattle.order_graph.specs.StateCounts.{HasMoreStates}
use Rattle.order_graph.specs.TrialParts.{IsSoundTrial}
use Rattle.order_graph.specs.KeyGraph.{AreRightMoves, IsNodeIn, IsOrderKey, IsRightNode, IsWrongEdge, IsWrongNode, edge_of, edges_from, first_node, memory_loaded, moves_from, node_next, nodes_after, state_at, state_of_node}
use Rattle.order_graph.proofs.Facts.{key_node, order_facts, order_node}
use Rattle.order_graph.proofs.Nodes.{StandsFor, its_key, its_state, next_stands}
use Rattle.order_graph.proofs.Paths.{get_mapped}
use Rattle.order_graph.proofs.Still.{goes_on}
use Rattle.order_graph.proofs.Translated.{all_states, first_wrong, in_order, more_states, orders_counted}

-- the node at the start
pub first_stated : (plan : Plan) (hart : Hart) (loaded : Memory) (s : State) (k : MemoryChanges) → IsAsLoaded loaded → hart.mem ≡ loaded →
    in_memory s hart.mem ≡ opened plan (machine_of hart) → without_memory s ≡ s → AreChangesOf loaded loaded k →
    (t : OrderTrial) → t.plan ≡ plan → t.machine ≡ machine_of hart → (let n : Node = record { situation = s; changes = k; issues = 0 } in n) ≡ first_node t
unfolding first_node
first_stated plan hart loaded s k is same made own changed t e f =
    let at : opened plan (machine_of hart) ≡ opened t.plan t.machine = ap (λ (p : Plan). opened p (machine_of hart)) (sym e) ∙ ap (opened t.plan) (sym f) in
    let situation : s ≡ without_memory (opened t.plan t.machine) = sym own ∙ ap without_memory (made ∙ at) in
    let none = listed_once loaded loaded k (record { bytes = []; code = []; program_break = loaded.program_break }) is changed (no_changes loaded is) in
    let memory : loaded ≡ memory_loaded t = sym same ∙ ap (λ (x : Machine). x.hart.mem) (sym f) in
    ap (λ (y : State). let n : Node = record { situation = y; changes = k; issues = 0 } in n) situation
    ∙ ap (λ (c : MemoryChanges). let n : Node = record { situation = without_memory (opened t.plan t.machine); changes = c; issues = 0 } in n)
    (none ∙ ap (λ (m : Memory). let c : MemoryChanges = record { bytes = []; code = []; program_break = m.program_break } in c) memory)

pub start_right : (t : OrderTrial) (n : Node) → n ≡ first_node t → IsRightNode t n
unfolding IsOrder AreRightMoves nodes_after
start_right t n e = record { moves = []; allowed = tt; right = tt; is = e }

pub start_key : (t : OrderTrial) (n : Node) (key : List ℕ) → n ≡ first_node t → key ≡ key_of_node n → IsWhole n.situation → IsOrderKey t key
start_key t n key e is_key whole = record { node = n; right = start_right t n e; whole = whole; is = is_key }

-- the three answers
pub found_first : (t : OrderTrial) (bound : ℕ) (n : Node) (moves : List Move) (kind : WrongKind) → IsSoundTrial t → n ≡ first_node t →
    IsFirstFault (edges_from t) (IsWrongEdge t) (IsWrongNode t) (key_of_node n) bound moves kind → IsFirstWrong t bound moves kind
found_first t bound n moves kind is e x = first_wrong t is bound moves kind
    (subst (λ (k : Node). IsFirstFault (edges_from t) (IsWrongEdge t) (IsWrongNode t) (key_of_node k) bound moves kind) e x)

known_keys : (t : OrderTrial) (mem : Memory) (nodes : List (List ℕ)) → All (IsNodeIn t mem) nodes → All (IsOrderKey t) nodes
known_keys t mem nodes all k d within = (all k d within).1

pub found_counted : (t : OrderTrial) (mem : Memory) (bound : ℕ) (n : Node) (r : ReachedGraph) → IsSoundTrial t → mem ≡ memory_loaded t → n ≡ first_node t →
    IsReachedGraph (IsNodeIn t mem) (edges_from t) (IsWrongEdge t) (IsWrongNode t) (key_of_node n) bound r →
    IsCountOf t bound (record { graph = record { trial = t; mem = mem; scratch = tt }; reached = r })
found_counted t mem bound n r is loaded e x =
    let y = subst (λ (k : Node). IsReachedGraph (IsNodeIn t mem) (edges_from t) (IsWrongEdge t) (IsWrongNode t) (key_of_node k) bound r) e x in
    record {
      trial = refl;
      searched = record { loaded = loaded; as_many = y.as_many; known = known_keys t mem r.nodes y.all_known; rows = y.targets };
      states = all_states t is bound r.nodes r.edges r.ends y.counted;
      in_order = in_order t is bound r.nodes r.edges r.ends y.counted;
      orders = orders_counted t is r.orders y.orders;
    }

pub found_more : (t : OrderTrial) (bound : ℕ) (n : Node) → IsSoundTrial t → n ≡ first_node t →
    HasMore (edges_from t) (IsWrongEdge t) (IsWrongNode t) (key_of_node n) bound → HasMoreStates t bound
found_more t bound n is e x = more_states t is bound (subst (λ (k : Node). HasMore (edges_from t) (IsWrongEdge t) (IsWrongNode t) (key_of_node k) bound) e x)

-- in the table itself no list is wrong
pub not_wrong : (plan : Plan) (x : Machine) (most bound : ℕ) (away : Option Rule) (found : OrdersFound) → NoneIsWrong → IsAccepted plan →
    length x.hart.regs ≡ 32 →
    AreOrdersFound (record { away = away; plan = plan; machine = x; most = most }) bound found → away ≡ None → IsNotWrong found
not_wrong plan x most bound away (Wrong w) law accepted wide h e =
    law plan x most w.moves.items w.kind accepted wide (subst (λ (a : Option Rule). IsWrongOrder a plan most x (start plan x) w.moves.items w.kind) e h.0.wrong)
not_wrong plan x most bound away (Reached r) law accepted wide h e = tt
not_wrong plan x most bound away TooMany law accepted wide h e = tt

-- the moves of a state, with the numbers of the states to which they lead
issues_next : (t : OrderTrial) (n : Node) (mv : Move) → (node_next t n mv).issues ≡ issued_with n.issues mv
unfolding node_next
issues_next t n mv = refl

next_state : (t : OrderTrial) (key : List ℕ) (mv : Move) → IsSoundTrial t → IsOrderKey t key →
    state_at t (key_of_node (node_next t (node_of key) mv)) ≡ state_next t (state_at t key) mv
unfolding state_at state_next
next_state t key mv is h =
    let n : Node = node_of key in
    let f = order_facts t h.node is (order_node t h.node h.right) in
    let stands : StandsFor t f.m f.issued n = subst (StandsFor t f.m f.issued) (sym (key_node t key is h)) f.stands in
    let next = next_stands t f.m f.issued n mv is stands in
    let back : node_of (key_of_node (node_next t n mv)) ≡ node_next t n mv = its_key t _ _ (node_next t n mv) next in
    let states : state_of_node t (node_next t n mv) ≡ (moment_next t (lone_moment (state_of_node t n)) mv).state
    = its_state t _ _ (node_next t n mv) next ∙ (goes_on t.away t.plan f.m mv f.stands.rest).state
    ∙ ap (λ (s : State). (moment_next t (lone_moment s) mv).state) (sym (its_state t f.m f.issued n stands)) in
    ap (λ (k : Node). let r : IssuedState = record { state = state_of_node t k; issued = k.issues } in r) back
    ∙ ap (λ (s : State). let r : IssuedState = record { state = s; issued = (node_next t n mv).issues } in r) states
    ∙ ap (λ (i : ℕ). let r : IssuedState = record { state = (moment_next t (lone_moment (state_of_node t n)) mv).state; issued = i } in r) (issues_next t n mv)

numbered_all : (t : OrderTrial) (nodes : List (List ℕ)) (key : List ℕ) (list : List (NumberedEdge Move)) (moves : List Move) → IsSoundTrial t →
    IsOrderKey t key →
    AreNumbered nodes list (map (edge_of t (node_of key)) moves) → AllZip (IsNumberedMove t (map (state_at t) nodes) (state_at t key)) list moves
numbered_all t nodes key [] [] is h a = tt
numbered_all t nodes key [] (mv ∷ moves) is h a = absurd a
numbered_all t nodes key (e ∷ list) [] is h a = absurd a
numbered_all t nodes key (e ∷ list) (mv ∷ moves) is h a = (
  record {
    name = a.0.name;
    to = get_mapped (state_at t) nodes e.to (node_at nodes e.to) (slice_get-get_or nodes e.to [] a.0.target.within)
        ∙ ap (λ (k : List ℕ). Some (state_at t k)) a.0.target.node ∙ ap (λ (s : IssuedState). Some s) (next_state t key mv is h);
  },
  numbered_all t nodes key list moves is h a.1,
)

pub numbered_moves : (r : OrdersReached) (number : ℕ) (list : List (NumberedEdge Move)) → IsSoundTrial r.graph.trial → IsSearched r →
    number < length r.reached.nodes →
    AreNumbered r.reached.nodes list (edges_from r.graph.trial (node_at r.reached.nodes number)) →
    AreNumberedMoves r.graph.trial (map (state_at r.graph.trial) r.reached.nodes) number list
unfolding edges_from state_at
numbered_moves r number list is s within a =
    let t : OrderTrial = r.graph.trial in
    let key : List ℕ = node_at r.reached.nodes number in
    record {
      from = state_at t key;
      there = get_mapped (state_at t) r.reached.nodes number key (slice_get-get_or r.reached.nodes number [] within);
      moves = numbered_all t r.reached.nodes key list (moves_from t (node_of key)) is (s.known number [] within) a;
    }

-- the search begins at the key of the start, in the memory as it was loaded
pub start_known : (t : OrderTrial) (away : Option Rule) (plan : Plan) (hart : Hart) (most : ℕ) (n : Node) (key : List ℕ) (mem loaded : Memory) →
    t ≡ trial_of away plan hart most →
    ((u : OrderTrial) → u.plan ≡ plan → u.machine ≡ machine_of hart → n ≡ first_node u) → hart.mem ≡ loaded → mem ≡ loaded → key ≡ key_of_node n →
    IsWhole n.situation →
    IsNodeIn t mem key
start_known t away plan hart most n key mem loaded e from same again is_key whole =
    let first = from t (ap (λ (u : OrderTrial). u.plan) e) (ap (λ (u : OrderTrial). u.machine) e) in
    (again ∙ sym same ∙ sym (ap memory_loaded e), start_key t n key first is_key whole)

-- and its answer holds for the graph as it is left
pub answers_left : (g h : OrderGraph) (n : Node) (key : List ℕ) (most : ℕ) (answer : SearchAnswer Move WrongKind) → h ≡ g → key ≡ key_of_node n →
    AnswersOf (IsNodeIn g.trial g.mem) (edges_from g.trial) (IsWrongEdge g.trial) (IsWrongNode g.trial) key most answer →
    AnswersOf (IsNodeIn h.trial h.mem) (edges_from h.trial) (IsWrongEdge h.trial) (IsWrongNode h.trial) (key_of_node n) most answer
answers_left g h n key most answer same is_key a =
    subst (λ (k : OrderGraph). AnswersOf (IsNodeIn k.trial k.mem) (edges_from k.trial) (IsWrongEdge k.trial) (IsWrongNode k.trial) (key_of_node n) most answer)
    (sym same)
    (subst (λ (l : List ℕ). AnswersOf (IsNodeIn g.trial g.mem) (edges_from g.trial) (IsWrongEdge g.trial) (IsWrongNode g.trial) l most answer) is_key a)
