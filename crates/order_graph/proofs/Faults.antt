-- A list of moves is wrong if and only if its path ends in a fault.
use Rattle.std.proofs.Common.{◌≡◌, ℕ, List, [], ◌∷◌, Option, refl, sym, ap, subst, ◌∙◌, inl, inr}
use Rattle.std.specs.Option.{option_to_list}
use Rattle.rv_machine.specs.After.{after}
use Rattle.rv_machine.specs.Machine.{Machine}
use Rattle.cf_layout.specs.Layout.{Plan}
use Rattle.cf_bind.specs.declared.moves.Move.{Move}
use Rattle.cf_bind.specs.declared.passenger.Passenger.{Passenger}
use Rattle.cf_semantics.specs.claims.Refines.{gained}
use Rattle.cf_semantics.specs.moves.Instructions.{serve_of}
use Rattle.cf_semantics.specs.state.Layouts.{isa_of}
use Rattle.cf_semantics.specs.state.Passengers.{instruction}
use Rattle.cf_semantics.specs.state.State.{State, Moment}
use Rattle.theory_orders.specs.Wrong.{EndsWrongly, IsServedRightly, IsServedWrongly, IsStuckWrongly, RestsWrongly, RetiresWrongly, ServesWrongly}
use Rattle.order_rules.specs.declared.rule.Rule.{Rule}
use Rattle.order_model.specs.RuleMoves.{next_without, retires_without}
use Rattle.order_model.specs.Situations.{lone_moment}
use Rattle.order_keys.specs.declared.node.Node.{Node}
use Rattle.order_keys.specs.Keys.{key_of_node, node_of}
use Rattle.order_claims.specs.declared.wrong_kind.WrongKind.{WrongKind}
use Rattle.order_claims.specs.declared.wrong_kind.WrongKind.TheVariants.{Retired, Ended, Output, Stuck, Memory}
use Rattle.order_claims.specs.MoveLists.{issued_with}
use Rattle.order_claims.specs.WrongLists.{FailsAs, FailsToRetire, HasWrongEnd, IsWrongMove, IsWrongMoment, RestsWronglyAs}
use Rattle.order_search.specs.Paths.{EdgeView, HasEdgeFault, HasLastFault}
use Rattle.order_graph.specs.OrderTrial.{OrderTrial, leads_on, moment_next}
use Rattle.order_graph.specs.TrialParts.{IsSoundTrial}
use Rattle.order_graph.specs.KeyGraph.{IsWrongFrom, IsWrongEdge, IsWrongNode, edge_of, moves_from, node_next, state_of_node}
use Rattle.order_graph.proofs.Nodes.{StandsFor, its_key, its_state, next_stands}
use Rattle.order_graph.proofs.Paths.{path_of}
use Rattle.order_graph.proofs.Still.{goes_on}

-- an answer is the same when nothing is left of the input
rightly : (plan : Plan) (x : Machine) (m w : Moment) (p : Passenger) → m.state ≡ w.state → m.rest ≡ w.rest → IsServedRightly (isa_of plan) x m p →
    IsServedRightly (isa_of plan) x w p
rightly plan x m w p e f r = record {
  pc = r.pc;
  what = r.what;
  answer = ap (λ (s : State). serve_of (instruction p) s.regs s.mem w.rest) (sym e)
      ∙ ap (λ (l : List ℕ). serve_of (instruction p) m.state.regs m.state.mem l) (sym f) ∙ r.answer;
}

wrongly : (plan : Plan) (x : Machine) (m w : Moment) → m.state ≡ w.state → m.rest ≡ w.rest → IsServedWrongly plan x m → IsServedWrongly plan x w
wrongly plan x m w e f h =
    let moved : IsServedWrongly plan x (record { state = m.state; rest = w.rest; output = w.output }) = record {
      here = h.here;
      at_here = h.at_here;
      who = h.who;
      sits = h.sits;
      otherwise = λ r. h.otherwise (rightly plan x (record { state = m.state; rest = w.rest; output = w.output }) m h.who refl (sym f) r);
    } in
    subst (λ (s : State). IsServedWrongly plan x (record { state = s; rest = w.rest; output = w.output })) e moved

-- a move fails in the same way in two moments of one state, with nothing left of the input
fails_alike : (away : Option Rule) (plan : Plan) (x : Machine) (m w : Moment) (mv : Move) (kind : WrongKind) → m.state ≡ w.state → m.rest ≡ w.rest →
    (next_without away plan m mv).state ≡ (next_without away plan w mv).state → FailsAs away plan x m mv kind → FailsAs away plan x w mv kind
fails_alike away plan x m w mv kind e f g h = by kind h
  where
    ends : EndsWrongly (isa_of plan) x (next_without away plan m mv).state → EndsWrongly (isa_of plan) x (next_without away plan w mv).state
    ends k = subst (EndsWrongly (isa_of plan) x) g k

    ends_back : EndsWrongly (isa_of plan) x (next_without away plan w mv).state → EndsWrongly (isa_of plan) x (next_without away plan m mv).state
    ends_back k = subst (EndsWrongly (isa_of plan) x) (sym g) k

    retires : FailsToRetire away plan x m mv → FailsToRetire away plan x w mv
    retires k = subst (λ (s : State). RetiresWrongly (isa_of plan) x (option_to_list (retires_without away plan s mv))) e k

    retires_back : FailsToRetire away plan x w mv → FailsToRetire away plan x m mv
    retires_back k = subst (λ (s : State). RetiresWrongly (isa_of plan) x (option_to_list (retires_without away plan s mv))) (sym e) k

    serves : ServesWrongly plan x m mv → ServesWrongly plan x w mv
    serves k = (k.0, wrongly plan x m w e f k.1)

    by : (k : WrongKind) → FailsAs away plan x m mv k → FailsAs away plan x w mv k
    by Retired k = retires k
    by Ended k = (λ r. k.0 (retires_back r), ends k.1)
    by Output k = (λ r. k.0 (retires_back r), λ r. k.1 (ends_back r), serves k.2)
    by Stuck k = k
    by Memory k = k

-- and so it is wrong in the same way
alike : (t : OrderTrial) (m w : Moment) (mv : Move) (kind : WrongKind) → m.state ≡ w.state → m.rest ≡ [] → w.rest ≡ [] →
    IsWrongMove t.away t.plan t.machine m mv kind → IsWrongMove t.away t.plan t.machine w mv kind
alike t m w mv kind e f g h =
    let next : (next_without t.away t.plan m mv).state ≡ (next_without t.away t.plan w mv).state
    = (goes_on t.away t.plan m mv f).state ∙ ap (λ (s : State). (next_without t.away t.plan (lone_moment s) mv).state) e
    ∙ sym (goes_on t.away t.plan w mv g).state in
    record {
      at = h.at;
      count = ap (λ (s : State). after (isa_of t.plan) t.machine (gained t.machine s)) (sym e) ∙ h.count;
      fails = fails_alike t.away t.plan h.at m w mv kind e (f ∙ sym g) next h.fails;
    }

rests_alike : (moves : List Move) (x : Machine) (m w : Moment) (kind : WrongKind) → m.state ≡ w.state → RestsWronglyAs moves x m kind →
    RestsWronglyAs moves x w kind
rests_alike moves x m w Retired e h = h
rests_alike moves x m w Ended e h = h
rests_alike moves x m w Output e h = h
rests_alike moves x m w Stuck e h = subst (IsStuckWrongly moves) e h
rests_alike moves x m w Memory e h = (λ k. h.0 (subst (IsStuckWrongly moves) (sym e) k), subst (RestsWrongly x) e h.1)

alike_moment : (t : OrderTrial) (moves : List Move) (m w : Moment) (kind : WrongKind) → m.state ≡ w.state →
    IsWrongMoment t.plan t.machine moves m kind → IsWrongMoment t.plan t.machine moves w kind
alike_moment t moves m w kind e h = record {
  at = h.at;
  count = ap (λ (s : State). after (isa_of t.plan) t.machine (gained t.machine s)) (sym e) ∙ h.count;
  fails = rests_alike moves h.at m w kind e h.fails;
}

-- the faults of an edge and of a node are those of the move and of the moment
key_state : (t : OrderTrial) (m : Moment) (issued : ℕ) (n : Node) → StandsFor t m issued n → state_of_node t (node_of (key_of_node n)) ≡ m.state
key_state t m issued n h = ap (state_of_node t) (its_key t m issued n h) ∙ its_state t m issued n h

pub edge_wrong : (t : OrderTrial) (m : Moment) (issued : ℕ) (n : Node) (e : EdgeView Move) (kind : WrongKind) → StandsFor t m issued n →
    IsWrongEdge t (key_of_node n) e kind → IsWrongMove t.away t.plan t.machine m e.label kind
edge_wrong t m issued n e kind h w = alike t (lone_moment (state_of_node t (node_of (key_of_node n)))) m e.label kind (key_state t m issued n h) refl h.rest w

pub wrong_edge : (t : OrderTrial) (m : Moment) (issued : ℕ) (n : Node) (e : EdgeView Move) (kind : WrongKind) → StandsFor t m issued n →
    IsWrongMove t.away t.plan t.machine m e.label kind → IsWrongEdge t (key_of_node n) e kind
wrong_edge t m issued n e kind h w = alike t m (lone_moment (state_of_node t (node_of (key_of_node n)))) e.label kind (sym (key_state t m issued n h)) h.rest
    refl w

pub move_from : (t : OrderTrial) (m : Moment) (issued : ℕ) (n : Node) (mv : Move) (kind : WrongKind) → StandsFor t m issued n →
    IsWrongMove t.away t.plan t.machine m mv kind → IsWrongFrom t n mv kind
move_from t m issued n mv kind h w = alike t m (lone_moment (state_of_node t n)) mv kind (sym (its_state t m issued n h)) h.rest refl w

key_moves : (t : OrderTrial) (m : Moment) (issued : ℕ) (n : Node) → StandsFor t m issued n → moves_from t (node_of (key_of_node n)) ≡ leads_on t m.state issued
key_moves t m issued n h = ap (moves_from t) (its_key t m issued n h) ∙ ap (λ (s : State). leads_on t s n.issues) (its_state t m issued n h)
    ∙ ap (leads_on t m.state) h.issues

pub node_wrong : (t : OrderTrial) (m : Moment) (issued : ℕ) (n : Node) (kind : WrongKind) → StandsFor t m issued n →
    IsWrongNode t (key_of_node n) kind → IsWrongMoment t.plan t.machine (leads_on t m.state issued) m kind
node_wrong t m issued n kind h w =
    subst (λ (l : List Move). IsWrongMoment t.plan t.machine l m kind) (key_moves t m issued n h)
    (alike_moment t (moves_from t (node_of (key_of_node n))) (lone_moment (state_of_node t (node_of (key_of_node n)))) m kind (key_state t m issued n h) w)

pub wrong_node : (t : OrderTrial) (m : Moment) (issued : ℕ) (n : Node) (kind : WrongKind) → StandsFor t m issued n →
    IsWrongMoment t.plan t.machine (leads_on t m.state issued) m kind → IsWrongNode t (key_of_node n) kind
wrong_node t m issued n kind h w =
    alike_moment t (moves_from t (node_of (key_of_node n))) m (lone_moment (state_of_node t (node_of (key_of_node n)))) kind (sym (key_state t m issued n h))
    (subst (λ (l : List Move). IsWrongMoment t.plan t.machine l m kind) (sym (key_moves t m issued n h)) w)

-- and so are those at the end of a path
pub fault_of : (t : OrderTrial) (m : Moment) (issued : ℕ) (n : Node) (moves : List Move) (kind : WrongKind) → IsSoundTrial t → StandsFor t m issued n →
    HasWrongEnd t.away t.plan t.most t.machine m issued moves kind → HasLastFault (IsWrongEdge t) (IsWrongNode t) (key_of_node n) (path_of t n moves) kind
unfolding HasWrongEnd HasLastFault HasEdgeFault path_of
fault_of t m issued n [] kind is h w = w
fault_of t m issued n (mv ∷ []) kind is h (inl w) = inl (wrong_edge t m issued n (edge_of t n mv) kind h w)
fault_of t m issued n (mv ∷ []) kind is h (inr (none, w)) = inr (
  λ other k. none other (edge_wrong t m issued n (edge_of t n mv) other h k),
  wrong_node t (moment_next t m mv) (issued_with issued mv) (node_next t n mv) kind (next_stands t m issued n mv is h) w,
)
fault_of t m issued n (mv ∷ other ∷ moves) kind is h w =
    fault_of t (moment_next t m mv) (issued_with issued mv) (node_next t n mv) (other ∷ moves) kind is (next_stands t m issued n mv is h) w

pub wrong_of : (t : OrderTrial) (m : Moment) (issued : ℕ) (n : Node) (moves : List Move) (kind : WrongKind) → IsSoundTrial t → StandsFor t m issued n →
    HasLastFault (IsWrongEdge t) (IsWrongNode t) (key_of_node n) (path_of t n moves) kind → HasWrongEnd t.away t.plan t.most t.machine m issued moves kind
unfolding HasWrongEnd HasLastFault HasEdgeFault path_of
wrong_of t m issued n [] kind is h w = w
wrong_of t m issued n (mv ∷ []) kind is h (inl w) = inl (edge_wrong t m issued n (edge_of t n mv) kind h w)
wrong_of t m issued n (mv ∷ []) kind is h (inr (none, w)) = inr (
  λ other k. none other (wrong_edge t m issued n (edge_of t n mv) other h k),
  node_wrong t (moment_next t m mv) (issued_with issued mv) (node_next t n mv) kind (next_stands t m issued n mv is h) w,
)
wrong_of t m issued n (mv ∷ other ∷ moves) kind is h w =
    wrong_of t (moment_next t m mv) (issued_with issued mv) (node_next t n mv) (other ∷ moves) kind is (next_stands t m issued n mv is h) w
