-- What the first wrong list of moves shows.
use Rattle.std.proofs.Common.{◌≡◌, ℕ, ◌-◌, ◌<◌, ◌≤◌, suc, List, [], ◌∷◌, ◌++◌, Option, Some, None, length, get_or, take, refl, sym, ap, subst, ◌∙◌, arith}
use Rattle.std.specs.List.{Contains}
use Rattle.rv_inst.specs.declared.isa.Isa.{Isa}
use Rattle.rv_machine.specs.After.{after}
use Rattle.rv_machine.specs.Machine.{Machine}
use Rattle.rv_machine.specs.Outcome.{Outcome, Next, Trap, Exit}
use Rattle.rv_machine.specs.Step.{step}
use Rattle.rv_machine.specs.declared.outcome.Retired.{Retired}
use Rattle.cf_layout.specs.Layout.{Plan}
use Rattle.cf_bind.specs.declared.moves.Move.{Move}
use Rattle.cf_bind.specs.declared.moves.Move.TheVariants.{Issue, Emit, Climb, Fall, Meet, Execute, Send, Launch, Slide, Access, Recover, Leave, Exit as ExitMove, Serve}
use Rattle.cf_bind.specs.declared.passenger.End.{End}
use Rattle.cf_bind.specs.declared.passenger.Passenger.{Passenger}
use Rattle.cf_semantics.specs.claims.Refines.{gained}
use Rattle.cf_semantics.specs.moves.Instructions.{Stops, step_at, step_here, stepped}
use Rattle.cf_semantics.specs.runs.Lines.{line_of, line_read, lines_at, lines_in}
use Rattle.cf_semantics.specs.state.Layouts.{isa_of}
use Rattle.cf_semantics.specs.state.Options.{on}
use Rattle.cf_semantics.specs.state.State.{Moment, State}
use Rattle.order_rules.specs.declared.rule.Rule.{Rule}
use Rattle.order_model.specs.RuleMoves.{retires_without}
use Rattle.order_keys.specs.declared.node.Node.{Node}
use Rattle.order_keys.specs.Situations.{without_memory}
use Rattle.order_machine.specs.declared.stepping.NextStep.{NextStep}
use Rattle.order_machine.specs.declared.stepping.NextStep.TheVariants.{Retires, Ends}
use Rattle.order_machine.specs.Waypoints.{MachinePlace, IsStepOf}
use Rattle.order_claims.specs.declared.wrong_kind.WrongKind.{WrongKind}
use Rattle.order_claims.specs.MoveLists.{moment_after_without}
use Rattle.order_judging.specs.Places.{IsPlaceOf, next_lines}
use Rattle.order_graph.specs.declared.found.OrderCounts.{OrderCounts}
use Rattle.order_graph.specs.CountsMade.{counts_of, counts_with}
use Rattle.order_graph.specs.OrderTrial.{OrderTrial, first_moment, reached_by}
use Rattle.order_graph.specs.OrderLists.{IsFirstWrong}
use Rattle.order_graph.specs.TrialParts.{IsSoundTrial}
use Rattle.order_graph.specs.WrongAnswers.{ShowsWrong}
use Rattle.order_graph.specs.KeyGraph.{IsRightNode, first_node, memory_loaded, moves_from, node_next, nodes_after}
use Rattle.order_graph.proofs.Counted.{counted_behind}
use Rattle.order_graph.proofs.Facts.{node_place}
use Rattle.order_graph.proofs.Paths.{stands_at}
use Rattle.order_graph.proofs.Wrongs.{EndsWrong, after_one, ends_wrong, some_moves}

-- its last move, by the number of its moves
module _ (t : OrderTrial) (bound : ℕ) (moves : List Move) (kind : WrongKind) (len count : ℕ) (x : IsFirstWrong t bound moves kind) (e : len ≡ length moves)
    (f : count ≡ len) where
  pub some_count : 1 ≤ count
  some_count = let some = some_moves t bound moves kind x in omega arith

  pub last_inside : count - 1 < len
  last_inside = let some = some_moves t bound moves kind x in omega arith

  pub ends_here : (last : Move) → IsSoundTrial t → last ≡ get_or moves (count - 1) last → EndsWrong t moves (count - 1) last
  ends_here last is g =
      let some = some_moves t bound moves kind x in
      let long : length moves ≡ suc (count - 1) = omega arith in
      subst (EndsWrong t moves (count - 1)) (sym g) (ends_wrong t bound moves kind (count - 1) last is x long)

-- the node before it
pub before_right : (t : OrderTrial) (n : Node) (items moves : List Move) (i : ℕ) (last : Move) → EndsWrong t moves i last → items ≡ moves →
    n ≡ nodes_after t (first_node t) (take i items) → IsRightNode t n
before_right t n items moves i last h e f =
    subst (IsRightNode t) (sym (f ∙ ap (λ (l : List Move). nodes_after t (first_node t) (take i l)) e)) h.right

pub before_leads : (t : OrderTrial) (n : Node) (items moves : List Move) (i : ℕ) (last : Move) → EndsWrong t moves i last → items ≡ moves →
    n ≡ nodes_after t (first_node t) (take i items) → Contains (moves_from t n) last
before_leads t n items moves i last h e f =
    subst (λ (k : Node). Contains (moves_from t k) last) (sym (f ∙ ap (λ (l : List Move). nodes_after t (first_node t) (take i l)) e)) h.leads

-- what retires does not depend on memory
retires_bare : (away : Option Rule) (plan : Plan) (s : State) (mv : Move) → retires_without away plan (without_memory s) mv ≡ retires_without away plan s mv
unfolding retires_without
retires_bare away plan s (Issue g) = refl
retires_bare away plan s Emit = refl
retires_bare away plan s (Climb i) = refl
retires_bare away plan s (Fall i) = refl
retires_bare away plan s (Meet i) = refl
retires_bare away plan s (Execute i) = refl
retires_bare away plan s (Send i) = refl
retires_bare away plan s (Launch i) = refl
retires_bare away plan s (Slide k c) = refl
retires_bare away plan s Access = refl
retires_bare away plan s (Recover i) = refl
retires_bare away plan s Leave = refl
retires_bare away plan s ExitMove = refl
retires_bare away plan s Serve = refl

-- the machine's next step has the recorded line
stops_silent : (isa : Isa) (x : Machine) (e : End) → step_here isa x ≡ Stops e → [] ≡ lines_at isa x
unfolding step_at
stops_silent isa x e s = by (step isa x) s where
  by : (o : Outcome Machine) → stepped o ≡ Stops e → [] ≡ lines_in isa o
  by (Next n own) f = absurd (cc)
  by (Trap cause pc detail) f = refl
  by (Exit status) f = refl

next_is : (isa : Isa) (x : Machine) (next : NextStep) → IsStepOf isa x next → next_lines isa next ≡ lines_at isa x
next_is isa x (Retires line) (n, e) = sym (ap (lines_in isa) e)
next_is isa x (Ends f) e = stops_silent isa x f e

-- the counts of its moves, and of one more
counts_here : (t : OrderTrial) (moves items : List Move) (i : ℕ) (last : Move) (here : Node) (before counts : OrderCounts) → IsSoundTrial t →
    EndsWrong t moves i last → items ≡ moves → here ≡ nodes_after t (first_node t) (take i items) → before ≡ counts_of t (take i items) →
    counts ≡ counts_with t.away here.situation last before → counts ≡ counts_of t moves
counts_here t moves items i last here before counts is h e f k made =
    let front : List Move = take i items in
    made ∙ ap (λ (n : Node). counts_with t.away n.situation last before) f
    ∙ ap (counts_with t.away (nodes_after t (first_node t) front).situation last) k
    ∙ counted_behind t front last is ∙ ap (λ (l : List Move). counts_of t (take i l ++ last ∷ [])) e ∙ ap (counts_of t) (sym h.whole)

pub shown : (t : OrderTrial) (moves items : List Move) (i : ℕ) (last : Move) (here next : Node) (before counts : OrderCounts) (seen : Option Passenger)
    (wanted : Option Retired) (place : MachinePlace) →
    IsSoundTrial t → EndsWrong t moves i last → items ≡ moves → here ≡ nodes_after t (first_node t) (take i items) → next ≡ node_next t here last →
    before ≡ counts_of t (take i items) → counts ≡ counts_with t.away here.situation last before →
    on seen None (λ p. Some (line_of p)) ≡ retires_without t.away t.plan here.situation last →
    ((isa : Isa) → on wanted [] (λ l. line_read isa l ∷ []) ≡ next_lines isa place.next) →
    ((x : Machine) → after (isa_of t.plan) t.machine (gained t.machine here.situation) ≡ Some x → IsPlaceOf (isa_of t.plan) (memory_loaded t) x place) →
    ShowsWrong t moves next.situation counts seen wanted
unfolding reached_by counts_of
shown t moves items i last here next before counts seen wanted place is h e f made k more saw want at =
    let front : List Move = take i moves in
    let m : Moment = moment_after_without t.away t.plan (first_moment t) front in
    let node : here ≡ nodes_after t (first_node t) front = f ∙ ap (λ (l : List Move). nodes_after t (first_node t) (take i l)) e in
    let situation : here.situation ≡ without_memory m.state = ap (λ (k : Node). k.situation) node ∙ (stands_at t front is).situation in
    let there = node_place t here is (before_right t here items moves i last h e f) in
    let count : after (isa_of t.plan) t.machine (gained t.machine m.state) ≡ Some there.at
    = subst (λ (s : State). after (isa_of t.plan) t.machine (gained t.machine s) ≡ Some there.at) situation there.count in
    let all : next ≡ nodes_after t (first_node t) moves
    = made ∙ ap (λ (k : Node). node_next t k last) node ∙ sym (after_one t (first_node t) front last) ∙ ap (nodes_after t (first_node t)) (sym h.whole) in
    let counted : counts ≡ counts_of t moves = counts_here t moves items i last here before counts is h e f k more in
    record {
      before = front;
      last = last;
      whole = h.whole;
      state = ap (λ (k : Node). k.situation) all ∙ (stands_at t moves is).situation;
      meets = ap (λ (c : OrderCounts). c.meets) counted;
      kills = ap (λ (c : OrderCounts). c.kills) counted;
      dead = ap (λ (c : OrderCounts). c.dead) counted;
      saw = saw ∙ ap (λ (s : State). retires_without t.away t.plan s last) situation ∙ retires_bare t.away t.plan m.state last;
      machine = want (isa_of t.plan) ∙ next_is (isa_of t.plan) there.at place.next (at there.at there.count).next
          ∙ sym (ap (λ (o : Option Machine). on o [] (lines_at (isa_of t.plan))) count);
    }

-- the same for the moves and the kind that are returned
pub found_shown : (t : OrderTrial) (bound : ℕ) (moves items : List Move) (kind told : WrongKind) (reached : State) (counts : OrderCounts)
    (seen : Option Passenger) (wanted : Option Retired) →
    IsFirstWrong t bound moves kind → items ≡ moves → told ≡ kind → ShowsWrong t moves reached counts seen wanted →
    IsFirstWrong t bound items told × ShowsWrong t items reached counts seen wanted
found_shown t bound moves items kind told reached counts seen wanted x e f h = (
  subst (λ (k : WrongKind). IsFirstWrong t bound items k) (sym f) (subst (λ (l : List Move). IsFirstWrong t bound l kind) (sym e) x),
  subst (λ (l : List Move). ShowsWrong t l reached counts seen wanted) (sym e) h,
)
