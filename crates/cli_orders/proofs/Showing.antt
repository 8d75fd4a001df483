-- The findings of a search can be written: the state to which a wrong list leads can be drawn, and what retires there
-- encoded.
use Rattle.std.proofs.Common.{◌≡◌, ◌≤◌, ℕ, suc, List, [], ◌∷◌, All, length, map, Option, Some, None, Ok, Err, Result, refl, sym, ap, subst, arith}
use Rattle.std.specs.Prelude.{IfOk, IfSome}
use Rattle.std.proofs.lemmas.List.Elements.{All-cons, All-head, All-nil, All-tail}
use Rattle.rv_inst.specs.Ranges.{Fits}
use Rattle.rv_inst.specs.declared.instruction.Instr.{Instr}
use Rattle.rv_inst.specs.declared.instruction.Instr.TheVariants.{Ebreak}
use Rattle.cf_layout.specs.Accepted.{IsEquipped}
use Rattle.cf_layout.specs.Layout.{Plan, SidingPlan}
use Rattle.cf_bind.specs.declared.cell.Op.{Op}
use Rattle.cf_bind.specs.declared.moves.Move.{Move}
use Rattle.cf_bind.specs.declared.passenger.Passenger.{Passenger}
use Rattle.cf_semantics.specs.runs.Lines.{Line, line_of}
use Rattle.cf_semantics.specs.state.Options.{on}
use Rattle.cf_semantics.specs.state.State.{State}
use Rattle.order_rules.specs.declared.rule.Rule.{Rule}
use Rattle.order_model.specs.RuleMoves.{retires_without}
use Rattle.order_keys.specs.Situations.{without_memory}
use Rattle.order_graph.specs.declared.found.OrdersFound.{OrdersFound}
use Rattle.order_graph.specs.declared.found.OrdersFound.TheVariants.{Wrong, Reached, TooMany}
use Rattle.order_graph.specs.OrderAnswers.{AreOrdersFound}
use Rattle.order_claims.specs.MoveLists.{moment_after_without}
use Rattle.order_graph.specs.OrderTrial.{OrderTrial, first_moment, reached_by}
use Rattle.order_report.specs.Drawing.{IsDrawable, IsShort}
use Rattle.order_shapes.specs.Shapes.{IsEncodable, IsShaped}
use Rattle.order_shapes.proofs.KeptShapes.{all_shaped, retires_encodable}
use Rattle.order_graph.specs.StateCounts.{CountsOrders}
use Rattle.order_search.specs.declared.orders.Orders.{Orders}
use Rattle.order_search.specs.declared.orders.Orders.TheVariants.{Exactly, More, Endless}
use Rattle.cli_orders.specs.OrderTexts.{DoEnd}
use Rattle.cli_orders.specs.Orders.{CanBePut}

-- as many sidings as the layout has, and as many cells in each
as_many : (sidings : List (List (Option Op))) (plans : List SidingPlan) → map length sidings ≡ map (λ k. k.cells) plans → length sidings ≡ length plans
as_many [] [] e = refl
as_many [] (k ∷ ks) e = absurd (cc)
as_many (o ∷ os) [] e = absurd (cc)
as_many (o ∷ os) (k ∷ ks) e =
    let rest : map length os ≡ map (λ k. k.cells) ks = cc in ap suc (as_many os ks rest)

as_short : (sidings : List (List (Option Op))) (plans : List SidingPlan) → map length sidings ≡ map (λ k. k.cells) plans →
    All (λ (k : SidingPlan). k.cells ≤ 8) plans → All IsShort sidings
as_short [] plans e h = All-nil IsShort
as_short (o ∷ os) [] e h = absurd (cc)
as_short (o ∷ os) (k ∷ ks) e h =
    let first : length o ≡ k.cells = cc in
    let rest : map length os ≡ map (λ k. k.cells) ks = cc in
    let few : k.cells ≤ 8 = All-head (λ (k : SidingPlan). k.cells ≤ 8) k ks h in
    All-cons IsShort o os (omega (arith, first, few)) (as_short os ks rest (All-tail (λ (k : SidingPlan). k.cells ≤ 8) k ks h))

-- so a state of the layout's shape can be drawn
pub drawable : (plan : Plan) (s : State) → IsEquipped plan → IsShaped plan s → IsDrawable (without_memory s)
drawable plan s equipped shaped = record {
  stages = omega (arith, shaped.stages, equipped.stages.1);
  sidings = omega (arith, as_many s.sidings plan.sidings shaped.as_long, equipped.few_sidings);
  short = as_short s.sidings plan.sidings shaped.as_long (λ k d below. (equipped.sidings k d below).cells.1);
}

-- if there is an instruction, it can be encoded
encodable : (what : Option Instr) → Fits (on what Ebreak (λ i. i)) → IfSome what (λ i. Fits i)
encodable None h = tt
encodable (Some i) h = h

seen_encodable : (away : Option Rule) (plan : Plan) (s : State) (mv : Move) (seen : Option Passenger) → IsShaped plan s →
    on seen None (λ p. Some (line_of p)) ≡ retires_without away plan s mv → IfSome seen IsEncodable
seen_encodable away plan s mv None shaped is = tt
seen_encodable away plan s mv (Some p) shaped is =
    let retires : IfSome (Some (line_of p)) (λ (line : Line). Fits line.what)
    = subst (λ (o : Option Line). IfSome o (λ line. Fits line.what)) (sym is) (retires_encodable away plan s mv shaped) in encodable p.what retires

-- what a wrong list of moves shows
shown_drawable : (t : OrderTrial) (moves : List Move) (reached : State) → IsEquipped t.plan → reached ≡ without_memory (reached_by t moves).state →
    IsDrawable reached
unfolding reached_by
shown_drawable t moves reached equipped is =
    let last : State = (moment_after_without t.away t.plan (first_moment t) moves).state in
    subst IsDrawable (sym is) (drawable t.plan last equipped (all_shaped t.away t.plan t.machine moves))

shown_encodable : (t : OrderTrial) (before : List Move) (mv : Move) (seen : Option Passenger) →
    on seen None (λ p. Some (line_of p)) ≡ retires_without t.away t.plan (reached_by t before).state mv → IfSome seen IsEncodable
unfolding reached_by
shown_encodable t before mv seen is =
    let last : State = (moment_after_without t.away t.plan (first_moment t) before).state in
    seen_encodable t.away t.plan last mv seen (all_shaped t.away t.plan t.machine before) is

-- no list of moves goes on without end
do_end : (t : OrderTrial) (orders : Orders) → CountsOrders t orders → DoEnd orders
do_end t (Exactly count) h = tt
do_end t More h = tt
do_end t Endless h = h

pub can_be_put : (t : OrderTrial) (bound : ℕ) (found : OrdersFound) → IsEquipped t.plan → AreOrdersFound t bound found → CanBePut found
can_be_put t bound (Wrong w) equipped (first, shows) =
    (shown_drawable t w.moves.items w.reached equipped shows.state, shown_encodable t shows.before shows.last w.seen shows.saw)
can_be_put t bound (Reached r) equipped counts = (counts.searched, do_end t r.reached.orders counts.orders)
can_be_put t bound TooMany equipped more = tt

pub all_can_be_put : {E : Type 0} (t : OrderTrial) (bound : ℕ) (found : Result OrdersFound E) → IsEquipped t.plan →
    IfOk found (AreOrdersFound t bound) → IfOk found CanBePut
all_can_be_put t bound (Ok found) equipped h = can_be_put t bound found equipped h
all_can_be_put t bound (Err e) equipped h = tt
