-- What can be concluded from a move being allowed.
use Rattle.std.proofs.Common.{◌≡◌, ℕ, ◌+◌, ◌≤◌, Bool, true, false, Option, Some, None, length, refl, arith, sym}
use Rattle.std.specs.Prelude.{IfNone, IsTrue, not, nat_lt, ◌&&◌, ◌||◌, max, ◌*◌, if◌then◌else◌}
use Rattle.std.proofs.lemmas.Bool.Decides.{nat_tests}
use Rattle.rv_mul.specs.Values.{computes}
use Rattle.cf_layout.specs.Layout.{Plan, siding_of, unit_at}
use Rattle.cf_layout.specs.Accepted.{IsEquipped}
use Rattle.cf_bind.specs.declared.cell.Cell.{Cell}
use Rattle.cf_bind.specs.declared.cell.Op.{Op}
use Rattle.cf_bind.specs.declared.passenger.Passenger.{Passenger}
use Rattle.cf_bind.specs.declared.passenger.Guess.{Guess}
use Rattle.cf_bind.specs.declared.moves.Move.TheVariants.{Issue, Execute, Recover}
use Rattle.cf_bind.specs.declared.moves.Bar.{Bar}
use Rattle.cf_bind.specs.declared.moves.Move.{Move}
use Rattle.cf_bind.specs.declared.moves.Bar.TheVariants.{Halted, Failed, Occupied, BadGuess, LaneFull, Dead, AlreadyDone, NoUnit, NotDone, OpNotThere}
use Rattle.cf_passengers.proofs.Computing.{equipped-unit, equipped-siding}
use Rattle.cf_semantics.specs.state.Options.{on, is_some}
use Rattle.cf_semantics.specs.state.State.{State, cell_at, siding_at}
use Rattle.cf_semantics.specs.state.Passengers.{kind, requests, fresh}
use Rattle.cf_semantics.specs.state.Layouts.{isa_of, recovers}
use Rattle.cf_semantics.specs.moves.Instructions.{is_memory, fetched}
use Rattle.cf_semantics.specs.moves.Bars.{first, last_op, running, may_guess}
use Rattle.order_rules.specs.declared.rule.Rule.{Rule}
use Rattle.order_rules.specs.declared.rule.Rule.TheVariants.{IssueLaneFull, ExecuteDead, ExecuteSourceMissing, RecoverNotDone}
use Rattle.order_rules.specs.Rules.{rule_holds}
use Rattle.order_model.specs.RuleBars.{lane_room, bar_without, row_bar_without, issue_bar_without, execute_bar_without, recover_bar_without, exit_op_bar_without, source_bar_under}
use Rattle.order_model.specs.RuleMoves.{answer_without}

-- if no test holds, the last does not, and what follows gives no bar
last_fails : (a b t : Bool) (x y z : Bar) (rest : Option Bar) → first a x (first b y (first t z rest)) ≡ None → (t ≡ false) × (rest ≡ None)
last_fails false false false x y z rest e = (refl, e)
last_fails true b t x y z rest e = absurd (cc)
last_fails false true t x y z rest e = absurd (cc)
last_fails false false true x y z rest e = absurd (cc)

rest_of : (a b : Bool) (x y : Bar) (rest : Option Bar) → first a x (first b y rest) ≡ None → rest ≡ None
rest_of false false x y rest e = e
rest_of true b x y rest e = absurd (cc)
rest_of false true x y rest e = absurd (cc)

test_fails : (t : Bool) (x : Bar) → first t x None ≡ None → t ≡ false
test_fails false x e = refl
test_fails true x e = absurd (cc)

fits_room : (room n most : ℕ) → nat_lt room n ≡ false → room ≤ most → n ≤ most
fits_room room n most e h = grind (arith, nat_tests)

small_room : (away : Option Rule) (plan : Plan) → IsEquipped plan → lane_room away plan ≤ 64
small_room away plan a = go (rule_holds away IssueLaneFull) where
  go : (keeps : Bool) → (if keeps then plan.lane else max plan.lane (2 * plan.stages)) ≤ 64
  go true = a.lane.1
  go false = let l = a.lane.1 in let n = a.stages.1 in omega arith

-- there is room for the requests of an issued instruction
pub issue_room : (away : Option Rule) (plan : Plan) (s : State) (g : Guess) (c : Cell) (pc : ℕ) → IsEquipped plan →
    row_bar_without away plan s (Issue g) ≡ None → cell_at s.cells 1 ≡ Some c → running s.fetch ≡ Some pc →
    length s.lane + length (requests (fresh s.cache (fetched (isa_of plan) s.mem pc) pc g)) ≤ 64
issue_room away plan s g c pc a e h f =
    let p = fresh s.cache (fetched (isa_of plan) s.mem pc) pc g in
    let n = length s.lane + length (requests p) in
    let bars : issue_bar_without away plan s g c ≡ None = rw h at e in
    let tests : first (is_some c.passenger) Occupied (first (not (may_guess g p)) BadGuess (first (nat_lt (lane_room away plan) n) LaneFull None)) ≡ None =
    rw f at bars in
    fits_room (lane_room away plan) n 64 (last_fails (is_some c.passenger) (not (may_guess g p)) (nat_lt (lane_room away plan) n) Occupied BadGuess LaneFull
    None tests).0 (small_room away plan a)

has_unit : (b : Bool) → not b ≡ false → b ≡ true
has_unit true e = refl
has_unit false e = cc

-- an instruction that is executed is one that computes
pub execute_computes : (away : Option Rule) (plan : Plan) (s : State) (i : ℕ) (c : Cell) (p : Passenger) → IsEquipped plan →
    row_bar_without away plan s (Execute i) ≡ None → cell_at s.cells i ≡ Some c → c.passenger ≡ Some p → IsTrue (computes (kind p))
execute_computes away plan s i c p a e h f =
    let bars : execute_bar_without away plan c i ≡ None = rw h at e in
    let tests : first (rule_holds away ExecuteDead && p.dead) Dead (first p.done AlreadyDone
    (first (not (unit_at plan (kind p) i)) NoUnit (source_bar_under (rule_holds away ExecuteSourceMissing) p None))) ≡ None = rw f at bars in
    equipped-unit plan (kind p) i a (has_unit (unit_at plan (kind p) i)
    (last_fails (rule_holds away ExecuteDead && p.dead) p.done (not (unit_at plan (kind p) i)) Dead AlreadyDone NoUnit _ tests).0)

answered_or_computes : (away : Option Rule) (plan : Plan) (p : Passenger) (k : ℕ) (op : Op) → IsEquipped plan → siding_of plan (kind p) ≡ Some k →
    (rule_holds away RecoverNotDone && (is_memory (kind p) && not (is_some op.answer))) ≡ false →
    IfNone (answer_without away p op) (IsTrue (computes (kind p)))
answered_or_computes away plan p k op a h e = go (rule_holds away RecoverNotDone) (is_memory (kind p)) refl op.answer e where
  go : (keeps memory : Bool) → memory ≡ is_memory (kind p) → (o : Option ℕ) → (keeps && (memory && not (is_some o))) ≡ false →
      IfNone (if keeps || not memory then o else Some (on o 0 (λ v. v))) (IsTrue (computes (kind p)))
  go true true m None e = absurd (cc)
  go true true m (Some v) e = tt
  go true false m o e = given o where
    given : (o : Option ℕ) → IfNone o (IsTrue (computes (kind p)))
    given None = equipped-siding plan (kind p) k a h (sym m)
    given (Some v) = tt
  go false true m o e = tt
  go false false m None e = equipped-siding plan (kind p) k a h (sym m)
  go false false m (Some v) e = tt

-- an instruction that takes its operation back has an answer, or is one that computes
pub recover_computes : (away : Option Rule) (plan : Plan) (s : State) (i : ℕ) (c : Cell) (p : Passenger) (k : ℕ) (op : Op) → IsEquipped plan →
    row_bar_without away plan s (Recover i) ≡ None → cell_at s.cells i ≡ Some c → c.passenger ≡ Some p →
    siding_of plan (kind p) ≡ Some k → last_op (siding_at s k) ≡ Some op →
    IfNone (answer_without away p op) (IsTrue (computes (kind p)))
recover_computes away plan s i c p k op a e h f g o =
    let bars : recover_bar_without away plan s c i ≡ None = rw h at e in
    let rows : first (not (recovers plan (kind p) i)) NoUnit (first (not p.launched || p.recovered) AlreadyDone (exit_op_bar_without away plan s p)) ≡ None =
    rw f at bars in
    let last : exit_op_bar_without away plan s p ≡ None = rest_of (not (recovers plan (kind p) i)) (not p.launched || p.recovered) NoUnit AlreadyDone _ rows in
    let inside : on (last_op (siding_at s k)) (Some OpNotThere) (λ op. first (rule_holds away RecoverNotDone && (is_memory (kind p) && not (is_some op.answer)))
    NotDone None) ≡ None = rw g at last in
    answered_or_computes away plan p k op a g (test_fails _ NotDone (rw o at inside))

pub ruleset allowing = (issue_room, execute_computes, recover_computes)

-- a move that is allowed has no bar in its row
pub row_allowed : (away : Option Rule) (plan : Plan) (s : State) (mv : Move) → bar_without away plan s mv ≡ None → row_bar_without away plan s mv ≡ None
unfolding bar_without
row_allowed away plan s mv e = rest_of (is_some s.ending) s.failed Halted Failed (row_bar_without away plan s mv) e

pub ruleset rows = (row_allowed)
