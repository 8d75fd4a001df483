-- Which of the tests of a wrong list of moves is the first to hold, under the table without a rule.
use Rattle.std.specs.Prelude.{List, Option, Some, None}
use Rattle.rv_machine.specs.Machine.{Machine}
use Rattle.cf_layout.specs.Layout.{Plan}
use Rattle.cf_bind.specs.declared.moves.Move.{Move}
use Rattle.cf_semantics.specs.state.Layouts.{isa_of}
use Rattle.cf_semantics.specs.state.State.{State}
use Rattle.theory_orders.specs.Wrong.{RetiresWrongly, EndsWrongly, ServesWrongly, IsStuckWrongly, RestsWrongly}
use Rattle.order_rules.specs.declared.rule.Rule.{Rule}
use Rattle.order_model.specs.RuleMoves.{next_without}
use Rattle.order_model.specs.Situations.{lone_moment}
use Rattle.order_judging.specs.declared.judging.FailedTest.{FailedTest}
use Rattle.order_judging.specs.declared.judging.FailedTest.TheVariants as kind
use Rattle.order_judging.specs.Judgements.{lines_without}

-- the state after the move, when nothing is left of the input
abbrev pub state_reached : Option Rule → Plan → State → Move → State
state_reached away plan s mv = (next_without away plan (lone_moment s) mv).state

-- of the three tests of a move, this is the first to hold, or none holds
abbrev pub IsFirstOfMove : Type 0 → Type 0 → Type 0 → Option FailedTest → Type 0
IsFirstOfMove Retires Ends Serves None = (Retires → ⊥) × (Ends → ⊥) × (Serves → ⊥)
IsFirstOfMove Retires Ends Serves (Some kind.Retired) = Retires
IsFirstOfMove Retires Ends Serves (Some kind.Ended) = (Retires → ⊥) × Ends
IsFirstOfMove Retires Ends Serves (Some kind.Output) = (Retires → ⊥) × (Ends → ⊥) × Serves
IsFirstOfMove Retires Ends Serves (Some kind.Stuck) = ⊥
IsFirstOfMove Retires Ends Serves (Some kind.Memory) = ⊥

-- of the two tests of a state, this is the first to hold, or neither holds
abbrev pub IsFirstOfState : Type 0 → Type 0 → Option FailedTest → Type 0
IsFirstOfState Stuck Rests None = (Stuck → ⊥) × (Rests → ⊥)
IsFirstOfState Stuck Rests (Some kind.Stuck) = Stuck
IsFirstOfState Stuck Rests (Some kind.Memory) = (Stuck → ⊥) × Rests
IsFirstOfState Stuck Rests (Some kind.Retired) = ⊥
IsFirstOfState Stuck Rests (Some kind.Ended) = ⊥
IsFirstOfState Stuck Rests (Some kind.Output) = ⊥

-- the test of a move that is the first to hold, where the machine x is as far as the state s
abbrev pub IsMoveJudged : Option Rule → Plan → Machine → State → Move → Option FailedTest → Type 0
IsMoveJudged away plan x s mv found = IsFirstOfMove (RetiresWrongly (isa_of plan) x (lines_without away plan s mv))
    (EndsWrongly (isa_of plan) x (state_reached away plan s mv)) (ServesWrongly plan x (lone_moment s) mv) found

-- the test of a state that is the first to hold, from which these moves lead on, where the machine x is as far
abbrev pub IsStateJudged : Machine → List Move → State → Option FailedTest → Type 0
IsStateJudged x moves s found = IsFirstOfState (IsStuckWrongly moves s) (RestsWrongly x s) found
