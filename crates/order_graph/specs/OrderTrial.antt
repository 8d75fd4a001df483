-- What is searched: all lists of moves from the start, in the table without a rule, with at most this many Issue moves.
use Rattle.std.specs.Prelude.{ℕ, List, Option}
use Rattle.rv_machine.specs.Machine.{Machine}
use Rattle.cf_layout.specs.Layout.{Plan}
use Rattle.cf_bind.specs.declared.moves.Move.{Move}
use Rattle.cf_semantics.specs.claims.Weight.{issues}
use Rattle.cf_semantics.specs.runs.Runs.{start}
use Rattle.cf_semantics.specs.state.State.{State, Moment}
use Rattle.order_rules.specs.declared.rule.Rule.{Rule}
use Rattle.order_model.specs.RuleMoves.{next_without}
use Rattle.order_claims.specs.declared.wrong_kind.WrongKind.{WrongKind}
use Rattle.order_claims.specs.MoveLists.{moves_on, moment_after_without, IsOrder}
use Rattle.order_claims.specs.WrongLists.{IsWrongOrder}

-- the rule that is taken away, if any; the layout; the sequential machine at its start; and the maximum number of Issue
-- moves
pub record OrderTrial : Type 0 where
  pub away : Option Rule
  pub plan : Plan
  pub machine : Machine
  pub most : ℕ

-- the moment at which all lists of moves begin
abbrev pub first_moment : OrderTrial → Moment
first_moment t = start t.plan t.machine

-- the moves that lead on from a state, after this many Issue moves
abbrev pub leads_on : OrderTrial → State → ℕ → List Move
leads_on t s issued = moves_on t.away t.plan t.most s issued

-- the moment after a move
abbrev pub moment_next : OrderTrial → Moment → Move → Moment
moment_next t m mv = next_without t.away t.plan m mv

-- each move of the list leads on from the state in which it is made
abbrev pub IsTrialOrder : OrderTrial → List Move → Type 0
IsTrialOrder t moves = IsOrder t.away t.plan t.most (first_moment t) 0 moves

-- and at its last move it is wrong in this way
abbrev pub IsWrongOrderOf : OrderTrial → List Move → WrongKind → Type 0
IsWrongOrderOf t moves kind = IsWrongOrder t.away t.plan t.most t.machine (first_moment t) moves kind

-- a state, with the number of Issue moves that led to it
pub record IssuedState : Type 0 where
  pub state : State
  pub issued : ℕ

-- the state after a list of moves
unfoldable pub reached_by : OrderTrial → List Move → IssuedState
reached_by t moves = record { state = (moment_after_without t.away t.plan (first_moment t) moves).state; issued = issues moves }
