-- What holds for all lists of moves.
use Rattle.std.specs.Prelude.{◌≡◌, ◌≤◌, ◌+◌, ℕ, List, Option, None, length, count_by}
use Rattle.rv_machine.specs.Machine.{Machine}
use Rattle.cf_layout.specs.Layout.{Plan}
use Rattle.cf_layout.specs.Accepted.{IsAccepted}
use Rattle.cf_bind.specs.declared.cell.Cell.{Cell}
use Rattle.cf_bind.specs.declared.moves.Move.{Move}
use Rattle.cf_semantics.specs.claims.Weight.{issues}
use Rattle.cf_semantics.specs.runs.Runs.{start}
use Rattle.cf_semantics.specs.state.Options.{is_some}
use Rattle.cf_semantics.specs.state.State.{Moment}
use Rattle.order_rules.specs.declared.rule.Rule.{Rule}
use Rattle.order_claims.specs.declared.wrong_kind.WrongKind.{WrongKind}
use Rattle.order_claims.specs.MoveLists.{moment_after_without, IsOrder}
use Rattle.order_claims.specs.WrongLists.{IsWrongOrder}

-- in the table itself no list of moves is wrong
abbrev pub NoneIsWrong : Type 0
NoneIsWrong = (plan : Plan) (x : Machine) (most : ℕ) (moves : List Move) (kind : WrongKind) → IsAccepted plan → length x.hart.regs ≡ 32 →
    IsWrongOrder None plan most x (start plan x) moves kind → ⊥

-- how many stages have an instruction
abbrev pub instructions_held : List Cell → ℕ
instructions_held cells = count_by (λ c. is_some c.passenger) cells

-- retired instructions and those in the stages together are at most those before plus those issued
abbrev pub RetiresWhatWasIssued : Type 0
RetiresWhatWasIssued = (away : Option Rule) (plan : Plan) (m : Moment) (moves : List Move) →
    instructions_held (moment_after_without away plan m moves).state.cells + (moment_after_without away plan m moves).state.retired
    ≤ instructions_held m.state.cells + m.state.retired + issues moves

-- from a moment on, no list of moves has more moves than some number, whichever rule is taken away
abbrev pub OrdersEnd : Type 0
OrdersEnd = (away : Option Rule) (plan : Plan) (most : ℕ) (m : Moment) →
    (bound : ℕ) × ((moves : List Move) → IsOrder away plan most m 0 moves → length moves ≤ bound)
