-- That a run of moves from the start is allowed, move by move, and where it ends; or what bars the next move.
use Rattle.std.specs.Prelude.{◌≡◌, List, Some}
use Rattle.rv_machine.specs.Machine.{Machine}
use Rattle.cf_layout.specs.Layout.{Plan}
use Rattle.cf_bind.specs.declared.moves.Bar.{Bar}
use Rattle.cf_bind.specs.declared.moves.Move.{Move}
use Rattle.cf_semantics.specs.state.State.{State}
use Rattle.cf_semantics.specs.moves.Bars.{bar}
use Rattle.cf_semantics.specs.runs.Runs.{IsRun, run, start}

-- the state after the moves
abbrev pub after_moves : Plan → Machine → List Move → State
after_moves plan x moves = (run plan (start plan x) moves).state

-- each move is allowed when it is made, and the last leaves this state
pub record EndsIn (plan : Plan) (x : Machine) (moves : List Move) (s : State) : Type 0 where
  pub allowed : IsRun plan (start plan x) moves
  pub ends : after_moves plan x moves ≡ s

-- each move is allowed when it is made, and after them this bars the next one
pub record IsBarred (plan : Plan) (x : Machine) (moves : List Move) (mv : Move) (why : Bar) : Type 0 where
  pub allowed : IsRun plan (start plan x) moves
  pub barred : bar plan (after_moves plan x moves) mv ≡ Some why
