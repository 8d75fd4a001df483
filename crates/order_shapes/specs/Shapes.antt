-- The shape of a state: as many stages, sidings and cells as in the layout, and all its instructions can be encoded.
use Rattle.std.specs.Prelude.{◌≡◌, List, All, length, map, Option, IfSome}
use Rattle.rv_inst.specs.Ranges.{Fits}
use Rattle.rv_machine.specs.Machine.{Machine}
use Rattle.cf_layout.specs.Layout.{Plan}
use Rattle.cf_bind.specs.declared.cell.Cell.{Cell}
use Rattle.cf_bind.specs.declared.cell.Op.{Op}
use Rattle.cf_bind.specs.declared.moves.Move.{Move}
use Rattle.cf_bind.specs.declared.passenger.Passenger.{Passenger}
use Rattle.cf_semantics.specs.runs.Runs.{start}
use Rattle.cf_semantics.specs.state.State.{State}
use Rattle.order_rules.specs.declared.rule.Rule.{Rule}
use Rattle.order_model.specs.RuleMoves.{retires_without}
use Rattle.order_claims.specs.MoveLists.{moment_after_without}

-- the fields of the instruction, if there is one, are in range
abbrev pub IsEncodable : Passenger → Type 0
IsEncodable p = IfSome p.what (λ i. Fits i)

-- the same for the instruction in a stage, if there is one
abbrev pub HoldsEncodable : Cell → Type 0
HoldsEncodable c = IfSome c.passenger IsEncodable

-- these stages and sidings have the shape of the layout
pub record AreShaped (plan : Plan) (cells : List Cell) (sidings : List (List (Option Op))) : Type 0 where
  pub stages : length cells ≡ plan.stages
  pub as_long : map length sidings ≡ map (λ siding. siding.cells) plan.sidings
  pub riders : All HoldsEncodable cells

-- the same for those of the state
abbrev pub IsShaped : Plan → State → Type 0
IsShaped plan s = AreShaped plan s.cells s.sidings

-- each list of moves leads to such a state
abbrev pub KeepsShape : Type 0
KeepsShape = (away : Option Rule) (plan : Plan) (x : Machine) (moves : List Move) → IsShaped plan (moment_after_without away plan (start plan x) moves).state

-- what retires from such a state can be encoded
abbrev pub RetiresEncodable : Type 0
RetiresEncodable = (away : Option Rule) (plan : Plan) (s : State) (mv : Move) → IsShaped plan s →
    IfSome (retires_without away plan s mv) (λ line. Fits line.what)
