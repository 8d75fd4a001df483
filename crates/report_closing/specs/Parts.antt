-- The order of all moves, part by part.
use Rattle.std.specs.Prelude.{ℕ, List, [], ◌∷◌}
use Rattle.std.specs.List.{flat_map}
use Rattle.cf_layout.specs.Layout.{Plan}
use Rattle.cf_bind.specs.declared.moves.Move.{Move}
use Rattle.cf_bind.specs.declared.moves.Move.TheVariants.{Climb, Fall, Meet, Execute, Send, Launch, Recover}
use Rattle.cf_semantics.specs.moves.Candidates.{at_stages}
use Rattle.cf_semantics.specs.state.State.{State}
use Rattle.report_closing.specs.Moves.{siding_moves, line_in}
use Rattle.report_closing.specs.declared.parts.StageMove.{StageMove}
use Rattle.report_closing.specs.declared.parts.StageMove.TheVariants as kind
use Rattle.report_closing.specs.declared.parts.ClosingPart.{ClosingPart}
use Rattle.report_closing.specs.declared.parts.ClosingPart.TheVariants as part

-- the move of a kind at a stage
abbrev pub move_at : StageMove → ℕ → Move
move_at kind.Climb stage = Climb stage
move_at kind.Fall stage = Fall stage
move_at kind.Meet stage = Meet stage
move_at kind.Execute stage = Execute stage
move_at kind.Send stage = Send stage
move_at kind.Launch stage = Launch stage
move_at kind.Recover stage = Recover stage

-- the moves of a part
abbrev pub part_moves : Plan → ClosingPart → List Move
part_moves plan (part.One mv) = mv ∷ []
part_moves plan (part.Stages kind) = at_stages plan (move_at kind)
part_moves plan part.Slides = siding_moves 0 plan.sidings

-- the lines of some moves
abbrev pub move_lines : Plan → State → List Move → List ℕ
move_lines plan s moves = flat_map (line_in plan s) moves
