-- Which moves can be made in a state, and what bars each of the others (a format of this project).
use Rattle.std.specs.Prelude.{ℕ, suc, List, [], ◌∷◌, ◌++◌, map, codes, Option, Some, None}
use Rattle.std.specs.List.{flat_map}
use Rattle.cf_layout.specs.Layout.{SidingPlan, Plan}
use Rattle.cf_bind.specs.declared.passenger.Guess.TheVariants as guess
use Rattle.cf_bind.specs.declared.moves.Bar.{Bar}
use Rattle.cf_bind.specs.declared.moves.Move.{Move}
use Rattle.cf_bind.specs.declared.moves.Move.TheVariants.{Issue, Emit, Climb, Fall, Meet, Execute, Send, Launch, Slide, Access, Recover, Leave, Exit, Serve}
use Rattle.cf_bind.specs.MoveTexts.{move_line}
use Rattle.cf_semantics.specs.moves.Bars.{bar as first_bar}
use Rattle.cf_semantics.specs.moves.Candidates.{counted_from, at_stages}
use Rattle.cf_semantics.specs.state.State.{State}
use Rattle.report_refusals.specs.Bars.{bar_text}

-- the moves from each cell of a siding, also from the last one, which leads nowhere
abbrev pub cell_moves : ℕ → ℕ → List Move
cell_moves siding cells = map (Slide siding) (counted_from 0 cells)

-- the moves of the sidings from number k on
abbrev pub siding_moves : ℕ → List SidingPlan → List Move
siding_moves k [] = []
siding_moves k (siding ∷ sidings) = cell_moves k siding.cells ++ siding_moves (suc k) sidings

-- all moves except an issue with an address, in their order: at each stage, and at each cell of each siding
unfoldable pub every_move : Plan → List Move
every_move plan =
    Issue guess.Next ∷ Issue guess.Taken ∷ Issue guess.Wait ∷ Emit ∷
    at_stages plan Climb ++ at_stages plan Fall ++ at_stages plan Meet ++ at_stages plan Execute
    ++ at_stages plan Send ++ at_stages plan Launch ++ siding_moves 0 plan.sidings
    ++ (Access ∷ at_stages plan Recover) ++ Leave ∷ Exit ∷ Serve ∷ []

-- a move between two texts
abbrev pub between : List ℕ → Move → List ℕ → List ℕ
between before mv after = before ++ (move_line mv ++ after)

-- the line of a move that nothing bars, or that has this first bar
unfoldable pub standing_line : Option Bar → Move → List ℕ
standing_line None mv = between (codes "allowed ") mv (codes "\n")
standing_line (Some bar) mv = between (codes "barred ") mv (codes " " ++ bar_text bar ++ codes "\n")

-- the line of a move in a state
abbrev pub line_in : Plan → State → Move → List ℕ
line_in plan s mv = standing_line (first_bar plan s mv) mv

-- the lines of all moves
unfoldable pub moves_text : Plan → State → List ℕ
moves_text plan s = flat_map (line_in plan s) (every_move plan)
