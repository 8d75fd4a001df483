-- Runs: lists of moves, each allowed at the moment at which it is made.
use Rattle.std.specs.Prelude.{◌≡◌, List, [], ◌∷◌, replicate, map, Option, None, false}
use Rattle.rv_machine.specs.Machine.{Machine}
use Rattle.cf_layout.specs.Layout.{SidingPlan, Plan}
use Rattle.cf_bind.specs.declared.cell.Cell.{Cell}
use Rattle.cf_bind.specs.declared.cell.Op.{Op}
use Rattle.cf_bind.specs.declared.packet.Fetch.TheVariants.{Running}
use Rattle.cf_bind.specs.declared.moves.Move.{Move}
use Rattle.cf_semantics.specs.state.State.{State, Moment}
use Rattle.cf_semantics.specs.moves.Bars.{bar}
use Rattle.cf_semantics.specs.moves.Moves.{next}

abbrev pub empty_cell : Cell
empty_cell = record { passenger = None; packet = None; met = false }

-- a siding without operations
abbrev pub empty_siding : SidingPlan → List (Option Op)
empty_siding siding = replicate siding.cells None

-- the state in which a processor of this layout starts on the machine: nothing is in the pipes, and fetch runs at the
-- machine's address
unfoldable pub opened : Plan → Machine → State
opened plan m = record {
  cells = replicate plan.stages empty_cell;
  sidings = map empty_siding plan.sidings;
  lane = [];
  fetch = Running m.hart.pc;
  cache = replicate 32 None;
  regs = m.hart.regs;
  mem = m.hart.mem;
  retired = m.hart.retired;
  ending = None;
  failed = false;
}

-- its moment: that state, with the machine's input and output so far
abbrev pub start : Plan → Machine → Moment
start plan m = record { state = opened plan m; rest = m.rest; output = m.output }

-- each move is allowed when it is made
unfoldable pub IsRun : Plan → Moment → List Move → Type 0
IsRun plan m [] = Unit {0}
IsRun plan m (mv ∷ moves) = (bar plan m.state mv ≡ None) × IsRun plan (next plan m mv) moves

-- the moment after the moves
unfoldable pub run : Plan → Moment → List Move → Moment
run plan m [] = m
run plan m (mv ∷ moves) = run plan (next plan m mv) moves

-- the moment is one of a run of the machine
pub record IsReached (plan : Plan) (x : Machine) (m : Moment) : Type 0 where
  pub moves : List Move
  pub allowed : IsRun plan (start plan x) moves
  pub is : m ≡ run plan (start plan x) moves
