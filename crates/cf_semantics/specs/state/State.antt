-- The state of the processor: what is in the two pipes and beside them ("Counterflow Pipeline Processor Architecture",
-- 1994).
use Rattle.std.specs.Prelude.{ℕ, zero, suc, List, [], Option, None, Bool, slice_get, slice_set}
use Rattle.mem_regions.specs.Memory.{Memory}
use Rattle.cf_bind.specs.declared.cell.Cell.{Cell}
use Rattle.cf_bind.specs.declared.cell.Op.{Op}
use Rattle.cf_bind.specs.declared.packet.Fetch.{Fetch}
use Rattle.cf_bind.specs.declared.passenger.End.{End}
use Rattle.cf_semantics.specs.state.Options.{on}

-- the stages from the lowest up; the cells of each siding, beginning with the one at which operations enter; the
-- requested registers, beginning with the one to be answered next; what fetch does; for each register the value that
-- the cache at the bottom holds, if any; the register file; the memory; how many instructions have retired; how the
-- program ended; and whether the input or the output has failed
pub record State : Type 0 where
  pub cells : List Cell
  pub sidings : List (List (Option Op))
  pub lane : List ℕ
  pub fetch : Fetch
  pub cache : List (Option ℕ)
  pub regs : List ℕ
  pub mem : Memory
  pub retired : ℕ
  pub ending : Option End
  pub failed : Bool

-- a state, with the input that is left and the output that was written
pub record Moment : Type 0 where
  pub state : State
  pub rest : List ℕ
  pub output : List ℕ

-- the stage of this number; stages are counted from 1
abbrev pub cell_at : List Cell → ℕ → Option Cell
cell_at cells zero = None
cell_at cells (suc k) = slice_get cells k

-- the stages with new contents at this number
abbrev pub put_cell : List Cell → ℕ → Cell → List Cell
put_cell cells zero c = cells
put_cell cells (suc k) c = slice_set cells k c

abbrev pub with_cell : State → ℕ → Cell → State
with_cell s i c = record s { cells = put_cell s.cells i c }

-- the cells of a siding; sidings and cells are counted from 0
abbrev pub siding_at : State → ℕ → List (Option Op)
siding_at s k = on (slice_get s.sidings k) [] (λ ops. ops)

abbrev pub with_siding : State → ℕ → List (Option Op) → State
with_siding s k ops = record s { sidings = slice_set s.sidings k ops }
