-- A processor with other contents, and when old contents can be put back into it.
use Rattle.std.specs.Prelude.{◌≡◌, ℕ, ◌<◌, ◌≤◌, List, Option, Some, None, IfSome, length, map, slice_get, slice_index_or}
use Rattle.mem_regions.specs.Memory.{Memory}
use Rattle.cf_bind.specs.declared.cell.Cell.{Cell}
use Rattle.cf_bind.specs.declared.cell.Op.{Op}
use Rattle.cf_passengers.specs.Facts.{IsWritable}
use Rattle.cf_stages.specs.Changes.{IsCell}
use Rattle.cf_core.specs.Processors.{Processor, in_state}
use Rattle.cf_core.specs.declared.undo.Few.{Few}
use Rattle.cf_core.specs.declared.undo.Few.TheVariants.{Nothing, One, Two}
use Rattle.cf_core.specs.declared.undo.OldCell.{OldCell}
use Rattle.cf_core.specs.declared.undo.OldLane.{OldLane}
use Rattle.cf_core.specs.declared.undo.OldLane.TheVariants.{Same, Taken, Added}
use Rattle.cf_core.specs.declared.undo.OldOp.{OldOp}
use Rattle.cf_core.specs.declared.undo.Undo.{Undo}

-- the processor with other contents of one part
abbrev pub with_cells : Processor → List Cell → Processor
with_cells p cells = in_state p (record p.state { cells = cells })

abbrev pub with_sidings : Processor → List (List (Option Op)) → Processor
with_sidings p sidings = in_state p (record p.state { sidings = sidings })

abbrev pub with_lane : Processor → List ℕ → Processor
with_lane p lane = in_state p (record p.state { lane = lane })

abbrev pub with_registers : Processor → List ℕ → Processor
with_registers p regs = in_state p (record p.state { regs = regs })

abbrev pub with_memory : Processor → Memory → Processor
with_memory p mem = in_state p (record p.state { mem = mem })

-- this holds of each of the few
abbrev pub Each : {A : Type 0} → (A → Type 0) → Few A → Type 0
Each P Nothing = Unit {0}
Each P (One a) = P a
Each P (Two a b) = P a × P b

-- the old contents of a stage that exists
pub record IsOldCell (count : ℕ) (c : OldCell) : Type 0 where
  pub above : 0 < c.stage
  pub within : c.stage ≤ count
  pub met : IsCell c.cell

-- the old contents of a cell, if the sidings have these numbers of cells
pub record IsOldOp (sizes : List ℕ) (o : OldOp) : Type 0 where
  pub siding : o.siding < length sizes
  pub place : o.place < slice_index_or sizes o.siding 0

-- a request can be put back as the first one
abbrev pub FitsLane : Processor → OldLane → Type 0
FitsLane p Same = Unit {0}
FitsLane p (Taken r) = (r < 32) × (length p.state.lane < p.plan.lane)
FitsLane p (Added n) = Unit {0}

-- all that is kept can be put back
pub record CanReturn (p : Processor) (u : Undo) : Type 0 where
  pub cells : Each (IsOldCell (length p.state.cells)) u.cells
  pub ops : Each (IsOldOp (map length p.state.sidings)) u.ops
  pub lane : FitsLane p u.lane
  pub zero : slice_get u.cache 0 ≡ Some None
  pub register : IfSome u.register (λ r. IsWritable r.reg)
