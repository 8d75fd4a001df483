use Rattle.cf_index.proofs.UsedCells.{no_cell_used}
use Rattle.cf_index.proofs.sharing.cells_used.Goals as goal

pub returns-in_default : goal.returns-in_default
returns-in_default c = no_cell_used c.args.layout.now c.args.mv c.in_default.not-Launch c.in_default.not-Slide c.in_default.not-Access c.in_default.not-Recover
