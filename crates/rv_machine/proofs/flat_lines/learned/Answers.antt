use Rattle.rv_machine.proofs.Lines.{within-line, line-with, covers-with}
use Rattle.rv_machine.proofs.flat_lines.learned.Goals as goal

pub returns-clause-line : goal.returns-clause-line
returns-clause-line c =
    rw c.set_op.ensures.set
    (line-with _ _ _ _ c.set_op.ensures.length c.requires.line c.requires.covers c.requires.aligned c.ranges.pc.fits c.operation.ensures)

pub returns-clause-covers : goal.returns-clause-covers
returns-clause-covers c = covers-with c.args.line c.args.pc _ c.requires.covers

pub set_op-requires : goal.set_op-requires
set_op-requires c = within-line c.args.line c.args.pc c.requires.covers
