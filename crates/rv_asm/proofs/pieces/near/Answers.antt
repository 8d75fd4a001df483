use Rattle.std.proofs.Common.{sym}
use Rattle.rv_asm.proofs.Fitting.{aimed-fits}
use Rattle.rv_asm.proofs.pieces.near.Goals as goal

pub returns-in-Ok-clause-fits : goal.returns-in-Ok-clause-fits
returns-in-Ok-clause-fits c =
    aimed-fits c.args.jump _ c.in-Ok.instr (sym c.in-Ok.ensures) c.requires
