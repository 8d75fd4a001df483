use Rattle.std.proofs.Common.{sym}
use Rattle.rv_asm.proofs.Fitting.{aimed-fits}
use Rattle.rv_asm.proofs.pseudos.jumped.Goals as goal

pub returns-clause-sound : goal.returns-clause-sound
returns-clause-sound c =
    aimed-fits c.args.jump _ c.in_ok-to.field-0 (sym c.in_ok-to.ensures) c.requires
