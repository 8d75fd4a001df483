use Rattle.std.proofs.Common.{sym}
use Rattle.rv_machine.specs.Quick.{spot_address}
use Rattle.rv_machine.proofs.Quick.{load-goes}
use Rattle.rv_machine.proofs.flat_acting.loaded.Goals as goal

pub returns-in-Ok-clause-goes : goal.returns-in-Ok-clause-goes
returns-in-Ok-clause-goes c =
    rw (c.set_register.ensures.value, c.dest.ensures.exact, c.extend.ensures)
    (load-goes c.args.i (spot_address c.args.spot) c.in-Ok.raw c.args.regs.now c.args.mem.now c.access_of-access.result c.requires.load
    (rw (c.source_values-a.ensures.first, c.source_values-a.ensures.second) at c.access_of-access.ensures.access) (sym c.in-Ok.ensures.number))
