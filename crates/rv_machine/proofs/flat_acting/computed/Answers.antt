use Rattle.rv_machine.specs.Quick.{spot_address}
use Rattle.rv_machine.proofs.Quick.{compute-straight}
use Rattle.rv_machine.proofs.flat_acting.computed.Goals as goal

pub returns-clause-goes : goal.returns-clause-goes
returns-clause-goes c =
    rw (c.set_register.ensures.value, c.dest.ensures.exact, c.value.ensures, c.pc.ensures, c.source_values-a.ensures.first, c.source_values-a.ensures.second)
    (compute-straight c.args.i (spot_address c.args.spot) c.args.regs.now c.args.mem.now c.requires.straight c.requires.aligned)
