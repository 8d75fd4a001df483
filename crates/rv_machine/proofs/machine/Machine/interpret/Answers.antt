use Rattle.rv_machine.proofs.Acting.{acts-known, acts-unknown}
use Rattle.rv_machine.proofs.machine.Machine.interpret.Goals as goal

pub returns-in-Some-clause-acts : goal.returns-in-Some-clause-acts
returns-in-Some-clause-acts g c =
    acts-known c.args.isa c.args.word _ _ _ _ _ _ (cc) c.execute.ensures.acts

pub returns-in-None-clause-acts : goal.returns-in-None-clause-acts
returns-in-None-clause-acts g c =
    acts-unknown c.args.isa c.args.word _ _ _ (cc) c.trap.ensures
