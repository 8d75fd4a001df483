use Rattle.rv_machine.proofs.Acting.{acts-synchronizing, acts-calling}
use Rattle.rv_machine.proofs.machine.Machine.serial.Goals as goal

pub returns-then-synchronizes-clause-acts : goal.returns-then-synchronizes-clause-acts
returns-then-synchronizes-clause-acts g c =
    acts-synchronizing c.args.word c.args.i _ _ _ _ (cc) c.synchronize.ensures.does

pub returns-else-synchronizes-clause-acts : goal.returns-else-synchronizes-clause-acts
returns-else-synchronizes-clause-acts g c =
    acts-calling c.args.word c.args.i _ _ _ _ _ (cc) (cc) c.call_environment.ensures.acts
