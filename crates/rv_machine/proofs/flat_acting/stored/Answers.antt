use Rattle.rv_machine.proofs.Quick.{store-same}
use Rattle.rv_machine.proofs.flat_acting.stored.Goals as goal

pub returns-in-Ok-clause-code : goal.returns-in-Ok-clause-code
returns-in-Ok-clause-code c = rw c.in-Ok.ensures.memory (store-same _ _ _ _)

pub returns-in-Err-clause-code : goal.returns-in-Err-clause-code
returns-in-Err-clause-code c = rw c.in-Err.ensures.memory (store-same _ _ _ _)
