use Rattle.std.proofs.Common.{ap}
use Rattle.rv_inst.specs.Words.{word_sum}
use Rattle.rv_machine.specs.Hart.{Hart}
use Rattle.rv_machine.proofs.Acting.{acts-answered, acts-quitting, acts-failed-reading, acts-failed-writing}
use Rattle.rv_machine.proofs.machine.Machine.call_environment.Goals as goal

pub returns-in-Value-clause-acts : goal.returns-in-Value-clause-acts
returns-in-Value-clause-acts g c = rw (← c.self.view_is)
    (acts-answered c.args.word _ _ _ _ _ _ _ _ c.in-Value.ensures.serves
    (ap (λ (h : Hart). word_sum h.pc 4) c.retire.view_is) c.retire-in-Value.ensures.does)

pub returns-in-Exit-clause-acts : goal.returns-in-Exit-clause-acts
returns-in-Exit-clause-acts g c = rw (← c.self.view_is)
    (acts-quitting c.args.word _ _ _ _ _ c.in-Exit.ensures.serves)

pub returns-in-ReadFault-clause-acts : goal.returns-in-ReadFault-clause-acts
returns-in-ReadFault-clause-acts g c = rw (← c.self.view_is)
    (acts-failed-reading c.args.word _ _ _ _ c.in-ReadFault.ensures.serves)

pub returns-in-WriteFault-clause-acts : goal.returns-in-WriteFault-clause-acts
returns-in-WriteFault-clause-acts g c = rw (← c.self.view_is)
    (acts-failed-writing c.args.word _ _ _ _ c.in-WriteFault.ensures.serves)
