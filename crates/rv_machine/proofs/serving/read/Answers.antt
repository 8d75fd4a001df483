use Rattle.rv_machine.proofs.Calls.{reads-bad-file, reads-nothing, reads-nowhere, reads-some, reads-fault, reads-asking}
use Rattle.rv_machine.proofs.serving.read.Goals as goal

pub returns-then-regs-ne0-clause-serves : goal.returns-then-regs-ne0-clause-serves
returns-then-regs-ne0-clause-serves g c = reads-bad-file _ _ _ c.requires c.if-regs-ne0.true

pub returns-then-len-eq0-clause-serves : goal.returns-then-len-eq0-clause-serves
returns-then-len-eq0-clause-serves g c =
    reads-nothing _ _ _ c.requires c.if-regs-ne0.false c.if-len-eq0.true

pub returns-then-not-is_writable-clause-serves : goal.returns-then-not-is_writable-clause-serves
returns-then-not-is_writable-clause-serves g c =
    reads-nowhere _ _ _ c.requires c.if-regs-ne0.false c.if-len-eq0.false (cc)

pub returns-in-Ok-clause-serves : goal.returns-in-Ok-clause-serves
returns-in-Ok-clause-serves g c =
    reads-some _ _ _ _ _ _ c.requires c.if-regs-ne0.false c.if-len-eq0.false (cc) c.in-Ok.ensures.ok

pub returns-in-Err-clause-serves : goal.returns-in-Err-clause-serves
returns-in-Err-clause-serves g c =
    reads-fault _ _ _ _ _ _ c.requires c.if-regs-ne0.false c.if-len-eq0.false (cc) c.in-Err.ensures.err

pub returns-in-Ok-clause-asked : goal.returns-in-Ok-clause-asked
returns-in-Ok-clause-asked g c =
    reads-asking _ _ c.requires c.if-regs-ne0.false c.if-len-eq0.false (cc)

pub returns-in-Err-clause-asked : goal.returns-in-Err-clause-asked
returns-in-Err-clause-asked g c =
    reads-asking _ _ c.requires c.if-regs-ne0.false c.if-len-eq0.false (cc)
