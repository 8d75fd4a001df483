use Rattle.rv_machine.proofs.Calls.{writes-bad-file, writes-nothing, writes-nowhere, writes-some, writes-fault, writes-asking}
use Rattle.rv_machine.proofs.serving.write.Goals as goal

pub returns-then-not-is_output-clause-serves : goal.returns-then-not-is_output-clause-serves
returns-then-not-is_output-clause-serves g c = writes-bad-file _ _ _ c.requires (cc)

pub returns-then-len-eq0-clause-serves : goal.returns-then-len-eq0-clause-serves
returns-then-len-eq0-clause-serves g c = writes-nothing _ _ _ c.requires (cc) c.if-len-eq0.true

pub returns-in-Ok-clause-serves : goal.returns-in-Ok-clause-serves
returns-in-Ok-clause-serves g c =
    writes-some _ _ _ _ _ c.requires (cc) c.if-len-eq0.false c.in-Some.ensures.bytes c.in-Ok.ensures.all

pub returns-in-Err-clause-serves : goal.returns-in-Err-clause-serves
returns-in-Err-clause-serves g c =
    writes-fault _ _ _ _ _ _ c.requires (cc) c.if-len-eq0.false c.in-Some.ensures.bytes
    c.in-Err.ensures.front

pub returns-in-None-clause-serves : goal.returns-in-None-clause-serves
returns-in-None-clause-serves g c =
    writes-nowhere _ _ _ c.requires (cc) c.if-len-eq0.false c.in-None.ensures.none

pub returns-in-Ok-clause-asked : goal.returns-in-Ok-clause-asked
returns-in-Ok-clause-asked g c =
    writes-asking _ _ _ c.requires (cc) c.if-len-eq0.false c.in-Some.ensures.bytes

pub returns-in-Err-clause-asked : goal.returns-in-Err-clause-asked
returns-in-Err-clause-asked g c =
    writes-asking _ _ _ c.requires (cc) c.if-len-eq0.false c.in-Some.ensures.bytes
