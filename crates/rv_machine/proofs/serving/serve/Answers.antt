use Rattle.std.proofs.Common.{sym}
use Rattle.rv_machine.proofs.Calls.{beside-output, beside-input, serves-exit, serves-break, serves-nothing}
use Rattle.rv_machine.proofs.serving.serve.Goals as goal

pub returns-then-number-eq63-clause-serves : goal.returns-then-number-eq63-clause-serves
returns-then-number-eq63-clause-serves g c =
    beside-output _ _ _ _ _ _ _ c.if-number-eq63.true c.read.ensures.serves

pub returns-then-number-eq64-clause-serves : goal.returns-then-number-eq64-clause-serves
returns-then-number-eq64-clause-serves g c =
    beside-input _ _ _ _ _ _ c.if-number-eq64.true c.write.ensures.serves

pub returns-then-is_exit-clause-serves : goal.returns-then-is_exit-clause-serves
returns-then-is_exit-clause-serves g c =
    serves-exit _ _ _ (sym c.if-is_exit.ensures) c.if-number-eq63.false c.if-number-eq64.false

pub returns-then-number-eq214-clause-serves : goal.returns-then-number-eq214-clause-serves
returns-then-number-eq214-clause-serves g c =
    serves-break _ _ _ _ _ c.if-number-eq214.true c.move_break.ensures.memory c.move_break.ensures.value

pub returns-else-number-eq214-clause-serves : goal.returns-else-number-eq214-clause-serves
returns-else-number-eq214-clause-serves g c =
    serves-nothing _ _ _ c.if-number-eq63.false c.if-number-eq64.false (sym c.if-is_exit.ensures)
    c.if-number-eq214.false
