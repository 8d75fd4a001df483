use Rattle.rv_machine.proofs.Buffers.{fills-all, fills-some}
use Rattle.rv_machine.proofs.serving.fill.Goals as goal

pub returns-clause-ok : goal.returns-clause-ok
returns-clause-ok g c =
    fills-all _ _ _ _ _ _ _ _ c.writable.ensures.value c.writable.ensures.length
    c.take_all.auto.into c.take_all.ensures.bytes

pub returns-clause-err : goal.returns-clause-err
returns-clause-err g c =
    fills-some _ _ _ _ _ _ _ _ c.writable.ensures.value c.writable.ensures.length
    c.take_all.auto.into c.take_all.ensures.bytes
