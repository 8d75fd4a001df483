use Rattle.cf_io.proofs.PutLoop.{rest-from}
use Rattle.cf_report.proofs.Keeping.{passing-more, passing-same}
use Rattle.cf_report.proofs.gathered.put_rest.Goals as goal

pub loop-done-preserved : goal.loop-done-preserved
loop-done-preserved g c =
    passing-more _ _ _ _ _ _ _ _ _ _ c.loop-done.invariant (rw rest-from at c.in-Ok.ensures.bytes.count) (rw rest-from at c.in-Ok.ensures.bytes.told)
    c.in-Ok.ensures.cause.still

pub returns-in-Err-clause-written : goal.returns-in-Err-clause-written
returns-in-Err-clause-written g c =
    passing-same _ _ (g.K.Sink.written c.put.new.self) _ _ _ _ _ c.loop-done.invariant c.in-Err.ensures.bytes.unchanged
