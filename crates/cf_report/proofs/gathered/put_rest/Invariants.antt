use Rattle.std.proofs.Common.{length, ◌-◌}
use Rattle.cf_report.proofs.Keeping.{IsPassing}
use Rattle.cf_report.proofs.gathered.put_rest.Given as goal

abbrev pub invariant-loop-done : goal.invariant-loop-done
invariant-loop-done g l =
    IsPassing (g.K.Sink.written l.initial.sink) (g.K.Sink.written l.sink) l.bytes l.initial.start l.done
    (g.K.Sink.faults l.initial.sink) (g.K.Sink.faults l.sink)

abbrev pub decreases-loop-done : goal.decreases-loop-done
decreases-loop-done g l = length l.bytes - l.done
