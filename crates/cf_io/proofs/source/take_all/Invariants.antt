use Rattle.std.proofs.Common.{length, ◌-◌}
use Rattle.cf_io.proofs.TakeLoop.{HasTaken}
use Rattle.cf_io.proofs.source.take_all.Given as goal

abbrev pub invariant-loop-done : goal.invariant-loop-done
invariant-loop-done g l =
    HasTaken (g.S.Source.left l.initial.source) (g.S.Source.left l.source) l.initial.into l.into l.done
    (g.S.Source.faults l.initial.source) (g.S.Source.faults l.source)

abbrev pub decreases-loop-done : goal.decreases-loop-done
decreases-loop-done g l = length l.initial.into - l.done
