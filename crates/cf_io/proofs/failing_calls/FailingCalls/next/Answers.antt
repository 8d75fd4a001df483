use Rattle.std.proofs.Common.{arith}
use Rattle.cf_io.specs.FailingCalls.{fails_next}
use Rattle.cf_io.proofs.FailingNumbers.{none_is_past}
use Rattle.cf_io.proofs.failing_calls.FailingCalls.next.Goals as goal

pub returns-in-None-clause-answer : goal.returns-in-None-clause-answer
unfolding fails_next
returns-in-None-clause-answer c = rw (← c.self.view_is)
    (none_is_past c.self.inside.fails.items _ c.self.invariant (omega (arith, c.in-None.ensures)))
