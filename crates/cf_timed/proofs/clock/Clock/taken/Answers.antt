use Rattle.std.proofs.Common.{Option, subst}
use Rattle.std.specs.Prelude.{IfSome}
use Rattle.cf_timed.specs.Clocks.{clocked}
use Rattle.cf_timed.specs.Soonest.{IsFirstDue}
use Rattle.cf_timed.specs.declared.soonest.Due.{Due}
use Rattle.cf_timed.proofs.DueMoves.{left_first}
use Rattle.cf_timed.proofs.clock.Clock.taken.Goals as goal

pub returns-in-Some-clause-left : goal.returns-in-Some-clause-left
returns-in-Some-clause-left c =
    left_first c.args.core.now.plan (clocked c.args.self.now c.args.core.now.state) c.args.kept.now _ c.in-Some.due c.requires.due
    (subst (λ (o : Option Due). IfSome o (λ due. IsFirstDue (clocked c.args.self.now c.args.core.now.state) c.args.kept.now due)) c.in-Some.is
    c.requires.first) c.skip.ensures
