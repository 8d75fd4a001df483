-- The words are as they were, since no result came to a stage from which an operation can be launched.
use Rattle.std.proofs.Common.{subst, sym}
use Rattle.cf_core.specs.Falling.{BarNoLaunch, FallsTo}
use Rattle.cf_core.specs.Processors.{Processor}
use Rattle.cf_core.proofs.FallMarks.{fallen-facts, fallen-marks, falls-to}
use Rattle.cf_core.proofs.counterflow.Core.fall_on.Goals as goal

pub invariant_of-self : goal.invariant_of-self
invariant_of-self c = (
  fallen-facts c.self.inside.processor c.fall_on.new.self _ _ _ c.self.invariant.0 c.fall_on.ensures.falls c.fall_on.ensures.processor,
  fallen-marks c.self.inside.processor c.fall_on.new.self c.self.inside.marks _ _ _
      (subst (λ (p : Processor). BarNoLaunch p.plan p.state) (sym c.self.view_is) c.requires.quiet) c.fall_on.ensures.falls
      c.fall_on.ensures.processor c.self.invariant.1,
)

pub returns : goal.returns
returns c =
    subst (λ (p : Processor). FallsTo p c.fall_on.new.self c.args.left c.fall_on.result.count c.fall_on.result.last) c.self.view_is
    (falls-to c.self.inside.processor c.fall_on.new.self _ _ _ c.fall_on.ensures.falls c.fall_on.ensures.processor)
