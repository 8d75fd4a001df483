-- The words are brought up to date at the stage that the instruction left and at the one that it came to, or are unchanged.
use Rattle.std.proofs.Common.{◌≡◌, ◌∙◌, None, subst, sym}
use Rattle.cf_bind.specs.declared.moves.Move.TheVariants.{Climb}
use Rattle.cf_semantics.specs.moves.Bars.{bar}
use Rattle.cf_core.specs.Processors.{Processor}
use Rattle.cf_core.proofs.ClimbMarks.{class-there, has-climbed, spent-there}
use Rattle.cf_core.proofs.LiftedMarks.{climbed-facts, lifted-marks, lifted-same}
use Rattle.cf_core.proofs.Lifts.{climb-stage}
use Rattle.cf_core.proofs.counterflow.Core.climb_on.Goals as goal

pub work_at-work-requires : goal.work_at-work-requires
work_at-work-requires c =
    let free = subst (λ (p : Processor). bar p.plan p.state (Climb c.args.i) ≡ None) (sym c.self.view_is) c.requires in
    (climb-stage c.self.inside.processor c.args.i c.self.invariant.0 free).2

pub remark_climb-requires-clause-facts : goal.remark_climb-requires-clause-facts
remark_climb-requires-clause-facts c =
    climbed-facts c.self.inside.processor c.climb_on-to.new.self c.args.i _ c.self.invariant.0 c.climb_on-to.ensures.processor

pub remark_climb-requires-clause-climbed : goal.remark_climb-requires-clause-climbed
remark_climb-requires-clause-climbed c =
    let free = subst (λ (p : Processor). bar p.plan p.state (Climb c.args.i) ≡ None) (sym c.self.view_is) c.requires in
    has-climbed c.self.inside.processor c.climb_on-to.new.self c.self.inside.marks c.args.i c.climb_on-to.result c.self.invariant.0 free
    c.climb_on-to.ensures.climbs.higher c.climb_on-to.ensures.within c.climb_on-to.ensures.room c.climb_on-to.ensures.cells c.self.invariant.1

pub remark_climb-requires-clause-class : goal.remark_climb-requires-clause-class
remark_climb-requires-clause-class c =
    let free = subst (λ (p : Processor). bar p.plan p.state (Climb c.args.i) ≡ None) (sym c.self.view_is) c.requires in
    class-there c.self.inside.processor c.climb_on-to.new.self c.args.i c.climb_on-to.result c.in-Some.class c.self.invariant.0 free
    c.climb_on-to.ensures.climbs.higher c.climb_on-to.ensures.within c.climb_on-to.ensures.cells (sym c.in-Some.is ∙ c.work_at-work.ensures)

pub invariant_of-self-in-None : goal.invariant_of-self-in-None
invariant_of-self-in-None c =
    let free = subst (λ (p : Processor). bar p.plan p.state (Climb c.args.i) ≡ None) (sym c.self.view_is) c.requires in (
      climbed-facts c.self.inside.processor c.climb_on-to.new.self c.args.i _ c.self.invariant.0 c.climb_on-to.ensures.processor,
      lifted-same c.self.inside.processor c.climb_on-to.new.self c.self.inside.marks c.args.i c.climb_on-to.result c.self.invariant.0
          c.climb_on-to.ensures.above c.climb_on-to.ensures.climbs c.climb_on-to.ensures.within c.climb_on-to.ensures.room c.climb_on-to.ensures.cells
          (spent-there c.self.inside.processor c.args.i c.self.invariant.0 free (sym c.in-None.is ∙ c.work_at-work.ensures)) c.self.invariant.1,
    )

pub invariant_of-self : goal.invariant_of-self
invariant_of-self c = (
  climbed-facts c.self.inside.processor c.climb_on-to.new.self c.args.i _ c.self.invariant.0 c.climb_on-to.ensures.processor,
  c.remark_climb.ensures ∙ lifted-marks c.self.inside.processor c.climb_on-to.new.self c.self.inside.marks c.args.i c.climb_on-to.result
      c.self.invariant.0 c.climb_on-to.ensures.above c.climb_on-to.ensures.climbs c.climb_on-to.ensures.within c.climb_on-to.ensures.cells c.self.invariant.1,
)
