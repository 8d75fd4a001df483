-- The words are brought up to date as after a lift into the stage above, or are unchanged.
use Rattle.std.proofs.Common.{◌∙◌, arith, sym}
use Rattle.cf_core.proofs.Lifts.{climb-stage}
use Rattle.cf_core.proofs.Made.{facts-after}
use Rattle.cf_core.proofs.OneClimb.{class-one, climb-marks, climb-stays, climbed-one}
use Rattle.cf_core.proofs.Sites.{climb-fits}
use Rattle.cf_core.proofs.moves.KeptServe.{unbarred}
use Rattle.cf_core.proofs.processor.Processor.make_climb.Goals as goal

pub work_at-work-requires : goal.work_at-work-requires
work_at-work-requires c = (climb-stage c.args.self.now c.args.i c.requires.facts c.requires.allowed).2

pub climb-requires : goal.climb-requires
climb-requires c = unbarred c.args.self.now.plan c.args.self.now.state _ c.requires.allowed

pub overflow_add-i : goal.overflow_add-i
overflow_add-i c =
    let fits = climb-fits c.args.self.now.plan c.args.self.now.state c.args.i c.requires.facts (unbarred _ _ _ c.requires.allowed) in
    omega (arith, fits)

pub remark_climb-requires-clause-facts : goal.remark_climb-requires-clause-facts
remark_climb-requires-clause-facts c =
    facts-after c.args.self.now c.climb.new.self _ c.requires.facts (unbarred _ _ _ c.requires.allowed) c.climb.ensures

pub remark_climb-requires-clause-climbed : goal.remark_climb-requires-clause-climbed
remark_climb-requires-clause-climbed c =
    climbed-one c.args.self.now c.climb.new.self c.args.marks.now c.args.i c.requires.facts c.requires.allowed c.climb.ensures c.requires.marks

pub remark_climb-requires-clause-class : goal.remark_climb-requires-clause-class
remark_climb-requires-clause-class c =
    class-one c.args.self.now c.climb.new.self c.args.i c.in-Some.class c.requires.facts c.requires.allowed c.climb.ensures
    (sym c.in-Some.is ∙ c.work_at-work.ensures)

pub returns-in-Some-clause-marks : goal.returns-in-Some-clause-marks
returns-in-Some-clause-marks c =
    c.remark_climb.ensures ∙ climb-marks c.args.self.now c.climb.new.self c.args.marks.now c.args.i c.requires.facts c.requires.allowed c.climb.ensures
    c.requires.marks

pub returns-in-None-clause-marks : goal.returns-in-None-clause-marks
returns-in-None-clause-marks c =
    climb-stays c.args.self.now c.climb.new.self c.args.marks.now c.args.i c.requires.facts c.requires.allowed
    (sym c.in-None.is ∙ c.work_at-work.ensures) c.climb.ensures c.requires.marks
