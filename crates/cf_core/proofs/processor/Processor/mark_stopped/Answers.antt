-- No unit executes an instruction of a class with a siding.
use Rattle.std.proofs.Common.{subst}
use Rattle.rv_inst.specs.declared.classes.Class.{Class}
use Rattle.cf_core.specs.Stations.{AreSidingStages}
use Rattle.cf_core.proofs.ClimbMarks.{stopped-marks}
use Rattle.cf_core.proofs.Readied.{execute-none}
use Rattle.cf_core.proofs.processor.Processor.mark_stopped.Goals as goal

pub recovers-requires-clause-site : goal.recovers-requires-clause-site
recovers-requires-clause-site c = subst (λ (k : Class). AreSidingStages c.args.self.now.plan k c.args.site) c.requires.stands.3 c.requires.site

pub returns : goal.returns
returns c =
    let execute = execute-none c.args.self.now.plan c.args.self.now.state c.args.j c.args.site.number c.args.passenger.now c.requires.facts.accepted
    c.requires.stands.2 c.requires.stands.4 in
    stopped-marks c.args.self.now.plan c.args.self.now.state c.args.marks.now c.args.i c.args.j c.laid-marks.result c.with_bit-marks.result
    c.laid-marks-2.result c.laid-marks-3.result c.launches.result c.recovers.result c.requires.climbed c.requires.stops execute
    c.launches.ensures c.recovers.ensures c.laid-marks.ensures c.with_bit-marks.ensures c.laid-marks-2.ensures c.laid-marks-3.ensures
