-- The siding in the table is that of the class of the instruction.
use Rattle.std.proofs.Common.{subst}
use Rattle.rv_inst.specs.declared.classes.Class.{Class}
use Rattle.cf_core.specs.Stations.{AreSidingStages}
use Rattle.cf_core.proofs.Tabled.{found-site}
use Rattle.cf_core.proofs.processor.Processor.recovers_there.Goals as goal

pub recovers-requires-clause-site : goal.recovers-requires-clause-site
recovers-requires-clause-site c =
    subst (λ (k : Class). AreSidingStages c.args.self.now.plan k c.in-Some-siding.site) c.kind-class.ensures
    (found-site c.args.self.now.plan c.kind-class.result c.station.result.now c.in-Some-siding.site c.station.ensures c.in-Some-siding.is)
