-- The siding in the table is that of the class of the instruction.
use Rattle.std.proofs.Common.{subst}
use Rattle.rv_inst.specs.declared.classes.Class.{Class}
use Rattle.cf_core.specs.Stations.{AreSidingStages}
use Rattle.cf_core.proofs.Tabled.{found-site}
use Rattle.cf_core.proofs.processor.Processor.class_stops.Goals as goal

pub siding_stops-requires : goal.siding_stops-requires
siding_stops-requires c = record {
  site = subst (λ (k : Class). AreSidingStages c.args.self.now.plan k c.in-Some.site) c.requires
      (found-site c.args.self.now.plan c.args.class c.station-station.result.now c.in-Some.site c.station-station.ensures c.in-Some.is);
}
