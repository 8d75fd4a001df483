-- The siding in the table is that of the class of the instruction.
use Rattle.cf_core.proofs.Tabled.{found-site, stands-beside}
use Rattle.cf_core.proofs.processor.Processor.mark_rider.Goals as goal

pub mark_beside-requires-clause-site : goal.mark_beside-requires-clause-site
mark_beside-requires-clause-site c = found-site c.args.self.now.plan c.kind-class.result c.station-station.result.now c.in-Some.site
    c.station-station.ensures c.in-Some.is

pub mark_beside-requires-clause-stands : goal.mark_beside-requires-clause-stands
mark_beside-requires-clause-stands c =
    stands-beside c.args.self.now.plan c.args.self.now.state c.args.passenger.now c.kind-class.result c.station-station.result.now c.in-Some.site c.args.i
    c.requires.above c.requires.within c.requires.here c.kind-class.ensures c.station-station.ensures c.in-Some.is
