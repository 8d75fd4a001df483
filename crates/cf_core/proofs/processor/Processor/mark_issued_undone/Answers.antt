-- The siding in the table is that of the class of the instruction.
use Rattle.std.proofs.Common.{◌≤◌, arith}
use Rattle.cf_core.proofs.Tabled.{found-site, stands-beside}
use Rattle.cf_core.proofs.processor.Processor.mark_issued_undone.Goals as goal

pub mark_issued_beside-requires-clause-site : goal.mark_issued_beside-requires-clause-site
mark_issued_beside-requires-clause-site c =
    found-site c.args.self.now.plan c.kind-class.result c.station-station.result.now c.in-Some.site c.station-station.ensures c.in-Some.is

pub mark_issued_beside-requires-clause-stands : goal.mark_issued_beside-requires-clause-stands
mark_issued_beside-requires-clause-stands c =
    let within : 1 ≤ c.args.self.now.plan.stages = omega (arith, c.requires.facts.accepted.stages.0) in
    stands-beside c.args.self.now.plan c.args.self.now.state c.args.passenger.now c.kind-class.result c.station-station.result.now c.in-Some.site 1
    (omega arith) within c.requires.here c.kind-class.ensures c.station-station.ensures c.in-Some.is
