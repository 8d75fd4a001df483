-- The siding in the table is that of the class of the instruction.
use Rattle.std.proofs.Common.{◌∙◌, ap, arith, sym}
use Rattle.cf_stages.specs.Changes.{passenger_at}
use Rattle.cf_core.specs.Processors.{Processor}
use Rattle.cf_core.proofs.Blocks.{class-here}
use Rattle.cf_core.proofs.Tabled.{found-site, stands-beside}
use Rattle.cf_core.proofs.processor.Processor.remark_climb.Goals as goal

pub mark_siding_climbed-requires-clause-stands : goal.mark_siding_climbed-requires-clause-stands
mark_siding_climbed-requires-clause-stands c =
    let here = sym (c.passenger_there-passenger.ensures ∙ ap (λ (p : Processor). passenger_at p.state.cells c.args.j) c.self.view_is) in
    let class = class-here _ _ c.args.class here c.requires.class in
    let higher = c.requires.climbed.higher in
    stands-beside c.args.self.now.plan c.args.self.now.state _ c.args.class c.station-station.result.now c.in-Some.site c.args.j
    (omega (arith, higher)) c.requires.climbed.within here class c.station-station.ensures c.in-Some.is

pub mark_siding_climbed-requires-clause-site : goal.mark_siding_climbed-requires-clause-site
mark_siding_climbed-requires-clause-site c =
    found-site c.args.self.now.plan c.args.class c.station-station.result.now c.in-Some.site c.station-station.ensures c.in-Some.is
