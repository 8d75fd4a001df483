-- The siding in the table is that of the class of the instruction.
use Rattle.std.specs.Option.{option_copied}
use Rattle.std.proofs.Common.{◌∙◌, ap, sym}
use Rattle.cf_stages.specs.Changes.{passenger_at}
use Rattle.cf_core.specs.Processors.{Processor}
use Rattle.cf_core.proofs.Tabled.{found-site, stands-beside}
use Rattle.cf_core.proofs.processor.Processor.launches_there.Goals as goal

pub launches-requires-clause-stands : goal.launches-requires-clause-stands
launches-requires-clause-stands c =
    let here = sym (c.passenger.ensures ∙ ap (λ (p : Processor). passenger_at p.state.cells c.args.i) c.self.view_is) ∙ ap option_copied c.in-Some.is in
    stands-beside c.args.self.now.plan c.args.self.now.state c.in-Some.passenger.now c.kind-class.result c.station.result.now c.in-Some-siding.site c.args.i
    c.requires.above c.requires.within here c.kind-class.ensures c.station.ensures c.in-Some-siding.is

pub launches-requires-clause-site : goal.launches-requires-clause-site
launches-requires-clause-site c =
    found-site c.args.self.now.plan c.kind-class.result c.station.result.now c.in-Some-siding.site c.station.ensures c.in-Some-siding.is
