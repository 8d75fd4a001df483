-- The siding in the table is that of the class of the instruction.
use Rattle.std.specs.Option.{option_copied}
use Rattle.std.proofs.Common.{◌∙◌, ap, sym}
use Rattle.cf_stages.specs.Changes.{passenger_at}
use Rattle.cf_core.specs.Processors.{Processor}
use Rattle.cf_core.proofs.Sites.{home-none, home-site}
use Rattle.cf_core.proofs.processor.Processor.home.Goals as goal

pub returns-in-Some-siding : goal.returns-in-Some-siding
returns-in-Some-siding c =
    let here = sym (c.passenger.ensures ∙ ap (λ (p : Processor). passenger_at p.state.cells c.args.i) c.self.view_is) ∙ ap option_copied c.in-Some.is in
    home-site c.args.self.now.plan c.args.self.now.state c.args.i c.in-Some.passenger.now c.kind.result c.station.result.now c.in-Some-siding.site
    here c.kind.ensures c.station.ensures c.in-Some-siding.is

pub returns-in-None : goal.returns-in-None
returns-in-None c =
    let here = sym (c.passenger.ensures ∙ ap (λ (p : Processor). passenger_at p.state.cells c.args.i) c.self.view_is) ∙ ap option_copied c.in-Some.is in
    c.alone-in-None.ensures ∙ home-none c.args.self.now.plan c.args.self.now.state c.args.i c.in-Some.passenger.now c.kind.result c.station.result.now
    here c.kind.ensures c.station.ensures c.in-None.is
