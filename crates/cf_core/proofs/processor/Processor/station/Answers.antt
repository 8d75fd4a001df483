-- The entry of the class in the table.
use Rattle.std.proofs.Common.{◌∙◌, ap}
use Rattle.cf_core.specs.Processors.{Processor}
use Rattle.cf_core.specs.Stations.{station_of}
use Rattle.cf_core.proofs.Tabled.{station-read}
use Rattle.cf_core.proofs.processor.Processor.station.Goals as goal

pub returns : goal.returns
returns c =
    station-read c.self.inside.layout c.args.class c.self.inside.stations c.index.result _ c.self.invariant.1.0 c.index.ensures.index
    ∙ ap (λ (p : Processor). station_of p.plan c.args.class) c.self.view_is
