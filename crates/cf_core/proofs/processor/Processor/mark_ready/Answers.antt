-- The station in the table is that of the class of the instruction: with a siding no unit executes it, without one nothing is launched.
use Rattle.std.proofs.Common.{◌≡◌, ◌∙◌, Some, None, false, ap, subst}
use Rattle.rv_inst.specs.declared.classes.Class.{Class}
use Rattle.cf_layout.specs.Layout.{siding_of}
use Rattle.cf_core.specs.Stations.{station_of}
use Rattle.cf_core.proofs.Readied.{execute-none, readied-by}
use Rattle.cf_core.proofs.Rides.{launch-none}
use Rattle.cf_core.proofs.Tabled.{found-none, found-site, stands-beside, station-units}
use Rattle.cf_core.proofs.processor.Processor.mark_ready.Goals as goal

pub launches-requires-clause-stands : goal.launches-requires-clause-stands
launches-requires-clause-stands c =
    stands-beside c.args.self.now.plan c.args.self.now.state c.args.passenger.now c.kind-class.result c.station-station.result.now c.in-Some.site c.args.i
    c.requires.above c.requires.within c.requires.here c.kind-class.ensures c.station-station.ensures c.in-Some.is

pub launches-requires-clause-site : goal.launches-requires-clause-site
launches-requires-clause-site c =
    found-site c.args.self.now.plan c.kind-class.result c.station-station.result.now c.in-Some.site c.station-station.ensures c.in-Some.is

pub executes-executes-requires-clause-units : goal.executes-executes-requires-clause-units
executes-executes-requires-clause-units c =
    station-units c.args.self.now.plan _ c.station-station.result.now
    (c.station-station.ensures ∙ ap (station_of c.args.self.now.plan) c.kind-class.ensures)

pub returns-in-Some : goal.returns-in-Some
returns-in-Some c =
    let home = subst (λ (k : Class). siding_of c.args.self.now.plan k ≡ Some c.in-Some.site.number) c.kind-class.ensures
    (found-site c.args.self.now.plan c.kind-class.result c.station-station.result.now c.in-Some.site c.station-station.ensures c.in-Some.is).siding in
    readied-by c.args.self.now.plan c.args.self.now.state c.args.marks.now c.args.i c.laid-marks.result c.laid-marks-in-Some.result false c.launches.result
    (execute-none c.args.self.now.plan c.args.self.now.state c.args.i c.in-Some.site.number c.args.passenger.now c.requires.facts.accepted c.requires.here home)
    c.launches.ensures c.laid-marks.ensures c.laid-marks-in-Some.ensures

pub returns-in-None : goal.returns-in-None
returns-in-None c =
    let none = subst (λ (k : Class). siding_of c.args.self.now.plan k ≡ None) c.kind-class.ensures
    (found-none c.args.self.now.plan c.kind-class.result c.station-station.result.now c.station-station.ensures c.in-None.is) in
    readied-by c.args.self.now.plan c.args.self.now.state c.args.marks.now c.args.i c.laid-marks-in-None.result c.laid-marks-in-None-2.result
    c.executes-executes.result false c.executes-executes.ensures
    (launch-none c.args.self.now.plan c.args.self.now.state c.args.i c.args.passenger.now c.requires.here none) c.laid-marks-in-None.ensures
    c.laid-marks-in-None-2.ensures
