-- No unit executes an instruction of a class with a siding, so that nothing is marked where it does not stop.
use Rattle.std.proofs.Common.{◌∙◌, sym}
use Rattle.cf_core.proofs.ClimbMarks.{passed-marks}
use Rattle.cf_core.proofs.Readied.{execute-none}
use Rattle.cf_core.proofs.processor.Processor.mark_siding_climbed.Goals as goal

pub returns-else-stops_at_siding : goal.returns-else-stops_at_siding
returns-else-stops_at_siding c =
    let execute = execute-none c.args.self.now.plan c.args.self.now.state c.args.j c.args.site.number c.args.passenger.now c.requires.facts.accepted
    c.requires.stands.2 c.requires.stands.4 in
    passed-marks c.args.self.now.plan c.args.self.now.state c.args.marks.now c.args.passenger.now c.args.i c.args.j c.with_bit-marks.result c.requires.climbed
    c.requires.stands.2 (sym c.stops_at_siding.ensures ∙ c.if-stops_at_siding.false) execute c.with_bit-marks.ensures
