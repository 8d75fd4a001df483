-- The contents of the stage after its instruction and its result have met.
use Rattle.std.proofs.Common.{◌∙◌, ap, List, Some, None, refl, sym, true, false}
use Rattle.cf_bind.specs.declared.cell.Cell.{Cell}
use Rattle.cf_stages.specs.Changes.{changed}
use Rattle.cf_stages.specs.Parts.{with_place}
use Rattle.cf_stages.proofs.Meetings.{met-is}
use Rattle.cf_stages.proofs.stages.Stages.meet_at.Goals as goal

-- the result stays
pub returns-in-Some-clause-stages : goal.returns-in-Some-clause-stages
returns-in-Some-clause-stages c =
    c.keep_packet.ensures.stages
    ∙ ap (λ (cells : List Cell). changed cells c.args.i (with_place (Some c.in-Some.left) true)) c.meet_passenger.ensures.stages
    ∙ met-is c.args.self.now c.args.i c.packet_there-packet.result (Some c.in-Some.left) true c.requires c.packet_there-packet.ensures
    (sym c.in-Some.is ∙ c.meet_passenger.ensures.left) refl

-- it was killed
pub returns-in-None-clause-stages : goal.returns-in-None-clause-stages
returns-in-None-clause-stages c =
    c.remove_packet.ensures.stages
    ∙ ap (λ (cells : List Cell). changed cells c.args.i (with_place None false)) c.meet_passenger.ensures.stages
    ∙ met-is c.args.self.now c.args.i c.packet_there-packet.result None false c.requires c.packet_there-packet.ensures
    (sym c.in-None.is ∙ c.meet_passenger.ensures.left) refl
