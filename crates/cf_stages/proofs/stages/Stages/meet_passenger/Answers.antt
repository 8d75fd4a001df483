-- The instruction of a stage after it has met a result, in its place.
use Rattle.std.proofs.Common.{List, subst, sym}
use Rattle.std.specs.Prelude.{IsSome}
use Rattle.cf_bind.specs.declared.cell.Cell.{Cell}
use Rattle.cf_stages.specs.Changes.{passenger_at}
use Rattle.cf_stages.proofs.Written.{renewed-stages}
use Rattle.cf_stages.proofs.stages.Stages.meet_passenger.Goals as goal

pub invariant_of-self : goal.invariant_of-self
invariant_of-self c =
    renewed-stages _ _ _ _ _ c.args.i c.meet.new.p c.self.invariant
    (subst (λ (cells : List Cell). IsSome (passenger_at cells c.args.i)) (sym c.self.view_is) c.requires.there)
