-- The bit words follow a result that stays.
use Rattle.std.proofs.Common.{List, subst, sym}
use Rattle.std.specs.Prelude.{IsSome}
use Rattle.cf_bind.specs.declared.cell.Cell.{Cell}
use Rattle.cf_stages.specs.Changes.{packet_at, passenger_at}
use Rattle.cf_stages.proofs.Written.{left-parts}
use Rattle.cf_stages.proofs.stages.Stages.keep_packet.Goals as goal

pub invariant_of-self : goal.invariant_of-self
invariant_of-self c =
    left-parts _ _ _ _ _ _ c.args.i c.args.packet c.self.invariant
    (subst (λ (cells : List Cell). IsSome (packet_at cells c.args.i)) (sym c.self.view_is) c.requires.there)
    (subst (λ (cells : List Cell). IsSome (passenger_at cells c.args.i)) (sym c.self.view_is) c.requires.passenger) c.with_bit-self-inside.ensures
