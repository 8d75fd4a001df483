-- The bit words follow a result that comes.
use Rattle.std.proofs.Common.{List, subst, sym}
use Rattle.std.specs.Prelude.{IsSome}
use Rattle.cf_bind.specs.declared.cell.Cell.{Cell}
use Rattle.cf_stages.specs.Changes.{passenger_at}
use Rattle.cf_stages.proofs.Entries.{within-entries}
use Rattle.cf_stages.proofs.Written.{result-parts}
use Rattle.cf_stages.proofs.stages.Stages.place_packet.Goals as goal

pub invariant_of-self : goal.invariant_of-self
invariant_of-self c =
    result-parts _ _ _ _ _ _ _ c.args.i c.args.packet c.args.met c.self.invariant c.requires.above
    (within-entries _ _ _ _ _ c.args.i _ c.self.invariant c.self.view_is c.requires.within)
    (λ g. subst (λ (cells : List Cell). IsSome (passenger_at cells c.args.i)) (sym c.self.view_is) (c.requires.passenger g))
    c.with_bit-self-inside.ensures c.with_bit-self-inside-2.ensures
