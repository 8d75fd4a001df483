-- The bit words follow a result that was killed.
use Rattle.std.proofs.Common.{◌≡◌, List, false, subst, sym}
use Rattle.cf_bind.specs.declared.cell.Cell.{Cell}
use Rattle.cf_stages.specs.Changes.{has_met_at}
use Rattle.cf_stages.proofs.Entries.{within-entries}
use Rattle.cf_stages.proofs.Written.{lost-parts}
use Rattle.cf_stages.proofs.stages.Stages.remove_packet.Goals as goal

pub invariant_of-self : goal.invariant_of-self
invariant_of-self c =
    lost-parts _ _ _ _ _ _ c.args.i c.self.invariant c.requires.above
    (within-entries _ _ _ _ _ c.args.i _ c.self.invariant c.self.view_is c.requires.within)
    (subst (λ (cells : List Cell). has_met_at cells c.args.i ≡ false) (sym c.self.view_is) c.requires.unmet) c.with_bit-self-inside.ensures
