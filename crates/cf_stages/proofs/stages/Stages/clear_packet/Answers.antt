-- The bit words follow a result that goes.
use Rattle.std.proofs.Common.{refl}
use Rattle.cf_stages.proofs.Entries.{within-entries}
use Rattle.cf_stages.proofs.Written.{same-count, taken-parts}
use Rattle.cf_stages.proofs.stages.Stages.clear_packet.Goals as goal

pub invariant_of-self : goal.invariant_of-self
invariant_of-self c =
    taken-parts _ _ _ _ _ _ _ c.args.i c.self.invariant c.requires.above
    (within-entries _ _ _ _ _ c.args.i _ c.self.invariant c.self.view_is c.requires.within)
    c.with_bit-self-inside.ensures c.with_bit-self-inside-2.ensures

pub returns-clause-count : goal.returns-clause-count
returns-clause-count c =
    same-count _ _ _ _ _ _ _ _ _ _ _ c.self.invariant c.self.view_is (invariant_of-self c) refl
