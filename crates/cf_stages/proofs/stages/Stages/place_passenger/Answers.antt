-- The bit words follow an instruction that comes.
use Rattle.cf_stages.proofs.Entries.{within-entries}
use Rattle.cf_stages.proofs.Written.{came-parts}
use Rattle.cf_stages.proofs.stages.Stages.place_passenger.Goals as goal

pub invariant_of-self : goal.invariant_of-self
invariant_of-self c =
    came-parts _ _ _ _ _ _ _ c.args.i c.args.passenger c.self.invariant c.requires.above
    (within-entries _ _ _ _ _ c.args.i _ c.self.invariant c.self.view_is c.requires.within)
    c.with_bit-self-inside.ensures c.with_bit-self-inside-2.ensures
