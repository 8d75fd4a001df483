use Rattle.cf_debug.proofs.KeptMoves.{made-other, never-fails}
use Rattle.cf_debug.proofs.making.make_other.Goals as goal

pub unreachable-requires : goal.unreachable-requires
unreachable-requires g c = never-fails _ _ _ _ _ c.requires.other (rw c.in-Err-Write.field-0-is at c.in-Err-Write.ensures.makes)

pub returns-clause-makes : goal.returns-clause-makes
returns-clause-makes g c = made-other _ _ _ _ _ _ _ _ _ c.before-undo.ensures.stands c.before-undo.ensures.kept c.requires.allowed c.requires.other
    c.in-Ok.ensures.makes c.push.ensures
