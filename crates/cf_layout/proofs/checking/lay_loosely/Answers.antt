-- Parts that pass all tests but the last are laid out.
use Rattle.cf_layout.proofs.Passing.{none_told}
use Rattle.cf_layout.proofs.Acceptance.{equips, limits_kept, small_kept}
use Rattle.cf_layout.proofs.checking.lay_loosely.Goals as goal

pub lay-requires-clause-equipped : goal.lay-requires-clause-equipped
lay-requires-clause-equipped c = equips c.args.parts.now c.requires (none_told _ _ _ c.check_equipment.ensures.answer c.in-Ok.is)

pub lay-requires-clause-stages : goal.lay-requires-clause-stages
lay-requires-clause-stages c = (limits_kept c.args.parts.now (none_told _ _ _ c.check_equipment.ensures.answer c.in-Ok.is)).0

pub lay-requires-clause-lane : goal.lay-requires-clause-lane
lay-requires-clause-lane c = (limits_kept c.args.parts.now (none_told _ _ _ c.check_equipment.ensures.answer c.in-Ok.is)).1

pub lay-requires-clause-few : goal.lay-requires-clause-few
lay-requires-clause-few c = (limits_kept c.args.parts.now (none_told _ _ _ c.check_equipment.ensures.answer c.in-Ok.is)).2

pub lay-requires-clause-small : goal.lay-requires-clause-small
lay-requires-clause-small c = small_kept c.args.parts.now (none_told _ _ _ c.check_equipment.ensures.answer c.in-Ok.is)
