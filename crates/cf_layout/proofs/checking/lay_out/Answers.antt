-- Parts that pass all tests are laid out.
use Rattle.cf_layout.proofs.Passing.{none_told}
use Rattle.cf_layout.proofs.Acceptance.{accepted, loosely_passed, limits_kept, small_kept}
use Rattle.cf_layout.proofs.checking.lay_out.Goals as goal

pub lay-requires-clause-accepted : goal.lay-requires-clause-accepted
lay-requires-clause-accepted c = accepted c.args.parts.now c.requires (none_told _ _ _ c.check_all.ensures c.in-Ok.is)

pub lay-requires-clause-stages : goal.lay-requires-clause-stages
lay-requires-clause-stages c = (limits_kept c.args.parts.now (loosely_passed c.args.parts.now (none_told _ _ _ c.check_all.ensures c.in-Ok.is))).0

pub lay-requires-clause-lane : goal.lay-requires-clause-lane
lay-requires-clause-lane c = (limits_kept c.args.parts.now (loosely_passed c.args.parts.now (none_told _ _ _ c.check_all.ensures c.in-Ok.is))).1

pub lay-requires-clause-few : goal.lay-requires-clause-few
lay-requires-clause-few c = (limits_kept c.args.parts.now (loosely_passed c.args.parts.now (none_told _ _ _ c.check_all.ensures c.in-Ok.is))).2

pub lay-requires-clause-small : goal.lay-requires-clause-small
lay-requires-clause-small c = small_kept c.args.parts.now (loosely_passed c.args.parts.now (none_told _ _ _ c.check_all.ensures c.in-Ok.is))
