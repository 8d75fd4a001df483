use Rattle.std.proofs.Common.{refl}
use Rattle.cf_index.specs.Allowed.{is_allowed}
use Rattle.cf_index.specs.GuessRules.{keeps_move}
use Rattle.cf_index.specs.Listed.{entering_moves}
use Rattle.cf_index.proofs.Guided.{all_flagged}
use Rattle.cf_index.proofs.fill.entering.Goals as goal

pub returns : goal.returns
unfolding entering_moves
returns c = all_flagged (keeps_move c.args.rule c.args.core.now.plan c.args.core.now.state) (is_allowed c.args.core.now.plan c.args.core.now.state) _ _ _ _
    c.guided-issuable.ensures.next c.guided-issuable.ensures.taken c.guided-issuable.ensures.wait c.may_emit.ensures refl
