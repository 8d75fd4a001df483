use Rattle.std.proofs.Common.{sym, ◌∙◌}
use Rattle.cf_index.specs.Alone.{stands_alone}
use Rattle.cf_rounds.proofs.InOrder.{find_next}
use Rattle.cf_rounds.proofs.choosing.alone.Goals as goal

pub loop-place-preserved : goal.loop-place-preserved
loop-place-preserved c = find_next (stands_alone c.args.core.now.plan c.args.core.now.state) c.args.c.now c.loop-place.place _ c.pick-mv.ensures
    (sym c.stands_alone.ensures ∙ c.if-stands_alone.false) ∙ c.loop-place.invariant
