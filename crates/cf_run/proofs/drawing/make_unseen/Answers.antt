use Rattle.std.proofs.Common.{sym}
use Rattle.cf_run.proofs.Turning.{unseen-counted, within-taken}
use Rattle.cf_run.proofs.drawing.make_unseen.Goals as goal

pub returns : goal.returns
returns c =
    within-taken _ _ _ _ _ _ _ c.requires.after c.requires.before c.requires.allowed c.requires.stops c.make_inside.ensures.processor
    c.make_inside.ensures.event
    (sym (unseen-counted c.args.core.now.plan c.args.core.now.state c.args.mv _ c.args.tally.now c.requires.after c.requires.before c.requires.other
    c.make_inside.ensures.event))
