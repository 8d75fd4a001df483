use Rattle.cf_run.proofs.Turning.{within-taken}
use Rattle.cf_run.proofs.drawing.make_seen.Goals as goal

pub returns : goal.returns
returns c =
    within-taken _ _ _ _ _ _ _ c.requires.after c.requires.before c.requires.allowed c.requires.stops c.make_inside-event.ensures.processor
    c.make_inside-event.ensures.event c.count.ensures
