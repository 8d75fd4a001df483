use Rattle.std.proofs.Common.{arith}
use Rattle.cf_run.proofs.Turning.{after_keeps, can-retire, come-counts, no_serve, picked_free, sweeping-kept, within-sweeps}
use Rattle.cf_run.proofs.sweep.make_within.Goals as goal

pub make_inside-event-requires-clause-allowed : goal.make_inside-event-requires-clause-allowed
make_inside-event-requires-clause-allowed c = picked_free _ _ _ _ _ _ c.requires.picked

pub make_inside-event-requires-clause-count : goal.make_inside-event-requires-clause-count
make_inside-event-requires-clause-count c = λ leaves. can-retire _ _ c.requires.ready

pub make_inside-event-requires-clause-other : goal.make_inside-event-requires-clause-other
make_inside-event-requires-clause-other c = let before = c.requires.before in no_serve _ (omega (arith, before))

pub count-requires : goal.count-requires
count-requires c = come-counts _ _ _ c.requires.ready.come

pub returns-clause-swept : goal.returns-clause-swept
returns-clause-swept c =
    within-sweeps _ _ _ _ _ _ c.requires.after c.requires.before c.requires.ready c.requires.picked c.make_inside-event.ensures.processor
    c.make_inside-event.ensures.event c.count.ensures

pub returns-clause-ready : goal.returns-clause-ready
returns-clause-ready c =
    let before = c.requires.before in
    sweeping-kept _ _ _ c.requires.ready
    (within-sweeps _ _ _ _ _ _ c.requires.after c.requires.before c.requires.ready c.requires.picked c.make_inside-event.ensures.processor
    c.make_inside-event.ensures.event c.count.ensures)
    (after_keeps _ _ _ (λ leaves. absurd (omega (arith, before, leaves))) c.make_inside-event.ensures.processor)
