use Rattle.std.proofs.Common.{arith}
use Rattle.cf_timed.specs.Arrivals.{timed_at}
use Rattle.cf_timed.proofs.MakingDue.{due_counts, first_made, first_past, is_kept_due, kept_allowed}
use Rattle.cf_timed.proofs.making_due.make_still_due.Goals as goal

pub make_inside-event-requires-clause-allowed : goal.make_inside-event-requires-clause-allowed
make_inside-event-requires-clause-allowed g c =
    let at = timed_at c.args.core.now c.args.clock.now c.args.tally.now in
    kept_allowed _ _ at _ _ c.requires.making
    (is_kept_due at _ _ _ _ c.requires.first c.reach_kept.ensures c.time-time.ensures c.if-reach_kept-time.true)

pub count-requires : goal.count-requires
count-requires g c = due_counts _ _ (timed_at c.args.core.now c.args.clock.now c.args.tally.now) c.requires.making.keeps.come

pub returns-then-reach_kept-time : goal.returns-then-reach_kept-time
returns-then-reach_kept-time g c =
    let at = timed_at c.args.core.now c.args.clock.now c.args.tally.now in
    first_made _ _ at (timed_at c.make_inside-event.new.self c.stamp.new.self c.count.new.tally) _ _ _ c.requires.making c.layout-layout.ensures.facts (record {
      after = c.requires.after;
      before = c.requires.before;
      here = is_kept_due at _ _ _ _ c.requires.first c.reach_kept.ensures c.time-time.ensures c.if-reach_kept-time.true;
      made = c.make_inside-event.ensures.processor;
      is_event = c.make_inside-event.ensures.event;
      counted = c.count.ensures;
      clock_is = rw c.time-time.ensures at c.stamp.ensures;
    })

pub returns-else-reach_kept-time : goal.returns-else-reach_kept-time
returns-else-reach_kept-time g c =
    first_past _ _ (timed_at c.args.core.now c.args.clock.now c.args.tally.now) _ _ c.requires.making c.requires.first
    (omega (arith, c.reach_kept.ensures, c.time-time.ensures, c.if-reach_kept-time.false))
