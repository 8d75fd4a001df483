use Rattle.std.proofs.Common.{arith}
use Rattle.cf_run.proofs.Climbing.{climbs-on}
use Rattle.cf_run.proofs.Turning.{picked_free}
use Rattle.cf_run.proofs.sweep.make_climbs.Goals as goal

pub climb_on-top-requires : goal.climb_on-top-requires
climb_on-top-requires c = picked_free _ _ _ _ _ _ c.requires.picked

pub overflow_add-tally : goal.overflow_add-tally
overflow_add-tally c =
    let counts = (climbs-on _ _ _ _ _ _ _ _ c.requires.ready c.requires.picked c.layout-layout.ensures.facts.stages c.climb_on-top.ensures.climbs
    c.climb_on-top.ensures.processor).counts in
    omega (arith, counts)

pub returns-clause-swept : goal.returns-clause-swept
returns-clause-swept c =
    (climbs-on _ _ _ _ _ _ _ _ c.requires.ready c.requires.picked c.layout-layout.ensures.facts.stages c.climb_on-top.ensures.climbs
    c.climb_on-top.ensures.processor).swept

pub returns-clause-ready : goal.returns-clause-ready
returns-clause-ready c =
    (climbs-on _ _ _ _ _ _ _ _ c.requires.ready c.requires.picked c.layout-layout.ensures.facts.stages c.climb_on-top.ensures.climbs
    c.climb_on-top.ensures.processor).ready

pub returns-clause-counted : goal.returns-clause-counted
returns-clause-counted c =
    (climbs-on _ _ _ _ _ _ _ _ c.requires.ready c.requires.picked c.layout-layout.ensures.facts.stages c.climb_on-top.ensures.climbs
    c.climb_on-top.ensures.processor).more
