use Rattle.std.proofs.Common.{sym}
use Rattle.cf_index.proofs.LeftStages.{left_gone, left_here}
use Rattle.cf_index.proofs.PickedFrom.{climbed_on, picked_on}
use Rattle.cf_run.proofs.Climbing.{climbs-left}
use Rattle.cf_run.proofs.Turning.{come-nearer, few_after, no_turns, picked_here, sweeps_on}
use Rattle.cf_run.proofs.sweep.sweep_climbs.Goals as goal

pub loop-stage-init : goal.loop-stage-init
loop-stage-init c = record {
  swept = no_turns _ _ _;
  ready = c.requires.from.ready;
  picked = picked_on _ _ _ _ _ _ _ c.all_climbs-left.ensures.listed c.requires.from.picked;
  above = 0;
  stages = c.all_climbs-left.ensures.stages;
}

pub loop-stage-smaller : goal.loop-stage-smaller
loop-stage-smaller c =
    come-nearer _ _ _ _ _ c.make_climbs-top.ensures.ready.come
    (sweeps_on _ _ _ _ _ c.loop-stage.invariant.swept c.make_climbs-top.ensures.swept) c.make_climbs-top.ensures.counted

pub loop-stage-preserved : goal.loop-stage-preserved
loop-stage-preserved c =
    let left = climbs-left _ _ _ _ _ _ _ c.make_climbs-top.ensures.made c.make_climbs-top.ensures.facts c.loop-stage.invariant.stages
    c.make_climbs-top.ensures.climbs c.climbs_left-left.ensures in
    record {
      swept = sweeps_on _ _ _ _ _ c.loop-stage.invariant.swept c.make_climbs-top.ensures.swept;
      ready = c.make_climbs-top.ensures.ready;
      picked = climbed_on _ _ _ _ _ _ (few_after _ _ _ c.loop-stage.invariant.ready c.make_climbs-top.ensures.swept) left;
      above = _;
      stages = left;
    }

pub make_climbs-top-requires-clause-picked : goal.make_climbs-top-requires-clause-picked
make_climbs-top-requires-clause-picked c =
    picked_here _ _ _ _ _ _ _ c.loop-stage.invariant.picked (left_here _ _ _ _ c.in-Some.ensures.lowest.numbered c.in-Some.ensures.first)

pub returns : goal.returns
returns c = record {
  on = record {
    swept = c.loop-stage.invariant.swept;
    from = record {
      ready = c.loop-stage.invariant.ready;
      picked = picked_on _ _ _ _ _ _ _ (sym (left_gone _ _ _ (c.lowest_stage.ensures.gone c.in_default.is))) c.loop-stage.invariant.picked;
    };
  };
}
