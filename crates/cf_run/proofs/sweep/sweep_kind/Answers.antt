use Rattle.std.proofs.Common.{sym}
use Rattle.cf_index.proofs.LeftStages.{left_gone, left_here}
use Rattle.cf_index.proofs.PickedFrom.{picked_on}
use Rattle.cf_run.proofs.Turning.{left-on, made-nearer, no_turns, picked_here, sweeps_on}
use Rattle.cf_run.proofs.sweep.sweep_kind.Goals as goal

pub loop-stage-init : goal.loop-stage-init
loop-stage-init g c = record {
  swept = no_turns _ _ _;
  ready = c.requires.from.ready;
  picked = picked_on _ _ _ _ _ _ _ c.left-left.ensures.listed c.requires.from.picked;
  above = 0;
  stages = c.left-left.ensures.stages;
}

pub loop-stage-smaller : goal.loop-stage-smaller
loop-stage-smaller g c =
    made-nearer _ _ _ _ c.make_at_stage-last.ensures.ready c.loop-stage.invariant.swept c.make_at_stage-last.ensures.swept
    c.make_at_stage-last.ensures.counted

pub loop-stage-preserved : goal.loop-stage-preserved
loop-stage-preserved g c =
    let left = left-on _ _ _ _ _ _ _ c.make_at_stage-last.ensures.made c.make_at_stage-last.ensures.facts c.loop-stage.invariant.stages
    c.in-Some.ensures.lowest c.left_after-left.ensures in
    record {
      swept = sweeps_on _ _ _ _ _ c.loop-stage.invariant.swept c.make_at_stage-last.ensures.swept;
      ready = c.make_at_stage-last.ensures.ready;
      picked = c.make_at_stage-last.ensures.picked c.left_after-left.result left;
      above = _;
      stages = left;
    }

pub make_at_stage-last-requires-clause-picked : goal.make_at_stage-last-requires-clause-picked
make_at_stage-last-requires-clause-picked g c =
    picked_here _ _ _ _ _ _ _ c.loop-stage.invariant.picked (left_here _ _ _ _ c.in-Some.ensures.lowest.numbered c.in-Some.ensures.first)

pub returns : goal.returns
returns g c = record {
  on = record {
    swept = c.loop-stage.invariant.swept;
    from = record {
      ready = c.loop-stage.invariant.ready;
      picked = picked_on _ _ _ _ _ _ _ (sym (left_gone _ _ _ (c.lowest_stage.ensures.gone c.in_default.is))) c.loop-stage.invariant.picked;
    };
  };
}
