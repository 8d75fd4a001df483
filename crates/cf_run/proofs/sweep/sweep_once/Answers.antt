use Rattle.cf_index.proofs.PickedFrom.{picked_on}
use Rattle.cf_run.proofs.Turning.{no_turns, picked_here}
use Rattle.cf_run.proofs.sweep.sweep_once.Goals as goal

pub returns-else-is_left : goal.returns-else-is_left
returns-else-is_left g c = record {
  on = record {
    swept = no_turns _ _ _;
    from = record {
      ready = c.requires.from.ready;
      picked = picked_on _ _ _ _ _ _ _ (c.is_left.ensures.gone c.if-is_left.false) c.requires.from.picked;
    };
  };
}

pub make_only-requires-clause-picked : goal.make_only-requires-clause-picked
make_only-requires-clause-picked g c = picked_here _ _ _ _ _ _ _ c.requires.from.picked (c.is_left.ensures.here c.if-is_left.true)

pub make_only-requires-clause-ready : goal.make_only-requires-clause-ready
make_only-requires-clause-ready g c = c.requires.from.ready
