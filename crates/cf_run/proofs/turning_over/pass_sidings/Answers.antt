use Rattle.cf_index.proofs.PickedFrom.{picked_on}
use Rattle.cf_run.proofs.Turning.{no_turns}
use Rattle.cf_run.proofs.turning_over.pass_sidings.Goals as goal

pub returns-then-sidings_empty : goal.returns-then-sidings_empty
returns-then-sidings_empty c = record {
  swept = no_turns _ _ _;
  from = λ goes. record {
    ready = c.requires.from.ready;
    picked = picked_on _ _ _ _ _ _ _ (c.sidings_empty.ensures.skips c.if-sidings_empty.true) c.requires.from.picked;
  };
}
