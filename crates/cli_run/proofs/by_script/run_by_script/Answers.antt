use Rattle.cli_run.proofs.ProcessorRuns.{script-closed, closed-input, closed-output, closed-files}
use Rattle.cli_run.proofs.by_script.run_by_script.Goals as goal

pub returns : goal.returns
returns g c = record {
  comes = script-closed _ _ _ _ _ _ _ _ _ _ _ _ c.run_script-finish.result c.close.result
      (rw (c.view-moves.ensures, c.no_moves-tally.ensures) at c.run_script-finish.ensures.run)
      (rw (c.view-moves.ensures, c.no_moves-tally.ensures) at c.run_script-finish.ensures.sequential)
      (rw c.no_moves-tally.ensures at c.run_script-finish.ensures.ends)
      c.run_script-finish.ensures.report c.close.ensures;
  faults = record {
    files = closed-files _ _ _ c.run_script-finish.result _ _ _ c.close.result c.close.ensures;
    input = closed-input _ c.run_script-finish.result _ _ _ _ c.close.result _ _ c.close.ensures c.run_script-finish.ensures.input;
    output = closed-output _ c.run_script-finish.result _ _ _ _ c.close.result _ _ c.close.ensures c.run_script-finish.ensures.output;
  };
}
