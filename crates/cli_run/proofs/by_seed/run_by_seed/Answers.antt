use Rattle.run_finishes.specs.declared.finish.Scripted.TheVariants.{Ran}
use Rattle.cli_run.proofs.ProcessorRuns.{policy-closed, policy-input, policy-output, closed-input, closed-output, closed-files}
use Rattle.cli_run.proofs.by_seed.run_by_seed.Goals as goal

pub returns : goal.returns
returns g c = record {
  comes = policy-closed c.args.rule _ _ _ _ _ _ _ _ _ _ _ _ _ _ c.run_drawn-ran.result c.close.result
      (rw c.no_moves-tally.ensures at c.run_drawn-ran.ensures.run)
      (rw c.no_moves-tally.ensures at c.run_drawn-ran.ensures.ends)
      c.run_drawn-ran.ensures.bounded c.run_drawn-ran.ensures.report c.close.ensures;
  faults = record {
    files = closed-files _ _ c.run_drawn-ran.new.tally.moves (Ran c.run_drawn-ran.result) _ _ _ c.close.result c.close.ensures;
    input = closed-input _ (Ran c.run_drawn-ran.result) _ _ _ _ c.close.result _ _ c.close.ensures
        (policy-input _ _ _ c.run_drawn-ran.ensures.input);
    output = closed-output _ (Ran c.run_drawn-ran.result) _ _ _ _ c.close.result _ _ c.close.ensures
        (policy-output _ _ _ c.run_drawn-ran.ensures.output);
  };
}
