use Rattle.cli_rounds.proofs.InRounds.{rounds-closed, rounds-input, rounds-output, rounds-files}
use Rattle.cli_rounds.proofs.rounds.run_core.Goals as goal

pub returns : goal.returns
returns g c = record {
  comes = rounds-closed c.args.options.rule _ c.args.options.every _ _ _ _ _ _ _ _ _ c.run_rounds-clocked.result c.ran_of.result c.close_in_rounds.result
      (rw c.no_moves-tally.ensures at c.run_rounds-clocked.ensures.run)
      (rw c.no_moves-tally.ensures at c.run_rounds-clocked.ensures.ends)
      c.run_rounds-clocked.ensures.bounded c.run_rounds-clocked.ensures.report c.ran_of.ensures c.close_in_rounds.ensures;
  faults = record {
    files = rounds-files _ c.run_rounds-clocked.result c.ran_of.result _ _ _ _ _ c.close_in_rounds.result c.ran_of.ensures
        c.close_in_rounds.ensures;
    input = rounds-input _ c.run_rounds-clocked.result c.ran_of.result _ _ _ _ _ c.close_in_rounds.result _ _ c.ran_of.ensures
        c.close_in_rounds.ensures c.run_rounds-clocked.ensures.input;
    output = rounds-output _ c.run_rounds-clocked.result c.ran_of.result _ _ _ _ _ c.close_in_rounds.result _ _ c.ran_of.ensures
        c.close_in_rounds.ensures c.run_rounds-clocked.ensures.output;
  };
}
