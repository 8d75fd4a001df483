use Rattle.cli_machine.specs.Options.{chosen_of}
use Rattle.cli_machine.proofs.ProgramFiles.{machine-closed, machine-files, machine-input, machine-output}
use Rattle.cli_machine.proofs.machine.run_machine.Goals as goal

pub returns : goal.returns
returns g c = record {
  comes = machine-closed (chosen_of c.args.options.limit c.args.options.show_retired c.args.options.mul c.args.options.every) _ _ _ _ _ _ _
      c.run-finish.result c.close_machine.result c.run-finish.ensures.runs c.run-finish.ensures.report c.close_machine.ensures;
  faults = record {
    files = machine-files _ c.run-finish.result c.run-finish.new.machine _ _ c.close_machine.result c.close_machine.ensures;
    input = machine-input _ c.run-finish.result c.run-finish.new.machine _ _ c.close_machine.result _ _ c.close_machine.ensures
        c.run-finish.ensures.input;
    output = machine-output _ c.run-finish.result c.run-finish.new.machine _ _ c.close_machine.result _ _ c.close_machine.ensures
        c.run-finish.ensures.output;
  };
}
