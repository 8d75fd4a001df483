use Rattle.std.proofs.Common.{refl}
use Rattle.cli_files.proofs.NoStreams.{lacks-program-says}
use Rattle.cli_machine.proofs.ProgramFiles.{program-comes, program-refused}
use Rattle.cli_reports.proofs.PutReports.{faults-ran, faults-refused}
use Rattle.cli_machine.proofs.machine.run_program.Goals as goal

pub returns-in-Ok : goal.returns-in-Ok
returns-in-Ok g c = record {
  comes = program-comes _ _ _ _ c.in-Ok.machine _ _ c.run_machine.result c.in-Ok.ensures.reads.gives c.run_machine.ensures.comes;
  faults = faults-ran _ _ _ _ c.run_machine.result c.in-Ok.ensures.reads.faults.still c.run_machine.ensures.faults;
}

pub returns-in-Err : goal.returns-in-Err
returns-in-Err g c = record {
  comes = program-refused _ _ _ _ _ _ _ _ c.put_answer.result c.put_answer.ensures.status
      (record { lacks = c.in-Err.ensures.reads.lacks; streams = refl }) c.put_answer.ensures.puts;
  faults = faults-refused _ _ c.in-Err.answer.status c.put_answer.result c.put_answer.ensures.status c.in-Err.ensures.reads.faults
      (lacks-program-says _ _ _ _ _ c.in-Err.ensures.reads.lacks) refl refl;
}
