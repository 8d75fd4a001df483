use Rattle.std.proofs.Common.{refl}
use Rattle.cli_files.proofs.NoStreams.{lacks-file-says}
use Rattle.cli_reports.proofs.PutReports.{faults-ran, faults-refused}
use Rattle.cli_run.proofs.RunFiles.{run-comes, run-refused}
use Rattle.cli_run.proofs.run.run_processor.Goals as goal

pub returns-in-Ok : goal.returns-in-Ok
returns-in-Ok g c = record {
  comes = run-comes _ _ _ _ c.in-Ok.ready.layout c.in-Ok.ready.machine _ _ _ c.run_ready.result
      c.in-Ok.ensures.reads.gives c.run_ready.ensures.comes;
  faults = faults-ran _ _ _ _ c.run_ready.result c.in-Ok.ensures.reads.faults.still c.run_ready.ensures.faults;
}

pub returns-in-Err : goal.returns-in-Err
returns-in-Err g c = record {
  comes = run-refused _ _ _ _ _ _ _ _ _ c.put_answer.result c.put_answer.ensures.status
      (record { lacks = c.in-Err.ensures.reads.lacks; streams = refl }) c.put_answer.ensures.puts;
  faults = faults-refused _ _ c.in-Err.answer.status c.put_answer.result c.put_answer.ensures.status c.in-Err.ensures.reads.faults
      (lacks-file-says _ _ _ _ _ c.in-Err.ensures.reads.lacks) refl refl;
}
