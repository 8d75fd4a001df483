use Rattle.std.proofs.Common.{refl}
use Rattle.cli_files.proofs.NoStreams.{lacks-loaded-says}
use Rattle.cli_reports.proofs.PutReports.{faults-ran, faults-refused}
use Rattle.cli_conform.proofs.Conformed.{loaded-log, log-refused}
use Rattle.cli_conform.proofs.command.conform_log.Goals as goal

pub returns-in-Ok : goal.returns-in-Ok
returns-in-Ok g c = record {
  reports = loaded-log _ _ _ c.in-Ok.loaded.layout c.in-Ok.loaded.machine _ _ c.conform_loaded.result c.in-Ok.ensures.reads.gives
      c.conform_loaded.ensures.reports;
  faults = faults-ran _ _ _ _ _ c.in-Ok.ensures.reads.faults.still c.conform_loaded.ensures.faults;
}

pub returns-in-Err : goal.returns-in-Err
returns-in-Err g c = record {
  reports = log-refused _ _ _ _ _ _ _ c.put_answer.result c.put_answer.ensures.status
      (record { lacks = c.in-Err.ensures.reads.lacks; streams = refl }) c.put_answer.ensures.puts;
  faults = faults-refused _ _ c.in-Err.answer.status c.put_answer.result c.put_answer.ensures.status c.in-Err.ensures.reads.faults
      (lacks-loaded-says _ _ _ _ _ _ c.in-Err.ensures.reads.lacks) refl refl;
}
