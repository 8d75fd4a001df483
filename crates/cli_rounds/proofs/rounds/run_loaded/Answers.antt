use Rattle.std.proofs.Common.{refl}
use Rattle.cli_files.proofs.NoStreams.{no-cause}
use Rattle.cf_run.proofs.Opened.{newly-opened}
use Rattle.cli_rounds.proofs.InRounds.{rounds-come, rounds-lacking}
use Rattle.cli_rounds.proofs.rounds.run_loaded.Goals as goal

pub run_core-requires-clause-opened : goal.run_core-requires-clause-opened
run_core-requires-clause-opened g c = newly-opened _ _ _ c.in-Ok.ensures

pub returns-in-Ok : goal.returns-in-Ok
returns-in-Ok g c = record {
  comes = rounds-come c.args.options.rule _ c.args.options.every _ _ _ _ _ _ _ _ c.run_core.result c.in-Ok.ensures c.requires.count c.run_core.ensures.comes;
  faults = c.run_core.ensures.faults;
}

pub returns-in-Err : goal.returns-in-Err
returns-in-Err g c = record {
  comes = rounds-lacking c.args.options.rule _ c.args.options.every _ _ _ _ _ _ _ _ c.put_answer.result c.put_answer.ensures.status
      (record {
        status_is = c.no_memory.ensures.status;
        reports = c.no_memory.ensures.closing;
        streams = refl;
      }) c.put_answer.ensures.puts;
  faults = record {
    files = rw (c.put_answer.ensures.status, c.no_memory.ensures.status) refl;
    input = rw (c.put_answer.ensures.status, c.no_memory.ensures.status) (no-cause _ _ refl);
    output = rw (c.put_answer.ensures.status, c.no_memory.ensures.status) (no-cause _ _ refl);
  };
}
