use Rattle.std.proofs.Common.{refl}
use Rattle.cli_files.proofs.NoStreams.{no-cause}
use Rattle.cli_files.specs.Schedules.{ready_schedule_view}
use Rattle.cf_run.proofs.Opened.{can-run}
use Rattle.cli_run.proofs.OpenedRuns.{opened-comes, unopened-comes}
use Rattle.cli_run.proofs.run.run_ready.Goals as goal

pub run_opened-requires-clause-begins : goal.run_opened-requires-clause-begins
run_opened-requires-clause-begins g c = can-run _ _ _ _ c.requires.limit c.requires.count c.in-Ok.ensures

pub returns-in-Ok : goal.returns-in-Ok
returns-in-Ok g c = record {
  comes = opened-comes c.args.options.limit c.args.options.reporting c.args.tail c.in-Ok.opened.core c.run_opened.new.opened.core
      c.args.ready.layout c.args.ready.machine (ready_schedule_view c.args.ready.schedule) _ _ _ _ c.run_opened.result
      c.in-Ok.ensures c.requires.count c.run_opened.ensures.comes;
  faults = c.run_opened.ensures.faults;
}

pub returns : goal.returns
returns g c = record {
  comes = unopened-comes _ _ _ _ _ _ _ _ _ _ _ _ _ c.put_answer.result c.put_answer.ensures.status
      (record {
        status_is = c.no_memory.ensures.status;
        reports = c.no_memory.ensures.closing;
        streams = refl;
      }) c.put_answer.ensures.puts;
  faults = record {
    files = rw (c.put_answer.ensures.status, c.no_memory.ensures.status) refl;
    input = rw (c.put_answer.ensures.status, c.no_memory.ensures.status) (no-cause _ _ refl);
    output = rw (c.put_answer.ensures.status, c.no_memory.ensures.status) (no-cause _ _ refl);
  };
}
