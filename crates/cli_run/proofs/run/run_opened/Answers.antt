use Rattle.cli_files.specs.Schedules.{ready_schedule_view}
use Rattle.cli_run.proofs.OpenedRuns.{tail-comes}
use Rattle.cli_run.proofs.run.run_opened.Goals as goal

pub returns : goal.returns
returns g c = record {
  comes = tail-comes c.args.options.limit c.args.options.reporting c.args.tail c.args.opened.now.core c.run_scheduled.new.core
      (ready_schedule_view c.args.schedule.now) _ _ _ _ _ c.in_ok-reported.reported c.add_tail.result
      c.in_ok-reported.ensures.comes c.add_tail.ensures.status c.add_tail.ensures.adds;
  faults = record {
    files = rw c.add_tail.ensures.status c.in_ok-reported.ensures.faults.files;
    input = rw c.add_tail.ensures.status c.in_ok-reported.ensures.faults.input;
    output = rw c.add_tail.ensures.status c.in_ok-reported.ensures.faults.output;
  };
}
