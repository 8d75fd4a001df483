-- How far the run has come follows the instruction's line.
use Rattle.std.proofs.Common.{refl}
use Rattle.cf_report.specs.Progress.{is_step, machine_line}
use Rattle.cf_report.proofs.Puttings.{puts-again, puts-stopped}
use Rattle.cli_machine.specs.Options.{lines_shown}
use Rattle.cli_machine.proofs.running.show_step.Goals as goal

pub returns-in_err-show_line-clause-puts : goal.returns-in_err-show_line-clause-puts
returns-in_err-show_line-clause-puts g c =
    puts-stopped (lines_shown (is_step c.args.options.every c.args.count) (machine_line c.args.count)) _ c.in_err-show_line.was refl
    c.from_residual.ensures.0 c.show_line.ensures.puts

pub returns-clause-puts : goal.returns-clause-puts
returns-clause-puts g c = puts-again _ c.in_ok-show_line.was refl c.show_line.ensures.puts c.show_progress.ensures.puts
