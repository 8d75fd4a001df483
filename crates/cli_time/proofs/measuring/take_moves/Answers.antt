use Rattle.std.proofs.Common.{refl, sym, subst}
use Rattle.cf_timed.specs.Clocks.{rule_of_clock}
use Rattle.cli_time.specs.Runs.{PutsRun}
use Rattle.cli_time.specs.declared.measuring.Measured.{Measured}
use Rattle.cli_time.proofs.Measured.{takes-moves}
use Rattle.cli_time.proofs.measuring.take_moves.Goals as goal

pub returns-clause-takes : goal.returns-clause-takes
returns-clause-takes g c =
    subst (λ (m : Measured). PutsRun (rule_of_clock c.args.clock) c.args.options c.args.core.now.plan c.args.core.now c.args.input.now
    (g.R.Sink.written c.args.report.now)
    (g.R.Sink.written c.run_shown.new.report) m)
    (sym c.measurement.ensures)
    (takes-moves (rule_of_clock c.args.clock) c.args.options c.args.core.now _ c.args.input.now _ _ _ _ _ c.requires.shown
    (rw c.timed_options.ensures at c.in_ok-run.ensures.run) refl refl c.in_ok-run.ensures.bounded refl)
