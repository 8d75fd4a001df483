use Rattle.std.proofs.Common.{refl, sym, subst, [], Some}
use Rattle.cf_timed.specs.Clocks.{rule_of_clock}
use Rattle.cf_timed.specs.TimedRuns.{HasCauses, answer_of_timed}
use Rattle.cli_time.specs.Measures.{MeasuresRun}
use Rattle.cli_time.specs.declared.measuring.Measured.{Measured}
use Rattle.cli_time.proofs.Measured.{takes-sites}
use Rattle.cli_time.proofs.measuring.take_sites.Goals as goal

pub returns-clause-takes : goal.returns-clause-takes
returns-clause-takes c =
    subst (λ (m : Measured). MeasuresRun (rule_of_clock c.args.clock) c.args.options c.args.core.now.plan c.args.core.now c.args.input.now
    (record { measured = m; shown = [] }))
    (sym c.measurement.ensures)
    (takes-sites (rule_of_clock c.args.clock) c.args.options c.args.core.now _ c.args.input.now _ _ _ _ c.breakdown.result c.requires.shown
    (rw c.timed_options.ensures at c.run_noted-run.ensures.run) refl refl
    c.run_noted-run.ensures.bounded refl c.breakdown.ensures)

pub returns-clause-causes : goal.returns-clause-causes
returns-clause-causes c =
    subst (λ (m : Measured). HasCauses 0 0 0 0 (Some (answer_of_timed m.answer))) (sym c.measurement.ensures) c.run_noted-run.ensures.causes
