use Rattle.cf_run.specs.Headline.{machine_on}
use Rattle.cli_files.specs.Image.{hart_at_start}
use Rattle.cli_time.specs.Measures.{rule_by}
use Rattle.cli_time.proofs.Measured.{breaks, can-begin, clock-rule, measures}
use Rattle.cli_time.proofs.measuring.measure.Goals as goal

pub take_run-requires : goal.take_run-requires
take_run-requires g c = record {
  begins = can-begin c.args.options.limit _ c.args.layout.now (hart_at_start c.args.ready.now.image.items)
      (rule_by c.args.ready.now.delays c.args.options) _ c.requires.limit (rw c.as_slice.ensures.value at c.in-Ok.ensures.count)
      (rw c.as_slice.ensures.value at c.in-Ok.ensures.core) c.new-clock.ensures;
}

pub returns-in-Ok-take_run-clause-measured : goal.returns-in-Ok-take_run-clause-measured
returns-in-Ok-take_run-clause-measured g c =
    measures _ c.args.ready.now.delays c.args.options _ c.args.layout.now (machine_on (hart_at_start c.args.ready.now.image.items) c.args.input.now) _ _ _
    (clock-rule c.args.layout.now (rule_by c.args.ready.now.delays c.args.options) _ c.new-clock.ensures)
    (rw c.as_slice.ensures.value at c.in-Ok.ensures.core) c.in-Ok-take_run.ensures.takes c.in-Ok-take_run.ensures.causes

pub returns-clause-measured : goal.returns-clause-measured
returns-clause-measured g c =
    breaks _ c.args.ready.now.delays c.args.options _ c.args.layout.now (machine_on (hart_at_start c.args.ready.now.image.items) c.args.input.now) _ _
    (clock-rule c.args.layout.now (rule_by c.args.ready.now.delays c.args.options) _ c.new-clock.ensures)
    (rw c.as_slice.ensures.value at c.in-Ok.ensures.core) c.in-Err.ensures.takes
