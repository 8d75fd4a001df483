use Rattle.std.proofs.Common.{map}
use Rattle.std.specs.Prelude.{string_bytes, vec_items}
use Rattle.cli_arguments.specs.Arguments.{layout_in}
use Rattle.cf_run.specs.Headline.{machine_on}
use Rattle.cli_files.specs.Image.{hart_at_start}
use Rattle.cli_time.proofs.Rows.{RowsPut}
use Rattle.cli_time.proofs.comparing.time_each.Given as goal

-- the lines of the layouts so far are written
abbrev pub invariant-loop-place : goal.invariant-loop-place
invariant-loop-place g l =
    RowsPut (map layout_in (map string_bytes l.arguments)) l.options l.ready.delays (vec_items l.ready.layouts)
    (machine_on (hart_at_start (vec_items l.ready.image)) l.input)
    (g.R.Sink.written l.initial.report) (g.R.Sink.written l.report) (g.R.Sink.faults l.initial.report) (g.R.Sink.faults l.report)
    l.place l.times.items
