-- What a run writes to the report while it runs, if it does not report its progress.
use Rattle.std.specs.Prelude.{None}
use Rattle.run_options.specs.declared.reporting.Reporting.{Reporting}
use Rattle.run_options.specs.declared.show.Show.{Show}
use Rattle.run_options.specs.declared.show.Show.TheVariants as shows

-- this is shown, and nothing else
abbrev pub only : Show → Reporting
only show = record { show = show; every = None }

-- only the closing report, the retirements, or the moves
abbrev pub report : Reporting
report = only shows.Report

abbrev pub retired : Reporting
retired = only shows.Retired

abbrev pub moves : Reporting
moves = only shows.Moves
