-- Where a run has arrived: the moves that it made were counted and shown, and it goes on or is over.
use Rattle.std.specs.Prelude.{◌≡◌, ℕ, ◌<◌, List, Some, None}
use Rattle.run_options.specs.declared.reporting.Reporting.{Reporting}
use Rattle.cf_io.specs.Puts.{Writes}
use Rattle.rv_machine.specs.Streams.{IsTold, Leaves}
use Rattle.cf_bind.specs.declared.passenger.End.TheVariants as ending
use Rattle.cf_semantics.specs.state.State.{State, Moment}
use Rattle.cf_core.specs.Processors.{in_state}
use Rattle.cf_report.specs.declared.tally.Tally.{Tally}
use Rattle.run_finishes.specs.declared.finish.Ran.{Ran as Answer}
use Rattle.run_finishes.specs.declared.finish.Ran.TheVariants as ran
use Rattle.cf_run.specs.Made.{Made, tally_of, all_shown}
use Rattle.cf_run.specs.Going.{moment_of, Leads, RunsTo}
use Rattle.cf_run.specs.Moving.{RunPlace}

-- nothing has been counted yet
abbrev pub no_tally : Tally
no_tally = record { moves = 0; meets = 0; kills = 0; dead = 0 }

-- moves lead from one RunPlace to another: they were counted, and shown after what the report had
pub record Reaches (limit : ℕ) (show : Reporting) (start now : RunPlace) : Type 0 where
  -- these moves were made, from a moment whose input agrees with what is known to another
  pub trace : List Made
  pub rest : List ℕ
  pub told : IsTold start.streams.input rest
  pub last : Moment
  pub leads : Leads start.core.plan limit start.streams.input (moment_of start.core rest) trace last
  pub run : RunsTo start.core.plan start.streams.input (moment_of start.core rest) trace last
  -- the processor is in the state of that moment, and this is left of the input and was added to the output
  pub core : now.core ≡ in_state start.core last.state
  pub streams : Leaves start.streams now.streams last.rest last.output
  -- they are counted and shown
  pub tally : now.tally ≡ tally_of trace
  pub report : Writes start.report now.report (all_shown show start.core.plan 1 trace)

-- the program has not ended, and fewer instructions have retired than the limit
pub record GoesOn (limit : ℕ) (s : State) : Type 0 where
  pub unended : s.ending ≡ None
  pub below : s.retired < limit

-- the program has ended, or it has not and the limit is reached
abbrev pub IsOver : ℕ → State → Answer → Type 0
IsOver limit s (ran.Exit status) = s.ending ≡ Some (ending.Exit status)
IsOver limit s (ran.Trap cause pc detail) = s.ending ≡ Some (ending.Trap cause pc detail)
IsOver limit s ran.Limit = (s.ending ≡ None) × (s.retired ≡ limit)
IsOver limit s ran.ReadFault = ⊥
IsOver limit s ran.WriteFault = ⊥
IsOver limit s ran.ReportFault = ⊥
