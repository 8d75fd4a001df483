-- How far a log has been processed.
use Rattle.std.specs.Prelude.{ℕ, List, [], Option, Some, None}
use Rattle.rv_machine.specs.Streams.{streams_of}
use Rattle.cf_semantics.specs.declared.event.Event.{Event}
use Rattle.cf_semantics.specs.declared.event.Event.TheVariants as event
use Rattle.cf_core.specs.Processors.{Processor}
use Rattle.cf_run.specs.Moving.{RunPlace, run_place_of}
use Rattle.cf_run.specs.Reaching.{no_tally}
use Rattle.cf_conform.specs.declared.progress.LatestRetired.{LatestRetired}
use Rattle.cf_conform.specs.declared.progress.LogProgress.{LogProgress}

-- the processor, what the output exposes, and the progress so far
pub record LogPlace : Type 0 where
  pub core : Processor
  pub output : Option (List ℕ)
  pub progress : LogProgress

abbrev pub log_place : Processor → Option (List ℕ) → LogProgress → LogPlace
log_place core output progress = record { core = core; output = output; progress = progress }

-- the same as the place of a run with an empty input that shows nothing
abbrev pub as_run : LogPlace → RunPlace
as_run at = run_place_of at.core (streams_of (Some []) at.output) None at.progress.tally

-- no progress yet
abbrev pub no_progress : LogProgress
no_progress = record { tally = no_tally; time = 0; observed = 0; latest = None }

-- this is the latest time
abbrev pub at_time : LogPlace → ℕ → LogPlace
at_time at time = record at { progress = record at.progress { time = time } }

-- the latest instruction to retire, after a move with this event and this count of retired instructions
abbrev pub latest_after : Option LatestRetired → Event → ℕ → Option LatestRetired
latest_after earlier (event.Retired line) retired = Some (record { number = retired; retired = line })
latest_after earlier event.Plain retired = earlier
latest_after earlier event.Killed retired = earlier
latest_after earlier event.Died retired = earlier
latest_after earlier (event.Ended e) retired = earlier

-- the event is noted
abbrev pub noted_event : LogProgress → Event → ℕ → LogProgress
noted_event progress e retired = record progress { latest = latest_after progress.latest e retired }
