-- A timed run whose kept moves are made one after another, where no Issue can come between them.
use Rattle.std.specs.Prelude.{◌≡◌, ℕ, false}
use Rattle.cf_sched.specs.Paces.{PaceCount, holds_issue}
use Rattle.cf_run.specs.Reaching.{GoesOn}
use Rattle.cf_timed.specs.Arrivals.{HasComeTimed, LeadsTimed, TimedPlace}
use Rattle.cf_timed.specs.Clocks.{clocked}
use Rattle.cf_timed.specs.DueMoves.{AreDue, KeptMoves}
use Rattle.cf_timed.specs.Soonest.{NoIssueBy}

-- a timed run has come here and goes on, and its kept moves are right
pub record KeepsDue (limit : ℕ) (pace : PaceCount) (at : TimedPlace) (kept : KeptMoves) : Type 0 where
  pub come : HasComeTimed limit pace at
  pub goes : GoesOn limit at.core.state
  pub due : AreDue at.core.plan (clocked at.clock at.core.state) kept

-- it has, and no Issue that is offered finishes by their time
pub record IsMakingDue (limit : ℕ) (pace : PaceCount) (at : TimedPlace) (kept : KeptMoves) : Type 0 where
  pub keeps : KeepsDue limit pace at kept
  pub no_issue : holds_issue pace ≡ false → NoIssueBy at.core.plan (clocked at.clock at.core.state) kept.time

-- the first of its kept moves was made, or is no longer due; the run has come on, and the others are right
pub record MakesFirst (limit : ℕ) (pace : PaceCount) (now new : TimedPlace) (others : KeptMoves) : Type 0 where
  pub making : IsMakingDue limit pace new others
  pub leads : LeadsTimed limit pace now new
