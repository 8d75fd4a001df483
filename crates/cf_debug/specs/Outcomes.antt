-- The outcome of a command, or of a move of `auto`: it is carried out and its answer written; or the report failed
-- after a prefix of the answer; or the output failed it.
use Rattle.std.specs.Prelude.{◌≡◌, ◌≢◌, ◌⊎◌, ℕ, ◌≤◌, List, [], codes, Option, Some, Bool, true, false, Result, Ok, Err}
use Rattle.cf_io.specs.Puts.{Writes, WritesFront}
use Rattle.cf_io.specs.declared.failed.Failed.{Failed}
use Rattle.cf_bind.specs.declared.moves.Move.TheVariants.{Serve}
use Rattle.cf_semantics.specs.state.Drained.{is_drained}
use Rattle.cf_semantics.specs.moves.Holding.{paced}
use Rattle.cf_sched.specs.Paces.{stopped}
use Rattle.cf_report.specs.Putting.{PutsText}
use Rattle.cf_run.specs.Made.{Made, retirement}
use Rattle.cf_run.specs.Reaching.{GoesOn}
use Rattle.cf_debug.specs.declared.answer.Broken.{Broken}
use Rattle.cf_debug.specs.declared.answer.Broken.TheVariants as broken
use Rattle.cf_debug.specs.declared.command.DebugCommand.{DebugCommand}
use Rattle.cf_debug.specs.Driving.{Turn, DriveTakes, Drives, DrivesOn, DrivesAground, meets_break, next_turn, pick}
use Rattle.cf_debug.specs.Limits.{most_retired}
use Rattle.cf_debug.specs.Making.{ProcessorState, FailsOne}
use Rattle.cf_debug.specs.Replies.{DebuggerState, CommandAnswers, CommandAnswersPart, RefusesLine, RunsAground, TakesBack, TakesNewest}

-- the turn after a move, by a count that stops where Issue is held back
pub record IsNextTurn (at later : Turn) (now : ProcessorState) (made : Made) : Type 0 where
  pub rule : later.rule ≡ (next_turn at now made).rule
  pub policy : later.policy ≡ (next_turn at now made).policy
  pub count : later.count ≡ stopped now.core.plan.stages (next_turn at now made).count

-- the outcome of a move of `auto`, and whether it issued an instruction at the break address
unfoldable pub Steers : Option ℕ → (at later : Turn) → (now new : ProcessorState) → (written after : Option (List ℕ)) → Result Bool Broken → Type 0
Steers stop at later now new written after (Ok last) =
    (made : Made) × DriveTakes at made now new × (meets_break stop now.core.state made.move ≡ last) × IsNextTurn at later now made
    × Writes written after (retirement made.state.retired made.event)
Steers stop at later now new written after (Err broken.Report) =
    (made : Made) × DriveTakes at made now new × WritesFront written after (retirement made.state.retired made.event)
Steers stop at later now new written after (Err broken.Output) =
    GoesOn most_retired now.core.state × (pick at now ≡ Some Serve) × FailsOne Serve now new × (after ≡ written)

-- the outcome of the moves of `auto`, and how many there were
unfoldable pub DrivesOut : ℕ → Option ℕ → (now new : ProcessorState) → (written after : Option (List ℕ)) → Result ℕ Broken → Type 0
DrivesOut n stop now new written after (Ok count) = (lines : List ℕ) × Drives n stop now new count lines × Writes written after lines
DrivesOut n stop now new written after (Err broken.Report) = (lines : List ℕ) × DrivesOn n stop now new lines × WritesFront written after lines
DrivesOut n stop now new written after (Err broken.Output) = (lines : List ℕ) × DrivesAground n stop now new lines × Writes written after lines

-- only the report can fail a command that makes no move
abbrev pub of_report : Result (Unit {0}) Failed → Result (Unit {0}) Broken
of_report (Ok done) = Ok tt
of_report (Err failed) = Err broken.Report

-- the outcome of a step of `back`, and whether a move was kept
unfoldable pub PutsNewest : (now new : ProcessorState) → (written after : Option (List ℕ)) → (before faults : ℕ) → Result Bool Failed → Type 0
PutsNewest now new written after before faults answer =
    (text : List ℕ) × PutsText written after before faults text answer
    × ((TakesNewest now new text × (answer ≢ Ok false)) ⊎ ((now.ring ≡ []) × RefusesLine now new text (codes "NothingKept") × (answer ≢ Ok true)))

-- the outcome of `back`, and what is written: if the report fails, it may be that of fewer moves
unfoldable pub PutsBack : ℕ → (now new : ProcessorState) → (written after : Option (List ℕ)) → Result (Unit {0}) Failed → Type 0
PutsBack n now new written after (Ok done) = (text : List ℕ) × TakesBack n now new text × Writes written after text
PutsBack n now new written after (Err failed) = (text : List ℕ) × ((m : ℕ) × (m ≤ n) × TakesBack m now new text) × WritesFront written after text

-- the outcome of a command: it is carried out and its answer written; or the report failed after a prefix of the
-- answer; or the output failed it
unfoldable pub CommandLeaves : DebugCommand → (now new : DebuggerState) → (written after : Option (List ℕ)) → Result (Unit {0}) Broken → Type 0
CommandLeaves command now new written after (Ok done) = (text : List ℕ) × CommandAnswers command now new text × Writes written after text
CommandLeaves command now new written after (Err broken.Report) = (text : List ℕ) × CommandAnswersPart command now new text × WritesFront written after text
CommandLeaves command now new written after (Err broken.Output) = (text : List ℕ) × RunsAground command now new text × Writes written after text

-- an error if the output failed
abbrev pub output_broken : {T : Type 0} → Result T Broken → Result (Unit {0}) (Unit {0})
output_broken (Err broken.Output) = Err tt
output_broken answer = Ok tt

-- an error if the report failed
abbrev pub report_broken : {T : Type 0} → Result T Broken → Result (Unit {0}) (Unit {0})
report_broken (Err broken.Report) = Err tt
report_broken answer = Ok tt
