-- The answer of the command `rounds`, and its effect on the outside.
use Rattle.std.specs.Prelude.{◌≡◌, ◌≤◌, ◌⊎◌, ℕ, List, ◌++◌, true, false, Option, None}
use Rattle.run_options.specs.declared.guess_rule.GuessRule.{GuessRule}
use Rattle.rv_machine.specs.Hart.{Hart}
use Rattle.rv_machine.specs.Streams.{Streams}
use Rattle.cf_layout.specs.Layout.{Plan}
use Rattle.cf_core.specs.Processors.{Processor, opened_processor}
use Rattle.cf_report.specs.declared.tally.Tally.{Tally}
use Rattle.cf_rounds.specs.declared.answer.Clocked.{Clocked}
use Rattle.cf_rounds.specs.Running.{ran_of}
use Rattle.cf_rounds.specs.RunsRight.{RoundsRunRight}
use Rattle.cf_rounds.specs.Saying.{rounds_text}
use Rattle.run_finishes.specs.declared.finish.Scripted.TheVariants.{Ran}
use Rattle.cf_run.specs.Ending.{EndsSequentially}
use Rattle.cf_run.specs.Moving.{run_place_of}
use Rattle.cf_run.specs.Policies.{most_moves}
use Rattle.report_closing.specs.Closing.{closing_in_rounds, is_report_fault}
use Rattle.cli_arguments.specs.Arguments.{NamedLayout}
use Rattle.cli_files.specs.Loading.{IsLoaded, LacksLoaded}
use Rattle.cli_files.specs.Memory.{LacksProcessor}
use Rattle.cli_files.specs.Outside.{Outside}
use Rattle.cli_files.specs.declared.status.Status.{Status}
use Rattle.cli_processor.specs.Agreement.{run_start, AgreesWithMachine}
use Rattle.cli_reports.specs.RunStatuses.{status_of_run}

-- what the arguments ask of `rounds`: where the layout is, the file with the program, the number of retired
-- instructions at which the run stops, the number of them after which the report says each time how far it has come, if
-- it does, and the guess rule
pub record RoundsAsked : Type 0 where
  pub layout : NamedLayout
  pub program : List ℕ
  pub limit : ℕ
  pub every : Option ℕ
  pub rule : GuessRule

abbrev pub rounds_asked : NamedLayout → List ℕ → ℕ → Option ℕ → GuessRule → RoundsAsked
rounds_asked layout program limit every rule = record { layout = layout; program = program; limit = limit; every = every; rule = rule }

-- a run in rounds from one processor to another: this many rounds, each the round of the candidates that are offered
-- where it is made under the guess rule, the counts of their moves, and what the report exposes before and after. It is
-- a run of the sequential machine on which the processor was opened, ends as that machine does, and has a bounded
-- number of moves
pub record RunInRounds (rule : GuessRule) (limit : ℕ) (every : Option ℕ) (core last : Processor) (before after : Streams)
    (blank : Option (List ℕ)) : Type 0 where
  pub tally : Tally
  pub rounds : ℕ
  pub clocked : Clocked
  pub told : Option (List ℕ)
  pub runs : RoundsRunRight rule limit every (run_start core before None) (run_place_of last after None tally) blank told rounds clocked
  pub ends : EndsSequentially limit (run_start core before None) (run_place_of last after None tally) (Ran (ran_of clocked))
  pub bounded : tally.moves ≤ most_moves core.plan limit

-- the processor was run in rounds; the status says how the run finished, this was shown of its rounds, and these are
-- the closing lines of the report
pub record RunsCoreInRounds (rule : GuessRule) (limit : ℕ) (every : Option ℕ) (core last : Processor) (before after : Streams)
    (blank : Option (List ℕ)) (answer : Status) (shown closing : List ℕ) : Type 0 where
  pub run : RunInRounds rule limit every core last before after blank
  pub reported : is_report_fault (Ran (ran_of run.clocked)) ≡ false
  pub status_is : answer ≡ status_of_run limit (ran_of run.clocked)
  pub shows : shown ≡ rounds_text every 0 0 core.state run.runs.runs.rounds
  pub closes : closing ≡ closing_in_rounds limit (Ran (ran_of run.clocked)) run.rounds last.plan last.state run.tally

-- the processor of the layout, opened on the hart, was run in rounds. If the run ends with Exit, Trap or Limit, its
-- status, its output, its first line, its `retired` line and its registers are those of `machine`
pub record RunsInRounds (rule : GuessRule) (limit : ℕ) (every : Option ℕ) (plan : Plan) (hart : Hart) (last : Processor)
    (before after : Streams) (blank : Option (List ℕ)) (answer : Status) (shown closing : List ℕ) : Type 0 where
  pub runs : RunsCoreInRounds rule limit every (opened_processor plan hart) last before after blank answer shown closing
  pub agrees : AgreesWithMachine limit plan hart before after (Ran (ran_of runs.run.clocked)) last runs.run.tally answer

-- the outcome for a layout and a hart
abbrev pub ComesInRounds : GuessRule → ℕ → Option ℕ → Plan → Hart → Streams → Streams → Option (List ℕ) → Status →
    (shown closing : List ℕ) → Type 0
ComesInRounds rule limit every plan hart before after blank answer shown closing =
    ((last : Processor) × RunsInRounds rule limit every plan hart last before after blank answer shown closing)
    ⊎ LacksProcessor before after answer (shown ++ closing)

-- the processor was run in rounds, and the report failed after one of them: nothing more was written to it
pub record BreaksInRounds (rule : GuessRule) (limit : ℕ) (every : Option ℕ) (core : Processor) (before after : Streams)
    (blank full : Option (List ℕ)) : Type 0 where
  pub last : Processor
  pub run : RunInRounds rule limit every core last before after blank
  pub cut : is_report_fault (Ran (ran_of run.clocked)) ≡ true
  pub told : full ≡ run.told

-- the layout and the program were read, and this is the outcome
pub record RunsLoaded (Comes : Plan → Hart → Type 0) (asked : RoundsAsked) (before after : Outside) : Type 0 where
  pub plan : Plan
  pub hart : Hart
  pub loaded : IsLoaded asked.layout asked.program before.files after.files plan hart
  pub comes : Comes plan hart

-- one of them is missing, and the streams were left unchanged
pub record RefusesRounds (asked : RoundsAsked) (before after : Outside) (answer : Status) (report : List ℕ) :
    Type 0 where
  pub lacks : LacksLoaded asked.layout asked.program before.files after.files answer report
  pub streams : after.streams ≡ before.streams

-- the answer of `rounds`, what it shows, and the closing lines of its report, after the report's text so far
abbrev pub AnswersRounds : RoundsAsked → Outside → Outside → Option (List ℕ) → Status → (shown closing : List ℕ) → Type 0
AnswersRounds asked before after blank answer shown closing =
    RunsLoaded (λ plan hart. ComesInRounds asked.rule asked.limit asked.every plan hart before.streams after.streams blank answer shown closing)
    asked before after
    ⊎ RefusesRounds asked before after answer (shown ++ closing)

-- both files were found, and the report failed during the run
abbrev pub BreaksRounds : RoundsAsked → Outside → Outside → Option (List ℕ) → Option (List ℕ) → Type 0
BreaksRounds asked before after blank full =
    RunsLoaded (λ plan hart. BreaksInRounds asked.rule asked.limit asked.every (opened_processor plan hart) before.streams after.streams blank full)
    asked before after
