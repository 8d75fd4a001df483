-- The answers of the commands `run` and `moves`, and their effect on the outside.
use Rattle.std.specs.Prelude.{◌≡◌, ◌≤◌, ◌-◌, ◌⊎◌, ℕ, List, ◌++◌, true, false, Option, None}
use Rattle.run_options.specs.declared.guess_rule.GuessRule.{GuessRule}
use Rattle.run_options.specs.declared.reporting.Reporting.{Reporting}
use Rattle.rv_machine.specs.Hart.{Hart}
use Rattle.rv_machine.specs.Streams.{Streams}
use Rattle.cf_layout.specs.Layout.{Plan}
use Rattle.cf_bind.specs.declared.moves.Move.{Move}
use Rattle.cf_core.specs.Processors.{Processor, opened_processor}
use Rattle.cf_report.specs.declared.tally.Tally.{Tally}
use Rattle.cf_sched.specs.Policies.{drawn_from_seed, drawn_pick, drawn_on, round_pick, round_on}
use Rattle.run_scripts.specs.Scripts.{ScriptLines, script_of}
use Rattle.run_finishes.specs.declared.finish.Ran.{Ran as Answer}
use Rattle.run_finishes.specs.declared.finish.Scripted.{Scripted}
use Rattle.run_finishes.specs.declared.finish.Scripted.TheVariants.{Ran}
use Rattle.cf_run.specs.Ending.{EndsSequentially}
use Rattle.cf_run.specs.Headline.{RunsSequentially}
use Rattle.cf_run.specs.Made.{Made, all_shown}
use Rattle.cf_run.specs.Moving.{RunPlace, run_place_of}
use Rattle.cf_run.specs.Policies.{RunsPolicy, most_moves}
use Rattle.cf_run.specs.Scripts.{script_run_of, first_moves, RunsScript}
use Rattle.report_closing.specs.Closing.{closing, is_report_fault}
use Rattle.cli_files.specs.Memory.{LacksProcessor}
use Rattle.cli_processor.specs.Agreement.{run_start, AgreesWithMachine}
use Rattle.cli_processor.specs.Statuses.{status_of}
use Rattle.cli_run.specs.Tail.{tail_text}
use Rattle.cli_run.specs.declared.tail.Tail.{Tail}
use Rattle.cli_files.specs.Outside.{Outside}
use Rattle.cli_files.specs.RunFiles.{RunAsked, ReadsRunFiles, AnswersFiles}
use Rattle.cli_files.specs.Schedules.{ReadySchedule, in_script, drawn_from, in_turn}
use Rattle.cli_files.specs.declared.status.Status.{Status}
use Rattle.cli_files.specs.declared.status.Status.TheVariants as status
use Rattle.cli_files.specs.declared.status.Which.TheVariants as which

-- a run from one place to another, by whatever chose its moves: how it finished, the moves that were shown, and all its moves
abbrev pub RunRelation : Type 1
RunRelation = (start new : RunPlace) → Scripted → List Made → List Move → Type 0

-- by a script of this text: the run makes its first moves
pub record ByScript (limit : ℕ) (show : Reporting) (text : List ℕ) (start new : RunPlace) (finish : Scripted)
    (trace : List Made) (moves : List Move) : Type 0 where
  pub left : ScriptLines
  pub runs : RunsScript limit show (script_run_of start (script_of text)) (script_run_of new left) finish
  pub trace_is : trace ≡ runs.follows.reaches.trace
  pub moves_are : moves ≡ first_moves (script_of text) new.tally

-- by a policy, offered the moves that the guess rule keeps; it makes at most 4 N K (r + 1) moves if r instructions
-- retire
pub record ByPolicy {P : Type 0} (rule : GuessRule) (picked : P → List Move → ℕ) (onward : P → List Move → P) (limit : ℕ)
    (show : Reporting) (policy : P) (start new : RunPlace) (finish : Scripted) (trace : List Made)
    (moves : List Move) : Type 0 where
  pub answer : Answer
  pub finish_is : finish ≡ Ran answer
  pub later : P
  pub runs : RunsPolicy rule picked onward limit show start new policy later moves answer
  pub trace_is : trace ≡ runs.reaches.trace
  pub bounded : new.tally.moves ≤ most_moves start.core.plan (new.core.state.retired - start.core.state.retired)

-- by what was read: the moves of the text, those that are drawn from the seed, or those of the fixed rule
abbrev pub chosen_by : ℕ → Reporting → ReadySchedule → RunRelation
chosen_by limit show (in_script text) = ByScript limit show text
chosen_by limit show (drawn_from seed rule) = ByPolicy rule drawn_pick (λ g moves. drawn_on g) limit show (drawn_from_seed seed)
chosen_by limit show (in_turn rule) = ByPolicy rule round_pick round_on limit show None

-- a run from one processor to another: the counts, how it finished, and what the report exposes before and after it. By
-- its moves it is a run of the sequential machine on which the processor was opened, and ends as that machine does
pub record ProcessorRun (limit : ℕ) (show : Reporting) (core last : Processor) (by : RunRelation)
    (before after : Streams) (blank : Option (List ℕ)) : Type 0 where
  pub tally : Tally
  pub told : Option (List ℕ)
  pub finish : Scripted
  pub trace : List Made
  pub moves : List Move
  pub runs : by (run_start core before blank) (run_place_of last after told tally) finish trace moves
  pub sequential : RunsSequentially show moves (run_start core before blank) (run_place_of last after told tally) finish
  pub ends : EndsSequentially limit (run_start core before blank) (run_place_of last after told tally) finish

-- the processor was run in this way; the status says how the run finished, this was shown of its moves, and these are
-- the closing lines of the report
pub record RunsCore (limit : ℕ) (show : Reporting) (core last : Processor) (by : RunRelation)
    (before after : Streams) (blank : Option (List ℕ)) (answer : Status) (shown text : List ℕ) : Type 0 where
  pub run : ProcessorRun limit show core last by before after blank
  pub reported : is_report_fault run.finish ≡ false
  pub status_is : answer ≡ status_of limit run.tally.moves run.finish
  pub shows : shown ≡ all_shown show core.plan 1 run.trace
  pub closes : text ≡ closing limit run.finish last.plan last.state run.tally

-- the processor was run to this one, and the tail follows the closing lines of the report
pub record RunsWithTail (limit : ℕ) (show : Reporting) (tail : Tail) (core last : Processor) (by : RunRelation)
    (before after : Streams) (blank : Option (List ℕ)) (answer : Status) (shown closing : List ℕ) : Type 0 where
  pub text : List ℕ
  pub runs : RunsCore limit show core last by before after blank answer shown text
  pub closes : closing ≡ text ++ tail_text tail answer last

-- under a policy a run ends with Exit, Trap or Limit, or with a fault, whose count rose
abbrev pub IsComplete : ReadySchedule → Status → Type 0
IsComplete (in_script text) answer = Unit {0}
IsComplete schedule (status.Exit code) = Unit {0}
IsComplete schedule (status.Trap cause pc detail) = Unit {0}
IsComplete schedule (status.Limit limit) = Unit {0}
IsComplete schedule (status.ReadFault which.Input) = Unit {0}
IsComplete schedule status.WriteFault = Unit {0}
IsComplete schedule answer = ⊥

-- the processor of the layout, opened on the hart, was run to this one, and the tail follows the closing lines of the
-- report
pub record RunsOpened (limit : ℕ) (show : Reporting) (tail : Tail) (plan : Plan) (hart : Hart) (last : Processor)
    (schedule : ReadySchedule) (before after : Streams) (blank : Option (List ℕ)) (answer : Status)
    (shown closing : List ℕ) : Type 0 where
  pub text : List ℕ
  pub runs : RunsCore limit show (opened_processor plan hart) last (chosen_by limit show schedule) before after blank answer shown text
  pub agrees : AgreesWithMachine limit plan hart before after runs.run.finish last runs.run.tally answer
  pub complete : IsComplete schedule answer
  pub closes : closing ≡ text ++ tail_text tail answer last

-- the outcome for a layout, a hart and a schedule: the processor of that layout, opened on the hart, was run
abbrev pub ComesOf : ℕ → Reporting → Tail → Plan → Hart → ReadySchedule → Streams → Streams → Option (List ℕ) → Status →
    (shown closing : List ℕ) → Type 0
ComesOf limit show tail plan hart schedule before after blank answer shown closing =
    ((last : Processor) × RunsOpened limit show tail plan hart last schedule before after blank answer shown closing)
    ⊎ LacksProcessor before after answer (shown ++ closing)

-- the processor was run in this way, and the report failed as the run showed a move: nothing more was written to it
pub record BreaksCore (limit : ℕ) (show : Reporting) (core : Processor) (by : RunRelation)
    (before after : Streams) (blank full : Option (List ℕ)) : Type 0 where
  pub last : Processor
  pub run : ProcessorRun limit show core last by before after blank
  pub cut : is_report_fault run.finish ≡ true
  pub told : full ≡ run.told

-- the answer of `run`, or of `moves` with its tail, what it shows, and the closing lines of its report, after its text
-- so far
abbrev pub AnswersRun : Tail → RunAsked → Outside → Outside → Option (List ℕ) → Status → (shown closing : List ℕ) → Type 0
AnswersRun tail asked before after blank answer shown closing =
    AnswersFiles (λ plan hart schedule.
    ComesOf asked.limit asked.reporting tail plan hart schedule before.streams after.streams blank answer shown closing)
    asked before after answer (shown ++ closing)

-- all files were found, and the report failed during the run
abbrev pub BreaksRun : RunAsked → Outside → Outside → Option (List ℕ) → Option (List ℕ) → Type 0
BreaksRun asked before after blank full =
    ReadsRunFiles (λ plan hart schedule.
    BreaksCore asked.limit asked.reporting (opened_processor plan hart) (chosen_by asked.limit asked.reporting schedule)
    before.streams after.streams blank full) asked before after
