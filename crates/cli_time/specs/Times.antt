-- The answer of the command `time`, and its report.
use Rattle.std.specs.Prelude.{◌≡◌, ◌<◌, ◌⊎◌, ℕ, List, ◌++◌, codes, length, map, slice_get, Option, Some}
use Rattle.cf_timed.specs.declared.span.Span.{Span}
use Rattle.cf_io.specs.Puts.{Writes, WritesFront}
use Rattle.cf_io.specs.Reads.{FilesSeen}
use Rattle.rv_machine.specs.Hart.{Hart}
use Rattle.rv_machine.specs.Machine.{Machine}
use Rattle.cf_layout.specs.Layout.{Plan}
use Rattle.cf_core.specs.Processors.{opened_processor}
use Rattle.cf_run.specs.Headline.{machine_on}
use Rattle.texts.specs.Lines.{line}
use Rattle.cli_time.specs.declared.choices.RunChoices.{RunChoices}
use Rattle.cli_arguments.specs.Arguments.{NamedLayout}
use Rattle.cli_files.specs.declared.status.Status.{Status}
use Rattle.cli_files.specs.declared.status.Status.TheVariants as status
use Rattle.cli_time.specs.Asked.{TimeAsked, TimeFiles}
use Rattle.cli_time.specs.Leasts.{IsFirstLeast}
use Rattle.cli_time.specs.Lines.{least_line, layout_lines, time_lines}
use Rattle.cli_time.specs.Measures.{BreaksTaking, Measures, MeasuresFirst, TakenRun, rule_by}
use Rattle.cli_time.specs.InputFiles.{LacksTimeInput, TimeInputRead}

-- the program was run on each layout, and the first argument whose layout takes the least time is this
pub record MeasuresAll (arguments : List NamedLayout) (options : RunChoices) (delays : List Span) (plans : List Plan) (start : Machine)
    (measured : List TakenRun) (named : NamedLayout) : Type 0 where
  pub each : MeasuresFirst delays options start plans measured
  pub all : length measured ≡ length plans
  pub place : ℕ
  pub least : IsFirstLeast (map (λ m. m.measured.time) measured) place
  pub named_is : slice_get arguments place ≡ Some named

-- it was run on each, and the report has a line for each layout and names that one
pub record Compares (arguments : List NamedLayout) (options : RunChoices) (delays : List Span) (plans : List Plan) (start : Machine)
    (answer : Status) (report : List ℕ) : Type 0 where
  pub measured : List TakenRun
  pub named : NamedLayout
  pub all : MeasuresAll arguments options delays plans start measured named
  pub status_is : answer ≡ status.Done
  pub reports : report ≡ time_lines options.limit arguments measured ++ least_line named

-- memory was refused before the first move of a run; the lines of the earlier runs come before the line that says so
pub record LacksRun (arguments : List NamedLayout) (options : RunChoices) (delays : List Span) (plans : List Plan) (start : Machine)
    (answer : Status) (report : List ℕ) : Type 0 where
  pub measured : List TakenRun
  pub each : MeasuresFirst delays options start plans measured
  pub fewer : length measured < length plans
  pub status_is : answer ≡ status.NoMemory
  pub reports : report ≡ time_lines options.limit arguments measured ++ line (codes "no memory")

-- the outcome for delays, layouts and the machine as each run starts on it
abbrev pub TimesOf : List NamedLayout → RunChoices → List Span → List Plan → Machine → Status → List ℕ → Type 0
TimesOf arguments options delays plans start answer report =
    Compares arguments options delays plans start answer report
    ⊎ LacksRun arguments options delays plans start answer report

-- the report failed at the line of a layout: those of the earlier ones were written
pub record BreaksAtLine (arguments : List NamedLayout) (options : RunChoices) (delays : List Span) (plans : List Plan) (start : Machine)
    (blank full : Option (List ℕ)) : Type 0 where
  pub measured : List TakenRun
  pub each : MeasuresFirst delays options start plans measured
  pub argument : NamedLayout
  pub plan : Plan
  pub next : TakenRun
  pub argument_is : slice_get arguments (length measured) ≡ Some argument
  pub plan_is : slice_get plans (length measured) ≡ Some plan
  pub measures : Measures delays options plan start next
  pub told : Option (List ℕ)
  pub put : Writes blank told (time_lines options.limit arguments measured)
  pub front : WritesFront told full (layout_lines options.limit argument next)

-- it failed at a line of a move of its run
pub record BreaksAtMove (arguments : List NamedLayout) (options : RunChoices) (delays : List Span) (plans : List Plan) (start : Machine)
    (blank full : Option (List ℕ)) : Type 0 where
  pub measured : List TakenRun
  pub each : MeasuresFirst delays options start plans measured
  pub plan : Plan
  pub plan_is : slice_get plans (length measured) ≡ Some plan
  pub told : Option (List ℕ)
  pub put : Writes blank told (time_lines options.limit arguments measured)
  pub front : BreaksTaking (rule_by delays options) options (opened_processor plan start.hart) start.rest told full

-- one or the other
abbrev pub BreaksAtLayout : List NamedLayout → RunChoices → List Span → List Plan → Machine → Option (List ℕ) → Option (List ℕ) → Type 0
BreaksAtLayout arguments options delays plans start blank full =
    BreaksAtLine arguments options delays plans start blank full
    ⊎ BreaksAtMove arguments options delays plans start blank full

-- it failed at the last line
pub record BreaksAtLeast (arguments : List NamedLayout) (options : RunChoices) (delays : List Span) (plans : List Plan) (start : Machine)
    (blank full : Option (List ℕ)) : Type 0 where
  pub measured : List TakenRun
  pub named : NamedLayout
  pub all : MeasuresAll arguments options delays plans start measured named
  pub told : Option (List ℕ)
  pub put : Writes blank told (time_lines options.limit arguments measured)
  pub front : WritesFront told full (least_line named)

-- the report failed
abbrev pub BreaksTimes : List NamedLayout → RunChoices → List Span → List Plan → Machine → Option (List ℕ) → Option (List ℕ) → Type 0
BreaksTimes arguments options delays plans start blank full =
    BreaksAtLayout arguments options delays plans start blank full
    ⊎ BreaksAtLeast arguments options delays plans start blank full

-- all files were found, and this is the outcome for them and for the machine as it starts with the program and its
-- whole input
pub record ReadsTimeFiles (Comes : List Span → List Plan → Machine → Type 0) (files : TimeFiles) (named : Option (List ℕ))
    (before after : Option FilesSeen) : Type 0 where
  pub delays : List Span
  pub plans : List Plan
  pub hart : Hart
  pub bytes : List ℕ
  pub ready : TimeInputRead files named before after delays plans hart bytes
  pub comes : Comes delays plans (machine_on hart bytes)

-- the answer of `time` and its report
abbrev pub AnswersTime : TimeAsked → Option FilesSeen → Option FilesSeen → Status → List ℕ → Type 0
AnswersTime asked before after answer report =
    ReadsTimeFiles (λ delays plans start. TimesOf asked.files.layouts asked.options delays plans start answer report)
    asked.files asked.input before after
    ⊎ LacksTimeInput asked.files asked.input before after answer report

-- all files were found, and the report failed
abbrev pub BreaksTime : TimeAsked → Option FilesSeen → Option FilesSeen → Option (List ℕ) → Option (List ℕ) → Type 0
BreaksTime asked before after blank full =
    ReadsTimeFiles (λ delays plans start. BreaksTimes asked.files.layouts asked.options delays plans start blank full)
    asked.files asked.input before after
