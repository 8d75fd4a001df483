-- The files that `run` reads, in turn: the layout's, the program's and, if a script gives the moves, the script's.
use Rattle.std.specs.Prelude.{◌≡◌, ◌⊎◌, ℕ, List, Option}
use Rattle.run_options.specs.declared.reporting.Reporting.{Reporting}
use Rattle.cf_io.specs.Reads.{FilesSeen}
use Rattle.rv_machine.specs.Hart.{Hart}
use Rattle.cf_layout.specs.Layout.{Plan}
use Rattle.cli_arguments.specs.Options.{Schedule}
use Rattle.cli_arguments.specs.Views.{layout_of, schedule_view}
use Rattle.cli_arguments.specs.declared.command.LayoutArgument.{LayoutArgument}
use Rattle.cli_arguments.specs.declared.command.RunOptions.{RunOptions}
use Rattle.cli_arguments.specs.Arguments.{NamedLayout}
use Rattle.cli_files.specs.Loading.{IsLoaded, LacksLoaded}
use Rattle.cli_files.specs.Outside.{Outside}
use Rattle.cli_files.specs.Schedules.{ReadySchedule, IsScheduled, LacksSchedule}
use Rattle.cli_files.specs.declared.status.Status.{Status}

-- what the arguments ask of `run`: where the layout is, the file with the program, what chooses the moves, the number
-- of retired instructions at which the run stops, and what it writes to the report
pub record RunAsked : Type 0 where
  pub layout : NamedLayout
  pub program : List ℕ
  pub schedule : Schedule
  pub limit : ℕ
  pub reporting : Reporting

abbrev pub run_asked : NamedLayout → List ℕ → Schedule → ℕ → Reporting → RunAsked
run_asked layout program schedule limit reporting = record {
  layout = layout;
  program = program;
  schedule = schedule;
  limit = limit;
  reporting = reporting;
}

-- the same, from the arguments as contracts see them
abbrev pub run_asked_by : LayoutArgument → List ℕ → RunOptions → RunAsked
run_asked_by layout program options =
    run_asked (layout_of layout) program (schedule_view options.schedule) options.limit options.reporting

-- all were found: after layout and program this schedule was read
pub record RunFilesRead (asked : RunAsked) (before after : Option FilesSeen) (plan : Plan) (hart : Hart)
    (schedule : ReadySchedule) : Type 0 where
  pub between : Option FilesSeen
  pub loaded : IsLoaded asked.layout asked.program before between plan hart
  pub scheduled : IsScheduled asked.schedule between after schedule

-- the layout and the program were found, and the script's file gives no script
pub record StopsAtScript (asked : RunAsked) (before after : Option FilesSeen) (answer : Status)
    (report : List ℕ) : Type 0 where
  pub plan : Plan
  pub hart : Hart
  pub between : Option FilesSeen
  pub loaded : IsLoaded asked.layout asked.program before between plan hart
  pub lacks : LacksSchedule asked.schedule between after answer report

-- the first of them that is missing, the status that says why, and the report
abbrev pub LacksRunFile : RunAsked → Option FilesSeen → Option FilesSeen → Status → List ℕ → Type 0
LacksRunFile asked before after answer report =
    LacksLoaded asked.layout asked.program before after answer report
    ⊎ StopsAtScript asked before after answer report

-- all files were found, and this is the outcome
pub record ReadsRunFiles (Comes : Plan → Hart → ReadySchedule → Type 0) (asked : RunAsked)
    (before after : Outside) : Type 0 where
  pub plan : Plan
  pub hart : Hart
  pub schedule : ReadySchedule
  pub ready : RunFilesRead asked before.files after.files plan hart schedule
  pub comes : Comes plan hart schedule

-- one of them is missing, and the streams were left unchanged
pub record RefusesRun (asked : RunAsked) (before after : Outside) (answer : Status)
    (report : List ℕ) : Type 0 where
  pub lacks : LacksRunFile asked before.files after.files answer report
  pub streams : after.streams ≡ before.streams

-- the answer of a command that reads these files, and its report
abbrev pub AnswersFiles : (Plan → Hart → ReadySchedule → Type 0) → RunAsked → Outside → Outside → Status →
    List ℕ → Type 0
AnswersFiles Comes asked before after answer report =
    ReadsRunFiles Comes asked before after ⊎ RefusesRun asked before after answer report
