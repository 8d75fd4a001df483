-- The answer of the command `conform`, and its effect on the outside.
use Rattle.std.specs.Prelude.{◌≡◌, ◌⊎◌, ℕ, List}
use Rattle.rv_machine.specs.Hart.{Hart}
use Rattle.rv_machine.specs.Streams.{Streams}
use Rattle.cf_layout.specs.Layout.{Plan}
use Rattle.cf_core.specs.Processors.{Processor, opened_processor}
use Rattle.cf_log.specs.declared.kind.LogKind.TheVariants as kind
use Rattle.cf_conform.specs.declared.answer.Conformed.{Conformed}
use Rattle.cf_conform.specs.declared.answer.Conformed.TheVariants.{Ran, LogEnd, BadLog, Differs}
use Rattle.cf_conform.specs.declared.progress.LogProgress.{LogProgress}
use Rattle.cf_conform.specs.Conforming.{JudgesLog}
use Rattle.cf_conform.specs.LogPlaces.{log_place, no_progress}
use Rattle.cli_arguments.specs.Arguments.{NamedLayout}
use Rattle.cli_files.specs.Loading.{IsLoaded, LacksLoaded}
use Rattle.cli_files.specs.Memory.{LacksProcessor}
use Rattle.cli_files.specs.Outside.{Outside, Report}
use Rattle.cli_files.specs.declared.status.Status.{Status}
use Rattle.cli_files.specs.declared.status.Status.TheVariants as status
use Rattle.cli_reports.specs.RunStatuses.{status_of_run}
use Rattle.cli_reports.specs.Reporting.{ClosesWith}
use Rattle.cli_reports.specs.declared.reporting.Reported.{Reported}
use Rattle.cli_conform.specs.LogLines.{log_closing}

-- the status of a log that ended in this way under this limit, with this many moves made
abbrev pub log_status : (limit moves : ℕ) → Conformed → Status
log_status limit moves (Ran ran) = status_of_run limit ran
log_status limit moves LogEnd = status.LogEnd moves
log_status limit moves (BadLog refusal) = status.BadLog refusal
log_status limit moves (Differs number part) = status.BadLog (record { line = number; kind = kind.Differs })

-- the status says how processing the log finished, and its report, or a prefix of it, was written
abbrev pub ClosesLog : (limit : ℕ) → Conformed → Processor → LogProgress → (half full : Report) → Reported → Type 0
ClosesLog limit answer last progress half full reported =
    ClosesWith (log_status limit progress.tally.moves answer) (log_closing limit answer last.plan last.state progress) half full reported

-- what the arguments ask of `conform`: where the layout is, the file with the program, and the number of retired
-- instructions at which it stops
pub record ConformAsked : Type 0 where
  pub layout : NamedLayout
  pub program : List ℕ
  pub limit : ℕ

abbrev pub conform_asked : NamedLayout → List ℕ → ℕ → ConformAsked
conform_asked layout program limit = record { layout = layout; program = program; limit = limit }

-- the log was processed on a processor; the status says how this finished, and this is the whole report
pub record JudgesCore (limit : ℕ) (core last : Processor) (before after : Streams) (answer : Status) (report : List ℕ) : Type 0 where
  pub progress : LogProgress
  pub found : Conformed
  pub judges : JudgesLog limit before.input after.input (log_place core before.output no_progress) (log_place last after.output progress) found
  pub status_is : answer ≡ log_status limit progress.tally.moves found
  pub reports : report ≡ log_closing limit found last.plan last.state progress

-- the outcome for a layout and a hart: the log was processed on the processor of the layout, opened on the hart; or
-- memory for it was refused
abbrev pub ComesOfLog : ℕ → Plan → Hart → Streams → Streams → Status → List ℕ → Type 0
ComesOfLog limit plan hart before after answer report =
    ((last : Processor) × JudgesCore limit (opened_processor plan hart) last before after answer report) ⊎ LacksProcessor before after answer report

-- the layout and the program were read, and this is the outcome
pub record ConformsLoaded (asked : ConformAsked) (before after : Outside) (answer : Status) (report : List ℕ) : Type 0 where
  pub plan : Plan
  pub hart : Hart
  pub loaded : IsLoaded asked.layout asked.program before.files after.files plan hart
  pub comes : ComesOfLog asked.limit plan hart before.streams after.streams answer report

-- one of them is missing, and the streams were left unchanged
pub record RefusesConform (asked : ConformAsked) (before after : Outside) (answer : Status) (report : List ℕ) : Type 0 where
  pub lacks : LacksLoaded asked.layout asked.program before.files after.files answer report
  pub streams : after.streams ≡ before.streams

-- the answer of `conform` and its report
abbrev pub AnswersConform : ConformAsked → Outside → Outside → Status → List ℕ → Type 0
AnswersConform asked before after answer report =
    ConformsLoaded asked before after answer report ⊎ RefusesConform asked before after answer report
