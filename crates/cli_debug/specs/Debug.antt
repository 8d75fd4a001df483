-- The answer of the command `debug`, and its effect on the outside.
use Rattle.std.specs.Prelude.{◌≡◌, ◌≢◌, ◌⊎◌, ℕ, List, [], ◌++◌, Option, Some}
use Rattle.rv_machine.specs.Hart.{Hart}
use Rattle.rv_machine.specs.Streams.{Streams}
use Rattle.cf_layout.specs.Layout.{Plan}
use Rattle.cf_semantics.specs.moves.Kept.{Kept}
use Rattle.cf_core.specs.Processors.{Processor, opened_processor}
use Rattle.cf_debug.specs.declared.answer.Debugged.{Debugged}
use Rattle.cf_debug.specs.declared.answer.Debugged.TheVariants.{ReportFault}
use Rattle.cf_debug.specs.Making.{processor_state}
use Rattle.cf_debug.specs.Sessions.{Debugs, session_of}
use Rattle.cf_debug.specs.Standing.{IsOnRun}
use Rattle.cli_arguments.specs.Arguments.{NamedLayout}
use Rattle.cli_files.specs.Loading.{IsLoaded, LacksLoaded}
use Rattle.cli_files.specs.Memory.{LacksProcessor}
use Rattle.cli_files.specs.Outside.{Outside}
use Rattle.cli_files.specs.declared.status.Status.{Status}
use Rattle.cli_debug.specs.Closing.{closing_of_session, session_status}

-- a session on a processor as it was opened, with nothing kept, whose commands are the input. It ends at a moment of a
-- run of the machine on which the processor was opened, with the output that the run's moves write; or the output
-- failed the call that was to be served there
pub record HasSession (core : Processor) (before after : Streams) (blank full : Option (List ℕ)) (ended : Debugged) : Type 0 where
  pub last : Processor
  pub kept : List Kept
  pub session : Debugs (session_of (processor_state core [] before.output) before.input blank)
      (session_of (processor_state last kept after.output) after.input full) ended
  pub on_run : IsOnRun core last before.output after.output ended

-- a session took place; this is the whole report: the answers to its commands, and after them how it ended
pub record AnswersSession (core : Processor) (before after : Streams) (answer : Status) (report : List ℕ) : Type 0 where
  pub ended : Debugged
  pub told : ended ≢ ReportFault
  pub answers : List ℕ
  pub session : HasSession core before after (Some []) (Some answers) ended
  pub status_is : answer ≡ session_status ended
  pub reports : report ≡ answers ++ closing_of_session ended

-- the outcome for a layout and a hart: a session on the processor of that layout, opened on the hart
abbrev pub ComesOfCommands : Plan → Hart → (before after : Streams) → Status → List ℕ → Type 0
ComesOfCommands plan hart before after answer report =
    AnswersSession (opened_processor plan hart) before after answer report ⊎ LacksProcessor before after answer report

-- the report failed during the session
abbrev pub BreaksSession : Processor → (before after : Streams) → (blank full : Option (List ℕ)) → Type 0
BreaksSession core before after blank full = HasSession core before after blank full ReportFault

-- the layout and the program were found, and this was the outcome
pub record DebugsProgram (layout : NamedLayout) (program : List ℕ) (before after : Outside) (answer : Status)
    (report : List ℕ) : Type 0 where
  pub plan : Plan
  pub hart : Hart
  pub loaded : IsLoaded layout program before.files after.files plan hart
  pub comes : ComesOfCommands plan hart before.streams after.streams answer report

-- one of them is missing, and the streams were left unchanged
pub record RefusesDebug (layout : NamedLayout) (program : List ℕ) (before after : Outside) (answer : Status)
    (report : List ℕ) : Type 0 where
  pub lacks : LacksLoaded layout program before.files after.files answer report
  pub streams : after.streams ≡ before.streams

-- the answer of `debug` and its report
abbrev pub AnswersDebug : NamedLayout → List ℕ → Outside → Outside → Status → List ℕ → Type 0
AnswersDebug layout program before after answer report =
    DebugsProgram layout program before after answer report ⊎ RefusesDebug layout program before after answer report

-- both were found, and the report failed during the session
pub record BreaksDebug (layout : NamedLayout) (program : List ℕ) (before after : Outside)
    (blank full : Option (List ℕ)) : Type 0 where
  pub plan : Plan
  pub hart : Hart
  pub loaded : IsLoaded layout program before.files after.files plan hart
  pub breaks : BreaksSession (opened_processor plan hart) before.streams after.streams blank full
