-- The answer of the command `machine`, and its effect on the outside.
use Rattle.std.specs.Prelude.{◌≡◌, ◌⊎◌, ℕ, List, ◌++◌, Option}
use Rattle.rv_machine.specs.Hart.{Hart}
use Rattle.rv_machine.specs.Streams.{Streams}
use Rattle.run_finishes.specs.declared.finish.Ran.{Ran}
use Rattle.report_closing.specs.Closing.{machine_closing}
use Rattle.cli_machine.specs.Options.{Chosen}
use Rattle.cli_machine.specs.Finish.{Runs, ReportFails}
use Rattle.cli_files.specs.Outside.{Outside}
use Rattle.cli_files.specs.Programs.{IsProgramAt, LacksProgram}
use Rattle.cli_files.specs.declared.status.Status.{Status}
use Rattle.cli_reports.specs.RunStatuses.{status_of_run}

-- the hart was run; the status says how the run finished, these lines are shown, and these close the report
pub record RunsHart (chosen : Chosen) (start : Hart) (before after : Streams) (answer : Status)
    (lines closing : List ℕ) : Type 0 where
  pub finish : Ran
  pub status_is : answer ≡ status_of_run chosen.limit finish
  pub last : Hart
  pub runs : Runs chosen start last before after finish lines
  pub closes : closing ≡ machine_closing chosen.limit finish last.retired last.regs

-- the file holds a program, and it was run
pub record RunsProgram (name : List ℕ) (chosen : Chosen) (before after : Outside)
    (answer : Status) (lines closing : List ℕ) : Type 0 where
  pub start : Hart
  pub program : IsProgramAt name before.files after.files start
  pub runs : RunsHart chosen start before.streams after.streams answer lines closing

-- there is no program, and the streams were left unchanged
pub record RefusesMachine (name : List ℕ) (before after : Outside) (answer : Status)
    (report : List ℕ) : Type 0 where
  pub lacks : LacksProgram name before.files after.files answer report
  pub streams : after.streams ≡ before.streams

-- the answer of `machine`, the lines that it shows, and those that close its report
abbrev pub AnswersMachine : List ℕ → Chosen → Outside → Outside → Status → (shown closing : List ℕ) → Type 0
AnswersMachine name chosen before after answer shown closing =
    RunsProgram name chosen before after answer shown closing
    ⊎ RefusesMachine name before after answer (shown ++ closing)

-- the hart was run, and its run broke off because the report failed
pub record BreaksHart (chosen : Chosen) (start : Hart) (before after : Streams)
    (blank full : Option (List ℕ)) : Type 0 where
  pub last : Hart
  pub breaks : ReportFails chosen start last before after blank full

-- the file holds a program, and its run broke off because the report failed: nothing more was written to the report
pub record BreaksProgram (name : List ℕ) (chosen : Chosen) (before after : Outside)
    (blank full : Option (List ℕ)) : Type 0 where
  pub start : Hart
  pub program : IsProgramAt name before.files after.files start
  pub breaks : BreaksHart chosen start before.streams after.streams blank full
