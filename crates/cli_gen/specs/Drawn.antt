-- The answer of the command `gen` with `--run`, and its effect on the streams.
use Rattle.std.specs.Prelude.{◌≡◌, ◌⊎◌, ℕ, List, ◌++◌, Option}
use Rattle.run_options.specs.Reportings as show
use Rattle.rv_machine.specs.Hart.{Hart}
use Rattle.rv_machine.specs.Streams.{Streams}
use Rattle.run_options.specs.declared.guess_rule.GuessRule.TheVariants as rules
use Rattle.cf_core.specs.Processors.{opened_processor as opened_on}
use Rattle.cf_gen.specs.Program.{program_text}
use Rattle.cf_layout.specs.Plain.{plain}
use Rattle.cli_arguments.specs.Options.{default_limit}
use Rattle.cli_files.specs.Image.{IsProgramFile, hart_at_start}
use Rattle.cli_files.specs.Memory.{SaysNoMemory}
use Rattle.cli_run.specs.Run.{chosen_by, BreaksCore, ComesOf}
use Rattle.cli_files.specs.Schedules.{drawn_from}
use Rattle.cli_asm.specs.Sources.{IsAssembly}
use Rattle.cli_files.specs.declared.status.Status.{Status}
use Rattle.cli_run.specs.declared.tail.Tail.TheVariants.{Nothing}

-- the hart on which the program begins: its text is assembled to a file, the file is a program, and the hart is that of
-- the file
pub record StartsDrawn (number : ℕ) (hart : Hart) : Type 0 where
  pub file : List ℕ
  pub assembly : IsAssembly (program_text number) file
  pub program : IsProgramFile file
  pub begins : hart ≡ hart_at_start file

-- the program was run on the built-in layout, by moves that are drawn from its number
pub record RunsDrawn (number : ℕ) (before after : Streams) (blank : Option (List ℕ)) (answer : Status)
    (shown closing : List ℕ) : Type 0 where
  pub hart : Hart
  pub starts : StartsDrawn number hart
  pub comes : ComesOf default_limit show.report Nothing plain hart (drawn_from number rules.Any) before after blank answer shown closing

-- it was not run, since memory was refused; the assembler and the loader accept each drawn program. The streams were
-- left unchanged
pub record RefusesDrawn (before after : Streams) (answer : Status) (report : List ℕ) : Type 0 where
  pub lacks : SaysNoMemory answer report
  pub streams : after ≡ before

-- the answer of `gen` with `--run` and its report, after the report's text so far
abbrev pub AnswersDrawn : ℕ → Streams → Streams → Option (List ℕ) → Status → (shown closing : List ℕ) → Type 0
AnswersDrawn number before after blank answer shown closing =
    RunsDrawn number before after blank answer shown closing
    ⊎ RefusesDrawn before after answer (shown ++ closing)

-- the report failed during the run
pub record BreaksDrawn (number : ℕ) (before after : Streams) (blank full : Option (List ℕ)) : Type 0 where
  pub hart : Hart
  pub starts : StartsDrawn number hart
  pub breaks : BreaksCore default_limit show.report (opened_on plain hart)
      (chosen_by default_limit show.report (drawn_from number rules.Any)) before after blank full
