-- Where a run of the processor begins, and that it answers as `machine` does.
use Rattle.std.specs.Prelude.{ℕ, List, [], ◌++◌, false, Option, None}
use Rattle.rv_machine.specs.Hart.{Hart}
use Rattle.rv_machine.specs.Streams.{Streams}
use Rattle.cf_layout.specs.Layout.{Plan, has_mul}
use Rattle.cf_core.specs.Processors.{Processor}
use Rattle.cf_report.specs.declared.tally.Tally.{Tally}
use Rattle.cf_report.specs.Lines.{registers_text}
use Rattle.run_finishes.specs.declared.finish.Ran.TheVariants as ran
use Rattle.run_finishes.specs.declared.finish.Scripted.{Scripted}
use Rattle.run_finishes.specs.declared.finish.Scripted.TheVariants.{Ran}
use Rattle.cf_run.specs.Moving.{RunPlace, run_place_of}
use Rattle.cf_run.specs.Reaching.{no_tally}
use Rattle.report_closing.specs.Closing.{head_text}
use Rattle.cli_files.specs.declared.status.Status.{Status}
use Rattle.cli_machine.specs.Machine.{RunsHart}
use Rattle.cli_machine.specs.Options.{chosen_of}

-- where the run begins: before its first move
abbrev pub run_start : Processor → Streams → Option (List ℕ) → RunPlace
run_start core streams report = run_place_of core streams report no_tally

-- the answer is that of `machine` on the hart, under the same limit and with multiplication if the layout has it; it
-- takes the same from the input and writes the same to the output, and this text closes its report
pub record IsMachines (limit : ℕ) (plan : Plan) (hart : Hart) (before after : Streams) (answer : Status)
    (text : List ℕ) : Type 0 where
  pub runs : RunsHart (chosen_of limit false (has_mul plan) None) hart before after answer [] text

-- the first line of the report, the line of the retired count and the registers
abbrev pub head_of : (limit : ℕ) → Scripted → Processor → Tally → List ℕ
head_of limit finish last tally = head_text limit tally.moves finish last.state.retired ++ registers_text last.state.regs

-- if a run ends with Exit, Trap or Limit, its status, its output, its first line, its `retired` line and its registers
-- are those of `machine`
abbrev pub AgreesWithMachine : (limit : ℕ) → Plan → Hart → (before after : Streams) → Scripted → Processor → Tally → Status → Type 0
AgreesWithMachine limit plan hart before after (Ran (ran.Exit code)) last tally answer =
    IsMachines limit plan hart before after answer (head_of limit (Ran (ran.Exit code)) last tally)
AgreesWithMachine limit plan hart before after (Ran (ran.Trap cause pc detail)) last tally answer =
    IsMachines limit plan hart before after answer (head_of limit (Ran (ran.Trap cause pc detail)) last tally)
AgreesWithMachine limit plan hart before after (Ran ran.Limit) last tally answer =
    IsMachines limit plan hart before after answer (head_of limit (Ran ran.Limit) last tally)
AgreesWithMachine limit plan hart before after finish last tally answer = Unit {0}
