-- How a run ends as the sequential machine does under the same limit ("Counterflow Pipeline Processor Architecture",
-- 1994: the order of the local actions is free).
use Rattle.std.specs.Prelude.{◌≡◌, ℕ, ◌<◌, ◌-◌, List, [], Option, Some, None}
use Rattle.rv_inst.specs.declared.isa.Isa.{Isa}
use Rattle.rv_machine.specs.After.{after}
use Rattle.rv_machine.specs.Hart.{Hart}
use Rattle.rv_machine.specs.Machine.{Machine}
use Rattle.rv_machine.specs.Outcome.{Exit, Trap}
use Rattle.rv_machine.specs.Step.{step}
use Rattle.rv_machine.specs.Streams.{Leaves}
use Rattle.cf_layout.specs.Layout.{Plan}
use Rattle.cf_semantics.specs.state.Layouts.{isa_of}
use Rattle.cf_semantics.specs.runs.Lines.{Line}
use Rattle.theory_unknown_input.specs.UnknownInput.{GoesTo}
use Rattle.cf_core.specs.Processors.{opened_processor}
use Rattle.run_finishes.specs.declared.finish.Ran.{Ran as Answer}
use Rattle.run_finishes.specs.declared.finish.Ran.TheVariants as ran
use Rattle.run_finishes.specs.declared.finish.Scripted.{Scripted}
use Rattle.run_finishes.specs.declared.finish.Scripted.TheVariants.{Ran, ScriptEnd, BadScript, BarredAt}
use Rattle.cf_run.specs.Headline.{machine_on}
use Rattle.cf_run.specs.Moving.{RunPlace}

-- n steps lead to this machine from the one that starts on the hart with what the input exposes; if it exposes nothing,
-- each step finds some input
abbrev pub IsAfterSteps : Isa → Option (List ℕ) → Hart → ℕ → Machine → Type 0
IsAfterSteps isa (Some rest) hart n at = after isa (machine_on hart rest) n ≡ Some at
IsAfterSteps isa None hart n at = (written : List Line) × GoesTo isa (machine_on hart []) n at written

-- the machine ends in this way under the limit: by its next step, below the limit; or it has reached the limit
abbrev pub EndsUnderLimit : Isa → ℕ → Machine → Answer → Type 0
EndsUnderLimit isa limit at (ran.Exit status) = (at.hart.retired < limit) × (step isa at ≡ Exit status)
EndsUnderLimit isa limit at (ran.Trap cause pc detail) = (at.hart.retired < limit) × (step isa at ≡ Trap cause pc detail)
EndsUnderLimit isa limit at ran.Limit = at.hart.retired ≡ limit
EndsUnderLimit isa limit at ran.ReadFault = ⊥
EndsUnderLimit isa limit at ran.WriteFault = ⊥
EndsUnderLimit isa limit at ran.ReportFault = ⊥

-- the run of a processor that was opened on this hart ends as that machine does: it has the same ending, retired count,
-- registers, remaining input and output; the machine multiplies and divides if the layout does
pub record EndsAsMachine (limit : ℕ) (hart : Hart) (begin new : RunPlace) (answer : Answer) : Type 0 where
  pub at : Machine
  pub comes : IsAfterSteps (isa_of begin.core.plan) begin.streams.input hart (new.core.state.retired - hart.retired) at
  pub ends : EndsUnderLimit (isa_of begin.core.plan) limit at answer
  pub retired : new.core.state.retired ≡ at.hart.retired
  pub regs : new.core.state.regs ≡ at.hart.regs
  pub streams : Leaves begin.streams new.streams at.rest at.output

-- this is claimed if the run ends with Exit, Trap or Limit
abbrev pub EndsAlike : ℕ → Hart → (begin new : RunPlace) → Scripted → Type 0
EndsAlike limit hart begin new (Ran (ran.Exit status)) = EndsAsMachine limit hart begin new (ran.Exit status)
EndsAlike limit hart begin new (Ran (ran.Trap cause pc detail)) = EndsAsMachine limit hart begin new (ran.Trap cause pc detail)
EndsAlike limit hart begin new (Ran ran.Limit) = EndsAsMachine limit hart begin new ran.Limit
EndsAlike limit hart begin new (Ran ran.ReadFault) = Unit {0}
EndsAlike limit hart begin new (Ran ran.WriteFault) = Unit {0}
EndsAlike limit hart begin new (Ran ran.ReportFault) = Unit {0}
EndsAlike limit hart begin new ScriptEnd = Unit {0}
EndsAlike limit hart begin new (BadScript refusal) = Unit {0}
EndsAlike limit hart begin new (BarredAt line bar) = Unit {0}

-- whatever hart the processor was opened on, the run ends as the machine that starts on it does
unfoldable pub EndsSequentially : ℕ → (begin new : RunPlace) → Scripted → Type 0
EndsSequentially limit begin new answer =
    (plan : Plan) (hart : Hart) → begin.core ≡ opened_processor plan hart → EndsAlike limit hart begin new answer
