-- What the next step of the sequential machine does when nothing is left of the input.
use Rattle.std.specs.Prelude.{◌≡◌, ℕ, List, []}
use Rattle.mem_regions.specs.Memory.{Memory}
use Rattle.rv_inst.specs.declared.isa.Isa.{Isa}
use Rattle.rv_machine.specs.Hart.{Hart}
use Rattle.rv_machine.specs.Machine.{Machine}
use Rattle.rv_machine.specs.Outcome.{Next}
use Rattle.rv_machine.specs.Step.{step_on}
use Rattle.rv_machine.specs.declared.outcome.Retired.{Retired}
use Rattle.rv_machine.specs.declared.outcome.Stepped.{Stepped}
use Rattle.rv_machine.specs.declared.outcome.Stepped.TheVariants as stepped_
use Rattle.cf_bind.specs.declared.passenger.End.{End}
use Rattle.cf_bind.specs.declared.passenger.End.TheVariants as ending
use Rattle.cf_semantics.specs.moves.Instructions.{Fetched, Got, Bad, Stops, src1_of, src2_of, stepped, value_read}
use Rattle.order_model.specs.StepEffects.{memory_stepped}
use Rattle.order_machine.specs.declared.stepping.NextStep.{NextStep}
use Rattle.order_machine.specs.declared.stepping.NextStep.TheVariants.{Retires, Ends}

-- the hart's step goes on to this one, and retires the instruction of this line
pub record StepsOn (isa : Isa) (old new : Hart) (line : Retired) : Type 0 where
  pub next : Machine
  pub is : step_on isa old [] ≡ Next next line
  pub hart : new ≡ next.hart
  pub rest : next.rest ≡ []

-- its step ends the program, and leaves the hart as it is
pub record EndsThere (isa : Isa) (old new : Hart) (e : End) : Type 0 where
  pub is : stepped (step_on isa old []) ≡ Stops e
  pub hart : new ≡ old

-- the step that was made is this one
abbrev pub IsStepMade : Isa → Hart → Hart → NextStep → Type 0
IsStepMade isa old new (Retires line) = StepsOn isa old new line
IsStepMade isa old new (Ends e) = EndsThere isa old new e

-- the same for the answer of a step of the machine; its streams cannot fail
abbrev pub IsAnswered : Isa → Hart → Hart → Stepped → Type 0
IsAnswered isa old new (stepped_.Next line) = StepsOn isa old new line
IsAnswered isa old new (stepped_.Trap cause pc detail) = EndsThere isa old new (ending.Trap cause pc detail)
IsAnswered isa old new (stepped_.Exit status) = EndsThere isa old new (ending.Exit status)
IsAnswered isa old new stepped_.ReadFault = ⊥
IsAnswered isa old new stepped_.WriteFault = ⊥

-- memory after the step: a step that ends the program leaves memory as it was
abbrev pub memory_next : NextStep → Fetched → List ℕ → Memory → Memory
memory_next (Retires line) (Got i) regs mem = memory_stepped i (value_read regs (src1_of i)) (value_read regs (src2_of i)) regs mem
memory_next (Retires line) (Bad e) regs mem = mem
memory_next (Ends e) what regs mem = mem
