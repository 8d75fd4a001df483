-- Where the sequential machine is between two instructions, as a value.
use Rattle.std.specs.Prelude.{◌≡◌, List, [], ◌∷◌}
use Rattle.mem_regions.specs.Memory.{Memory}
use Rattle.rv_inst.specs.declared.isa.Isa.{Isa}
use Rattle.rv_machine.specs.Machine.{Machine}
use Rattle.cf_semantics.specs.runs.Lines.{Line, line_read}
use Rattle.mem_changes.specs.Applied.{memory_after}
use Rattle.mem_changes.specs.Differing.{AreChangesOf}
use Rattle.order_machine.specs.declared.stepping.NextStep.{NextStep}
use Rattle.order_machine.specs.declared.stepping.NextStep.TheVariants.{Retires, Ends}
use Rattle.order_machine.specs.Waypoints.{MachinePlace, IsStepOf}

-- the machine is at this place, and has nothing left of its input
pub record IsPlaceOf (isa : Isa) (loaded : Memory) (x : Machine) (place : MachinePlace) : Type 0 where
  pub rest : x.rest ≡ []
  pub pc : place.pc ≡ x.hart.pc
  pub regs : place.regs ≡ x.hart.regs
  pub changes : AreChangesOf loaded x.hart.mem place.changes
  pub next : IsStepOf isa x place.next

-- the memory of the machine there
abbrev pub machine_memory : Memory → MachinePlace → Memory
machine_memory loaded place = memory_after place.changes loaded

-- the line of its next step, if that step retires an instruction
abbrev pub next_lines : Isa → NextStep → List Line
next_lines isa (Retires own) = line_read isa own ∷ []
next_lines isa (Ends e) = []
