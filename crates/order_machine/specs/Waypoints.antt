-- The sequential machine between two instructions, as a value.
use Rattle.std.specs.Prelude.{◌≡◌, ℕ, suc, List, [], ◌∷◌, Bool, true, false, Some}
use Rattle.mem_regions.specs.Memory.{Memory}
use Rattle.rv_inst.specs.declared.isa.Isa.{Isa}
use Rattle.rv_machine.specs.Hart.{Hart}
use Rattle.rv_machine.specs.Machine.{Machine}
use Rattle.rv_machine.specs.After.{after}
use Rattle.rv_machine.specs.Outcome.{Next}
use Rattle.rv_machine.specs.Step.{step}
use Rattle.cf_semantics.specs.moves.Instructions.{Stops, step_here}
use Rattle.mem_changes.specs.MemoryChanges.{MemoryChanges}
use Rattle.mem_changes.specs.Differing.{AreChangesOf}
use Rattle.order_machine.specs.declared.stepping.NextStep.{NextStep}
use Rattle.order_machine.specs.declared.stepping.NextStep.TheVariants.{Retires, Ends}

-- where the machine is, its registers, how its memory differs from the loaded memory, and what its next step does
pub record MachinePlace : Type 0 where
  pub pc : ℕ
  pub regs : List ℕ
  pub changes : MemoryChanges
  pub next : NextStep

-- the machine of this hart, which has nothing left of its input
abbrev pub machine_of : Hart → Machine
machine_of h = record { hart = h; rest = []; output = [] }

-- the machine's next step is this one
abbrev pub IsStepOf : Isa → Machine → NextStep → Type 0
IsStepOf isa x (Retires line) = (n : Machine) × (step isa x ≡ Next n line)
IsStepOf isa x (Ends e) = step_here isa x ≡ Stops e

-- the machine after k steps has this hart, and nothing left of its input
pub record IsAfter (isa : Isa) (start : Machine) (k : ℕ) (h : Hart) : Type 0 where
  pub at : Machine
  pub count : after isa start k ≡ Some at
  pub hart : h ≡ at.hart
  pub rest : at.rest ≡ []

-- the machine after k steps is at this place
pub record IsWaypoint (isa : Isa) (loaded : Memory) (start : Machine) (k : ℕ) (place : MachinePlace) : Type 0 where
  pub at : Machine
  pub count : after isa start k ≡ Some at
  pub rest : at.rest ≡ []
  pub pc : place.pc ≡ at.hart.pc
  pub regs : place.regs ≡ at.hart.regs
  pub changes : AreChangesOf loaded at.hart.mem place.changes
  pub next : IsStepOf isa at place.next

-- the places of the machine after k steps, k + 1 steps, and so on
abbrev pub AreWaypoints : Isa → Memory → Machine → ℕ → List MachinePlace → Type 0
AreWaypoints isa loaded start k [] = Unit {0}
AreWaypoints isa loaded start k (place ∷ places) = IsWaypoint isa loaded start k place × AreWaypoints isa loaded start (suc k) places

-- the step ends the program
abbrev pub is_end : NextStep → Bool
is_end (Retires line) = false
is_end (Ends e) = true

-- the program ends at the last place
abbrev pub ends_at_last : List MachinePlace → Bool
ends_at_last [] = false
ends_at_last (place ∷ []) = is_end place.next
ends_at_last (place ∷ other ∷ places) = ends_at_last (other ∷ places)
