-- Whether the pipes end or rest in the same way as the sequential machine.
use Rattle.std.specs.Prelude.{◌≡◌, ℕ, List}
use Rattle.cf_bind.specs.declared.packet.Fetch.{Fetch}
use Rattle.cf_bind.specs.declared.packet.Fetch.TheVariants.{Running}
use Rattle.cf_bind.specs.declared.passenger.End.{End}
use Rattle.mem_changes.specs.MemoryChanges.{MemoryChanges}
use Rattle.order_machine.specs.declared.stepping.NextStep.TheVariants.{Ends}
use Rattle.order_machine.specs.Waypoints.{MachinePlace}

-- registers and memory are those of the machine
abbrev pub HasStateOf : MachinePlace → List ℕ → MemoryChanges → Type 0
HasStateOf place regs changes = (regs ≡ place.regs) × (changes ≡ place.changes)

-- the program ended in the same way as in the step, with the machine's registers and memory
abbrev pub EndsWithState : MachinePlace → End → List ℕ → MemoryChanges → Type 0
EndsWithState place e regs changes = (place.next ≡ Ends e) × HasStateOf place regs changes

-- fetch runs where the machine is, with its registers and memory
abbrev pub RestsAs : MachinePlace → Fetch → List ℕ → MemoryChanges → Type 0
RestsAs place fetch regs changes = (fetch ≡ Running place.pc) × HasStateOf place regs changes
