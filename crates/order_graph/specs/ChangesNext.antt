-- The changes of the memory after a move, given those before it, when nothing is left of the input.
use Rattle.std.specs.Prelude.{◌==◌, ◌&&◌, ℕ, List, filter, if◌then◌else◌}
use Rattle.mem_regions.specs.Access.{bounds_of, is_aligned}
use Rattle.mem_regions.specs.Bytes.{le_bytes}
use Rattle.mem_regions.specs.Memory.{Memory}
use Rattle.mem_regions.specs.Ranges.{writable_of}
use Rattle.rv_inst.specs.Accesses.{access_made}
use Rattle.rv_inst.specs.declared.instruction.Instr.{Instr}
use Rattle.rv_machine.specs.Call.{first_argument, is_break, call_number}
use Rattle.rv_machine.specs.Step.{synchronizes}
use Rattle.cf_layout.specs.Layout.{Plan}
use Rattle.cf_bind.specs.declared.moves.Move.{Move}
use Rattle.cf_bind.specs.declared.moves.Move.TheVariants.{Access, Serve}
use Rattle.cf_semantics.specs.moves.Bars.{last_op}
use Rattle.cf_semantics.specs.state.Layouts.{port}
use Rattle.cf_semantics.specs.state.Options.{on}
use Rattle.cf_semantics.specs.state.Passengers.{instruction}
use Rattle.cf_semantics.specs.state.State.{State, cell_at, siding_at}
use Rattle.mem_changes.specs.Differing.{runs_at}
use Rattle.mem_changes.specs.MemoryChanges.{MemoryChanges}
use Rattle.mem_changes.specs.Steps.{rewritten}

-- after a store of the low bytes of a number, if it is permitted
abbrev pub changes_stored : Memory → ℕ → ℕ → ℕ → MemoryChanges → MemoryChanges
changes_stored loaded addr width n k = if is_aligned addr width
    then on (writable_of loaded addr width) k (λ old. record k { bytes = rewritten k.bytes addr width (le_bytes width n) old })
    else k

-- after the access of an instruction with these sources
abbrev pub changes_accessed : Memory → Instr → ℕ → ℕ → MemoryChanges → MemoryChanges
changes_accessed loaded i a b k =
    let access = access_made i a b in
    if access.write then changes_stored loaded access.addr access.width access.value k else k

-- after the environment has answered an instruction: FENCE.I copies the bytes into the code, and brk moves the break
abbrev pub changes_served : Memory → Instr → List ℕ → MemoryChanges → MemoryChanges
changes_served loaded i regs k =
    if synchronizes i then record k { code = filter (λ c. runs_at (bounds_of loaded) c.addr) k.bytes } else
    if call_number regs == 214 && is_break (first_argument regs) then record k { program_break = first_argument regs } else k

-- after a move
unfoldable pub changes_next : Plan → Memory → State → Move → MemoryChanges → MemoryChanges
changes_next plan loaded s Access k =
    on (last_op (siding_at s (port plan))) k (λ op. changes_accessed loaded op.instr op.a op.b k)
changes_next plan loaded s Serve k = on (cell_at s.cells plan.stages) k (λ c. on c.passenger k
    (λ p. changes_served loaded (instruction p) s.regs k))
changes_next plan loaded s mv k = k
