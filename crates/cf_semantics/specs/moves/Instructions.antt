-- What the pipes do with an instruction, each part as the sequential machine does it (RISC-V Unprivileged ISA Manual;
-- the step of rv_machine).
use Rattle.std.specs.Prelude.{ℕ, ◌%◌, List, [], Option, Some, None, Bool, true, false, not, ◌&&◌, ◌==◌, if◌then◌else◌, Result, Ok, Err, slice_index, slice_set}
use Rattle.mem_regions.specs.Memory.{Memory}
use Rattle.mem_regions.specs.Fetching.{fetch_at, synced}
use Rattle.mem_regions.specs.Access.{Bounds, permits_at}
use Rattle.mem_regions.specs.Ranges.{load_at}
use Rattle.mem_regions.specs.Writing.{stored}
use Rattle.mem_regions.specs.declared.access.MemErr.{MemErr}
use Rattle.mem_regions.specs.declared.access.MemErr.TheVariants.{Misaligned, NoAccess}
use Rattle.rv_inst.specs.declared.accesses.Access.{Access}
use Rattle.rv_inst.specs.declared.classes.Class.{Class}
use Rattle.rv_inst.specs.declared.classes.Class.TheVariants.{Memory as MemoryClass, Serial, Free}
use Rattle.rv_inst.specs.declared.instruction.Instr.{Instr}
use Rattle.rv_inst.specs.declared.instruction.Instr.TheVariants.{Jal, Jalr, Branch as BranchInstr}
use Rattle.rv_inst.specs.declared.isa.Isa.{Isa}
use Rattle.rv_inst.specs.Words.{word_sum, signed_word}
use Rattle.rv_inst.specs.Decoding.{decoded_as}
use Rattle.rv_inst.specs.Operands.{class_of, sources_of, dest_of}
use Rattle.rv_inst.specs.Arithmetic.{next_pc}
use Rattle.rv_inst.specs.Accesses.{access_made, extended}
use Rattle.rv_machine.specs.Machine.{Machine}
use Rattle.rv_machine.specs.Outcome as outcome
use Rattle.rv_machine.specs.Call.{Called, call}
use Rattle.rv_machine.specs.Call as called
use Rattle.rv_machine.specs.Step.{synchronizes, breaks, step}
use Rattle.cf_layout.specs.Accepted.{is_control}
use Rattle.cf_bind.specs.declared.passenger.End.{End}
use Rattle.cf_bind.specs.declared.passenger.End.TheVariants.{Trap, Exit}

-- the class of an instruction; no proof about a move looks into it
unfoldable pub kind_of : Instr → Class
kind_of i = class_of i

-- loads and stores
abbrev pub is_memory : Class → Bool
is_memory MemoryClass = true
is_memory _ = false

-- ECALL and FENCE.I, which need the whole machine
abbrev pub is_serial : Class → Bool
is_serial Serial = true
is_serial _ = false

-- FENCE and EBREAK, which need no unit
abbrev pub is_free : Class → Bool
is_free Free = true
is_free _ = false

-- the register of this number; x0 holds no value
abbrev pub register : ℕ → Option ℕ
register r = if r == 0 then None else Some r

-- the registers that an instruction reads and writes, x0 left out
unfoldable pub src1_of : Instr → Option ℕ
src1_of i = register (sources_of i).0

unfoldable pub src2_of : Instr → Option ℕ
src2_of i = register (sources_of i).1

unfoldable pub dst_of : Instr → Option ℕ
dst_of i = register (dest_of i)

-- the value of a source; 0 if there is no source
abbrev pub value_read : List ℕ → Option ℕ → ℕ
value_read regs None = 0
value_read regs (Some r) = slice_index regs r

-- the registers once a destination is written, if there is one
abbrev pub value_written : List ℕ → Option ℕ → ℕ → List ℕ
value_written regs None v = regs
value_written regs (Some r) v = slice_set regs r v

-- the address of the next word
abbrev pub word_after : ℕ → ℕ
word_after pc = word_sum pc 4

-- the target of a branch or of JAL; for other instructions it means nothing
unfoldable pub target_of : Instr → ℕ → ℕ
target_of (Jal rd imm) pc = word_sum pc (signed_word imm)
target_of (BranchInstr c rs1 rs2 imm) pc = word_sum pc (signed_word imm)
target_of _ pc = word_after pc

-- JALR, whose target is not in the instruction
unfoldable pub is_indirect : Instr → Bool
is_indirect (Jalr rd rs1 imm) = true
is_indirect _ = false

-- the instruction at an address, or the trap of that address
pub data Fetched : Type 0 where
  Got : Instr → Fetched
  Bad : End → Fetched

-- what a fetched word is: a trap of cause 2 if it is not an instruction
abbrev pub read_as : ℕ → ℕ → Option Instr → Fetched
read_as pc word None = Bad (Trap 2 pc word)
read_as pc word (Some i) = Got i

-- what was fetched: a trap of cause 1 if fetching failed
abbrev pub word_read : Isa → ℕ → Result ℕ MemErr → Fetched
word_read isa pc (Ok word) = read_as pc word (decoded_as isa word)
word_read isa pc (Err e) = Bad (Trap 1 pc pc)

-- what the code of memory has at an address: a trap of cause 0 if 4 does not divide the address
unfoldable pub fetched : Isa → Memory → ℕ → Fetched
fetched isa mem pc = if pc % 4 == 0 then word_read isa pc (fetch_at mem pc) else Bad (Trap 0 pc pc)

-- a branch or a jump whose next address is not a multiple of 4 traps
unfoldable pub finish_trap : Instr → ℕ → ℕ → ℕ → Option End
finish_trap i pc a b = if is_control (kind_of i) && not (next_pc i pc a b % 4 == 0) then Some (Trap 0 pc (next_pc i pc a b)) else None

-- EBREAK traps; FENCE does not
unfoldable pub free_trap : Instr → ℕ → Option End
free_trap i pc = if breaks i then Some (Trap 3 pc pc) else None

-- the trap, if any, of a load or a store whose access got this answer
abbrev pub refused : ℕ → Access → Result (Unit {0}) MemErr → Option End
refused pc access (Ok done) = None
refused pc access (Err Misaligned) = Some (Trap (if access.write then 6 else 4) pc access.addr)
refused pc access (Err NoAccess) = Some (Trap (if access.write then 7 else 5) pc access.addr)

-- the trap of a load or a store, whose first source is a, that memory of these bounds does not permit
unfoldable pub access_trap : Instr → ℕ → ℕ → List Bounds → Option End
access_trap i pc a bounds =
    let access = access_made i a 0 in
    refused pc access (permits_at bounds access.addr access.width access.write)

-- memory after a load or a store
unfoldable pub mem_after : Instr → ℕ → ℕ → Memory → Memory
mem_after i a b mem =
    let access = access_made i a b in
    if access.write then stored mem access.addr access.width access.value else mem

-- the number that was loaded
abbrev pub number : Result ℕ MemErr → ℕ
number (Ok n) = n
number (Err e) = 0

-- the answer of memory: a load's value, extended, and 0 for a store
unfoldable pub answer_of : Instr → ℕ → ℕ → Memory → ℕ
answer_of i a b mem =
    let access = access_made i a b in
    if access.write then 0 else extended i (number (load_at mem access.addr access.width))

-- what ECALL and FENCE.I answer, given the registers, the memory and the rest of the input; FENCE.I answers 0, and code
-- is fetched from memory as it now is
unfoldable pub serve_of : Instr → List ℕ → Memory → List ℕ → Called
serve_of i regs mem rest =
    if synchronizes i
    then called.Value (record { value = 0; mem = synced mem; rest = rest; output = [] })
    else call regs mem rest

-- a step goes on to a machine, or it ends the program
pub data StepResult : Type 0 where
  Goes : Machine → StepResult
  Stops : End → StepResult

abbrev pub stepped : outcome.Outcome Machine → StepResult
stepped (outcome.Next m line) = Goes m
stepped (outcome.Trap cause pc detail) = Stops (Trap cause pc detail)
stepped (outcome.Exit status) = Stops (Exit status)

-- the machine at another address
abbrev pub at_pc : Machine → ℕ → Machine
at_pc x pc = record x { hart = record x.hart { pc = pc } }

-- the step of the machine at this address
unfoldable pub step_at : Isa → Machine → ℕ → StepResult
step_at isa x pc = stepped (step isa (at_pc x pc))

-- the step of the machine where it is
abbrev pub step_here : Isa → Machine → StepResult
step_here isa x = step_at isa x x.hart.pc

-- the machine after a step, or as it was if the step ends the program
abbrev pub after_step : StepResult → Machine → Machine
after_step (Goes n) m = n
after_step (Stops e) m = m
