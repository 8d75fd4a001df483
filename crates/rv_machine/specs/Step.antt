-- One step of the sequential machine (RISC-V Unprivileged ISA Manual, RV32I, Zifencei and the M extension).
use Rattle.std.specs.Prelude.{ℕ, ◌+◌, ◌%◌, List, [], ◌++◌, Bool, true, false, ◌==◌, if◌then◌else◌, Option, Some, None, Result, Ok, Err, slice_index, slice_set}
use Rattle.mem_regions.specs.Fetching.{fetch_at, synced}
use Rattle.mem_regions.specs.Access.{permits_at, bounds_of}
use Rattle.mem_regions.specs.Ranges.{load_at}
use Rattle.mem_regions.specs.Writing.{stored}
use Rattle.mem_regions.specs.declared.MemErr.{MemErr}
use Rattle.mem_regions.specs.declared.MemErr.TheVariants.{Misaligned, NoAccess}
use Rattle.rv_inst.specs.declared.classes.Class.{Class}
use Rattle.rv_inst.specs.declared.classes.Class.TheVariants as class
use Rattle.rv_inst.specs.declared.accesses.Access.{Access}
use Rattle.rv_inst.specs.declared.instruction.Instr.{Instr}
use Rattle.rv_inst.specs.declared.instruction.Instr.TheVariants.{FenceI, Ebreak}
use Rattle.rv_inst.specs.declared.isa.Isa.{Isa}
use Rattle.rv_inst.specs.Words.{word_sum}
use Rattle.rv_inst.specs.Decoding.{decoded_as}
use Rattle.rv_inst.specs.Operands.{class_of, sources_of, dest_of}
use Rattle.rv_inst.specs.Arithmetic.{next_pc}
use Rattle.rv_inst.specs.Accesses.{access_made, extended}
use Rattle.rv_mul.specs.Values.{value_of}
use Rattle.rv_machine.specs.Hart.{Hart}
use Rattle.rv_machine.specs.Machine.{Machine}
use Rattle.rv_machine.specs.Outcome.{Outcome, Next, Trap, Exit}
use Rattle.rv_machine.specs.Call.{Called, call}
use Rattle.rv_machine.specs.Call as called

-- a register is written; x0 stays zero
abbrev pub with_register : List ℕ → ℕ → ℕ → List ℕ
with_register regs r v = if r == 0 then regs else slice_set regs r v

-- the instruction retires: its destination is written, the next address is set, and the count is one higher
unfoldable pub retire : Hart → ℕ → ℕ → ℕ → ℕ → Outcome Hart
retire h word next r v = Next
    (record { pc = next; regs = with_register h.regs r v; mem = h.mem; retired = h.retired + 1 })
    (record { pc = h.pc; word = word; reg = r; value = if r == 0 then 0 else v })

-- the value of a register; x0 is always zero
abbrev pub register_value : List ℕ → ℕ → ℕ
register_value regs r = if r == 0 then 0 else slice_index regs r

-- the values of the two sources; x0 is used for a source that the instruction does not have
abbrev pub first_value : Hart → Instr → ℕ
first_value h i = register_value h.regs (sources_of i).0

abbrev pub second_value : Hart → Instr → ℕ
second_value h i = register_value h.regs (sources_of i).1

-- arithmetic, products and quotients, branches and jumps: a target that is not a multiple of 4 is a trap of the jump or
-- branch itself
unfoldable pub compute : Hart → ℕ → Instr → Outcome Hart
compute h word i =
    let a = first_value h i in
    let b = second_value h i in
    let next = next_pc i h.pc a b in
    if next % 4 == 0 then retire h word next (dest_of i) (value_of i h.pc a b) else Trap 0 h.pc next

-- a load: its destination gets the number at the address, extended
abbrev pub loads : Hart → ℕ → Instr → ℕ → Result ℕ MemErr → Outcome Hart
loads h word i addr (Ok raw) = retire h word (word_sum h.pc 4) (dest_of i) (extended i raw)
loads h word i addr (Err Misaligned) = Trap 4 h.pc addr
loads h word i addr (Err NoAccess) = Trap 5 h.pc addr

-- a store: the memory gets the low bytes of the value
abbrev pub stores : Hart → ℕ → Access → Result (Unit {0}) MemErr → Outcome Hart
stores h word access (Ok done) =
    let mem = stored h.mem access.addr access.width access.value in
    retire (record h { mem = mem }) word (word_sum h.pc 4) 0 0
stores h word access (Err Misaligned) = Trap 6 h.pc access.addr
stores h word access (Err NoAccess) = Trap 7 h.pc access.addr

-- loads and stores
unfoldable pub access_memory : Hart → ℕ → Instr → Outcome Hart
access_memory h word i =
    let access = access_made i (first_value h i) (second_value h i) in
    if access.write
    then stores h word access (permits_at (bounds_of h.mem) access.addr access.width true)
    else loads h word i access.addr (load_at h.mem access.addr access.width)

-- the instruction is EBREAK
abbrev pub breaks : Instr → Bool
breaks Ebreak = true
breaks _ = false

-- FENCE orders accesses that a single hart keeps in order anyway; EBREAK is a trap
unfoldable pub pass : Hart → ℕ → Instr → Outcome Hart
pass h word i = if breaks i then Trap 3 h.pc h.pc else retire h word (word_sum h.pc 4) 0 0

-- the hart's outcome as the machine's, with the rest of the input and the bytes that went to the output
abbrev pub beside : List ℕ → List ℕ → Outcome Hart → Outcome Machine
beside rest output (Next h line) = Next (record { hart = h; rest = rest; output = output }) line
beside rest output (Trap cause pc detail) = Trap cause pc detail
beside rest output (Exit status) = Exit status

-- ECALL: the call's answer goes to x10
abbrev pub environment : Hart → ℕ → Called → Outcome Machine
environment h word (called.Value a) =
    beside a.rest a.output (retire (record h { mem = a.mem }) word (word_sum h.pc 4) 10 a.value)
environment h word (called.Exit status) = Exit status

-- the instruction is FENCE.I
abbrev pub synchronizes : Instr → Bool
synchronizes (FenceI rd rs1 imm) = true
synchronizes _ = false

-- FENCE.I: the code that is fetched is again that of memory
unfoldable pub synchronize : Hart → ℕ → Outcome Hart
synchronize h word = retire (record h { mem = synced h.mem }) word (word_sum h.pc 4) 0 0

-- ECALL calls the environment; FENCE.I makes the code that is fetched that of memory
unfoldable pub serial : Hart → List ℕ → ℕ → Instr → Outcome Machine
serial h rest word i =
    if synchronizes i
    then beside rest [] (synchronize h word)
    else environment h word (call h.regs h.mem rest)

-- what an instruction does, by its class
unfoldable pub execute : Class → Hart → List ℕ → ℕ → Instr → Outcome Machine
execute class.Add h rest word i = beside rest [] (compute h word i)
execute class.Logic h rest word i = beside rest [] (compute h word i)
execute class.Shift h rest word i = beside rest [] (compute h word i)
execute class.Compare h rest word i = beside rest [] (compute h word i)
execute class.Branch h rest word i = beside rest [] (compute h word i)
execute class.Jump h rest word i = beside rest [] (compute h word i)
execute class.Memory h rest word i = beside rest [] (access_memory h word i)
execute class.Serial h rest word i = serial h rest word i
execute class.Free h rest word i = beside rest [] (pass h word i)
execute class.Mul h rest word i = beside rest [] (compute h word i)
execute class.Div h rest word i = beside rest [] (compute h word i)

-- the instruction that the word encodes
abbrev pub interpret : Hart → List ℕ → ℕ → Option Instr → Outcome Machine
interpret h rest word None = Trap 2 h.pc word
interpret h rest word (Some i) = execute (class_of i) h rest word i

-- the word that was fetched, as an instruction of the set
abbrev pub step_fetched : Isa → Hart → List ℕ → Result ℕ MemErr → Outcome Machine
step_fetched isa h rest (Ok word) = interpret h rest word (decoded_as isa word)
step_fetched isa h rest (Err e) = Trap 1 h.pc h.pc

-- what a hart does next, if the input has these bytes left; the output is that of this step
unfoldable pub step_on : Isa → Hart → List ℕ → Outcome Machine
step_on isa h rest =
    if h.pc % 4 == 0 then step_fetched isa h rest (fetch_at h.mem h.pc) else Trap 0 h.pc h.pc

-- the output of a step comes after that of the earlier steps
abbrev pub after_output : List ℕ → Outcome Machine → Outcome Machine
after_output output (Next m line) = Next (record m { output = output ++ m.output }) line
after_output output (Trap cause pc detail) = Trap cause pc detail
after_output output (Exit status) = Exit status

-- one step of the machine that has this instruction set
unfoldable pub step : Isa → Machine → Outcome Machine
step isa m = after_output m.output (step_on isa m.hart m.rest)
