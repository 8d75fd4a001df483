-- What a hart does without its streams: an instruction that computes, a load or a store, and several of them.
use Rattle.std.specs.Prelude.{◌≡◌, ℕ, zero, suc, ◌*◌, List, [], Bool, true, false, Option, Some, None, if◌then◌else◌}
use Rattle.mem_regions.specs.Memory.{Memory}
use Rattle.mem_regions.specs.Fetching.{fetch_at}
use Rattle.rv_inst.specs.declared.isa.Isa.{Isa}
use Rattle.rv_inst.specs.declared.instruction.Instr.{Instr}
use Rattle.rv_inst.specs.declared.instruction.Instr.TheVariants.{Lui, Auipc, Jal, Jalr, Branch, Load, Store, OpImm, Op}
use Rattle.rv_machine.specs.declared.outcome.Retired.{Retired}
use Rattle.rv_inst.specs.Words.{word_sum}
use Rattle.rv_machine.specs.declared.flat_acting.Spot.{Spot}
use Rattle.rv_machine.specs.declared.flat_acting.Continuation.{Continuation}
use Rattle.rv_machine.specs.declared.flat_acting.Continuation.TheVariants.{On, To, Stop}
use Rattle.rv_machine.specs.Hart.{Hart}
use Rattle.rv_machine.specs.Outcome.{Outcome, Next, Trap, Exit}
use Rattle.rv_machine.specs.Step.{compute, access_memory, step_on}

-- the instruction is a load or a store
abbrev pub uses_memory : Instr → Bool
uses_memory (Load k rd rs1 imm) = true
uses_memory (Store k rs1 rs2 imm) = true
uses_memory _ = false

-- the instruction is a store
abbrev pub is_store : Instr → Bool
is_store (Store k rs1 rs2 imm) = true
is_store _ = false

-- after it the program continues at the next word, unless it traps
abbrev pub goes_straight : Instr → Bool
goes_straight (Jal rd imm) = false
goes_straight (Jalr rd rs1 imm) = false
goes_straight (Branch c rs1 rs2 imm) = false
goes_straight _ = true

-- the instruction has a flat operation
abbrev pub is_flat : Instr → Bool
is_flat (Lui rd imm) = true
is_flat (Auipc rd imm) = true
is_flat (Jal rd imm) = true
is_flat (Jalr rd rs1 imm) = true
is_flat (Branch c rs1 rs2 imm) = true
is_flat (Load k rd rs1 imm) = true
is_flat (Store k rs1 rs2 imm) = true
is_flat (OpImm op rd rs1 imm) = true
is_flat (Op op rd rs1 rs2) = true
is_flat _ = false

-- what it does, if it is one of those that compute, or a load or a store
abbrev pub computed_alone : Hart → ℕ → Instr → Outcome Hart
computed_alone h word i = if uses_memory i then access_memory h word i else compute h word i

-- the hart that an outcome goes on to
abbrev pub hart_after : Outcome Hart → Option Hart
hart_after (Next h line) = Some h
hart_after (Trap cause pc detail) = None
hart_after (Exit status) = None

-- a hart in which nothing has retired
abbrev pub hart_of : ℕ → List ℕ → Memory → Hart
hart_of pc regs mem = record { pc = pc; regs = regs; mem = mem; retired = 0 }

-- the address of a spot
abbrev pub spot_address : Spot → ℕ
spot_address spot = word_sum spot.base (spot.at * 4)

-- the outcome continues at this address, with these registers and this memory
unfoldable pub LeadsOnTo : Outcome Hart → ℕ → List ℕ → Memory → Type 0
LeadsOnTo outcome next regs mem = hart_after outcome ≡ Some (record (hart_of next regs mem) { retired = 1 })

-- the outcome continues as this hart
abbrev pub ContinuesAs : Outcome Hart → Hart → Type 0
ContinuesAs outcome new = (line : Retired) × (outcome ≡ Next new line)

-- it continues as given by the continuation from a spot, if it does
abbrev pub GoesOnward : Continuation → Outcome Hart → Spot → List ℕ → Memory → Type 0
GoesOnward On outcome spot regs mem = LeadsOnTo outcome (word_sum (spot_address spot) 4) regs mem
GoesOnward (To index) outcome spot regs mem = LeadsOnTo outcome (word_sum spot.base (index * 4)) regs mem
GoesOnward Stop outcome spot regs mem = Unit {0}

-- the same for the instruction, if there is one
abbrev pub IsCarriedOut : Continuation → Option Instr → Hart → Spot → List ℕ → Memory → Type 0
IsCarriedOut turn None h spot regs mem = turn ≡ Stop
IsCarriedOut turn (Some i) h spot regs mem = GoesOnward turn (computed_alone h 0 i) spot regs mem

-- the instruction retires, whatever the instruction set and the input, and leaves input and output as they are
pub record RetiresAlone (old new : Hart) : Type 0 where
  pub line : Retired
  pub is : (isa : Isa) (rest : List ℕ) → step_on isa old rest ≡ Next (record { hart = new; rest = rest; output = [] }) line

-- the same for n instructions, one after another
unfoldable pub RetireAlone : Hart → ℕ → Hart → Type 0
RetireAlone old zero new = new ≡ old
RetireAlone old (suc n) new = (between : Hart) × RetireAlone old n between × RetiresAlone between new

-- the code that is fetched is the same
unfoldable pub HasSameCode : Memory → Memory → Type 0
HasSameCode old new = (pc : ℕ) → fetch_at new pc ≡ fetch_at old pc
