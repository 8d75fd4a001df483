-- The ranges of an instruction's fields (RISC-V Unprivileged ISA Manual, "RV32I Base Integer Instruction Set",
-- Immediate Encoding Variants).
use Rattle.std.specs.Prelude.{◌≡◌, ℕ, ◌-◌, ◌<◌, ◌%◌, ◌^◌, ℤ, pos, negsuc, ◌≤ℤ◌, ◌<ℤ◌}
use Rattle.std.specs.Int.RustNames.{unsigned_abs}
use Rattle.rv_inst.specs.declared.instruction.ImmOp.{ImmOp}
use Rattle.rv_inst.specs.declared.instruction.ImmOp.TheVariants as immop
use Rattle.rv_inst.specs.declared.instruction.Instr.{Instr}
use Rattle.rv_inst.specs.declared.instruction.Instr.TheVariants.{Lui, Auipc, Jal, Jalr, Branch, Load, Store, OpImm, Op, Fence, Ecall, Ebreak, FenceI, Mul}

-- a register's number
abbrev pub IsRegister : ℕ → Type 0
IsRegister r = r < 32

-- a signed number from minus `half` up to, but not including, `half`
abbrev pub IsWithin : ℕ → ℤ → Type 0
IsWithin half imm = (negsuc (half - 1) ≤ℤ imm) × (imm <ℤ pos half)

-- an even signed number
abbrev pub IsEven : ℤ → Type 0
IsEven imm = unsigned_abs imm % 2 ≡ 0

-- a shift amount: from 0 to 31
abbrev pub IsAmount : ℤ → Type 0
IsAmount imm = (pos 0 ≤ℤ imm) × (imm <ℤ pos 32)

-- the immediate of an operation: an amount for a shift, otherwise a 12-bit number
abbrev pub IsImmediate : ImmOp → ℤ → Type 0
IsImmediate immop.Sll imm = IsAmount imm
IsImmediate immop.Srl imm = IsAmount imm
IsImmediate immop.Sra imm = IsAmount imm
IsImmediate _ imm = IsWithin (2 ^ 11) imm

-- all fields of the instruction are in range
abbrev pub Fits : Instr → Type 0
Fits (Lui rd imm) = IsRegister rd × (imm < 2 ^ 20)
Fits (Auipc rd imm) = IsRegister rd × (imm < 2 ^ 20)
Fits (Jal rd imm) = IsRegister rd × IsWithin (2 ^ 20) imm × IsEven imm
Fits (Jalr rd rs1 imm) = IsRegister rd × IsRegister rs1 × IsWithin (2 ^ 11) imm
Fits (Branch c rs1 rs2 imm) = IsRegister rs1 × IsRegister rs2 × IsWithin (2 ^ 12) imm × IsEven imm
Fits (Load k rd rs1 imm) = IsRegister rd × IsRegister rs1 × IsWithin (2 ^ 11) imm
Fits (Store k rs1 rs2 imm) = IsRegister rs1 × IsRegister rs2 × IsWithin (2 ^ 11) imm
Fits (OpImm op rd rs1 imm) = IsRegister rd × IsRegister rs1 × IsImmediate op imm
Fits (Op op rd rs1 rs2) = IsRegister rd × IsRegister rs1 × IsRegister rs2
Fits (Fence rd rs1 imm) = IsRegister rd × IsRegister rs1 × (imm < 2 ^ 12)
Fits Ecall = Unit {0}
Fits Ebreak = Unit {0}
Fits (FenceI rd rs1 imm) = IsRegister rd × IsRegister rs1 × (imm < 2 ^ 12)
Fits (Mul op rd rs1 rs2) = IsRegister rd × IsRegister rs1 × IsRegister rs2
