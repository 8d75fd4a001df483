-- The encoding: which word encodes which instruction (RISC-V Unprivileged ISA Manual, "RV32/64G Instruction Set
-- Listings": RV32I, Zifencei, RV32M).
use Rattle.std.specs.Prelude.{◌≡◌, ℕ, Bool, true, false}
use Rattle.rv_inst.specs.declared.instruction.Cond.TheVariants as cond
use Rattle.rv_inst.specs.declared.instruction.LoadKind.TheVariants as load
use Rattle.rv_inst.specs.declared.instruction.StoreKind.TheVariants as store
use Rattle.rv_inst.specs.declared.instruction.ImmOp.TheVariants as immop
use Rattle.rv_inst.specs.declared.instruction.RegOp.TheVariants as regop
use Rattle.rv_inst.specs.declared.instruction.MulOp.TheVariants as mulop
use Rattle.rv_inst.specs.declared.instruction.Instr.{Instr}
use Rattle.rv_inst.specs.declared.instruction.Instr.TheVariants.{Lui, Auipc, Jal, Jalr, Branch, Load, Store, OpImm, Op, Fence, Ecall, Ebreak, FenceI, Mul}
use Rattle.rv_inst.specs.Formats.{IsRType, IsIType, IsShiftType, IsFenceType, IsSType, IsBType, IsUType, IsJType}

-- the word encodes the instruction
abbrev pub Encodes : ℕ → Instr → Type 0
Encodes w (Lui rd imm) = IsUType w 0b0110111 rd imm
Encodes w (Auipc rd imm) = IsUType w 0b0010111 rd imm
Encodes w (Jal rd imm) = IsJType w 0b1101111 rd imm
Encodes w (Jalr rd rs1 imm) = IsIType w 0b1100111 0b000 rd rs1 imm
Encodes w (Branch cond.Eq rs1 rs2 imm) = IsBType w 0b1100011 0b000 rs1 rs2 imm
Encodes w (Branch cond.Ne rs1 rs2 imm) = IsBType w 0b1100011 0b001 rs1 rs2 imm
Encodes w (Branch cond.Lt rs1 rs2 imm) = IsBType w 0b1100011 0b100 rs1 rs2 imm
Encodes w (Branch cond.Ge rs1 rs2 imm) = IsBType w 0b1100011 0b101 rs1 rs2 imm
Encodes w (Branch cond.Ltu rs1 rs2 imm) = IsBType w 0b1100011 0b110 rs1 rs2 imm
Encodes w (Branch cond.Geu rs1 rs2 imm) = IsBType w 0b1100011 0b111 rs1 rs2 imm
Encodes w (Load load.Byte rd rs1 imm) = IsIType w 0b0000011 0b000 rd rs1 imm
Encodes w (Load load.Half rd rs1 imm) = IsIType w 0b0000011 0b001 rd rs1 imm
Encodes w (Load load.Word rd rs1 imm) = IsIType w 0b0000011 0b010 rd rs1 imm
Encodes w (Load load.ByteU rd rs1 imm) = IsIType w 0b0000011 0b100 rd rs1 imm
Encodes w (Load load.HalfU rd rs1 imm) = IsIType w 0b0000011 0b101 rd rs1 imm
Encodes w (Store store.Byte rs1 rs2 imm) = IsSType w 0b0100011 0b000 rs1 rs2 imm
Encodes w (Store store.Half rs1 rs2 imm) = IsSType w 0b0100011 0b001 rs1 rs2 imm
Encodes w (Store store.Word rs1 rs2 imm) = IsSType w 0b0100011 0b010 rs1 rs2 imm
Encodes w (OpImm immop.Add rd rs1 imm) = IsIType w 0b0010011 0b000 rd rs1 imm
Encodes w (OpImm immop.Slt rd rs1 imm) = IsIType w 0b0010011 0b010 rd rs1 imm
Encodes w (OpImm immop.Sltu rd rs1 imm) = IsIType w 0b0010011 0b011 rd rs1 imm
Encodes w (OpImm immop.Xor rd rs1 imm) = IsIType w 0b0010011 0b100 rd rs1 imm
Encodes w (OpImm immop.Or rd rs1 imm) = IsIType w 0b0010011 0b110 rd rs1 imm
Encodes w (OpImm immop.And rd rs1 imm) = IsIType w 0b0010011 0b111 rd rs1 imm
Encodes w (OpImm immop.Sll rd rs1 imm) = IsShiftType w 0b0010011 0b001 0b0000000 rd rs1 imm
Encodes w (OpImm immop.Srl rd rs1 imm) = IsShiftType w 0b0010011 0b101 0b0000000 rd rs1 imm
Encodes w (OpImm immop.Sra rd rs1 imm) = IsShiftType w 0b0010011 0b101 0b0100000 rd rs1 imm
Encodes w (Op regop.Add rd rs1 rs2) = IsRType w 0b0110011 0b000 0b0000000 rd rs1 rs2
Encodes w (Op regop.Sub rd rs1 rs2) = IsRType w 0b0110011 0b000 0b0100000 rd rs1 rs2
Encodes w (Op regop.Sll rd rs1 rs2) = IsRType w 0b0110011 0b001 0b0000000 rd rs1 rs2
Encodes w (Op regop.Slt rd rs1 rs2) = IsRType w 0b0110011 0b010 0b0000000 rd rs1 rs2
Encodes w (Op regop.Sltu rd rs1 rs2) = IsRType w 0b0110011 0b011 0b0000000 rd rs1 rs2
Encodes w (Op regop.Xor rd rs1 rs2) = IsRType w 0b0110011 0b100 0b0000000 rd rs1 rs2
Encodes w (Op regop.Srl rd rs1 rs2) = IsRType w 0b0110011 0b101 0b0000000 rd rs1 rs2
Encodes w (Op regop.Sra rd rs1 rs2) = IsRType w 0b0110011 0b101 0b0100000 rd rs1 rs2
Encodes w (Op regop.Or rd rs1 rs2) = IsRType w 0b0110011 0b110 0b0000000 rd rs1 rs2
Encodes w (Op regop.And rd rs1 rs2) = IsRType w 0b0110011 0b111 0b0000000 rd rs1 rs2
Encodes w (Fence rd rs1 imm) = IsFenceType w 0b0001111 0b000 rd rs1 imm
Encodes w Ecall = w ≡ 0x00000073
Encodes w Ebreak = w ≡ 0x00100073
Encodes w (FenceI rd rs1 imm) = IsFenceType w 0b0001111 0b001 rd rs1 imm
Encodes w (Mul mulop.Mul rd rs1 rs2) = IsRType w 0b0110011 0b000 0b0000001 rd rs1 rs2
Encodes w (Mul mulop.Mulh rd rs1 rs2) = IsRType w 0b0110011 0b001 0b0000001 rd rs1 rs2
Encodes w (Mul mulop.Mulhsu rd rs1 rs2) = IsRType w 0b0110011 0b010 0b0000001 rd rs1 rs2
Encodes w (Mul mulop.Mulhu rd rs1 rs2) = IsRType w 0b0110011 0b011 0b0000001 rd rs1 rs2
Encodes w (Mul mulop.Div rd rs1 rs2) = IsRType w 0b0110011 0b100 0b0000001 rd rs1 rs2
Encodes w (Mul mulop.Divu rd rs1 rs2) = IsRType w 0b0110011 0b101 0b0000001 rd rs1 rs2
Encodes w (Mul mulop.Rem rd rs1 rs2) = IsRType w 0b0110011 0b110 0b0000001 rd rs1 rs2
Encodes w (Mul mulop.Remu rd rs1 rs2) = IsRType w 0b0110011 0b111 0b0000001 rd rs1 rs2

-- the instruction is one of RV32I with FENCE.I, and not of the M extension
abbrev pub is_base : Instr → Bool
is_base (Mul op rd rs1 rs2) = false
is_base _ = true
