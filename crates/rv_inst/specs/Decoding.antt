-- The instruction of a word, read from its fields (RISC-V Unprivileged ISA Manual, "RV32/64G Instruction Set Listings":
-- RV32I, Zifencei, RV32M).
use Rattle.std.specs.Prelude.{ℕ, pos, Option, Some, None, ◌==◌, ◌&&◌, ◌||◌, if◌then◌else◌, option_and_then}
use Rattle.rv_inst.specs.declared.instruction.Cond.{Cond}
use Rattle.rv_inst.specs.declared.instruction.Cond.TheVariants as cond
use Rattle.rv_inst.specs.declared.instruction.LoadKind.{LoadKind}
use Rattle.rv_inst.specs.declared.instruction.LoadKind.TheVariants as load
use Rattle.rv_inst.specs.declared.instruction.StoreKind.{StoreKind}
use Rattle.rv_inst.specs.declared.instruction.StoreKind.TheVariants as store
use Rattle.rv_inst.specs.declared.instruction.ImmOp.{ImmOp}
use Rattle.rv_inst.specs.declared.instruction.ImmOp.TheVariants as immop
use Rattle.rv_inst.specs.declared.instruction.RegOp.{RegOp}
use Rattle.rv_inst.specs.declared.instruction.RegOp.TheVariants as regop
use Rattle.rv_inst.specs.declared.instruction.MulOp.{MulOp}
use Rattle.rv_inst.specs.declared.instruction.MulOp.TheVariants as mulop
use Rattle.rv_inst.specs.declared.instruction.Instr.{Instr}
use Rattle.rv_inst.specs.declared.instruction.Instr.TheVariants.{Lui, Auipc, Jal, Jalr, Branch, Load, Store, OpImm, Op, Fence, Ecall, Ebreak, FenceI, Mul}
use Rattle.rv_inst.specs.declared.isa.Isa.{Isa}
use Rattle.rv_inst.specs.declared.isa.Isa.TheVariants.{Rv32i, Rv32im}
use Rattle.rv_inst.specs.Fields.{opcode, rd_of, funct3, rs1_of, rs2_of, funct7, high12, imm_i, imm_s, imm_b, imm_u, imm_j}

-- the condition that a branch's funct3 names
abbrev pub cond_at : ℕ → Option Cond
cond_at f3 =
    if f3 == 0b000 then Some cond.Eq else
    if f3 == 0b001 then Some cond.Ne else
    if f3 == 0b100 then Some cond.Lt else
    if f3 == 0b101 then Some cond.Ge else
    if f3 == 0b110 then Some cond.Ltu else
    if f3 == 0b111 then Some cond.Geu else None

-- the kind that a load's funct3 names
abbrev pub load_kind_of : ℕ → Option LoadKind
load_kind_of f3 =
    if f3 == 0b000 then Some load.Byte else
    if f3 == 0b001 then Some load.Half else
    if f3 == 0b010 then Some load.Word else
    if f3 == 0b100 then Some load.ByteU else
    if f3 == 0b101 then Some load.HalfU else None

-- the kind that a store's funct3 names
abbrev pub store_at : ℕ → Option StoreKind
store_at f3 =
    if f3 == 0b000 then Some store.Byte else
    if f3 == 0b001 then Some store.Half else
    if f3 == 0b010 then Some store.Word else None

-- the operation with a 12-bit immediate that funct3 names
abbrev pub imm_op_at : ℕ → Option ImmOp
imm_op_at f3 =
    if f3 == 0b000 then Some immop.Add else
    if f3 == 0b010 then Some immop.Slt else
    if f3 == 0b011 then Some immop.Sltu else
    if f3 == 0b100 then Some immop.Xor else
    if f3 == 0b110 then Some immop.Or else
    if f3 == 0b111 then Some immop.And else None

-- the shift by a constant that funct3 and funct7 name
abbrev pub shift_at : ℕ → ℕ → Option ImmOp
shift_at f3 f7 =
    if (f3 == 0b001) && (f7 == 0b0000000) then Some immop.Sll else
    if (f3 == 0b101) && (f7 == 0b0000000) then Some immop.Srl else
    if (f3 == 0b101) && (f7 == 0b0100000) then Some immop.Sra else None

-- the operation on two registers that funct3 and funct7 name
abbrev pub op_at : ℕ → ℕ → Option RegOp
op_at f3 f7 =
    if (f3 == 0b000) && (f7 == 0b0000000) then Some regop.Add else
    if (f3 == 0b000) && (f7 == 0b0100000) then Some regop.Sub else
    if (f3 == 0b001) && (f7 == 0b0000000) then Some regop.Sll else
    if (f3 == 0b010) && (f7 == 0b0000000) then Some regop.Slt else
    if (f3 == 0b011) && (f7 == 0b0000000) then Some regop.Sltu else
    if (f3 == 0b100) && (f7 == 0b0000000) then Some regop.Xor else
    if (f3 == 0b101) && (f7 == 0b0000000) then Some regop.Srl else
    if (f3 == 0b101) && (f7 == 0b0100000) then Some regop.Sra else
    if (f3 == 0b110) && (f7 == 0b0000000) then Some regop.Or else
    if (f3 == 0b111) && (f7 == 0b0000000) then Some regop.And else None

-- the operation of the M extension that funct3 names
abbrev pub mul_op_at : ℕ → Option MulOp
mul_op_at f3 =
    if f3 == 0b000 then Some mulop.Mul else
    if f3 == 0b001 then Some mulop.Mulh else
    if f3 == 0b010 then Some mulop.Mulhsu else
    if f3 == 0b011 then Some mulop.Mulhu else
    if f3 == 0b100 then Some mulop.Div else
    if f3 == 0b101 then Some mulop.Divu else
    if f3 == 0b110 then Some mulop.Rem else
    if f3 == 0b111 then Some mulop.Remu else None

-- the function's value for the value of the option, if it has one
abbrev pub option_map : {A B : Type 0} → (A → B) → Option A → Option B
option_map f o = option_and_then (λ x. Some (f x)) o

-- opcode 1100111: JALR
unfoldable pub decoded_jalr : ℕ → Option Instr
decoded_jalr w = if funct3 w == 0b000 then Some (Jalr (rd_of w) (rs1_of w) (imm_i w)) else None

-- opcode 1100011: the branches
unfoldable pub decoded_branch : ℕ → Option Instr
decoded_branch w = option_map (λ c. Branch c (rs1_of w) (rs2_of w) (imm_b w)) (cond_at (funct3 w))

-- opcode 0000011: the loads
unfoldable pub decoded_load : ℕ → Option Instr
decoded_load w = option_map (λ k. Load k (rd_of w) (rs1_of w) (imm_i w)) (load_kind_of (funct3 w))

-- opcode 0100011: the stores
unfoldable pub decoded_store : ℕ → Option Instr
decoded_store w = option_map (λ k. Store k (rs1_of w) (rs2_of w) (imm_s w)) (store_at (funct3 w))

-- opcode 0010011: the operations with an immediate, which are shifts if funct3 is 001 or 101
unfoldable pub decoded_imm : ℕ → Option Instr
decoded_imm w =
    if (funct3 w == 0b001) || (funct3 w == 0b101)
    then option_map (λ op. OpImm op (rd_of w) (rs1_of w) (pos (rs2_of w))) (shift_at (funct3 w) (funct7 w))
    else option_map (λ op. OpImm op (rd_of w) (rs1_of w) (imm_i w)) (imm_op_at (funct3 w))

-- opcode 0110011: the operations on two registers
unfoldable pub decoded_op : ℕ → Option Instr
decoded_op w = option_map (λ op. Op op (rd_of w) (rs1_of w) (rs2_of w)) (op_at (funct3 w) (funct7 w))

-- opcode 0001111: FENCE and FENCE.I
unfoldable pub decoded_fence : ℕ → Option Instr
decoded_fence w =
    if funct3 w == 0b000 then Some (Fence (rd_of w) (rs1_of w) (high12 w)) else
    if funct3 w == 0b001 then Some (FenceI (rd_of w) (rs1_of w) (high12 w)) else None

-- opcode 1110011: ECALL and EBREAK
unfoldable pub decoded_system : ℕ → Option Instr
decoded_system w =
    if w == 0x00000073 then Some Ecall else
    if w == 0x00100073 then Some Ebreak else None

-- the instruction of RV32I with FENCE.I that a word encodes
unfoldable pub decoded : ℕ → Option Instr
decoded w =
    if opcode w == 0b0110111 then Some (Lui (rd_of w) (imm_u w)) else
    if opcode w == 0b0010111 then Some (Auipc (rd_of w) (imm_u w)) else
    if opcode w == 0b1101111 then Some (Jal (rd_of w) (imm_j w)) else
    if opcode w == 0b1100111 then decoded_jalr w else
    if opcode w == 0b1100011 then decoded_branch w else
    if opcode w == 0b0000011 then decoded_load w else
    if opcode w == 0b0100011 then decoded_store w else
    if opcode w == 0b0010011 then decoded_imm w else
    if opcode w == 0b0110011 then decoded_op w else
    if opcode w == 0b0001111 then decoded_fence w else
    if opcode w == 0b1110011 then decoded_system w else None

-- opcode 0110011 with funct7 0000001: the operations of the M extension
unfoldable pub decoded_mul : ℕ → Option Instr
decoded_mul w = option_map (λ op. Mul op (rd_of w) (rs1_of w) (rs2_of w)) (mul_op_at (funct3 w))

-- the instruction that a word encodes, with the M extension
unfoldable pub decoded_m : ℕ → Option Instr
decoded_m w = if (opcode w == 0b0110011) && (funct7 w == 0b0000001) then decoded_mul w else decoded w

-- the instruction of the set that a word encodes
unfoldable pub decoded_as : Isa → ℕ → Option Instr
decoded_as Rv32i w = decoded w
decoded_as Rv32im w = decoded_m w
