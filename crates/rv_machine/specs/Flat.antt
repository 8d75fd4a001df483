-- Flat operations and their meaning (RISC-V Unprivileged ISA Manual, RV32I and the M extension).
use Rattle.std.specs.Prelude.{◌≡◌, ℕ, ◌<◌, ℤ, Bool, true, false, Option, Some, None, IfSome, IsTrue}
use Rattle.mem_regions.specs.Memory.{Memory}
use Rattle.rv_inst.specs.declared.instruction.Cond.{Cond}
use Rattle.rv_inst.specs.declared.instruction.Cond.TheVariants as cond
use Rattle.rv_inst.specs.declared.instruction.LoadKind.{LoadKind}
use Rattle.rv_inst.specs.declared.instruction.LoadKind.TheVariants as load
use Rattle.rv_inst.specs.declared.instruction.StoreKind.{StoreKind}
use Rattle.rv_inst.specs.declared.instruction.StoreKind.TheVariants as store
use Rattle.rv_inst.specs.declared.instruction.ImmOp.{ImmOp}
use Rattle.rv_inst.specs.declared.instruction.ImmOp.TheVariants as imm
use Rattle.rv_inst.specs.declared.instruction.RegOp.{RegOp}
use Rattle.rv_inst.specs.declared.instruction.RegOp.TheVariants as reg
use Rattle.rv_inst.specs.declared.instruction.Instr.{Instr}
use Rattle.rv_inst.specs.declared.instruction.Instr.TheVariants.{Lui, Auipc, Jal, Jalr, Branch, Load, Store, OpImm, Op}
use Rattle.rv_inst.specs.Words.{signed_word}
use Rattle.rv_machine.specs.declared.flat.FlatOp.{FlatOp}
use Rattle.rv_machine.specs.declared.flat.FlatOp.TheVariants as op
use Rattle.rv_machine.specs.declared.flat.Flat.{Flat}
use Rattle.rv_machine.specs.declared.decode_cache.Found.TheVariants as found
use Rattle.rv_machine.specs.Decoded.{found_at}

-- the instruction with these fields, or none if the operation is left to the slow path
abbrev pub instr_with : FlatOp → ℕ → ℕ → ℕ → ℤ → Option Instr
instr_with op.Slow rd rs1 rs2 n = None
instr_with op.Nop rd rs1 rs2 n = Some (OpImm imm.Add 0 rs1 n)
instr_with op.Lui rd rs1 rs2 n = Some (Lui rd (signed_word n))
instr_with op.Auipc rd rs1 rs2 n = Some (Auipc rd (signed_word n))
instr_with op.Jal rd rs1 rs2 n = Some (Jal rd n)
instr_with op.Jalr rd rs1 rs2 n = Some (Jalr rd rs1 n)
instr_with op.Beq rd rs1 rs2 n = Some (Branch cond.Eq rs1 rs2 n)
instr_with op.Bne rd rs1 rs2 n = Some (Branch cond.Ne rs1 rs2 n)
instr_with op.Blt rd rs1 rs2 n = Some (Branch cond.Lt rs1 rs2 n)
instr_with op.Bge rd rs1 rs2 n = Some (Branch cond.Ge rs1 rs2 n)
instr_with op.Bltu rd rs1 rs2 n = Some (Branch cond.Ltu rs1 rs2 n)
instr_with op.Bgeu rd rs1 rs2 n = Some (Branch cond.Geu rs1 rs2 n)
instr_with op.Lb rd rs1 rs2 n = Some (Load load.Byte rd rs1 n)
instr_with op.Lh rd rs1 rs2 n = Some (Load load.Half rd rs1 n)
instr_with op.Lw rd rs1 rs2 n = Some (Load load.Word rd rs1 n)
instr_with op.Lbu rd rs1 rs2 n = Some (Load load.ByteU rd rs1 n)
instr_with op.Lhu rd rs1 rs2 n = Some (Load load.HalfU rd rs1 n)
instr_with op.Sb rd rs1 rs2 n = Some (Store store.Byte rs1 rs2 n)
instr_with op.Sh rd rs1 rs2 n = Some (Store store.Half rs1 rs2 n)
instr_with op.Sw rd rs1 rs2 n = Some (Store store.Word rs1 rs2 n)
instr_with op.Addi rd rs1 rs2 n = Some (OpImm imm.Add rd rs1 n)
instr_with op.Slti rd rs1 rs2 n = Some (OpImm imm.Slt rd rs1 n)
instr_with op.Sltiu rd rs1 rs2 n = Some (OpImm imm.Sltu rd rs1 n)
instr_with op.Xori rd rs1 rs2 n = Some (OpImm imm.Xor rd rs1 n)
instr_with op.Ori rd rs1 rs2 n = Some (OpImm imm.Or rd rs1 n)
instr_with op.Andi rd rs1 rs2 n = Some (OpImm imm.And rd rs1 n)
instr_with op.Slli rd rs1 rs2 n = Some (OpImm imm.Sll rd rs1 n)
instr_with op.Srli rd rs1 rs2 n = Some (OpImm imm.Srl rd rs1 n)
instr_with op.Srai rd rs1 rs2 n = Some (OpImm imm.Sra rd rs1 n)
instr_with op.Add rd rs1 rs2 n = Some (Op reg.Add rd rs1 rs2)
instr_with op.Sub rd rs1 rs2 n = Some (Op reg.Sub rd rs1 rs2)
instr_with op.Sll rd rs1 rs2 n = Some (Op reg.Sll rd rs1 rs2)
instr_with op.Slt rd rs1 rs2 n = Some (Op reg.Slt rd rs1 rs2)
instr_with op.Sltu rd rs1 rs2 n = Some (Op reg.Sltu rd rs1 rs2)
instr_with op.Xor rd rs1 rs2 n = Some (Op reg.Xor rd rs1 rs2)
instr_with op.Srl rd rs1 rs2 n = Some (Op reg.Srl rd rs1 rs2)
instr_with op.Sra rd rs1 rs2 n = Some (Op reg.Sra rd rs1 rs2)
instr_with op.Or rd rs1 rs2 n = Some (Op reg.Or rd rs1 rs2)
instr_with op.And rd rs1 rs2 n = Some (Op reg.And rd rs1 rs2)

-- the instruction that a flat operation represents
abbrev pub instr_of : Flat → Option Instr
instr_of f = instr_with f.op f.rd f.rs1 f.rs2 f.imm

-- the operation of a branch, a load, a store, or an operation with an immediate or on two registers
abbrev pub branch_op : Cond → FlatOp
branch_op cond.Eq = op.Beq
branch_op cond.Ne = op.Bne
branch_op cond.Lt = op.Blt
branch_op cond.Ge = op.Bge
branch_op cond.Ltu = op.Bltu
branch_op cond.Geu = op.Bgeu

abbrev pub load_op : LoadKind → FlatOp
load_op load.Byte = op.Lb
load_op load.Half = op.Lh
load_op load.Word = op.Lw
load_op load.ByteU = op.Lbu
load_op load.HalfU = op.Lhu

abbrev pub store_op : StoreKind → FlatOp
store_op store.Byte = op.Sb
store_op store.Half = op.Sh
store_op store.Word = op.Sw

abbrev pub imm_op : ImmOp → FlatOp
imm_op imm.Add = op.Addi
imm_op imm.Slt = op.Slti
imm_op imm.Sltu = op.Sltiu
imm_op imm.Xor = op.Xori
imm_op imm.Or = op.Ori
imm_op imm.And = op.Andi
imm_op imm.Sll = op.Slli
imm_op imm.Srl = op.Srli
imm_op imm.Sra = op.Srai

abbrev pub reg_op : RegOp → FlatOp
reg_op reg.Add = op.Add
reg_op reg.Sub = op.Sub
reg_op reg.Sll = op.Sll
reg_op reg.Slt = op.Slt
reg_op reg.Sltu = op.Sltu
reg_op reg.Xor = op.Xor
reg_op reg.Srl = op.Srl
reg_op reg.Sra = op.Sra
reg_op reg.Or = op.Or
reg_op reg.And = op.And

-- what memory has at the address is this instruction, in some word
pub record IsAt (mem : Memory) (pc : ℕ) (i : Instr) : Type 0 where
  pub word : ℕ
  pub is : found_at mem pc ≡ found.Instruction word i

-- the operation writes its destination without testing whether it is x0
abbrev pub writes_plainly : FlatOp → Bool
writes_plainly op.Slow = false
writes_plainly op.Nop = false
writes_plainly op.Jal = false
writes_plainly op.Jalr = false
writes_plainly op.Beq = false
writes_plainly op.Bne = false
writes_plainly op.Blt = false
writes_plainly op.Bge = false
writes_plainly op.Bltu = false
writes_plainly op.Bgeu = false
writes_plainly op.Sb = false
writes_plainly op.Sh = false
writes_plainly op.Sw = false
writes_plainly _ = true

-- if the operation represents an instruction, memory has it at the address; what it writes is not x0
pub record StandsFor (mem : Memory) (pc : ℕ) (f : Flat) : Type 0 where
  pub is : IfSome (instr_of f) (IsAt mem pc)
  pub written : IsTrue (writes_plainly f.op) → 0 < f.rd
