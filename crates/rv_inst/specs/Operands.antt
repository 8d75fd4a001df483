-- The class of an instruction, and the registers that it reads and writes (RISC-V Unprivileged ISA Manual, "RV32I Base
-- Integer Instruction Set").
use Rattle.std.specs.Prelude.{ℕ}
use Rattle.rv_inst.specs.declared.instruction.ImmOp.{ImmOp}
use Rattle.rv_inst.specs.declared.instruction.ImmOp.TheVariants as immop
use Rattle.rv_inst.specs.declared.instruction.RegOp.{RegOp}
use Rattle.rv_inst.specs.declared.instruction.RegOp.TheVariants as regop
use Rattle.rv_inst.specs.declared.instruction.MulOp.{MulOp}
use Rattle.rv_inst.specs.declared.instruction.MulOp.TheVariants as mulop
use Rattle.rv_inst.specs.declared.instruction.Instr.{Instr}
use Rattle.rv_inst.specs.declared.instruction.Instr.TheVariants.{Lui, Auipc, Jal, Jalr, Branch, Load, Store, OpImm, Op, Fence, Ecall, Ebreak, FenceI, Mul}
use Rattle.rv_inst.specs.declared.classes.Class.{Class}
use Rattle.rv_inst.specs.declared.classes.Class.TheVariants as class

-- the operation on two registers that an operation with an immediate performs on its register and the immediate
abbrev pub register_op : ImmOp → RegOp
register_op immop.Add = regop.Add
register_op immop.Slt = regop.Slt
register_op immop.Sltu = regop.Sltu
register_op immop.Xor = regop.Xor
register_op immop.Or = regop.Or
register_op immop.And = regop.And
register_op immop.Sll = regop.Sll
register_op immop.Srl = regop.Srl
register_op immop.Sra = regop.Sra

-- the class of an operation
abbrev pub op_class : RegOp → Class
op_class regop.Add = class.Add
op_class regop.Sub = class.Add
op_class regop.Xor = class.Logic
op_class regop.Or = class.Logic
op_class regop.And = class.Logic
op_class regop.Sll = class.Shift
op_class regop.Srl = class.Shift
op_class regop.Sra = class.Shift
op_class regop.Slt = class.Compare
op_class regop.Sltu = class.Compare

-- the class of an operation of the M extension
abbrev pub mul_op_class : MulOp → Class
mul_op_class mulop.Mul = class.Mul
mul_op_class mulop.Mulh = class.Mul
mul_op_class mulop.Mulhsu = class.Mul
mul_op_class mulop.Mulhu = class.Mul
mul_op_class mulop.Div = class.Div
mul_op_class mulop.Divu = class.Div
mul_op_class mulop.Rem = class.Div
mul_op_class mulop.Remu = class.Div

-- the class of an instruction
abbrev pub class_of : Instr → Class
class_of (Lui rd imm) = class.Add
class_of (Auipc rd imm) = class.Add
class_of (Jal rd imm) = class.Jump
class_of (Jalr rd rs1 imm) = class.Jump
class_of (Branch c rs1 rs2 imm) = class.Branch
class_of (Load k rd rs1 imm) = class.Memory
class_of (Store k rs1 rs2 imm) = class.Memory
class_of (OpImm op rd rs1 imm) = op_class (register_op op)
class_of (Op op rd rs1 rs2) = op_class op
class_of (Fence rd rs1 imm) = class.Free
class_of Ecall = class.Serial
class_of Ebreak = class.Free
class_of (FenceI rd rs1 imm) = class.Serial
class_of (Mul op rd rs1 rs2) = mul_op_class op

-- the source registers, 0 for none
abbrev pub sources_of : Instr → ℕ × ℕ
sources_of (Lui rd imm) = (0, 0)
sources_of (Auipc rd imm) = (0, 0)
sources_of (Jal rd imm) = (0, 0)
sources_of (Jalr rd rs1 imm) = (rs1, 0)
sources_of (Branch c rs1 rs2 imm) = (rs1, rs2)
sources_of (Load k rd rs1 imm) = (rs1, 0)
sources_of (Store k rs1 rs2 imm) = (rs1, rs2)
sources_of (OpImm op rd rs1 imm) = (rs1, 0)
sources_of (Op op rd rs1 rs2) = (rs1, rs2)
sources_of (Fence rd rs1 imm) = (0, 0)
sources_of Ecall = (0, 0)
sources_of Ebreak = (0, 0)
sources_of (FenceI rd rs1 imm) = (0, 0)
sources_of (Mul op rd rs1 rs2) = (rs1, rs2)

-- the destination register, 0 for none; an environment call returns its answer in x10
abbrev pub dest_of : Instr → ℕ
dest_of (Lui rd imm) = rd
dest_of (Auipc rd imm) = rd
dest_of (Jal rd imm) = rd
dest_of (Jalr rd rs1 imm) = rd
dest_of (Branch c rs1 rs2 imm) = 0
dest_of (Load k rd rs1 imm) = rd
dest_of (Store k rs1 rs2 imm) = 0
dest_of (OpImm op rd rs1 imm) = rd
dest_of (Op op rd rs1 rs2) = rd
dest_of (Fence rd rs1 imm) = 0
dest_of Ecall = 10
dest_of Ebreak = 0
dest_of (FenceI rd rs1 imm) = 0
dest_of (Mul op rd rs1 rs2) = rd
