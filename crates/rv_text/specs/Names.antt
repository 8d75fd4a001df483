-- The names of the instructions (RISC-V Unprivileged ISA Manual, "RV32/64G Instruction Set Listings": RV32I, Zifencei,
-- RV32M).
use Rattle.std.specs.Prelude.{ℕ, Option, List, [], ◌∷◌, codes}
use Rattle.std.specs.List.{find}
use Rattle.std.specs.Str.{bytes_eq}
use Rattle.rv_inst.specs.declared.instruction.Cond.TheVariants as cond
use Rattle.rv_inst.specs.declared.instruction.LoadKind.TheVariants as load
use Rattle.rv_inst.specs.declared.instruction.StoreKind.TheVariants as store
use Rattle.rv_inst.specs.declared.instruction.ImmOp.TheVariants as immop
use Rattle.rv_inst.specs.declared.instruction.RegOp.TheVariants as regop
use Rattle.rv_inst.specs.declared.instruction.MulOp.TheVariants as mulop
use Rattle.rv_inst.specs.declared.instruction.Instr.{Instr}
use Rattle.rv_inst.specs.declared.instruction.Instr.TheVariants as instr
use Rattle.rv_text.specs.declared.mnemonic.Mnemonic.{Mnemonic}
use Rattle.rv_text.specs.declared.mnemonic.Mnemonic.TheVariants.{Lui, Auipc, Jal, Jalr, Branch, Load, Store, OpImm, Op, Fence, Ecall, Ebreak, FenceI, Mul}

-- the name of an instruction
abbrev pub mnemonic_name : Mnemonic → List ℕ
mnemonic_name Lui = codes "lui"
mnemonic_name Auipc = codes "auipc"
mnemonic_name Jal = codes "jal"
mnemonic_name Jalr = codes "jalr"
mnemonic_name (Branch cond.Eq) = codes "beq"
mnemonic_name (Branch cond.Ne) = codes "bne"
mnemonic_name (Branch cond.Lt) = codes "blt"
mnemonic_name (Branch cond.Ge) = codes "bge"
mnemonic_name (Branch cond.Ltu) = codes "bltu"
mnemonic_name (Branch cond.Geu) = codes "bgeu"
mnemonic_name (Load load.Byte) = codes "lb"
mnemonic_name (Load load.Half) = codes "lh"
mnemonic_name (Load load.Word) = codes "lw"
mnemonic_name (Load load.ByteU) = codes "lbu"
mnemonic_name (Load load.HalfU) = codes "lhu"
mnemonic_name (Store store.Byte) = codes "sb"
mnemonic_name (Store store.Half) = codes "sh"
mnemonic_name (Store store.Word) = codes "sw"
mnemonic_name (OpImm immop.Add) = codes "addi"
mnemonic_name (OpImm immop.Slt) = codes "slti"
mnemonic_name (OpImm immop.Sltu) = codes "sltiu"
mnemonic_name (OpImm immop.Xor) = codes "xori"
mnemonic_name (OpImm immop.Or) = codes "ori"
mnemonic_name (OpImm immop.And) = codes "andi"
mnemonic_name (OpImm immop.Sll) = codes "slli"
mnemonic_name (OpImm immop.Srl) = codes "srli"
mnemonic_name (OpImm immop.Sra) = codes "srai"
mnemonic_name (Op regop.Add) = codes "add"
mnemonic_name (Op regop.Sub) = codes "sub"
mnemonic_name (Op regop.Sll) = codes "sll"
mnemonic_name (Op regop.Slt) = codes "slt"
mnemonic_name (Op regop.Sltu) = codes "sltu"
mnemonic_name (Op regop.Xor) = codes "xor"
mnemonic_name (Op regop.Srl) = codes "srl"
mnemonic_name (Op regop.Sra) = codes "sra"
mnemonic_name (Op regop.Or) = codes "or"
mnemonic_name (Op regop.And) = codes "and"
mnemonic_name Fence = codes "fence"
mnemonic_name Ecall = codes "ecall"
mnemonic_name Ebreak = codes "ebreak"
mnemonic_name FenceI = codes "fence.i"
mnemonic_name (Mul mulop.Mul) = codes "mul"
mnemonic_name (Mul mulop.Mulh) = codes "mulh"
mnemonic_name (Mul mulop.Mulhsu) = codes "mulhsu"
mnemonic_name (Mul mulop.Mulhu) = codes "mulhu"
mnemonic_name (Mul mulop.Div) = codes "div"
mnemonic_name (Mul mulop.Divu) = codes "divu"
mnemonic_name (Mul mulop.Rem) = codes "rem"
mnemonic_name (Mul mulop.Remu) = codes "remu"

-- all mnemonics
abbrev pub mnemonics : List Mnemonic
mnemonics =
    Lui ∷ Auipc ∷ Jal ∷ Jalr
    ∷ Branch cond.Eq ∷ Branch cond.Ne ∷ Branch cond.Lt ∷ Branch cond.Ge ∷ Branch cond.Ltu ∷ Branch cond.Geu
    ∷ Load load.Byte ∷ Load load.Half ∷ Load load.Word ∷ Load load.ByteU ∷ Load load.HalfU
    ∷ Store store.Byte ∷ Store store.Half ∷ Store store.Word
    ∷ OpImm immop.Add ∷ OpImm immop.Slt ∷ OpImm immop.Sltu ∷ OpImm immop.Xor ∷ OpImm immop.Or ∷ OpImm immop.And
    ∷ OpImm immop.Sll ∷ OpImm immop.Srl ∷ OpImm immop.Sra
    ∷ Op regop.Add ∷ Op regop.Sub ∷ Op regop.Sll ∷ Op regop.Slt ∷ Op regop.Sltu ∷ Op regop.Xor
    ∷ Op regop.Srl ∷ Op regop.Sra ∷ Op regop.Or ∷ Op regop.And
    ∷ Fence ∷ Ecall ∷ Ebreak ∷ FenceI
    ∷ Mul mulop.Mul ∷ Mul mulop.Mulh ∷ Mul mulop.Mulhsu ∷ Mul mulop.Mulhu
    ∷ Mul mulop.Div ∷ Mul mulop.Divu ∷ Mul mulop.Rem ∷ Mul mulop.Remu ∷ []

-- the mnemonic with this name
unfoldable pub mnemonic_named : List ℕ → Option Mnemonic
mnemonic_named word = find (λ mnemonic. bytes_eq (mnemonic_name mnemonic) word) mnemonics

-- the mnemonic of an instruction
abbrev pub mnemonic_of : Instr → Mnemonic
mnemonic_of (instr.Lui rd imm) = Lui
mnemonic_of (instr.Auipc rd imm) = Auipc
mnemonic_of (instr.Jal rd imm) = Jal
mnemonic_of (instr.Jalr rd rs1 imm) = Jalr
mnemonic_of (instr.Branch c rs1 rs2 imm) = Branch c
mnemonic_of (instr.Load k rd rs1 imm) = Load k
mnemonic_of (instr.Store k rs1 rs2 imm) = Store k
mnemonic_of (instr.OpImm op rd rs1 imm) = OpImm op
mnemonic_of (instr.Op op rd rs1 rs2) = Op op
mnemonic_of (instr.Fence rd rs1 imm) = Fence
mnemonic_of instr.Ecall = Ecall
mnemonic_of instr.Ebreak = Ebreak
mnemonic_of (instr.FenceI rd rs1 imm) = FenceI
mnemonic_of (instr.Mul op rd rs1 rs2) = Mul op
