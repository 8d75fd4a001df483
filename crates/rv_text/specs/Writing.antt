-- The text of an instruction (RISC-V Assembly Programmer's Manual; RISC-V Unprivileged ISA Manual, "RV32/64G
-- Instruction Set Listings").
use Rattle.std.specs.Prelude.{ℕ, ◌==◌, ◌&&◌, ℤ, pos, List, [], ◌∷◌, ◌++◌, codes, decimal, drop, min, if◌then◌else◌}
use Rattle.std.specs.Fmt.{signed_decimal}
use Rattle.std.specs.List.{prefix_len}
use Rattle.texts.specs.Hexadecimal.{hex8}
use Rattle.rv_inst.specs.Words.{word_sum, signed_word}
use Rattle.rv_inst.specs.declared.instruction.Instr.{Instr}
use Rattle.rv_inst.specs.declared.instruction.Instr.TheVariants.{Lui, Auipc, Jal, Jalr, Branch, Load, Store, OpImm, Op, Fence, Ecall, Ebreak, FenceI, Mul}
use Rattle.rv_text.specs.declared.operands.Operand.{Operand}
use Rattle.rv_text.specs.declared.operands.Operand.TheVariants.{Register, Number, Upper, Target, Address}
use Rattle.rv_text.specs.Names.{mnemonic_name, mnemonic_of}

-- digits without leading zeros, of which at most seven are dropped
abbrev pub without_zeros : List ℕ → List ℕ
without_zeros digits = drop (min (prefix_len (λ digit. digit == 48) digits) 7) digits

-- a word in as many hexadecimal digits as it needs
unfoldable pub hexadecimal : ℕ → List ℕ
hexadecimal w = without_zeros (hex8 w)

-- a register: `x` and its number
abbrev pub register_text : ℕ → List ℕ
register_text r = codes "x" ++ decimal r

-- an operand
unfoldable pub operand_text : Operand → List ℕ
operand_text (Register r) = register_text r
operand_text (Number z) = signed_decimal z
operand_text (Upper field) = codes "0x" ++ hexadecimal field
operand_text (Target address) = codes "0x" ++ hex8 address
operand_text (Address z r) = signed_decimal z ++ codes "(" ++ register_text r ++ codes ")"

-- the operands in order, with these bytes before the first and `, ` before each of the others
unfoldable pub operands_listed : List ℕ → List Operand → List ℕ
operands_listed before [] = []
operands_listed before (operand ∷ operands) = before ++ operand_text operand ++ operands_listed (codes ", ") operands

-- the target of a jump or a branch: the address of the instruction plus the distance, modulo 2 ^ 32
abbrev pub target_operand : ℕ → ℤ → Operand
target_operand pc distance = Target (word_sum pc (signed_word distance))

-- the operands of a fence: none if its registers are 0 and its set is the default
abbrev pub fence_operands : ℕ → ℕ → ℕ → ℕ → List Operand
fence_operands plain rd rs1 set =
    if rd == 0 && rs1 == 0 && set == plain then []
    else Register rd ∷ Register rs1 ∷ Number (pos set) ∷ []

-- the operands of the instruction at an address, in the order of the text
abbrev pub operands_of : Instr → ℕ → List Operand
operands_of (Lui rd imm) pc = Register rd ∷ Upper imm ∷ []
operands_of (Auipc rd imm) pc = Register rd ∷ Upper imm ∷ []
operands_of (Jal rd imm) pc = Register rd ∷ target_operand pc imm ∷ []
operands_of (Jalr rd rs1 imm) pc = Register rd ∷ Address imm rs1 ∷ []
operands_of (Branch c rs1 rs2 imm) pc = Register rs1 ∷ Register rs2 ∷ target_operand pc imm ∷ []
operands_of (Load k rd rs1 imm) pc = Register rd ∷ Address imm rs1 ∷ []
operands_of (Store k rs1 rs2 imm) pc = Register rs2 ∷ Address imm rs1 ∷ []
operands_of (OpImm op rd rs1 imm) pc = Register rd ∷ Register rs1 ∷ Number imm ∷ []
operands_of (Op op rd rs1 rs2) pc = Register rd ∷ Register rs1 ∷ Register rs2 ∷ []
operands_of (Fence rd rs1 imm) pc = fence_operands 255 rd rs1 imm
operands_of Ecall pc = []
operands_of Ebreak pc = []
operands_of (FenceI rd rs1 imm) pc = fence_operands 0 rd rs1 imm
operands_of (Mul op rd rs1 rs2) pc = Register rd ∷ Register rs1 ∷ Register rs2 ∷ []

-- the text of the instruction at an address: its name, and its operands
unfoldable pub text_of : Instr → ℕ → List ℕ
text_of i pc = mnemonic_name (mnemonic_of i) ++ operands_listed (codes " ") (operands_of i pc)
