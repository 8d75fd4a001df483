-- What an instruction computes from its address and its sources (RISC-V Unprivileged ISA Manual, "RV32I Base Integer
-- Instruction Set", Integer Computational Instructions and Control Transfer Instructions).
use Rattle.std.specs.Prelude.{ℕ, ◌*◌, ◌/◌, ◌%◌, ◌^◌, Bool, true, false, nat_lt, int_lt, if◌then◌else◌, bit_and, bit_or, bit_xor, ◌==◌, not}
use Rattle.std.specs.Int.{int_shr}
use Rattle.rv_inst.specs.declared.instruction.Cond.{Cond}
use Rattle.rv_inst.specs.declared.instruction.Cond.TheVariants as cond
use Rattle.rv_inst.specs.declared.instruction.RegOp.{RegOp}
use Rattle.rv_inst.specs.declared.instruction.RegOp.TheVariants as regop
use Rattle.rv_inst.specs.declared.instruction.Instr.{Instr}
use Rattle.rv_inst.specs.declared.instruction.Instr.TheVariants.{Lui, Auipc, Jal, Jalr, Branch, OpImm, Op}
use Rattle.rv_inst.specs.declared.classes.Class.{Class}
use Rattle.rv_inst.specs.declared.classes.Class.TheVariants as class
use Rattle.rv_inst.specs.Words.{word_sum, word_difference, signed, signed_word}
use Rattle.rv_inst.specs.Operands.{register_op}

-- 1 if the test holds, otherwise 0
abbrev pub truth_value : Bool → ℕ
truth_value b = if b then 1 else 0

-- the result of an operation; a shift uses the low five bits of its amount
unfoldable pub op_value : RegOp → ℕ → ℕ → ℕ
op_value regop.Add a b = word_sum a b
op_value regop.Sub a b = word_difference a b
op_value regop.Sll a b = a * 2 ^ (b % 32) % 2 ^ 32
op_value regop.Slt a b = truth_value (int_lt (signed a) (signed b))
op_value regop.Sltu a b = truth_value (nat_lt a b)
op_value regop.Xor a b = bit_xor a b
op_value regop.Srl a b = a / 2 ^ (b % 32)
op_value regop.Sra a b = signed_word (int_shr (signed a) (b % 32))
op_value regop.Or a b = bit_or a b
op_value regop.And a b = bit_and a b

-- whether the branch is taken
unfoldable pub is_taken : Cond → ℕ → ℕ → Bool
is_taken cond.Eq a b = a == b
is_taken cond.Ne a b = not (a == b)
is_taken cond.Lt a b = int_lt (signed a) (signed b)
is_taken cond.Ge a b = not (int_lt (signed a) (signed b))
is_taken cond.Ltu a b = nat_lt a b
is_taken cond.Geu a b = not (nat_lt a b)

-- the classes whose instructions compute only from their address and their sources
abbrev pub is_arithmetic : Class → Bool
is_arithmetic class.Add = true
is_arithmetic class.Logic = true
is_arithmetic class.Shift = true
is_arithmetic class.Compare = true
is_arithmetic class.Branch = true
is_arithmetic class.Jump = true
is_arithmetic _ = false

-- the destination's value: 0 for a branch, and for the classes that compute no value
unfoldable pub alu_value : Instr → ℕ → ℕ → ℕ → ℕ
alu_value (Lui rd imm) pc a b = imm * 2 ^ 12 % 2 ^ 32
alu_value (Auipc rd imm) pc a b = word_sum pc (imm * 2 ^ 12)
alu_value (Jal rd imm) pc a b = word_sum pc 4
alu_value (Jalr rd rs1 imm) pc a b = word_sum pc 4
alu_value (OpImm op rd rs1 imm) pc a b = op_value (register_op op) a (signed_word imm)
alu_value (Op op rd rs1 rs2) pc a b = op_value op a b
alu_value _ pc a b = 0

-- the address of the next instruction: the target of a jump or of a taken branch, otherwise this instruction's address
-- plus 4; JALR clears bit 0
unfoldable pub next_pc : Instr → ℕ → ℕ → ℕ → ℕ
next_pc (Jal rd imm) pc a b = word_sum pc (signed_word imm)
next_pc (Jalr rd rs1 imm) pc a b = word_sum a (signed_word imm) / 2 * 2
next_pc (Branch c rs1 rs2 imm) pc a b = if is_taken c a b then word_sum pc (signed_word imm) else word_sum pc 4
next_pc _ pc a b = word_sum pc 4
