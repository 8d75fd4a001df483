-- What an instruction of RV32IM computes from its address and its sources (RISC-V Unprivileged ISA Manual, "RV32I Base
-- Integer Instruction Set" and "M" Extension for Integer Multiplication and Division).
use Rattle.std.specs.Prelude.{ℕ, Bool, true}
use Rattle.rv_inst.specs.declared.instruction.Instr.{Instr}
use Rattle.rv_inst.specs.declared.instruction.Instr.TheVariants.{Mul}
use Rattle.rv_inst.specs.declared.classes.Class.{Class}
use Rattle.rv_inst.specs.declared.classes.Class.TheVariants as class
use Rattle.rv_inst.specs.Arithmetic.{alu_value, is_arithmetic}
use Rattle.rv_mul.specs.Products.{product_of}

-- the classes whose instructions compute only from their address and their sources: those of RV32I, Mul and Div
abbrev pub computes : Class → Bool
computes class.Mul = true
computes class.Div = true
computes c = is_arithmetic c

-- the destination's value: the product or quotient for an instruction of the M extension, otherwise that of RV32I
unfoldable pub value_of : Instr → ℕ → ℕ → ℕ → ℕ
value_of (Mul op rd rs1 rs2) pc a b = product_of op a b
value_of i pc a b = alu_value i pc a b
