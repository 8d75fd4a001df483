-- The destination of an instruction whose fields are in range is a register.
use Rattle.std.proofs.Common.{arith}
use Rattle.rv_inst.specs.declared.instruction.Instr.{Instr}
use Rattle.rv_inst.specs.declared.instruction.Instr.TheVariants.{Lui, Auipc, Jal, Jalr, Branch, Load, Store, OpImm, Op, Fence, Ecall, Ebreak, FenceI, Mul}
use Rattle.rv_inst.specs.Operands.{dest_of}
use Rattle.rv_inst.specs.Ranges.{Fits, IsRegister}

pub dest_fits : (i : Instr) → Fits i → IsRegister (dest_of i)
dest_fits (Lui rd imm) fits = fits.0
dest_fits (Auipc rd imm) fits = fits.0
dest_fits (Jal rd imm) fits = fits.0
dest_fits (Jalr rd rs1 imm) fits = fits.0
dest_fits (Branch c rs1 rs2 imm) fits = omega arith
dest_fits (Load k rd rs1 imm) fits = fits.0
dest_fits (Store k rs1 rs2 imm) fits = omega arith
dest_fits (OpImm op rd rs1 imm) fits = fits.0
dest_fits (Op op rd rs1 rs2) fits = fits.0
dest_fits (Fence rd rs1 imm) fits = omega arith
dest_fits Ecall fits = omega arith
dest_fits Ebreak fits = omega arith
dest_fits (FenceI rd rs1 imm) fits = omega arith
dest_fits (Mul op rd rs1 rs2) fits = fits.0
