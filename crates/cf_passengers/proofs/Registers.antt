-- The registers of an instruction's sources and destination.
use Rattle.std.proofs.Common.{ℕ, ◌<◌, List, Option, arith}
use Rattle.std.specs.Prelude.{IfSome}
use Rattle.rv_inst.specs.declared.instruction.Instr.{Instr}
use Rattle.rv_inst.specs.declared.instruction.Instr.TheVariants.{Lui, Auipc, Jal, Jalr, Branch, Load, Store, OpImm, Op, Fence, Ecall, Ebreak, FenceI, Mul}
use Rattle.rv_inst.specs.Ranges.{Fits}
use Rattle.rv_inst.specs.Operands.{sources_of, dest_of}
use Rattle.cf_semantics.specs.moves.Instructions.{register, src1_of, src2_of, dst_of}
use Rattle.cf_semantics.specs.state.Passengers.{source, destination}
use Rattle.cf_passengers.specs.Facts.{IsBinding}

-- they are below 32 if the fields are in range
pub src1-register : (i : Instr) → Fits i → (sources_of i).0 < 32
src1-register (Lui rd imm) h = omega arith
src1-register (Auipc rd imm) h = omega arith
src1-register (Jal rd imm) h = omega arith
src1-register (Jalr rd rs1 imm) h = h.1
src1-register (Branch c rs1 rs2 imm) h = h.0
src1-register (Load k rd rs1 imm) h = h.1
src1-register (Store k rs1 rs2 imm) h = h.0
src1-register (OpImm op rd rs1 imm) h = h.1
src1-register (Op op rd rs1 rs2) h = h.1
src1-register (Fence rd rs1 imm) h = omega arith
src1-register Ecall h = omega arith
src1-register Ebreak h = omega arith
src1-register (FenceI rd rs1 imm) h = omega arith
src1-register (Mul op rd rs1 rs2) h = h.1

pub src2-register : (i : Instr) → Fits i → (sources_of i).1 < 32
src2-register (Branch c rs1 rs2 imm) h = h.1
src2-register (Store k rs1 rs2 imm) h = h.1
src2-register (Op op rd rs1 rs2) h = h.2
src2-register (Mul op rd rs1 rs2) h = h.2
src2-register i h = omega arith

pub dst-register : (i : Instr) → Fits i → dest_of i < 32
dst-register (Lui rd imm) h = h.0
dst-register (Auipc rd imm) h = h.0
dst-register (Jal rd imm) h = h.0
dst-register (Jalr rd rs1 imm) h = h.0
dst-register (Load k rd rs1 imm) h = h.0
dst-register (OpImm op rd rs1 imm) h = h.0
dst-register (Op op rd rs1 rs2) h = h.0
dst-register (Mul op rd rs1 rs2) h = h.0
dst-register i h = omega arith

-- a register other than x0
binding-source : (cache : List (Option ℕ)) (r : ℕ) → r < 32 → IfSome (source cache (register r)) IsBinding
binding-source cache r h = grind arith

binding-destination : (r : ℕ) → r < 32 → IfSome (destination (register r)) IsBinding
binding-destination r h = grind arith

-- the sources and the destination of an instruction, as it is issued
pub issued-src1 : (cache : List (Option ℕ)) (i : Instr) → Fits i → IfSome (source cache (src1_of i)) IsBinding
unfolding src1_of
issued-src1 cache i h = binding-source cache (sources_of i).0 (src1-register i h)

pub issued-src2 : (cache : List (Option ℕ)) (i : Instr) → Fits i → IfSome (source cache (src2_of i)) IsBinding
unfolding src2_of
issued-src2 cache i h = binding-source cache (sources_of i).1 (src2-register i h)

pub issued-dst : (i : Instr) → Fits i → IfSome (destination (dst_of i)) IsBinding
unfolding dst_of
issued-dst i h = binding-destination (dest_of i) (dst-register i h)
