use Rattle.std.proofs.Common.{sym}
use Rattle.rv_inst.proofs.Packed.{imm_j-packed}
use Rattle.rv_inst.proofs.packing.pack_j.Goals as goal

pub returns : goal.returns
returns c = record {
  opcode_is = c.pack.ensures.opcode_is;
  rd_is = cc;
  imm_is = sym (imm_j-packed _ _ _ c.requires.imm c.requires.even c.cast_unsigned-bits.ensures c.pack.ensures.funct3_is c.pack.ensures.rs1_is
      c.pack.ensures.rs2_is c.pack.ensures.funct7_is);
}
