use Rattle.std.proofs.Common.{sym}
use Rattle.rv_inst.proofs.Packed.{imm_i-packed}
use Rattle.rv_inst.proofs.packing.pack_i.Goals as goal

pub returns : goal.returns
returns c = record {
  opcode_is = c.pack_rd_rs1.ensures.opcode_is;
  funct3_is = c.pack_rd_rs1.ensures.funct3_is;
  rd_is = cc;
  rs1_is = cc;
  imm_is = sym (imm_i-packed _ _ _ c.requires.imm c.cast_unsigned-bits.ensures c.pack_rd_rs1.ensures.rs2_is c.pack_rd_rs1.ensures.funct7_is);
}
