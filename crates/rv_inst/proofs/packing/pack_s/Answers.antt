use Rattle.std.proofs.Common.{sym}
use Rattle.rv_inst.proofs.Packed.{imm_s-packed}
use Rattle.rv_inst.proofs.packing.pack_s.Goals as goal

pub returns : goal.returns
returns c = record {
  opcode_is = c.pack.ensures.opcode_is;
  funct3_is = c.pack.ensures.funct3_is;
  rs1_is = cc;
  rs2_is = cc;
  imm_is = sym (imm_s-packed _ _ _ c.requires.imm c.cast_unsigned-bits.ensures c.pack.ensures.rd_is c.pack.ensures.funct7_is);
}
