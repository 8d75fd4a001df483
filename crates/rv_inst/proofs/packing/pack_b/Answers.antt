use Rattle.std.proofs.Common.{sym}
use Rattle.rv_inst.proofs.Packed.{imm_b-packed}
use Rattle.rv_inst.proofs.packing.pack_b.Goals as goal

pub returns : goal.returns
returns c = record {
  opcode_is = c.pack.ensures.opcode_is;
  funct3_is = c.pack.ensures.funct3_is;
  rs1_is = cc;
  rs2_is = cc;
  imm_is = sym (imm_b-packed _ _ _ c.requires.imm c.requires.even c.cast_unsigned-bits.ensures c.pack.ensures.rd_is c.pack.ensures.funct7_is);
}
