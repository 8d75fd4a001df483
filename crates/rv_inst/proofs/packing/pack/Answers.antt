use Rattle.rv_inst.proofs.Packed.{shifted-fields}
use Rattle.rv_inst.proofs.packing.pack.Goals as goal

pub returns : goal.returns
returns c = shifted-fields _ _ _ _ _ _ c.requires.opcode c.requires.rd c.requires.funct3 c.requires.rs1 c.requires.rs2 c.requires.funct7
