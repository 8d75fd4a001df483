-- The table of encodings and the reading of a word agree.
use Rattle.std.proofs.Common.{◌≡◌, ℕ, arith, refl, Some, None}
use Rattle.std.specs.Prelude.{IfSome, IsTrue}
use Rattle.std.proofs.lemmas.Bool.Decides.{nat_tests}
use Rattle.rv_inst.specs.declared.instruction.Cond.TheVariants as cond
use Rattle.rv_inst.specs.declared.instruction.LoadKind.TheVariants as load
use Rattle.rv_inst.specs.declared.instruction.StoreKind.TheVariants as store
use Rattle.rv_inst.specs.declared.instruction.ImmOp.TheVariants as immop
use Rattle.rv_inst.specs.declared.instruction.RegOp.TheVariants as regop
use Rattle.rv_inst.specs.declared.instruction.MulOp.TheVariants as mulop
use Rattle.rv_inst.specs.declared.instruction.Instr.{Instr}
use Rattle.rv_inst.specs.declared.instruction.Instr.TheVariants.{Lui, Auipc, Jal, Jalr, Branch, Load, Store, OpImm, Op, Fence, Ecall, Ebreak, FenceI, Mul}
use Rattle.rv_inst.specs.Fields.{opcode, funct7}
use Rattle.rv_inst.specs.Encoding.{Encodes, is_base}
use Rattle.rv_inst.specs.Decoding.{decoded, decoded_jalr, decoded_branch, decoded_load, decoded_store, decoded_imm, decoded_op, decoded_fence, decoded_system, decoded_mul, decoded_m}

-- the word of ECALL, and the word of EBREAK
decoded-ecall : decoded 0x00000073 ≡ Some Ecall
unfolding decoded decoded_system opcode
decoded-ecall = refl

decoded-ebreak : decoded 0x00100073 ≡ Some Ebreak
unfolding decoded decoded_system opcode
decoded-ebreak = refl

-- a word that encodes an instruction of RV32I is read as that instruction
pub decoded_complete : (w : ℕ) (i : Instr) → IsTrue (is_base i) → Encodes w i → decoded w ≡ Some i
unfolding decoded decoded_jalr decoded_branch decoded_load decoded_store decoded_imm decoded_op decoded_fence
decoded_complete w (Lui rd imm) b h = rw h.opcode_is (cc)
decoded_complete w (Auipc rd imm) b h = rw h.opcode_is (cc)
decoded_complete w (Jal rd imm) b h = rw h.opcode_is (cc)
decoded_complete w (Jalr rd rs1 imm) b h = rw (h.opcode_is, h.funct3_is) (cc)
decoded_complete w (Branch cond.Eq rs1 rs2 imm) b h = rw (h.opcode_is, h.funct3_is) (cc)
decoded_complete w (Branch cond.Ne rs1 rs2 imm) b h = rw (h.opcode_is, h.funct3_is) (cc)
decoded_complete w (Branch cond.Lt rs1 rs2 imm) b h = rw (h.opcode_is, h.funct3_is) (cc)
decoded_complete w (Branch cond.Ge rs1 rs2 imm) b h = rw (h.opcode_is, h.funct3_is) (cc)
decoded_complete w (Branch cond.Ltu rs1 rs2 imm) b h = rw (h.opcode_is, h.funct3_is) (cc)
decoded_complete w (Branch cond.Geu rs1 rs2 imm) b h = rw (h.opcode_is, h.funct3_is) (cc)
decoded_complete w (Load load.Byte rd rs1 imm) b h = rw (h.opcode_is, h.funct3_is) (cc)
decoded_complete w (Load load.Half rd rs1 imm) b h = rw (h.opcode_is, h.funct3_is) (cc)
decoded_complete w (Load load.Word rd rs1 imm) b h = rw (h.opcode_is, h.funct3_is) (cc)
decoded_complete w (Load load.ByteU rd rs1 imm) b h = rw (h.opcode_is, h.funct3_is) (cc)
decoded_complete w (Load load.HalfU rd rs1 imm) b h = rw (h.opcode_is, h.funct3_is) (cc)
decoded_complete w (Store store.Byte rs1 rs2 imm) b h = rw (h.opcode_is, h.funct3_is) (cc)
decoded_complete w (Store store.Half rs1 rs2 imm) b h = rw (h.opcode_is, h.funct3_is) (cc)
decoded_complete w (Store store.Word rs1 rs2 imm) b h = rw (h.opcode_is, h.funct3_is) (cc)
decoded_complete w (OpImm immop.Add rd rs1 imm) b h = rw (h.opcode_is, h.funct3_is) (cc)
decoded_complete w (OpImm immop.Slt rd rs1 imm) b h = rw (h.opcode_is, h.funct3_is) (cc)
decoded_complete w (OpImm immop.Sltu rd rs1 imm) b h = rw (h.opcode_is, h.funct3_is) (cc)
decoded_complete w (OpImm immop.Xor rd rs1 imm) b h = rw (h.opcode_is, h.funct3_is) (cc)
decoded_complete w (OpImm immop.Or rd rs1 imm) b h = rw (h.opcode_is, h.funct3_is) (cc)
decoded_complete w (OpImm immop.And rd rs1 imm) b h = rw (h.opcode_is, h.funct3_is) (cc)
decoded_complete w (OpImm immop.Sll rd rs1 imm) b h = rw (h.opcode_is, h.funct3_is, h.funct7_is) (cc)
decoded_complete w (OpImm immop.Srl rd rs1 imm) b h = rw (h.opcode_is, h.funct3_is, h.funct7_is) (cc)
decoded_complete w (OpImm immop.Sra rd rs1 imm) b h = rw (h.opcode_is, h.funct3_is, h.funct7_is) (cc)
decoded_complete w (Op regop.Add rd rs1 rs2) b h = rw (h.opcode_is, h.funct3_is, h.funct7_is) (cc)
decoded_complete w (Op regop.Sub rd rs1 rs2) b h = rw (h.opcode_is, h.funct3_is, h.funct7_is) (cc)
decoded_complete w (Op regop.Sll rd rs1 rs2) b h = rw (h.opcode_is, h.funct3_is, h.funct7_is) (cc)
decoded_complete w (Op regop.Slt rd rs1 rs2) b h = rw (h.opcode_is, h.funct3_is, h.funct7_is) (cc)
decoded_complete w (Op regop.Sltu rd rs1 rs2) b h = rw (h.opcode_is, h.funct3_is, h.funct7_is) (cc)
decoded_complete w (Op regop.Xor rd rs1 rs2) b h = rw (h.opcode_is, h.funct3_is, h.funct7_is) (cc)
decoded_complete w (Op regop.Srl rd rs1 rs2) b h = rw (h.opcode_is, h.funct3_is, h.funct7_is) (cc)
decoded_complete w (Op regop.Sra rd rs1 rs2) b h = rw (h.opcode_is, h.funct3_is, h.funct7_is) (cc)
decoded_complete w (Op regop.Or rd rs1 rs2) b h = rw (h.opcode_is, h.funct3_is, h.funct7_is) (cc)
decoded_complete w (Op regop.And rd rs1 rs2) b h = rw (h.opcode_is, h.funct3_is, h.funct7_is) (cc)
decoded_complete w (Fence rd rs1 imm) b h = rw (h.opcode_is, h.funct3_is) (cc)
decoded_complete w Ecall b h = rw h decoded-ecall
decoded_complete w Ebreak b h = rw h decoded-ebreak
decoded_complete w (FenceI rd rs1 imm) b h = rw (h.opcode_is, h.funct3_is) (cc)
decoded_complete w (Mul op rd rs1 rs2) b h = absurd (grind arith)

-- the instruction of RV32I that is read is in the table
pub decoded_sound : (w : ℕ) → IfSome (decoded w) (λ i. Encodes w i)
unfolding decoded decoded_jalr decoded_branch decoded_load decoded_store decoded_imm decoded_op decoded_fence decoded_system
decoded_sound w = grind (arith, nat_tests)

-- the instruction that is read is of RV32I
pub decoded_base : (w : ℕ) → IfSome (decoded w) (λ i. IsTrue (is_base i))
unfolding decoded decoded_jalr decoded_branch decoded_load decoded_store decoded_imm decoded_op decoded_fence decoded_system
decoded_base w = grind (arith, nat_tests)

-- a word of the M extension is not a word of RV32I
decoded-op_m : (w : ℕ) → opcode w ≡ 0b0110011 → funct7 w ≡ 0b0000001 → decoded w ≡ None
unfolding decoded decoded_op
decoded-op_m w p q = grind (arith, nat_tests)

-- what is read as RV32I is read the same with the M extension
pub decoded_m_base : (w : ℕ) (i : Instr) → decoded w ≡ Some i → decoded_m w ≡ Some i
unfolding decoded_m
decoded_m_base w i e = grind (arith, nat_tests, decoded-op_m)

-- a word that encodes an instruction is read as that instruction
pub decoded_m_complete : (w : ℕ) (i : Instr) → Encodes w i → decoded_m w ≡ Some i
unfolding decoded_m decoded_mul
decoded_m_complete w (Mul mulop.Mul rd rs1 rs2) h = rw (h.opcode_is, h.funct3_is, h.funct7_is) (cc)
decoded_m_complete w (Mul mulop.Mulh rd rs1 rs2) h = rw (h.opcode_is, h.funct3_is, h.funct7_is) (cc)
decoded_m_complete w (Mul mulop.Mulhsu rd rs1 rs2) h = rw (h.opcode_is, h.funct3_is, h.funct7_is) (cc)
decoded_m_complete w (Mul mulop.Mulhu rd rs1 rs2) h = rw (h.opcode_is, h.funct3_is, h.funct7_is) (cc)
decoded_m_complete w (Mul mulop.Div rd rs1 rs2) h = rw (h.opcode_is, h.funct3_is, h.funct7_is) (cc)
decoded_m_complete w (Mul mulop.Divu rd rs1 rs2) h = rw (h.opcode_is, h.funct3_is, h.funct7_is) (cc)
decoded_m_complete w (Mul mulop.Rem rd rs1 rs2) h = rw (h.opcode_is, h.funct3_is, h.funct7_is) (cc)
decoded_m_complete w (Mul mulop.Remu rd rs1 rs2) h = rw (h.opcode_is, h.funct3_is, h.funct7_is) (cc)
decoded_m_complete w i h = decoded_m_base w i (decoded_complete w i refl h)

-- the instruction that is read is in the table
pub decoded_m_sound : (w : ℕ) → IfSome (decoded_m w) (λ i. Encodes w i)
unfolding decoded_m decoded_mul
decoded_m_sound w = grind (arith, nat_tests, decoded_sound)
