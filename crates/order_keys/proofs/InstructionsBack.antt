-- Each instruction is read back.
use Rattle.std.proofs.Common.{◌≡◌, ℕ, List, ◌++◌, refl}
use Rattle.rv_inst.specs.declared.instruction.Instr.{Instr}
use Rattle.rv_inst.specs.declared.instruction.Instr.TheVariants.{Lui, Auipc, Jal, Jalr, Branch, Load, Store, OpImm, Op, Fence, Ecall, Ebreak, FenceI, Mul}
use Rattle.order_keys.specs.Unpacked.{got, ReadsBack}
use Rattle.order_keys.specs.Numbers.{leading_byte, behind}
use Rattle.order_keys.specs.Instructions.{packed_upper, unpacked_upper, packed_jump, unpacked_jump, packed_fence, unpacked_fence, packed_immediate, unpacked_immediate, packed_registers, unpacked_registers, packed_fields, packed_instr, unpacked_instr, far_form, near_form}
use Rattle.order_keys.proofs.NumbersBack.{byte_back, word_back, signed_back}
use Rattle.order_keys.proofs.OperationsBack.{cond_back, load_back, store_back, imm_op_back, reg_op_back, mul_op_back}
use Rattle.order_keys.proofs.CompoundsBack.{pair_back, triple_back}

upper_back : ReadsBack packed_upper unpacked_upper
upper_back = pair_back byte_back word_back

jump_back : ReadsBack packed_jump unpacked_jump
jump_back = pair_back byte_back signed_back

fence_back : ReadsBack packed_fence unpacked_fence
fence_back = triple_back byte_back byte_back word_back

immediate_back : ReadsBack packed_immediate unpacked_immediate
immediate_back = triple_back byte_back byte_back signed_back

registers_back : ReadsBack packed_registers unpacked_registers
registers_back = triple_back byte_back byte_back byte_back

instr_reads : (x : Instr) (rest : List ℕ) → unpacked_instr (packed_instr x ++ rest) ≡ got x rest
unfolding packed_instr packed_fields unpacked_instr far_form near_form leading_byte behind
instr_reads (Jal rd imm) rest = simp (jump_back.back (rd, imm) rest) refl
instr_reads (Jalr rd rs1 imm) rest = simp (immediate_back.back (rd, rs1, imm) rest) refl
instr_reads (Branch cond rs1 rs2 imm) rest = simp ((pair_back cond_back immediate_back).back (cond, (rs1, rs2, imm)) rest) refl
instr_reads (Load kind rd rs1 imm) rest = simp ((pair_back load_back immediate_back).back (kind, (rd, rs1, imm)) rest) refl
instr_reads (Store kind rs1 rs2 imm) rest = simp ((pair_back store_back immediate_back).back (kind, (rs1, rs2, imm)) rest) refl
instr_reads (Fence rd rs1 imm) rest = simp (fence_back.back (rd, rs1, imm) rest) refl
instr_reads (FenceI rd rs1 imm) rest = simp (fence_back.back (rd, rs1, imm) rest) refl
instr_reads (Lui rd imm) rest = simp (upper_back.back (rd, imm) rest) refl
instr_reads (Auipc rd imm) rest = simp (upper_back.back (rd, imm) rest) refl
instr_reads (OpImm op rd rs1 imm) rest = simp ((pair_back imm_op_back immediate_back).back (op, (rd, rs1, imm)) rest) refl
instr_reads (Op op rd rs1 rs2) rest = simp ((pair_back reg_op_back registers_back).back (op, (rd, rs1, rs2)) rest) refl
instr_reads (Mul op rd rs1 rs2) rest = simp ((pair_back mul_op_back registers_back).back (op, (rd, rs1, rs2)) rest) refl
instr_reads Ecall rest = refl
instr_reads Ebreak rest = refl

pub instr_back : ReadsBack packed_instr unpacked_instr
instr_back = record { back = instr_reads }
