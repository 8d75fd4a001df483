-- No instruction has two different words below 2 ^ 32.
use Rattle.std.proofs.Common.{◌≡◌, ◌^◌, ℕ, ◌+◌, ◌<◌, arith, sym, ◌∙◌, ℤ}
use Rattle.std.specs.Prelude.{pos}
use Rattle.std.proofs.lemmas.Bool.Decides.{nat_tests}
use Rattle.std.proofs.lemmas.Int.{ints}
use Rattle.rv_inst.specs.declared.instruction.Cond.TheVariants as cond
use Rattle.rv_inst.specs.declared.instruction.LoadKind.TheVariants as load
use Rattle.rv_inst.specs.declared.instruction.StoreKind.TheVariants as store
use Rattle.rv_inst.specs.declared.instruction.ImmOp.TheVariants as immop
use Rattle.rv_inst.specs.declared.instruction.RegOp.TheVariants as regop
use Rattle.rv_inst.specs.declared.instruction.MulOp.TheVariants as mulop
use Rattle.rv_inst.specs.declared.instruction.Instr.{Instr}
use Rattle.rv_inst.specs.declared.instruction.Instr.TheVariants.{Lui, Auipc, Jal, Jalr, Branch, Load, Store, OpImm, Op, Fence, Ecall, Ebreak, FenceI, Mul}
use Rattle.rv_inst.specs.Fields.{opcode, rd_of, funct3, rs1_of, rs2_of, funct7, high12, imm_i, imm_s, imm_b, imm_u, imm_j, bits, bits_s, bits_b, bits_j, signed_below}
use Rattle.rv_inst.specs.Formats.{IsRType, IsIType, IsShiftType, IsFenceType, IsSType, IsBType, IsUType, IsJType}
use Rattle.rv_inst.specs.Encoding.{Encodes}

-- a word is determined by its fields
fields-inj : (v w : ℕ) → v < 2 ^ 32 → w < 2 ^ 32 → opcode v ≡ opcode w → rd_of v ≡ rd_of w → funct3 v ≡ funct3 w → rs1_of v ≡ rs1_of w → rs2_of v ≡ rs2_of w →
    funct7 v ≡ funct7 w → v ≡ w
unfolding opcode rd_of funct3 rs1_of rs2_of funct7
fields-inj v w a b c d e f g h = omega arith

-- numbers with the same signed reading are the same
signed_below-inj : (half m n : ℕ) → m < half + half → n < half + half → signed_below half m ≡ signed_below half n → m ≡ n
signed_below-inj half m n a b e = grind (arith, ints, nat_tests)

pos-inj : (m n : ℕ) → pos m ≡ pos n → m ≡ n
pos-inj m n e = cc

-- two words of one format with the same fields
r_type-inj : {opc f3 f7 rd rs1 rs2 : ℕ} (v w : ℕ) → v < 2 ^ 32 → w < 2 ^ 32 → IsRType v opc f3 f7 rd rs1 rs2 → IsRType w opc f3 f7 rd rs1 rs2 → v ≡ w
r_type-inj v w a b g h = fields-inj v w a b (cc) (cc) (cc) (cc) (cc) (cc)

shift_type-inj : {opc f3 f7 rd rs1 : ℕ} {amount : ℤ} (v w : ℕ) → v < 2 ^ 32 → w < 2 ^ 32 → IsShiftType v opc f3 f7 rd rs1 amount →
    IsShiftType w opc f3 f7 rd rs1 amount → v ≡ w
shift_type-inj v w a b g h = fields-inj v w a b (cc) (cc) (cc) (cc) (pos-inj _ _ (sym g.amount_is ∙ h.amount_is)) (cc)

i_type-inj : {opc f3 rd rs1 : ℕ} {imm : ℤ} (v w : ℕ) → v < 2 ^ 32 → w < 2 ^ 32 → IsIType v opc f3 rd rs1 imm → IsIType w opc f3 rd rs1 imm → v ≡ w
unfolding opcode funct3 rd_of rs1_of imm_i
i_type-inj v w a b g h = let k : bits 31 20 v ≡ bits 31 20 w = signed_below-inj (2 ^ 11) (bits 31 20 v) (bits 31 20 w) (omega arith) (omega arith) (sym g.imm_is
    ∙ h.imm_is) in omega arith

fence_type-inj : {opc f3 rd rs1 imm : ℕ} (v w : ℕ) → v < 2 ^ 32 → w < 2 ^ 32 → IsFenceType v opc f3 rd rs1 imm → IsFenceType w opc f3 rd rs1 imm → v ≡ w
unfolding opcode funct3 rd_of rs1_of high12
fence_type-inj v w a b g h = omega arith

s_type-inj : {opc f3 rs1 rs2 : ℕ} {imm : ℤ} (v w : ℕ) → v < 2 ^ 32 → w < 2 ^ 32 → IsSType v opc f3 rs1 rs2 imm → IsSType w opc f3 rs1 rs2 imm → v ≡ w
unfolding opcode funct3 rs1_of rs2_of imm_s
s_type-inj v w a b g h = let k : bits_s v ≡ bits_s w = signed_below-inj (2 ^ 11) (bits_s v) (bits_s w) (omega arith) (omega arith) (sym g.imm_is ∙ h.imm_is) in
    omega arith

b_type-inj : {opc f3 rs1 rs2 : ℕ} {imm : ℤ} (v w : ℕ) → v < 2 ^ 32 → w < 2 ^ 32 → IsBType v opc f3 rs1 rs2 imm → IsBType w opc f3 rs1 rs2 imm → v ≡ w
unfolding opcode funct3 rs1_of rs2_of imm_b
b_type-inj v w a b g h =
    let k : bits_b v ≡ bits_b w = signed_below-inj (2 ^ 12) (bits_b v) (bits_b w) (omega arith) (omega arith) (sym g.imm_is ∙ h.imm_is) in
    let p : bits 31 31 v ≡ bits 31 31 w = omega arith in
    let q : bits 7 7 v ≡ bits 7 7 w = omega arith in
    let r : bits 30 25 v ≡ bits 30 25 w = omega arith in
    let s : bits 11 8 v ≡ bits 11 8 w = omega arith in
    omega arith

u_type-inj : {opc rd imm : ℕ} (v w : ℕ) → v < 2 ^ 32 → w < 2 ^ 32 → IsUType v opc rd imm → IsUType w opc rd imm → v ≡ w
unfolding opcode rd_of imm_u
u_type-inj v w a b g h = omega arith

j_type-inj : {opc rd : ℕ} {imm : ℤ} (v w : ℕ) → v < 2 ^ 32 → w < 2 ^ 32 → IsJType v opc rd imm → IsJType w opc rd imm → v ≡ w
unfolding opcode rd_of imm_j
j_type-inj v w a b g h = let k : bits_j v ≡ bits_j w = signed_below-inj (2 ^ 20) (bits_j v) (bits_j w) (omega arith) (omega arith) (sym g.imm_is ∙ h.imm_is) in
    omega arith

-- two words that encode the same instruction are the same
pub Encodes-inj : (v w : ℕ) (i : Instr) → v < 2 ^ 32 → w < 2 ^ 32 → Encodes v i → Encodes w i → v ≡ w
Encodes-inj v w (Lui rd imm) a b g h = u_type-inj v w a b g h
Encodes-inj v w (Auipc rd imm) a b g h = u_type-inj v w a b g h
Encodes-inj v w (Jal rd imm) a b g h = j_type-inj v w a b g h
Encodes-inj v w (Jalr rd rs1 imm) a b g h = i_type-inj v w a b g h
Encodes-inj v w (Branch cond.Eq rs1 rs2 imm) a b g h = b_type-inj v w a b g h
Encodes-inj v w (Branch cond.Ne rs1 rs2 imm) a b g h = b_type-inj v w a b g h
Encodes-inj v w (Branch cond.Lt rs1 rs2 imm) a b g h = b_type-inj v w a b g h
Encodes-inj v w (Branch cond.Ge rs1 rs2 imm) a b g h = b_type-inj v w a b g h
Encodes-inj v w (Branch cond.Ltu rs1 rs2 imm) a b g h = b_type-inj v w a b g h
Encodes-inj v w (Branch cond.Geu rs1 rs2 imm) a b g h = b_type-inj v w a b g h
Encodes-inj v w (Load load.Byte rd rs1 imm) a b g h = i_type-inj v w a b g h
Encodes-inj v w (Load load.Half rd rs1 imm) a b g h = i_type-inj v w a b g h
Encodes-inj v w (Load load.Word rd rs1 imm) a b g h = i_type-inj v w a b g h
Encodes-inj v w (Load load.ByteU rd rs1 imm) a b g h = i_type-inj v w a b g h
Encodes-inj v w (Load load.HalfU rd rs1 imm) a b g h = i_type-inj v w a b g h
Encodes-inj v w (Store store.Byte rs1 rs2 imm) a b g h = s_type-inj v w a b g h
Encodes-inj v w (Store store.Half rs1 rs2 imm) a b g h = s_type-inj v w a b g h
Encodes-inj v w (Store store.Word rs1 rs2 imm) a b g h = s_type-inj v w a b g h
Encodes-inj v w (OpImm immop.Add rd rs1 imm) a b g h = i_type-inj v w a b g h
Encodes-inj v w (OpImm immop.Slt rd rs1 imm) a b g h = i_type-inj v w a b g h
Encodes-inj v w (OpImm immop.Sltu rd rs1 imm) a b g h = i_type-inj v w a b g h
Encodes-inj v w (OpImm immop.Xor rd rs1 imm) a b g h = i_type-inj v w a b g h
Encodes-inj v w (OpImm immop.Or rd rs1 imm) a b g h = i_type-inj v w a b g h
Encodes-inj v w (OpImm immop.And rd rs1 imm) a b g h = i_type-inj v w a b g h
Encodes-inj v w (OpImm immop.Sll rd rs1 imm) a b g h = shift_type-inj v w a b g h
Encodes-inj v w (OpImm immop.Srl rd rs1 imm) a b g h = shift_type-inj v w a b g h
Encodes-inj v w (OpImm immop.Sra rd rs1 imm) a b g h = shift_type-inj v w a b g h
Encodes-inj v w (Op regop.Add rd rs1 rs2) a b g h = r_type-inj v w a b g h
Encodes-inj v w (Op regop.Sub rd rs1 rs2) a b g h = r_type-inj v w a b g h
Encodes-inj v w (Op regop.Sll rd rs1 rs2) a b g h = r_type-inj v w a b g h
Encodes-inj v w (Op regop.Slt rd rs1 rs2) a b g h = r_type-inj v w a b g h
Encodes-inj v w (Op regop.Sltu rd rs1 rs2) a b g h = r_type-inj v w a b g h
Encodes-inj v w (Op regop.Xor rd rs1 rs2) a b g h = r_type-inj v w a b g h
Encodes-inj v w (Op regop.Srl rd rs1 rs2) a b g h = r_type-inj v w a b g h
Encodes-inj v w (Op regop.Sra rd rs1 rs2) a b g h = r_type-inj v w a b g h
Encodes-inj v w (Op regop.Or rd rs1 rs2) a b g h = r_type-inj v w a b g h
Encodes-inj v w (Op regop.And rd rs1 rs2) a b g h = r_type-inj v w a b g h
Encodes-inj v w (Fence rd rs1 imm) a b g h = fence_type-inj v w a b g h
Encodes-inj v w Ecall a b g h = g ∙ sym h
Encodes-inj v w Ebreak a b g h = g ∙ sym h
Encodes-inj v w (FenceI rd rs1 imm) a b g h = fence_type-inj v w a b g h
Encodes-inj v w (Mul mulop.Mul rd rs1 rs2) a b g h = r_type-inj v w a b g h
Encodes-inj v w (Mul mulop.Mulh rd rs1 rs2) a b g h = r_type-inj v w a b g h
Encodes-inj v w (Mul mulop.Mulhsu rd rs1 rs2) a b g h = r_type-inj v w a b g h
Encodes-inj v w (Mul mulop.Mulhu rd rs1 rs2) a b g h = r_type-inj v w a b g h
Encodes-inj v w (Mul mulop.Div rd rs1 rs2) a b g h = r_type-inj v w a b g h
Encodes-inj v w (Mul mulop.Divu rd rs1 rs2) a b g h = r_type-inj v w a b g h
Encodes-inj v w (Mul mulop.Rem rd rs1 rs2) a b g h = r_type-inj v w a b g h
Encodes-inj v w (Mul mulop.Remu rd rs1 rs2) a b g h = r_type-inj v w a b g h
