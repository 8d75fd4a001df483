-- Instructions as bytes: the number of the form, then the fields.
use Rattle.std.specs.Prelude.{ℕ, ◌==◌, nat_lt, if◌then◌else◌, ℤ, List, [], ◌∷◌, ◌++◌}
use Rattle.rv_inst.specs.declared.instruction.Instr.{Instr}
use Rattle.rv_inst.specs.declared.instruction.Instr.TheVariants.{Lui, Auipc, Jal, Jalr, Branch, Load, Store, OpImm, Op, Fence, Ecall, Ebreak, FenceI, Mul}
use Rattle.order_keys.specs.Unpacked.{Unpacked, got, as_read}
use Rattle.order_keys.specs.Numbers.{leading_byte, behind, packed_byte, unpacked_byte, packed_word, unpacked_word, packed_signed, unpacked_signed}
use Rattle.order_keys.specs.Compounds.{packed_pair, unpacked_pair, packed_triple, unpacked_triple}
use Rattle.order_keys.specs.Operations.{packed_cond, unpacked_cond, packed_load, unpacked_load, packed_store, unpacked_store, packed_imm_op, unpacked_imm_op, packed_reg_op, unpacked_reg_op, packed_mul_op, unpacked_mul_op}

-- the number of an instruction's form: first those that jump, branch or use memory
abbrev pub form_number : Instr → ℕ
form_number (Jal rd imm) = 0
form_number (Jalr rd rs1 imm) = 1
form_number (Branch cond rs1 rs2 imm) = 2
form_number (Load kind rd rs1 imm) = 3
form_number (Store kind rs1 rs2 imm) = 4
form_number (Fence rd rs1 imm) = 5
form_number (FenceI rd rs1 imm) = 6
form_number (Lui rd imm) = 7
form_number (Auipc rd imm) = 8
form_number (OpImm op rd rs1 imm) = 9
form_number (Op op rd rs1 rs2) = 10
form_number (Mul op rd rs1 rs2) = 11
form_number Ecall = 12
form_number Ebreak = 13

-- a register and an immediate, unsigned or signed
abbrev pub packed_upper : ℕ × ℕ → List ℕ
packed_upper = packed_pair packed_byte packed_word

abbrev pub unpacked_upper : List ℕ → Unpacked (ℕ × ℕ)
unpacked_upper = unpacked_pair unpacked_byte unpacked_word

abbrev pub packed_jump : ℕ × ℤ → List ℕ
packed_jump = packed_pair packed_byte packed_signed

abbrev pub unpacked_jump : List ℕ → Unpacked (ℕ × ℤ)
unpacked_jump = unpacked_pair unpacked_byte unpacked_signed

-- two registers and an immediate, unsigned or signed
abbrev pub packed_fence : ℕ × ℕ × ℕ → List ℕ
packed_fence = packed_triple packed_byte packed_byte packed_word

abbrev pub unpacked_fence : List ℕ → Unpacked (ℕ × ℕ × ℕ)
unpacked_fence = unpacked_triple unpacked_byte unpacked_byte unpacked_word

abbrev pub packed_immediate : ℕ × ℕ × ℤ → List ℕ
packed_immediate = packed_triple packed_byte packed_byte packed_signed

abbrev pub unpacked_immediate : List ℕ → Unpacked (ℕ × ℕ × ℤ)
unpacked_immediate = unpacked_triple unpacked_byte unpacked_byte unpacked_signed

-- three registers
abbrev pub packed_registers : ℕ × ℕ × ℕ → List ℕ
packed_registers = packed_triple packed_byte packed_byte packed_byte

abbrev pub unpacked_registers : List ℕ → Unpacked (ℕ × ℕ × ℕ)
unpacked_registers = unpacked_triple unpacked_byte unpacked_byte unpacked_byte

-- the fields of an instruction
unfoldable pub packed_fields : Instr → List ℕ
packed_fields (Jal rd imm) = packed_jump (rd, imm)
packed_fields (Jalr rd rs1 imm) = packed_immediate (rd, rs1, imm)
packed_fields (Branch cond rs1 rs2 imm) = packed_pair packed_cond packed_immediate (cond, (rs1, rs2, imm))
packed_fields (Load kind rd rs1 imm) = packed_pair packed_load packed_immediate (kind, (rd, rs1, imm))
packed_fields (Store kind rs1 rs2 imm) = packed_pair packed_store packed_immediate (kind, (rs1, rs2, imm))
packed_fields (Fence rd rs1 imm) = packed_fence (rd, rs1, imm)
packed_fields (FenceI rd rs1 imm) = packed_fence (rd, rs1, imm)
packed_fields (Lui rd imm) = packed_upper (rd, imm)
packed_fields (Auipc rd imm) = packed_upper (rd, imm)
packed_fields (OpImm op rd rs1 imm) = packed_pair packed_imm_op packed_immediate (op, (rd, rs1, imm))
packed_fields (Op op rd rs1 rs2) = packed_pair packed_reg_op packed_registers (op, (rd, rs1, rs2))
packed_fields (Mul op rd rs1 rs2) = packed_pair packed_mul_op packed_registers (op, (rd, rs1, rs2))
packed_fields Ecall = []
packed_fields Ebreak = []

unfoldable pub packed_instr : Instr → List ℕ
packed_instr i = (form_number i ∷ []) ++ packed_fields i

-- an instruction of the first seven forms
unfoldable pub far_form : ℕ → List ℕ → Unpacked Instr
far_form form bs =
    if form == 0 then as_read (λ x. Jal x.0 x.1) (unpacked_jump bs) else
    if form == 1 then as_read (λ x. Jalr x.0 x.1 x.2) (unpacked_immediate bs) else
    if form == 2 then as_read (λ x. Branch x.0 x.1.0 x.1.1 x.1.2) (unpacked_pair unpacked_cond unpacked_immediate bs) else
    if form == 3 then as_read (λ x. Load x.0 x.1.0 x.1.1 x.1.2) (unpacked_pair unpacked_load unpacked_immediate bs) else
    if form == 4 then as_read (λ x. Store x.0 x.1.0 x.1.1 x.1.2) (unpacked_pair unpacked_store unpacked_immediate bs) else
    if form == 5 then as_read (λ x. Fence x.0 x.1 x.2) (unpacked_fence bs) else
    as_read (λ x. FenceI x.0 x.1 x.2) (unpacked_fence bs)

-- an instruction of the other forms
unfoldable pub near_form : ℕ → List ℕ → Unpacked Instr
near_form form bs =
    if form == 7 then as_read (λ x. Lui x.0 x.1) (unpacked_upper bs) else
    if form == 8 then as_read (λ x. Auipc x.0 x.1) (unpacked_upper bs) else
    if form == 9 then as_read (λ x. OpImm x.0 x.1.0 x.1.1 x.1.2) (unpacked_pair unpacked_imm_op unpacked_immediate bs) else
    if form == 10 then as_read (λ x. Op x.0 x.1.0 x.1.1 x.1.2) (unpacked_pair unpacked_reg_op unpacked_registers bs) else
    if form == 11 then as_read (λ x. Mul x.0 x.1.0 x.1.1 x.1.2) (unpacked_pair unpacked_mul_op unpacked_registers bs) else
    if form == 12 then got Ecall bs else
    got Ebreak bs

unfoldable pub unpacked_instr : List ℕ → Unpacked Instr
unpacked_instr bs = if nat_lt (leading_byte bs) 7 then far_form (leading_byte bs) (behind bs) else near_form (leading_byte bs) (behind bs)
