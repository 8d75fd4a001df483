-- The operations of instructions as bytes: each is its number in its group.
use Rattle.std.specs.Prelude.{ℕ, ◌==◌, if◌then◌else◌, List, [], ◌∷◌}
use Rattle.rv_inst.specs.declared.instruction.Cond.{Cond}
use Rattle.rv_inst.specs.declared.instruction.Cond.TheVariants as cond
use Rattle.rv_inst.specs.declared.instruction.LoadKind.{LoadKind}
use Rattle.rv_inst.specs.declared.instruction.LoadKind.TheVariants as load
use Rattle.rv_inst.specs.declared.instruction.StoreKind.{StoreKind}
use Rattle.rv_inst.specs.declared.instruction.StoreKind.TheVariants as store
use Rattle.rv_inst.specs.declared.instruction.ImmOp.{ImmOp}
use Rattle.rv_inst.specs.declared.instruction.ImmOp.TheVariants as immop
use Rattle.rv_inst.specs.declared.instruction.RegOp.{RegOp}
use Rattle.rv_inst.specs.declared.instruction.RegOp.TheVariants as regop
use Rattle.rv_inst.specs.declared.instruction.MulOp.{MulOp}
use Rattle.rv_inst.specs.declared.instruction.MulOp.TheVariants as mulop
use Rattle.order_keys.specs.Unpacked.{Unpacked, got}
use Rattle.order_keys.specs.Numbers.{leading_byte, behind}

-- the condition of a branch
unfoldable pub packed_cond : Cond → List ℕ
packed_cond cond.Eq = 0 ∷ []
packed_cond cond.Ne = 1 ∷ []
packed_cond cond.Lt = 2 ∷ []
packed_cond cond.Ge = 3 ∷ []
packed_cond cond.Ltu = 4 ∷ []
packed_cond cond.Geu = 5 ∷ []

abbrev pub cond_numbered : ℕ → Cond
cond_numbered number =
    if number == 0 then cond.Eq else
    if number == 1 then cond.Ne else
    if number == 2 then cond.Lt else
    if number == 3 then cond.Ge else
    if number == 4 then cond.Ltu else
    cond.Geu

unfoldable pub unpacked_cond : List ℕ → Unpacked Cond
unpacked_cond bs = got (cond_numbered (leading_byte bs)) (behind bs)

-- the kind of a load
unfoldable pub packed_load : LoadKind → List ℕ
packed_load load.Byte = 0 ∷ []
packed_load load.Half = 1 ∷ []
packed_load load.Word = 2 ∷ []
packed_load load.ByteU = 3 ∷ []
packed_load load.HalfU = 4 ∷ []

abbrev pub load_numbered : ℕ → LoadKind
load_numbered number =
    if number == 0 then load.Byte else
    if number == 1 then load.Half else
    if number == 2 then load.Word else
    if number == 3 then load.ByteU else
    load.HalfU

unfoldable pub unpacked_load : List ℕ → Unpacked LoadKind
unpacked_load bs = got (load_numbered (leading_byte bs)) (behind bs)

-- the kind of a store
unfoldable pub packed_store : StoreKind → List ℕ
packed_store store.Byte = 0 ∷ []
packed_store store.Half = 1 ∷ []
packed_store store.Word = 2 ∷ []

abbrev pub store_numbered : ℕ → StoreKind
store_numbered number =
    if number == 0 then store.Byte else
    if number == 1 then store.Half else
    store.Word

unfoldable pub unpacked_store : List ℕ → Unpacked StoreKind
unpacked_store bs = got (store_numbered (leading_byte bs)) (behind bs)

-- an operation with an immediate
unfoldable pub packed_imm_op : ImmOp → List ℕ
packed_imm_op immop.Add = 0 ∷ []
packed_imm_op immop.Slt = 1 ∷ []
packed_imm_op immop.Sltu = 2 ∷ []
packed_imm_op immop.Xor = 3 ∷ []
packed_imm_op immop.Or = 4 ∷ []
packed_imm_op immop.And = 5 ∷ []
packed_imm_op immop.Sll = 6 ∷ []
packed_imm_op immop.Srl = 7 ∷ []
packed_imm_op immop.Sra = 8 ∷ []

abbrev pub imm_op_numbered : ℕ → ImmOp
imm_op_numbered number =
    if number == 0 then immop.Add else
    if number == 1 then immop.Slt else
    if number == 2 then immop.Sltu else
    if number == 3 then immop.Xor else
    if number == 4 then immop.Or else
    if number == 5 then immop.And else
    if number == 6 then immop.Sll else
    if number == 7 then immop.Srl else
    immop.Sra

unfoldable pub unpacked_imm_op : List ℕ → Unpacked ImmOp
unpacked_imm_op bs = got (imm_op_numbered (leading_byte bs)) (behind bs)

-- an operation on two registers
unfoldable pub packed_reg_op : RegOp → List ℕ
packed_reg_op regop.Add = 0 ∷ []
packed_reg_op regop.Sub = 1 ∷ []
packed_reg_op regop.Sll = 2 ∷ []
packed_reg_op regop.Slt = 3 ∷ []
packed_reg_op regop.Sltu = 4 ∷ []
packed_reg_op regop.Xor = 5 ∷ []
packed_reg_op regop.Srl = 6 ∷ []
packed_reg_op regop.Sra = 7 ∷ []
packed_reg_op regop.Or = 8 ∷ []
packed_reg_op regop.And = 9 ∷ []

abbrev pub reg_op_numbered : ℕ → RegOp
reg_op_numbered number =
    if number == 0 then regop.Add else
    if number == 1 then regop.Sub else
    if number == 2 then regop.Sll else
    if number == 3 then regop.Slt else
    if number == 4 then regop.Sltu else
    if number == 5 then regop.Xor else
    if number == 6 then regop.Srl else
    if number == 7 then regop.Sra else
    if number == 8 then regop.Or else
    regop.And

unfoldable pub unpacked_reg_op : List ℕ → Unpacked RegOp
unpacked_reg_op bs = got (reg_op_numbered (leading_byte bs)) (behind bs)

-- a multiplication or a division
unfoldable pub packed_mul_op : MulOp → List ℕ
packed_mul_op mulop.Mul = 0 ∷ []
packed_mul_op mulop.Mulh = 1 ∷ []
packed_mul_op mulop.Mulhsu = 2 ∷ []
packed_mul_op mulop.Mulhu = 3 ∷ []
packed_mul_op mulop.Div = 4 ∷ []
packed_mul_op mulop.Divu = 5 ∷ []
packed_mul_op mulop.Rem = 6 ∷ []
packed_mul_op mulop.Remu = 7 ∷ []

abbrev pub mul_op_numbered : ℕ → MulOp
mul_op_numbered number =
    if number == 0 then mulop.Mul else
    if number == 1 then mulop.Mulh else
    if number == 2 then mulop.Mulhsu else
    if number == 3 then mulop.Mulhu else
    if number == 4 then mulop.Div else
    if number == 5 then mulop.Divu else
    if number == 6 then mulop.Rem else
    mulop.Remu

unfoldable pub unpacked_mul_op : List ℕ → Unpacked MulOp
unpacked_mul_op bs = got (mul_op_numbered (leading_byte bs)) (behind bs)
