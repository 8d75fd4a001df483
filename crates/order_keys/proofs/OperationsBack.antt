-- Each operation is read back from its number.
use Rattle.std.proofs.Common.{◌≡◌, ℕ, List, ◌++◌, refl}
use Rattle.rv_inst.specs.declared.instruction.Cond.{Cond}
use Rattle.rv_inst.specs.declared.instruction.Cond.TheVariants as cond
use Rattle.rv_inst.specs.declared.instruction.LoadKind.{LoadKind}
use Rattle.rv_inst.specs.declared.instruction.LoadKind.TheVariants as load
use Rattle.rv_inst.specs.declared.instruction.StoreKind.{StoreKind}
use Rattle.rv_inst.specs.declared.instruction.StoreKind.TheVariants as store
use Rattle.rv_inst.specs.declared.instruction.ImmOp.{ImmOp}
use Rattle.rv_inst.specs.declared.instruction.ImmOp.TheVariants as immop
use Rattle.rv_inst.specs.declared.instruction.RegOp.{RegOp}
use Rattle.rv_inst.specs.declared.instruction.RegOp.TheVariants as regop
use Rattle.rv_inst.specs.declared.instruction.MulOp.{MulOp}
use Rattle.rv_inst.specs.declared.instruction.MulOp.TheVariants as mulop
use Rattle.order_keys.specs.Unpacked.{got, ReadsBack}
use Rattle.order_keys.specs.Numbers.{leading_byte, behind}
use Rattle.order_keys.specs.Operations.{packed_cond, unpacked_cond, packed_load, unpacked_load, packed_store, unpacked_store, packed_imm_op, unpacked_imm_op, packed_reg_op, unpacked_reg_op, packed_mul_op, unpacked_mul_op}

cond_reads : (x : Cond) (rest : List ℕ) → unpacked_cond (packed_cond x ++ rest) ≡ got x rest
unfolding packed_cond unpacked_cond leading_byte behind
cond_reads cond.Eq rest = refl
cond_reads cond.Ne rest = refl
cond_reads cond.Lt rest = refl
cond_reads cond.Ge rest = refl
cond_reads cond.Ltu rest = refl
cond_reads cond.Geu rest = refl

pub cond_back : ReadsBack packed_cond unpacked_cond
cond_back = record { back = cond_reads }

load_reads : (x : LoadKind) (rest : List ℕ) → unpacked_load (packed_load x ++ rest) ≡ got x rest
unfolding packed_load unpacked_load leading_byte behind
load_reads load.Byte rest = refl
load_reads load.Half rest = refl
load_reads load.Word rest = refl
load_reads load.ByteU rest = refl
load_reads load.HalfU rest = refl

pub load_back : ReadsBack packed_load unpacked_load
load_back = record { back = load_reads }

store_reads : (x : StoreKind) (rest : List ℕ) → unpacked_store (packed_store x ++ rest) ≡ got x rest
unfolding packed_store unpacked_store leading_byte behind
store_reads store.Byte rest = refl
store_reads store.Half rest = refl
store_reads store.Word rest = refl

pub store_back : ReadsBack packed_store unpacked_store
store_back = record { back = store_reads }

imm_op_reads : (x : ImmOp) (rest : List ℕ) → unpacked_imm_op (packed_imm_op x ++ rest) ≡ got x rest
unfolding packed_imm_op unpacked_imm_op leading_byte behind
imm_op_reads immop.Add rest = refl
imm_op_reads immop.Slt rest = refl
imm_op_reads immop.Sltu rest = refl
imm_op_reads immop.Xor rest = refl
imm_op_reads immop.Or rest = refl
imm_op_reads immop.And rest = refl
imm_op_reads immop.Sll rest = refl
imm_op_reads immop.Srl rest = refl
imm_op_reads immop.Sra rest = refl

pub imm_op_back : ReadsBack packed_imm_op unpacked_imm_op
imm_op_back = record { back = imm_op_reads }

reg_op_reads : (x : RegOp) (rest : List ℕ) → unpacked_reg_op (packed_reg_op x ++ rest) ≡ got x rest
unfolding packed_reg_op unpacked_reg_op leading_byte behind
reg_op_reads regop.Add rest = refl
reg_op_reads regop.Sub rest = refl
reg_op_reads regop.Sll rest = refl
reg_op_reads regop.Slt rest = refl
reg_op_reads regop.Sltu rest = refl
reg_op_reads regop.Xor rest = refl
reg_op_reads regop.Srl rest = refl
reg_op_reads regop.Sra rest = refl
reg_op_reads regop.Or rest = refl
reg_op_reads regop.And rest = refl

pub reg_op_back : ReadsBack packed_reg_op unpacked_reg_op
reg_op_back = record { back = reg_op_reads }

mul_op_reads : (x : MulOp) (rest : List ℕ) → unpacked_mul_op (packed_mul_op x ++ rest) ≡ got x rest
unfolding packed_mul_op unpacked_mul_op leading_byte behind
mul_op_reads mulop.Mul rest = refl
mul_op_reads mulop.Mulh rest = refl
mul_op_reads mulop.Mulhsu rest = refl
mul_op_reads mulop.Mulhu rest = refl
mul_op_reads mulop.Div rest = refl
mul_op_reads mulop.Divu rest = refl
mul_op_reads mulop.Rem rest = refl
mul_op_reads mulop.Remu rest = refl

pub mul_op_back : ReadsBack packed_mul_op unpacked_mul_op
mul_op_back = record { back = mul_op_reads }
