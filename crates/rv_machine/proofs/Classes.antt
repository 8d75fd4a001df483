-- The instructions that compute: each operation has one of their classes.
use Rattle.std.proofs.Common.{refl, IsTrue}
use Rattle.rv_inst.specs.declared.instruction.RegOp.{RegOp}
use Rattle.rv_inst.specs.declared.instruction.RegOp.TheVariants as regop
use Rattle.rv_inst.specs.declared.instruction.MulOp.{MulOp}
use Rattle.rv_inst.specs.declared.instruction.MulOp.TheVariants as mulop
use Rattle.rv_inst.specs.Operands.{op_class, mul_op_class}
use Rattle.rv_mul.specs.Values.{computes}

pub op-computes : (op : RegOp) → IsTrue (computes (op_class op))
op-computes regop.Add = refl
op-computes regop.Sub = refl
op-computes regop.Sll = refl
op-computes regop.Slt = refl
op-computes regop.Sltu = refl
op-computes regop.Xor = refl
op-computes regop.Srl = refl
op-computes regop.Sra = refl
op-computes regop.Or = refl
op-computes regop.And = refl

pub mul-computes : (op : MulOp) → IsTrue (computes (mul_op_class op))
mul-computes mulop.Mul = refl
mul-computes mulop.Mulh = refl
mul-computes mulop.Mulhsu = refl
mul-computes mulop.Mulhu = refl
mul-computes mulop.Div = refl
mul-computes mulop.Divu = refl
mul-computes mulop.Rem = refl
mul-computes mulop.Remu = refl

pub ruleset computing = (op-computes, mul-computes)
