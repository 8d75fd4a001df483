-- The flat operation of an instruction represents it.
use Rattle.std.proofs.Common.{◌≡◌, ℕ, ℤ, Some, refl}
use Rattle.rv_inst.specs.declared.instruction.Cond.{Cond}
use Rattle.rv_inst.specs.declared.instruction.Cond.TheVariants as cond
use Rattle.rv_inst.specs.declared.instruction.LoadKind.{LoadKind}
use Rattle.rv_inst.specs.declared.instruction.LoadKind.TheVariants as load
use Rattle.rv_inst.specs.declared.instruction.StoreKind.{StoreKind}
use Rattle.rv_inst.specs.declared.instruction.StoreKind.TheVariants as store
use Rattle.rv_inst.specs.declared.instruction.ImmOp.{ImmOp}
use Rattle.rv_inst.specs.declared.instruction.ImmOp.TheVariants as imm
use Rattle.rv_inst.specs.declared.instruction.RegOp.{RegOp}
use Rattle.rv_inst.specs.declared.instruction.RegOp.TheVariants as reg
use Rattle.rv_inst.specs.declared.instruction.Instr.TheVariants.{Branch, Load, Store, OpImm, Op}
use Rattle.std.specs.Prelude.{IfSome}
use Rattle.rv_inst.specs.declared.instruction.Instr.{Instr}
use Rattle.rv_machine.specs.declared.flat.FlatOp.TheVariants as op
use Rattle.rv_machine.specs.declared.flat.Flat.{Flat}
use Rattle.rv_machine.specs.Flat.{instr_of, instr_with, branch_op, load_op, store_op, imm_op, reg_op}

pub branch-flat : (c : Cond) (rd rs1 rs2 : ℕ) (n : ℤ) → instr_with (branch_op c) rd rs1 rs2 n ≡ Some (Branch c rs1 rs2 n)
branch-flat cond.Eq rd rs1 rs2 n = refl
branch-flat cond.Ne rd rs1 rs2 n = refl
branch-flat cond.Lt rd rs1 rs2 n = refl
branch-flat cond.Ge rd rs1 rs2 n = refl
branch-flat cond.Ltu rd rs1 rs2 n = refl
branch-flat cond.Geu rd rs1 rs2 n = refl

pub load-flat : (k : LoadKind) (rd rs1 rs2 : ℕ) (n : ℤ) → instr_with (load_op k) rd rs1 rs2 n ≡ Some (Load k rd rs1 n)
load-flat load.Byte rd rs1 rs2 n = refl
load-flat load.Half rd rs1 rs2 n = refl
load-flat load.Word rd rs1 rs2 n = refl
load-flat load.ByteU rd rs1 rs2 n = refl
load-flat load.HalfU rd rs1 rs2 n = refl

pub store-flat : (k : StoreKind) (rd rs1 rs2 : ℕ) (n : ℤ) → instr_with (store_op k) rd rs1 rs2 n ≡ Some (Store k rs1 rs2 n)
store-flat store.Byte rd rs1 rs2 n = refl
store-flat store.Half rd rs1 rs2 n = refl
store-flat store.Word rd rs1 rs2 n = refl

pub imm-flat : (o : ImmOp) (rd rs1 rs2 : ℕ) (n : ℤ) → instr_with (imm_op o) rd rs1 rs2 n ≡ Some (OpImm o rd rs1 n)
imm-flat imm.Add rd rs1 rs2 n = refl
imm-flat imm.Slt rd rs1 rs2 n = refl
imm-flat imm.Sltu rd rs1 rs2 n = refl
imm-flat imm.Xor rd rs1 rs2 n = refl
imm-flat imm.Or rd rs1 rs2 n = refl
imm-flat imm.And rd rs1 rs2 n = refl
imm-flat imm.Sll rd rs1 rs2 n = refl
imm-flat imm.Srl rd rs1 rs2 n = refl
imm-flat imm.Sra rd rs1 rs2 n = refl

pub reg-flat : (o : RegOp) (rd rs1 rs2 : ℕ) (n : ℤ) → instr_with (reg_op o) rd rs1 rs2 n ≡ Some (Op o rd rs1 rs2)
reg-flat reg.Add rd rs1 rs2 n = refl
reg-flat reg.Sub rd rs1 rs2 n = refl
reg-flat reg.Sll rd rs1 rs2 n = refl
reg-flat reg.Slt rd rs1 rs2 n = refl
reg-flat reg.Sltu rd rs1 rs2 n = refl
reg-flat reg.Xor rd rs1 rs2 n = refl
reg-flat reg.Srl rd rs1 rs2 n = refl
reg-flat reg.Sra rd rs1 rs2 n = refl
reg-flat reg.Or rd rs1 rs2 n = refl
reg-flat reg.And rd rs1 rs2 n = refl

pub ruleset flattening = (branch-flat, load-flat, store-flat, imm-flat, reg-flat)

-- ADDI of x0 has its own operation
pub nop-flat : (f : Flat) (i : Instr) → IfSome (instr_of f) (λ j. j ≡ i) → f.op ≡ op.Addi → f.rd ≡ 0 →
    IfSome (instr_of (record f { op = op.Nop })) (λ j. j ≡ i)
nop-flat f i h o z = rw (← z) (rw o at h)

pub ruleset sparing = (nop-flat)
