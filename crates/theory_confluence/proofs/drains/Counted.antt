-- The count of a machine: each step that goes on adds one.
use Rattle.std.proofs.Common.{◌≡◌, ℕ, zero, suc, ◌+◌, Option, Some, None, refl, sym, ap, ◌∙◌, arith}
use Rattle.rv_inst.specs.declared.classes.Class.{Class}
use Rattle.rv_inst.specs.declared.instruction.Instr.{Instr}
use Rattle.rv_inst.specs.declared.isa.Isa.{Isa}
use Rattle.rv_machine.specs.Machine.{Machine}
use Rattle.rv_machine.specs.Outcome as outcome
use Rattle.rv_machine.specs.After.{after, next_machine, step_from}
use Rattle.rv_machine.specs.Step.{step}
use Rattle.cf_semantics.specs.moves.Instructions.{Fetched, Got, Bad, fetched, Goes, stepped, step_at, step_here, at_pc}
use Rattle.cf_semantics.specs.moves.Steps.{stepped_as}
use Rattle.theory_refinement.proofs.instructions.Steps.{step_is, bad_step}

class_counts : (c : Class) (i : Instr) (a b : ℕ) (m n : Machine) → stepped_as c i a b m ≡ Goes n → n.hart.retired ≡ m.hart.retired + 1
class_counts c i a b m n e = grind arith

step_counts : (isa : Isa) (x y : Machine) → step_here isa x ≡ Goes y → y.hart.retired ≡ x.hart.retired + 1
step_counts isa x y e = go (fetched isa x.hart.mem x.hart.pc) refl
  where
    go : (q : Fetched) → fetched isa x.hart.mem x.hart.pc ≡ q → y.hart.retired ≡ x.hart.retired + 1
    go (Got i) f = class_counts _ i _ _ (at_pc x x.hart.pc) y (sym (step_is isa x x.hart.pc i f) ∙ e)
    go (Bad b) f = absurd (let z = sym (bad_step isa x x.hart.pc b f) ∙ e in cc)

next_counts : (isa : Isa) (x y : Machine) → next_machine (step isa x) ≡ Some y → y.hart.retired ≡ x.hart.retired + 1
next_counts isa x y e = step_counts isa x y (goes e)
  where
    goes : next_machine (step isa x) ≡ Some y → step_here isa x ≡ Goes y
    goes f = unfold step_at in of (step isa x) f
      where
        of : (o : outcome.Outcome Machine) → next_machine o ≡ Some y → stepped o ≡ Goes y
        of (outcome.Next m line) e = let z : m ≡ y = cc in ap Goes z
        of (outcome.Trap cause pc detail) e = absurd (cc)
        of (outcome.Exit status) e = absurd (cc)

counts_on : (isa : Isa) (x y : Machine) (n : ℕ) (o : Option Machine) → ((z : Machine) → o ≡ Some z → z.hart.retired ≡ x.hart.retired + n) →
    step_from isa o ≡ Some y → y.hart.retired ≡ x.hart.retired + suc n
counts_on isa x y n None h e = absurd (cc)
counts_on isa x y n (Some z) h e =
    let a = h z refl in
    let b = next_counts isa z y e in
    omega (arith, a, b)

pub after_counts : (isa : Isa) (x y : Machine) (n : ℕ) → after isa x n ≡ Some y → y.hart.retired ≡ x.hart.retired + n
unfolding after
after_counts isa x y zero e = let z : x ≡ y = cc in ap (λ (m : Machine). m.hart.retired) (sym z) ∙ omega arith
after_counts isa x y (suc n) e = counts_on isa x y n (after isa x n) (λ z f. after_counts isa x z n f) e
