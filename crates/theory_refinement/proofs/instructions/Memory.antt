-- The second law: the step of an instruction of class Memory.
use Rattle.rv_inst.specs.declared.instruction.Instr.{Instr}
use Rattle.std.proofs.Common.{◌≡◌, ℕ, Option, Some, None, true, refl, sym, ap, ◌∙◌}
use Rattle.cf_bind.specs.declared.passenger.Passenger.{Passenger}
use Rattle.theory_refinement.proofs.walks.PathFinish.{source_read}
use Rattle.theory_refinement.proofs.instructions.Steps.{kind_is, step_is, word_is}
use Rattle.cf_semantics.specs.moves.Instructions.{Bad, Fetched, Goes, Got, Stops, access_trap, answer_of, at_pc, dst_of, fetched, is_memory, kind_of, mem_after, src1_of, src2_of, step_at, value_read, value_written, word_after}
use Rattle.cf_semantics.specs.state.Options.{on}
use Rattle.cf_semantics.specs.state.Passengers.{instruction, kind, missing, value_in}
use Rattle.cf_semantics.specs.moves.Steps.{onward, stepped_as}
use Rattle.cf_semantics.specs.claims.Soundness.{Holds}
use Rattle.mem_regions.specs.Access.{bounds_of}
use Rattle.rv_inst.specs.declared.classes.Class.{Class}
use Rattle.rv_inst.specs.declared.classes.Class.TheVariants.{Free}
use Rattle.rv_inst.specs.declared.isa.Isa.{Isa}
use Rattle.rv_machine.specs.Machine.{Machine}
use Rattle.theory_refinement.proofs.invariant.Sure as sure
use Rattle.theory_refinement.proofs.instructions.Classes.{memory_is}

-- the machine after its access
abbrev pub after_access : Machine → Instr → ℕ → ℕ → ℕ → Machine
after_access x i pc a b = onward (at_pc x pc) (word_after pc) (value_written x.hart.regs (dst_of i) (answer_of i a b x.hart.mem)) (mem_after i a b x.hart.mem)

pub memory_steps : (isa : Isa) (p : Passenger) (x : Machine) (g : Option ℕ) → is_memory (kind p) ≡ true → missing p.src1 ≡ None → missing p.src2 ≡ None →
    sure.IsSure isa p x (step_at isa x p.pc) g → (p.what ≡ Some (instruction p)) × (step_at isa x p.pc
    ≡ on (access_trap (instruction p) p.pc (value_in p.src1) (bounds_of x.hart.mem)) (Goes
    (after_access x (instruction p) p.pc (value_in p.src1) (value_in p.src2))) Stops)
memory_steps isa p x g c m1 m2 h = go (fetched isa x.hart.mem p.pc) refl h.reads
  where
    go : (q : Fetched) → fetched isa x.hart.mem p.pc ≡ q → Holds p q → (p.what ≡ Some (instruction p))
        × (step_at isa x p.pc ≡ on (access_trap (instruction p) p.pc (value_in p.src1) (bounds_of x.hart.mem))
        (Goes (after_access x (instruction p) p.pc (value_in p.src1) (value_in p.src2))) Stops)
    go (Got i) f w =
        let is = word_is p i w in
        let k = memory_is (kind_of i) (rw (kind_is p i w) at c) in
        let a = source_read p.src1 (src1_of i) x.hart.regs (h.shape i w).one h.values.first m1 in
        let b = source_read p.src2 (src2_of i) x.hart.regs (h.shape i w).two h.values.second m2 in (
          w ∙ ap Some (sym is),
          rw (is, a, b) (step_is isa x p.pc i f ∙ ap (λ (z : Class). stepped_as z i (value_read x.hart.regs (src1_of i))
              (value_read x.hart.regs (src2_of i)) (at_pc x p.pc)) k),
        )
    go (Bad b) f w = let e : kind p ≡ Free = ap (λ (o : Option Instr). on o Free kind_of) w.0 in absurd (let q = rw e at c in cc)
