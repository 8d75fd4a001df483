-- What a step does to memory is what its instruction does, by its class.
use Rattle.std.proofs.Common.{◌≡◌, ℕ, List, [], ◌++◌, Option, Some, None, refl, sym, ap, ◌∙◌}
use Rattle.mem_regions.specs.Memory.{Memory}
use Rattle.mem_regions.specs.Access.{bounds_of}
use Rattle.rv_inst.specs.declared.classes.Class.{Class}
use Rattle.rv_inst.specs.declared.classes.Class.TheVariants as class
use Rattle.rv_inst.specs.declared.instruction.Instr.{Instr}
use Rattle.rv_inst.specs.declared.isa.Isa.{Isa}
use Rattle.rv_machine.specs.Hart.{Hart}
use Rattle.rv_machine.specs.Machine.{Machine}
use Rattle.rv_machine.specs.Outcome.{Outcome, Next}
use Rattle.rv_machine.specs.Call.{Called}
use Rattle.rv_machine.specs.Call as called
use Rattle.rv_machine.specs.Step.{step, step_on, after_output}
use Rattle.rv_machine.specs.declared.outcome.Retired.{Retired}
use Rattle.cf_bind.specs.declared.passenger.End.{End}
use Rattle.cf_semantics.specs.state.Options.{on}
use Rattle.cf_semantics.specs.moves.Instructions.{Fetched, Got, Bad, fetched, kind_of, src1_of, src2_of, value_read, serve_of, access_trap, free_trap, finish_trap, Goes, Stops, stepped, step_at, at_pc}
use Rattle.cf_semantics.specs.moves.Steps.{stepped_as, served}
use Rattle.theory_refinement.proofs.instructions.Steps.{step_is, bad_step}
use Rattle.order_model.specs.ServeEffects.{memory_served}
use Rattle.order_model.specs.StepEffects.{memory_by_class, memory_stepped}
use Rattle.order_machine.specs.declared.stepping.NextStep.{NextStep}
use Rattle.order_machine.specs.declared.stepping.NextStep.TheVariants.{Retires, Ends}
use Rattle.order_machine.specs.NextSteps.{StepsOn, IsStepMade, memory_next}
use Rattle.mem_changes.specs.MemoryChanges.{MemoryChanges}
use Rattle.mem_changes.specs.Applied.{memory_after}
use Rattle.mem_changes.specs.Differing.{AreChanges, AreChangesOf}

-- a step that goes on had no trap
went : (o : Option End) (m n : Machine) → on o (Goes m) Stops ≡ Goes n → m ≡ n
went None m n e = cc
went (Some x) m n e = absurd (cc)

goes_to : (m n : Machine) → Goes m ≡ Goes n → m ≡ n
goes_to m n e = cc

serves : (c : Called) (d : Option ℕ) (m n : Machine) → served c d m ≡ Goes n → n.hart.mem ≡ memory_served c m.hart.mem
serves (called.Value a) d m n e = ap (λ (x : Machine). x.hart.mem) (sym (goes_to _ n e))
serves (called.Exit status) d m n e = absurd (cc)

by_class : (c : Class) (i : Instr) (a b : ℕ) (m n : Machine) → m.rest ≡ [] → stepped_as c i a b m ≡ Goes n →
    n.hart.mem ≡ memory_by_class c i a b m.hart.regs m.hart.mem
by_class class.Add i a b m n r e = ap (λ (x : Machine). x.hart.mem) (sym (went (finish_trap i m.hart.pc a b) _ n e))
by_class class.Logic i a b m n r e = ap (λ (x : Machine). x.hart.mem) (sym (went (finish_trap i m.hart.pc a b) _ n e))
by_class class.Shift i a b m n r e = ap (λ (x : Machine). x.hart.mem) (sym (went (finish_trap i m.hart.pc a b) _ n e))
by_class class.Compare i a b m n r e = ap (λ (x : Machine). x.hart.mem) (sym (went (finish_trap i m.hart.pc a b) _ n e))
by_class class.Branch i a b m n r e = ap (λ (x : Machine). x.hart.mem) (sym (went (finish_trap i m.hart.pc a b) _ n e))
by_class class.Jump i a b m n r e = ap (λ (x : Machine). x.hart.mem) (sym (went (finish_trap i m.hart.pc a b) _ n e))
by_class class.Memory i a b m n r e = ap (λ (x : Machine). x.hart.mem) (sym (went (access_trap i m.hart.pc a (bounds_of m.hart.mem)) _ n e))
by_class class.Serial i a b m n r e = serves (serve_of i m.hart.regs m.hart.mem m.rest) _ m n e
    ∙ ap (λ (l : List ℕ). memory_served (serve_of i m.hart.regs m.hart.mem l) m.hart.mem) r
by_class class.Free i a b m n r e = ap (λ (x : Machine). x.hart.mem) (sym (went (free_trap i m.hart.pc) _ n e))
by_class class.Mul i a b m n r e = ap (λ (x : Machine). x.hart.mem) (sym (went (finish_trap i m.hart.pc a b) _ n e))
by_class class.Div i a b m n r e = ap (λ (x : Machine). x.hart.mem) (sym (went (finish_trap i m.hart.pc a b) _ n e))

-- the machine of a hart that has no input and wrote nothing
abbrev bare : Hart → Machine
bare h = record { hart = h; rest = []; output = [] }

bare_step : (isa : Isa) (h : Hart) (n : Machine) (line : Retired) → step_on isa h [] ≡ Next n line →
    step_at isa (bare h) h.pc ≡ Goes (record n { output = [] ++ n.output })
unfolding step_at step
bare_step isa h n line e = ap (λ (o : Outcome Machine). stepped (after_output [] o)) e

step_memory : (isa : Isa) (old new : Hart) (line : Retired) (f : Fetched) → fetched isa old.mem old.pc ≡ f → StepsOn isa old new line →
    new.mem ≡ memory_next (Retires line) f old.regs old.mem
unfolding memory_stepped
step_memory isa old new line (Got i) e g =
    let goes = bare_step isa old g.next line g.is in
    let made = sym (step_is isa (bare old) old.pc i e) ∙ goes in
    ap (λ (h : Hart). h.mem) g.hart ∙ by_class (kind_of i) i (value_read old.regs (src1_of i)) (value_read old.regs (src2_of i)) (at_pc (bare old) old.pc)
    (record g.next { output = [] ++ g.next.output }) refl made
step_memory isa old new line (Bad x) e g =
    let goes = bare_step isa old g.next line g.is in
    let ends = bad_step isa (bare old) old.pc x e in absurd (cc)

pub taken_memory : (isa : Isa) (old new : Hart) (next : NextStep) → IsStepMade isa old new next →
    new.mem ≡ memory_next next (fetched isa old.mem old.pc) old.regs old.mem
taken_memory isa old new (Retires line) t = step_memory isa old new line (fetched isa old.mem old.pc) refl t
taken_memory isa old new (Ends e) t = ap (λ (h : Hart). h.mem) t.hart

pub taken_changes : (isa : Isa) (m : Memory) (old new : Hart) (next : NextStep) (f : Fetched) (regs : List ℕ) (j k : MemoryChanges) →
    IsStepMade isa old new next → AreChangesOf m old.mem j → AreChanges m k →
    f ≡ fetched isa old.mem old.pc → regs ≡ old.regs → memory_after k m ≡ memory_next next f regs (memory_after j m) → AreChangesOf m new.mem k
taken_changes isa m old new next f regs j k t a lists e g h = record {
  lists = lists;
  makes = taken_memory isa old new next t ∙ ap (memory_next next (fetched isa old.mem old.pc) old.regs) a.makes
      ∙ ap (λ (w : Fetched). memory_next next w old.regs (memory_after j m)) (sym e) ∙ ap (λ (r : List ℕ). memory_next next f r (memory_after j m)) (sym g)
      ∙ sym h;
}

pub ruleset remembering = (taken_changes)
