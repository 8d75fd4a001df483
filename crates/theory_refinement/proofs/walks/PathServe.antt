-- Serve, on the path: the instruction at the top.
use Rattle.rv_inst.specs.declared.instruction.Instr.{Instr}
use Rattle.rv_inst.specs.declared.instruction.Instr.TheVariants.{Ebreak}
use Rattle.std.proofs.Common.{◌≡◌, ℕ, ◌+◌, ◌++◌, Option, Some, false, refl, sym, ap, ◌∙◌, length}
use Rattle.cf_bind.specs.declared.passenger.End.TheVariants.{Exit}
use Rattle.cf_bind.specs.declared.passenger.Passenger.{Passenger}
use Rattle.theory_refinement.proofs.walks.PathFinish.{set_agrees, set_known, set_reg}
use Rattle.theory_refinement.proofs.instructions.Steps.{step_is, sure_dst_below}
use Rattle.cf_semantics.specs.moves.Instructions.{Bad, Fetched, Goes, Got, Stops, at_pc, dst_of, fetched, kind_of, serve_of, src1_of, src2_of, step_at, value_read, value_written, word_after}
use Rattle.cf_semantics.specs.moves.Moves.{answered}
use Rattle.cf_semantics.specs.state.Options.{on}
use Rattle.cf_semantics.specs.state.Passengers.{instruction, kind}
use Rattle.cf_semantics.specs.moves.Steps.{served, stepped_as}
use Rattle.cf_semantics.specs.claims.Soundness.{Holds}
use Rattle.rv_inst.specs.declared.classes.Class.{Class}
use Rattle.rv_inst.specs.declared.classes.Class.TheVariants.{Free, Serial}
use Rattle.rv_inst.specs.declared.isa.Isa.{Isa}
use Rattle.rv_machine.specs.Call.{CallAnswer, Called}
use Rattle.rv_machine.specs.Call as called
use Rattle.rv_machine.specs.Machine.{Machine}
use Rattle.theory_refinement.proofs.invariant.Sure as sure

-- the step of an instruction of class Serial
pub serial_steps : (isa : Isa) (p : Passenger) (x : Machine) (g : Option ℕ) → kind p ≡ Serial → sure.IsSure isa p x (step_at isa x p.pc) g →
    (i : Instr) × (p.what ≡ Some i) × (kind_of i ≡ Serial) × (step_at isa x p.pc ≡ served (serve_of i x.hart.regs x.hart.mem x.rest) (dst_of i) (at_pc x p.pc))
serial_steps isa p x g c h = go (fetched isa x.hart.mem p.pc) refl h.reads
  where
    go : (q : Fetched) → fetched isa x.hart.mem p.pc ≡ q → Holds p q → (i : Instr) × (p.what ≡ Some i) × (kind_of i ≡ Serial)
        × (step_at isa x p.pc ≡ served (serve_of i x.hart.regs x.hart.mem x.rest) (dst_of i) (at_pc x p.pc))
    go (Got i) f k =
        let e : kind p ≡ kind_of i = ap (λ (o : Option Instr). on o Free kind_of) k in
        let d : kind_of i ≡ Serial = sym e ∙ c in (
          i,
          k,
          d,
          step_is isa x p.pc i f ∙ ap (λ (z : Class). stepped_as z i (value_read x.hart.regs (src1_of i)) (value_read x.hart.regs (src2_of i))
              (at_pc x p.pc)) d,
        )
    go (Bad b) f k = let e : kind p ≡ Free = ap (λ (o : Option Instr). on o Free kind_of) k.0 in absurd (cc)

-- the machine after a call that was answered
abbrev pub after_call : Machine → Instr → ℕ → CallAnswer → Machine
after_call x i pc a = record {
  hart = record { pc = word_after pc; regs = value_written x.hart.regs (dst_of i) a.value; mem = a.mem; retired = x.hart.retired + 1 };
  rest = a.rest;
  output = x.output ++ a.output;
}

pub served_steps : (isa : Isa) (p : Passenger) (x : Machine) (g : Option ℕ) (a : CallAnswer) → kind p ≡ Serial →
    serve_of (instruction p) x.hart.regs x.hart.mem x.rest ≡ called.Value a → sure.IsSure isa p x (step_at isa x p.pc) g →
    step_at isa x p.pc ≡ Goes (after_call x (instruction p) p.pc a)
served_steps isa p x g a c e h =
    let q = serial_steps isa p x g c h in
    let i : instruction p ≡ q.0 = ap (λ (o : Option Instr). on o Ebreak (λ j. j)) q.1 in
    rw i (q.3 ∙ ap (λ (z : Called). served z (dst_of q.0) (at_pc x p.pc)) (rw i at e))

pub served_sure : (isa : Isa) (p : Passenger) (x : Machine) (g : Option ℕ) (a : CallAnswer) → length x.hart.regs ≡ 32 → kind p ≡ Serial → p.done ≡ false →
    serve_of (instruction p) x.hart.regs x.hart.mem x.rest ≡ called.Value a → sure.IsSure isa p x (step_at isa x p.pc) g →
    sure.IsSure isa (answered p a.value) x (step_at isa x p.pc) g
served_sure isa p x g a l c d e h =
    let q = serial_steps isa p x g c h in
    let i : instruction p ≡ q.0 = ap (λ (o : Option Instr). on o Ebreak (λ j. j)) q.1 in
    let y : step_at isa x p.pc ≡ Goes (after_call x q.0 p.pc a) = q.3 ∙ ap (λ (z : Called). served z (dst_of q.0) (at_pc x p.pc)) (rw i at e) in
    record {
      path = h.path;
      reads = reads (fetched isa x.hart.mem p.pc) h.reads;
      shape = λ j k. record { one = (h.shape j k).one; two = (h.shape j k).two; three = set_reg p.dst a.value ∙ (h.shape j k).three };
      values = record {
        first = h.values.first;
        second = h.values.second;
        destination = rw y (set_agrees p.dst (dst_of q.0) a.value x.hart.regs l (sure_dst_below isa p x (step_at isa x p.pc) g q.0 q.1 h)
            (h.shape q.0 q.1).three);
        owed = tt;
        goes = λ _ _. rw y refl;
        next = λ _ _. rw y refl;
        done = λ _ _. set_known p.dst a.value;
        ends = h.values.ends;
      };
      unended = λ k. absurd (cc);
      unowing = λ k. absurd (cc);
      owed = (refl, h.unended d);
    }
  where
    reads : (q : Fetched) → Holds p q → Holds (answered p a.value) q
    reads (Got j) k = k
    reads (Bad b) k = k

pub quit_sure : (isa : Isa) (p : Passenger) (x : Machine) (g : Option ℕ) (s : ℕ) → kind p ≡ Serial → p.done ≡ false →
    serve_of (instruction p) x.hart.regs x.hart.mem x.rest ≡ called.Exit s → sure.IsSure isa p x (step_at isa x p.pc) g → step_at isa x p.pc ≡ Stops (Exit s)
quit_sure isa p x g s c d e h = let q = serial_steps isa p x g c h in
    let i : instruction p ≡ q.0 = ap (λ (o : Option Instr). on o Ebreak (λ j. j)) q.1 in
    q.3 ∙ ap (λ (z : Called). served z (dst_of q.0) (at_pc x p.pc)) (rw i at e)
