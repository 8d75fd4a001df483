-- The four laws of single instructions.
use Rattle.std.proofs.Common.{◌≡◌, ◌≢◌, ℕ, List, Option, Some, None, true, false, refl, sym, ap, ◌∙◌, arith}
use Rattle.std.specs.Prelude.{◌+◌, ◌++◌, slice_index}
use Rattle.mem_regions.specs.Memory.{Memory}
use Rattle.mem_regions.specs.Access.{bounds_of}
use Rattle.rv_inst.specs.declared.classes.Class.{Class}
use Rattle.rv_inst.specs.declared.classes.Class.TheVariants.{Memory as MemoryClass, Serial, Free}
use Rattle.rv_inst.specs.declared.instruction.Instr.{Instr}
use Rattle.rv_inst.specs.declared.isa.Isa.{Isa}
use Rattle.rv_inst.specs.Arithmetic.{next_pc}
use Rattle.rv_inst.specs.Decoding.{decoded_as}
use Rattle.rv_inst.specs.Operands.{class_of}
use Rattle.rv_mul.specs.Values.{value_of}
use Rattle.rv_machine.specs.Machine.{Machine}
use Rattle.rv_machine.specs.Call.{Called}
use Rattle.rv_machine.specs.Call as called
use Rattle.rv_machine.specs.Step as machine
use Rattle.cf_bind.specs.declared.binding.Binding.{Binding}
use Rattle.cf_bind.specs.declared.passenger.End.{End}
use Rattle.cf_bind.specs.declared.passenger.Guess.{Guess}
use Rattle.cf_bind.specs.declared.passenger.Passenger.{Passenger}
use Rattle.cf_layout.specs.Accepted.{is_control}
use Rattle.cf_semantics.specs.moves.Instructions.{Bad, Fetched, Goes, Got, StepResult, Stops, access_trap, answer_of, after_step, dst_of, fetched, finish_trap, free_trap, is_free, is_serial, kind_of, mem_after, serve_of, src1_of, src2_of, step_here, value_read, value_written, word_after}
use Rattle.cf_semantics.specs.claims.Laws.{AccessesAsLaunched, ComputesAsFinished, IsReadyPassenger, ReadsAsIssued, ServesAndPasses, computes, departed, replied, returned}
use Rattle.cf_semantics.specs.moves.Moves.{written}
use Rattle.cf_semantics.specs.state.Options.{on}
use Rattle.cf_semantics.specs.state.Passengers.{finish, finished, fresh, fresh_end, fresh_fence, instruction, reg_in, trapped, value_in, with_value}
use Rattle.cf_semantics.specs.claims.Soundness.{Holds}
use Rattle.cf_semantics.specs.moves.Steps.{onward, served, stepped_as}
use Rattle.theory_refinement.proofs.invariant.Suited.{is_plain}
use Rattle.theory_refinement.proofs.instructions.Fetches.{fetched_alike}
use Rattle.theory_refinement.proofs.instructions.Steps.{bad_step, fetched_is, plain_steps, step_executes, step_is, step_keeps, straight_next, straight_trap, word_is}
use Rattle.theory_refinement.proofs.instructions.Classes.{free_is, memory_is, serial_is}

-- a destination with its value, written
written_is : (o : Option Binding) (d : Option ℕ) (v : ℕ) (regs : List ℕ) → reg_in o ≡ d → written regs (with_value v o) ≡ value_written regs d v
written_is None d v regs e = rw (← e) refl
written_is (Some b) d v regs e = rw (← e) refl

-- finishing, by its outcome
finish_as : (p : Passenger) (answer : Option ℕ) (t : Option End) (n v : ℕ) → finish_trap (instruction p) p.pc (value_in p.src1) (value_in p.src2) ≡ t →
    next_pc (instruction p) p.pc (value_in p.src1) (value_in p.src2) ≡ n → on answer (value_of (instruction p) p.pc (value_in p.src1) (value_in p.src2))
    (λ v. v) ≡ v → finish p answer ≡ on t (finished p n v) (trapped p)
unfolding finish
finish_as p answer t n v e f g = rw (e, f, g) refl

-- what finishing leads to, once the instruction has left
finish_departs : (p : Passenger) (i : Instr) (x : Machine) (answer : Option ℕ) (mem : Memory) → IsReadyPassenger p i x →
    departed (finish p answer) x mem
    ≡ on (finish_trap i x.hart.pc (value_read x.hart.regs (src1_of i)) (value_read x.hart.regs (src2_of i)))
    (Goes (onward x (next_pc i x.hart.pc (value_read x.hart.regs (src1_of i)) (value_read x.hart.regs (src2_of i)))
    (value_written x.hart.regs (dst_of i) (on answer (value_of i x.hart.pc (value_read x.hart.regs (src1_of i)) (value_read x.hart.regs (src2_of i))) (λ v. v)))
    mem))
    Stops
finish_departs p i x answer mem h =
    let is = word_is p i h.what in
    let a = value_read x.hart.regs (src1_of i) in
    let b = value_read x.hart.regs (src2_of i) in
    let t : finish_trap (instruction p) p.pc (value_in p.src1) (value_in p.src2) ≡ finish_trap i x.hart.pc a b = rw (is, h.pc, h.first, h.second) refl in
    let n : next_pc (instruction p) p.pc (value_in p.src1) (value_in p.src2) ≡ next_pc i x.hart.pc a b = rw (is, h.pc, h.first, h.second) refl in
    let v : on answer (value_of (instruction p) p.pc (value_in p.src1) (value_in p.src2)) (λ v. v) ≡ on answer (value_of i x.hart.pc a b) (λ v. v) =
    rw (is, h.pc, h.first, h.second) refl in
    ap (λ (q : Passenger). departed q x mem) (finish_as p answer (finish_trap i x.hart.pc a b) (next_pc i x.hart.pc a b)
    (on answer (value_of i x.hart.pc a b) (λ v. v)) t n v)
    ∙ by (finish_trap i x.hart.pc a b) (next_pc i x.hart.pc a b) (on answer (value_of i x.hart.pc a b) (λ v. v))
  where
    by : (o : Option End) (n v : ℕ) → departed (on o (finished p n v) (trapped p)) x mem ≡ on o
        (Goes (onward x n (value_written x.hart.regs (dst_of i) v) mem)) Stops
    by None n v = rw h.unended (ap (λ (q : List ℕ). Goes (onward x n q mem)) (written_is p.dst (dst_of i) v x.hart.regs h.destination))
    by (Some e) n v = refl

plain_is : (c : Class) → computes c ≡ true → is_plain c ≡ true
plain_is c e = grind arith

-- first law
pub computes_as_finished : ComputesAsFinished
computes_as_finished isa x i p f c h = plain_steps isa x x.hart.pc i f (plain_is (kind_of i) c) ∙ sym (finish_departs p i x None x.hart.mem h)

-- second law
pub accesses_as_launched : AccessesAsLaunched
accesses_as_launched isa x i p f c h =
    let is = word_is p i h.what in
    let a = value_read x.hart.regs (src1_of i) in
    let b = value_read x.hart.regs (src2_of i) in
    let m = memory_is (kind_of i) c in
    let k : is_control (kind_of i) ≡ false = rw m refl in
    let v = answer_of i a b x.hart.mem in
    let mem = mem_after i a b x.hart.mem in
    let answer : answer_of (instruction p) (value_in p.src1) (value_in p.src2) x.hart.mem ≡ v = rw (is, h.first, h.second) refl in
    let after : mem_after (instruction p) (value_in p.src1) (value_in p.src2) x.hart.mem ≡ mem = rw (is, h.first, h.second) refl in
    let trap : access_trap (instruction p) p.pc (value_in p.src1) (bounds_of x.hart.mem) ≡ access_trap i x.hart.pc a (bounds_of x.hart.mem) =
    rw (is, h.pc, h.first) refl in
    let gone : returned p x ≡ Goes (onward x (word_after x.hart.pc) (value_written x.hart.regs (dst_of i) v) mem) =
    ap (λ (z : ℕ). departed (finish p (Some z)) x (mem_after (instruction p) (value_in p.src1) (value_in p.src2) x.hart.mem)) answer
    ∙ ap (departed (finish p (Some v)) x) after
    ∙ finish_departs p i x (Some v) mem h
    ∙ rw (straight_trap i x.hart.pc a b k, straight_next i x.hart.pc a b k) refl in
    let s : step_here isa x ≡ stepped_as MemoryClass i a b x = step_is isa x x.hart.pc i f ∙ ap (λ (z : Class). stepped_as z i a b x) m in
    s
    ∙ ap (λ (z : StepResult). on (access_trap i x.hart.pc a (bounds_of x.hart.mem)) z Stops) (sym gone)
    ∙ ap (λ (o : Option End). on o (returned p x) Stops) (sym trap)

-- third law
serves : (isa : Isa) (x : Machine) (i : Instr) (p : Passenger) → fetched isa x.hart.mem x.hart.pc ≡ Got i → is_serial (kind_of i) ≡ true →
    IsReadyPassenger p i x → step_here isa x ≡ replied p x (serve_of (instruction p) x.hart.regs x.hart.mem x.rest)
serves isa x i p f c h =
    let is = word_is p i h.what in
    let a = value_read x.hart.regs (src1_of i) in
    let b = value_read x.hart.regs (src2_of i) in
    let s : step_here isa x ≡ stepped_as Serial i a b x = step_is isa x x.hart.pc i f ∙ ap (λ (z : Class). stepped_as z i a b x) (serial_is (kind_of i) c) in
    rw is (s ∙ by (serve_of i x.hart.regs x.hart.mem x.rest))
  where
    by : (c : Called) → served c (dst_of i) x ≡ replied p x c
    by (called.Value a) =
        rw (h.unended, h.pc) (ap
        (λ (q : List ℕ). Goes
        (record {
          hart = record { pc = word_after x.hart.pc; regs = q; mem = a.mem; retired = x.hart.retired + 1 };
          rest = a.rest;
          output = x.output
              ++ a.output;
        })) (sym (written_is p.dst (dst_of i) a.value x.hart.regs h.destination)))
    by (called.Exit status) = refl

passes : (isa : Isa) (x : Machine) (i : Instr) (cache : List (Option ℕ)) (g : Guess) → fetched isa x.hart.mem x.hart.pc ≡ Got i → is_free (kind_of i) ≡ true →
    step_here isa x ≡ departed (fresh cache (Got i) x.hart.pc g) x x.hart.mem
unfolding fresh
passes isa x i cache g f c =
    let a = value_read x.hart.regs (src1_of i) in
    let b = value_read x.hart.regs (src2_of i) in
    let k = free_is (kind_of i) c in
    let s : step_here isa x ≡ stepped_as Free i a b x = step_is isa x x.hart.pc i f ∙ ap (λ (z : Class). stepped_as z i a b x) k in
    rw k (s ∙ by (free_trap i x.hart.pc))
  where
    by : (o : Option End) → on o (Goes (onward x (word_after x.hart.pc) x.hart.regs x.hart.mem)) Stops
        ≡ departed (on o (fresh_fence i x.hart.pc g) (fresh_end (Some i) x.hart.pc g)) x x.hart.mem
    by None = refl
    by (Some e) = refl

pub serves_and_passes : ServesAndPasses
serves_and_passes = record { serves = serves; passes = passes }

-- fourth law
issue : (cache : List (Option ℕ)) (f : Fetched) (pc : ℕ) (g : Guess) → Holds (fresh cache f pc g) f
unfolding fresh
issue cache (Bad e) pc g = (refl, refl)
issue cache (Got i) pc g = grind arith

reads : (isa : Isa) (x : Machine) (i : Instr) → fetched isa x.hart.mem x.hart.pc ≡ Got i →
    (word : ℕ) × (decoded_as isa word ≡ Some i) × (machine.step isa x ≡ machine.after_output x.output (machine.execute (class_of i) x.hart x.rest word i))
unfolding kind_of
reads isa x i f =
    let q = fetched_is isa x.hart.mem x.hart.pc i f in
    (q.word, q.read, step_executes isa x i q)

others : (isa : Isa) (x : Machine) (i : Instr) (n : Machine) → fetched isa x.hart.mem x.hart.pc ≡ Got i → step_here isa x ≡ Goes n → (r : ℕ) →
    dst_of i ≢ Some r → slice_index n.hart.regs r ≡ slice_index x.hart.regs r
others isa x i n f e r d =
    ap (λ (s : StepResult). slice_index (after_step s x).hart.regs r) (sym e) ∙ (step_keeps isa x x.hart.pc i f).other r d

pub reads_as_issued : ReadsAsIssued
reads_as_issued = record { issue = issue; executes = reads; traps = λ isa x e f. bad_step isa x x.hart.pc e f; code = fetched_alike; others = others }
