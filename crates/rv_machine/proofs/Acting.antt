-- What a hart does alone, the machine does with unchanged streams; and an instruction that calls the environment ends
-- as the call does.
use Rattle.std.proofs.Common.{◌≡◌, ◌∙◌, ◌≢◌, ℕ, ◌%◌, List, [], Some, None, Ok, Err, true, false, ◌==◌, refl, ap, sym, subst, IsTrue, arith}
use Rattle.std.proofs.lemmas.Bool.Decides.{nat_tests}
use Rattle.mem_regions.specs.Memory.{Memory}
use Rattle.mem_regions.specs.Fetching.{fetch_at}
use Rattle.mem_regions.specs.declared.access.MemErr.{MemErr}
use Rattle.rv_inst.specs.Words.{word_sum}
use Rattle.rv_inst.specs.declared.classes.Class.{Class}
use Rattle.rv_inst.specs.declared.classes.Class.TheVariants as class
use Rattle.rv_inst.specs.declared.isa.Isa.{Isa}
use Rattle.rv_inst.specs.declared.instruction.Instr.{Instr}
use Rattle.rv_inst.specs.declared.instruction.Instr.TheVariants as instr
use Rattle.rv_inst.specs.Decoding.{decoded_as}
use Rattle.rv_inst.specs.Operands.{class_of}
use Rattle.rv_mul.specs.Values.{computes}
use Rattle.rv_machine.specs.declared.outcome.Stepped.{Stepped}
use Rattle.rv_machine.specs.declared.outcome.Stepped.TheVariants as stepped
use Rattle.rv_machine.specs.declared.outcome.Served.TheVariants as served
use Rattle.rv_machine.specs.Hart.{Hart}
use Rattle.rv_machine.specs.Machine.{Machine}
use Rattle.rv_machine.specs.Outcome.{Outcome, Next, Trap, Exit}
use Rattle.rv_machine.specs.Call.{call}
use Rattle.rv_machine.specs.Streams.{Streams}
use Rattle.rv_machine.specs.Step.{beside, retire, compute, access_memory, pass, synchronize, synchronizes, environment, serial, execute, interpret, step_on}
use Rattle.rv_machine.specs.Acts.{HartDoes, Acts, Steps, Serves}
use Rattle.rv_machine.proofs.InputKnown.{some_rest, rest-told, rest-spent, stays}

-- an outcome that concerns only the hart
alone : (o : Outcome Hart) (calls : Type 0) (outcome : List ℕ → Outcome Machine) (old new : Hart)
    (s : Streams) (result : Stepped) →
    outcome (some_rest s.input) ≡ beside (some_rest s.input) [] o → HartDoes o old new result →
    Acts calls outcome old new s s result
unfolding Acts
alone (Next h line) calls outcome old new s result is does =
    let P : Stepped → Type 0 = λ r. Acts calls outcome old new s s r in
    let rest : List ℕ = some_rest s.input in
    subst P (sym does.1) (record {
      rest = rest;
      told = rest-told s.input;
      next = record { hart = h; rest = rest; output = [] };
      is = is;
      hart = does.0;
      leaves = stays s rest (rest-told s.input);
      spent = rest-spent s.input;
    })
alone (Trap cause pc detail) calls outcome old new s result is does =
    let P : Stepped → Type 0 = λ r. Acts calls outcome old new s s r in
    subst P (sym does.1) (record {
      rest = some_rest s.input;
      told = rest-told s.input;
      is = is;
      hart = does.0;
      streams = refl;
    })
alone (Exit status) calls outcome old new s result is does =
    let P : Stepped → Type 0 = λ r. Acts calls outcome old new s s r in
    subst P (sym does.1) (record {
      rest = some_rest s.input;
      told = rest-told s.input;
      is = is;
      hart = does.0;
      streams = refl;
    })

-- an outcome that is the hart's own, whatever is left of the input
pub acts-alone : (calls : Type 0) (outcome : List ℕ → Outcome Machine) (o : Outcome Hart)
    (old new : Hart) (s : Streams) (result : Stepped) →
    ((rest : List ℕ) → outcome rest ≡ beside rest [] o) → HartDoes o old new result →
    Acts calls outcome old new s s result
acts-alone calls outcome o old new s result is does =
    alone o calls outcome old new s result (is (some_rest s.input)) does

-- a trap leaves everything unchanged
acts-trapping : (calls : Type 0) (outcome : List ℕ → Outcome Machine) (h : Hart) (s : Streams)
    (cause pc detail : ℕ) (result : Stepped) →
    ((rest : List ℕ) → outcome rest ≡ Trap cause pc detail) →
    result ≡ stepped.Trap cause pc detail → Acts calls outcome h h s s result
acts-trapping calls outcome h s cause pc detail result is trap =
    acts-alone calls outcome (Trap cause pc detail) h h s result is (refl, trap)

-- an outcome that is the same as another
acts-as : (calls more : Type 0) (outcome other : List ℕ → Outcome Machine) (old new : Hart)
    (before after : Streams) (result : Stepped) → (calls → more) →
    ((rest : List ℕ) → outcome rest ≡ other rest) →
    Acts calls other old new before after result → Acts more outcome old new before after result
unfolding Acts
acts-as calls more outcome other old new before after (stepped.Next line) f is acts = record {
  rest = acts.rest;
  told = acts.told;
  next = acts.next;
  is = is acts.rest ∙ acts.is;
  hart = acts.hart;
  leaves = acts.leaves;
  spent = acts.spent;
}
acts-as calls more outcome other old new before after (stepped.Trap cause pc detail) f is acts =
    record {
      rest = acts.rest;
      told = acts.told;
      is = is acts.rest ∙ acts.is;
      hart = acts.hart;
      streams = acts.streams;
    }
acts-as calls more outcome other old new before after (stepped.Exit status) f is acts = record {
  rest = acts.rest;
  told = acts.told;
  is = is acts.rest ∙ acts.is;
  hart = acts.hart;
  streams = acts.streams;
}
acts-as calls more outcome other old new before after stepped.ReadFault f is acts =
    (f acts.0, acts.1, acts.2)
acts-as calls more outcome other old new before after stepped.WriteFault f is acts =
    (f acts.0, acts.1, acts.2)

-- what the classes of instructions that compute have in common
pub executed : (c : Class) (h : Hart) (word : ℕ) (i : Instr) → IsTrue (computes c) →
    (rest : List ℕ) → execute c h rest word i ≡ beside rest [] (compute h word i)
unfolding execute
executed class.Add h word i a rest = refl
executed class.Logic h word i a rest = refl
executed class.Shift h word i a rest = refl
executed class.Compare h word i a rest = refl
executed class.Branch h word i a rest = refl
executed class.Jump h word i a rest = refl
executed class.Memory h word i a rest = absurd (cc)
executed class.Serial h word i a rest = absurd (cc)
executed class.Free h word i a rest = absurd (cc)
executed class.Mul h word i a rest = refl
executed class.Div h word i a rest = refl

-- an instruction that computes
pub acts-computing : (word : ℕ) (i : Instr) (h new : Hart) (s : Streams) (result : Stepped) →
    IsTrue (computes (class_of i)) → HartDoes (compute h word i) h new result →
    Acts (i ≡ instr.Ecall) (λ rest. execute (class_of i) h rest word i) h new s s result
acts-computing word i h new s result a does =
    acts-alone _ _ (compute h word i) h new s result (executed (class_of i) h word i a) does

-- loads and stores
pub acts-accessing : (word : ℕ) (i : Instr) (h new : Hart) (s : Streams) (result : Stepped) →
    class_of i ≡ class.Memory → HartDoes (access_memory h word i) h new result →
    Acts (i ≡ instr.Ecall) (λ rest. execute (class_of i) h rest word i) h new s s result
unfolding execute
acts-accessing word i h new s result e does =
    acts-alone _ _ (access_memory h word i) h new s result (λ rest. rw e refl) does

-- FENCE and EBREAK
pub acts-passing : (word : ℕ) (i : Instr) (h new : Hart) (s : Streams) (result : Stepped) →
    class_of i ≡ class.Free → HartDoes (pass h word i) h new result →
    Acts (i ≡ instr.Ecall) (λ rest. execute (class_of i) h rest word i) h new s s result
unfolding execute
acts-passing word i h new s result e does =
    acts-alone _ _ (pass h word i) h new s result (λ rest. rw e refl) does

-- ECALL and FENCE.I
pub acts-serially : (word : ℕ) (i : Instr) (h new : Hart) (before after : Streams)
    (result : Stepped) → class_of i ≡ class.Serial →
    Acts (i ≡ instr.Ecall) (λ rest. serial h rest word i) h new before after result →
    Acts (i ≡ instr.Ecall) (λ rest. execute (class_of i) h rest word i) h new before after result
unfolding execute
acts-serially word i h new before after result e acts =
    acts-as _ _ _ _ h new before after result (λ same. same) (λ rest. rw e refl) acts

-- FENCE.I
pub acts-synchronizing : (word : ℕ) (i : Instr) (h new : Hart) (s : Streams) (result : Stepped) →
    synchronizes i ≡ true → HartDoes (synchronize h word) h new result →
    Acts (i ≡ instr.Ecall) (λ rest. serial h rest word i) h new s s result
unfolding serial
acts-synchronizing word i h new s result e does =
    acts-alone _ _ (synchronize h word) h new s result (λ rest. rw e refl) does

-- the two instructions of their class
ecall-is : (i : Instr) → class_of i ≡ class.Serial → synchronizes i ≡ false → i ≡ instr.Ecall
ecall-is i e f = grind arith

-- ECALL
pub acts-calling : (word : ℕ) (i : Instr) (h new : Hart) (before after : Streams)
    (result : Stepped) → class_of i ≡ class.Serial → synchronizes i ≡ false →
    Acts (Unit {0}) (λ rest. environment h word (call h.regs h.mem rest)) h new before after result →
    Acts (i ≡ instr.Ecall) (λ rest. serial h rest word i) h new before after result
unfolding serial
acts-calling word i h new before after result s e acts =
    acts-as _ _ _ _ h new before after result (λ u. ecall-is i s e) (λ rest. rw e refl) acts

-- an environment call that answered
pub acts-answered : (word value next : ℕ) (h new : Hart) (mem : Memory) (before after : Streams)
    (result : Stepped) → Serves h.regs h.mem mem before after (served.Value value) →
    next ≡ word_sum h.pc 4 →
    HartDoes (retire (record h { mem = mem }) word next 10 value) (record h { mem = mem }) new result →
    Acts (Unit {0}) (λ rest. environment h word (call h.regs h.mem rest)) h new before after result
unfolding retire Acts Serves
acts-answered word value next h new mem before after result returns following does =
    let outcome : List ℕ → Outcome Machine = λ rest. environment h word (call h.regs h.mem rest) in
    let P : Stepped → Type 0 = λ r. Acts (Unit {0}) outcome h new before after r in
    subst P (sym does.1) (record {
      rest = returns.rest;
      told = returns.told;
      next = record { hart = new; rest = returns.later; output = returns.added };
      is = ap (environment h word) returns.is ∙ rw (does.0, following) refl;
      hart = refl;
      leaves = returns.leaves;
      spent = returns.spent;
    })

-- a hart that differs from another only in its memory is the same if the memory is the same
same-memory : (h : Hart) (mem : Memory) → mem ≡ h.mem → record h { mem = mem } ≡ h
same-memory h mem same = ap (λ (m : Memory). let n : Hart = record h { mem = m } in n) same

-- an environment call that ended the program
pub acts-quitting : (word status : ℕ) (h : Hart) (mem : Memory) (before after : Streams) →
    Serves h.regs h.mem mem before after (served.Exit status) →
    Acts (Unit {0}) (λ rest. environment h word (call h.regs h.mem rest)) h
    (record h { mem = mem }) before after (stepped.Exit status)
unfolding Acts Serves
acts-quitting word status h mem before after quits = record {
  rest = quits.rest;
  told = quits.told;
  is = ap (environment h word) quits.is;
  hart = same-memory h mem quits.memory;
  streams = quits.streams;
}

-- an environment call in which the input failed
pub acts-failed-reading : (word : ℕ) (h : Hart) (mem : Memory) (before after : Streams) →
    Serves h.regs h.mem mem before after served.ReadFault →
    Acts (Unit {0}) (λ rest. environment h word (call h.regs h.mem rest)) h
    (record h { mem = mem }) before after stepped.ReadFault
unfolding Acts Serves
acts-failed-reading word h mem before after fails = (tt, fails, refl)

-- an environment call in which the output failed
pub acts-failed-writing : (word : ℕ) (h : Hart) (mem : Memory) (before after : Streams) →
    Serves h.regs h.mem mem before after served.WriteFault →
    Acts (Unit {0}) (λ rest. environment h word (call h.regs h.mem rest)) h
    (record h { mem = mem }) before after stepped.WriteFault
unfolding Acts Serves
acts-failed-writing word h mem before after fails = (tt, fails.0, same-memory h mem fails.1)

-- the word is not an instruction
pub acts-unknown : (isa : Isa) (word : ℕ) (h : Hart) (s : Streams) (result : Stepped) →
    decoded_as isa word ≡ None → result ≡ stepped.Trap 2 h.pc word →
    Acts (decoded_as isa word ≡ Some instr.Ecall)
    (λ rest. interpret h rest word (decoded_as isa word)) h h s s result
acts-unknown isa word h s result d is =
    acts-trapping _ _ h s 2 h.pc word result (λ rest. rw d refl) is

-- the word is an instruction
pub acts-known : (isa : Isa) (word : ℕ) (i : Instr) (h new : Hart) (before after : Streams)
    (result : Stepped) → decoded_as isa word ≡ Some i →
    Acts (i ≡ instr.Ecall) (λ rest. execute (class_of i) h rest word i) h new before after result →
    Acts (decoded_as isa word ≡ Some instr.Ecall)
    (λ rest. interpret h rest word (decoded_as isa word)) h new before after result
acts-known isa word i h new before after result d acts =
    acts-as _ _ _ _ h new before after result (λ e. d ∙ ap Some e) (λ rest. rw d refl) acts

-- the program counter is not a multiple of 4
pub steps-misaligned : (isa : Isa) (h : Hart) (s : Streams) (result : Stepped) → h.pc % 4 ≢ 0 →
    result ≡ stepped.Trap 0 h.pc h.pc → Steps isa h h s s result
unfolding step_on
steps-misaligned isa h s result e is =
    let f : (h.pc % 4 == 0) ≡ false = grind (arith, nat_tests) in
    acts-trapping _ _ h s 0 h.pc h.pc result (λ rest. rw f refl) is

-- no word can be fetched there
pub steps-unfetched : (isa : Isa) (h : Hart) (s : Streams) (e : MemErr) (result : Stepped) →
    h.pc % 4 ≡ 0 → fetch_at h.mem h.pc ≡ Err e → result ≡ stepped.Trap 1 h.pc h.pc →
    Steps isa h h s s result
unfolding step_on
steps-unfetched isa h s e result a f is =
    acts-trapping _ _ h s 1 h.pc h.pc result (λ rest. rw (a, f) refl) is

-- the word that was fetched
pub steps-fetched : (isa : Isa) (h new : Hart) (before after : Streams) (word : ℕ)
    (result : Stepped) → h.pc % 4 ≡ 0 → fetch_at h.mem h.pc ≡ Ok word →
    Acts (decoded_as isa word ≡ Some instr.Ecall)
    (λ rest. interpret h rest word (decoded_as isa word)) h new before after result →
    Steps isa h new before after result
unfolding step_on
steps-fetched isa h new before after word result a f acts =
    acts-as _ _ _ _ h new before after result
    (λ d. record { aligned = a; word = word; fetched = f; decoded = d }) (λ rest. rw (a, f) refl) acts
