-- The four laws of single instructions: the step of the sequential machine is what the moves do to an instruction in
-- flight, a Passenger. They are for readers. The theory rests on the same content without a Passenger, and on some
-- facts that do not follow from it, all in `theory_refinement/proofs/instructions/Steps.antt`; docs/SOUNDNESS.md lists
-- them. To add an instruction to a class, prove its case of `step_is` there, and of those facts that concern it.
use Rattle.std.specs.Prelude.{◌≡◌, ◌≢◌, ℕ, List, ◌++◌, Option, Some, None, Bool, true, ◌||◌, not, slice_index}
use Rattle.mem_regions.specs.Memory.{Memory}
use Rattle.mem_regions.specs.Access.{bounds_of}
use Rattle.rv_inst.specs.declared.classes.Class.{Class}
use Rattle.rv_inst.specs.declared.instruction.Instr.{Instr}
use Rattle.rv_inst.specs.declared.isa.Isa.{Isa}
use Rattle.rv_inst.specs.Decoding.{decoded_as}
use Rattle.rv_inst.specs.Operands.{class_of}
use Rattle.rv_machine.specs.Machine.{Machine}
use Rattle.rv_machine.specs.Call.{Called}
use Rattle.rv_machine.specs.Call as called
use Rattle.rv_machine.specs.Step as machine
use Rattle.cf_bind.specs.declared.passenger.End.{End}
use Rattle.cf_bind.specs.declared.passenger.End.TheVariants.{Exit}
use Rattle.cf_bind.specs.declared.passenger.Guess.{Guess}
use Rattle.cf_bind.specs.declared.passenger.Passenger.{Passenger}
use Rattle.cf_semantics.specs.state.Options.{on}
use Rattle.cf_semantics.specs.moves.Instructions.{kind_of, is_memory, is_serial, is_free, src1_of, src2_of, dst_of, value_read, access_trap, mem_after, answer_of, serve_of, Fetched, Got, Bad, fetched, StepResult, Goes, Stops, step_here}
use Rattle.cf_semantics.specs.moves.Fetches.{code_of}
use Rattle.cf_semantics.specs.state.Passengers.{instruction, value_in, reg_in, finish, fresh}
use Rattle.cf_semantics.specs.moves.Moves.{operation, answered, written}
use Rattle.cf_semantics.specs.claims.Soundness.{Holds}
use Rattle.cf_semantics.specs.moves.Steps.{onward}

-- the Passenger of the instruction i at the machine's address: its sources have the machine's values, and it has not
-- ended
pub record IsReadyPassenger (p : Passenger) (i : Instr) (x : Machine) : Type 0 where
  pub pc : p.pc ≡ x.hart.pc
  pub what : p.what ≡ Some i
  pub first : value_in p.src1 ≡ value_read x.hart.regs (src1_of i)
  pub second : value_in p.src2 ≡ value_read x.hart.regs (src2_of i)
  pub destination : reg_in p.dst ≡ dst_of i
  pub unended : p.ending ≡ None

-- an executed instruction has left: the program ends with its ending, or goes on at its next address, with its
-- destination written
abbrev pub departed : Passenger → Machine → Memory → StepResult
departed p x mem = on p.ending (Goes (onward x (on p.next 0 (λ n. n)) (written x.hart.regs p.dst) mem)) Stops

-- the classes that a unit computes: not loads and stores, not what needs the whole machine, not what needs no unit
abbrev pub computes : Class → Bool
computes c = not (is_memory c || is_serial c || is_free c)

-- first law: the step of a computed instruction is what finishing makes of it, and leaves memory, input and output
-- unchanged
abbrev pub ComputesAsFinished : Type 0
ComputesAsFinished = (isa : Isa) (x : Machine) (i : Instr) (p : Passenger) →
    fetched isa x.hart.mem x.hart.pc ≡ Got i → computes (kind_of i) ≡ true → IsReadyPassenger p i x →
    step_here isa x ≡ departed (finish p None) x x.hart.mem

-- its access is made on the machine's memory, and it finishes with the answer
abbrev pub returned : Passenger → Machine → StepResult
returned p x = let op = operation p in
    departed (finish p (Some (answer_of op.instr op.a op.b x.hart.mem))) x (mem_after op.instr op.a op.b x.hart.mem)

-- second law: the step of a load or a store is the trap at its launch, or its access, with whose answer it finishes
abbrev pub AccessesAsLaunched : Type 0
AccessesAsLaunched = (isa : Isa) (x : Machine) (i : Instr) (p : Passenger) →
    fetched isa x.hart.mem x.hart.pc ≡ Got i → is_memory (kind_of i) ≡ true → IsReadyPassenger p i x →
    step_here isa x ≡ on (access_trap (instruction p) p.pc (value_in p.src1) (bounds_of x.hart.mem)) (returned p x) Stops

-- the environment answers it, or ends the program
abbrev pub replied : Passenger → Machine → Called → StepResult
replied p x (called.Value a) = departed (answered p a.value) (record x { rest = a.rest; output = x.output ++ a.output }) a.mem
replied p x (called.Exit status) = Stops (Exit status)

-- third law: the step of an instruction that needs the whole machine is what serving makes of it, and the step of one
-- that needs no unit is what its issue makes of it
pub record ServesAndPasses : Type 0 where
  pub serves : (isa : Isa) (x : Machine) (i : Instr) (p : Passenger) →
      fetched isa x.hart.mem x.hart.pc ≡ Got i → is_serial (kind_of i) ≡ true → IsReadyPassenger p i x →
      step_here isa x ≡ replied p x (serve_of (instruction p) x.hart.regs x.hart.mem x.rest)
  pub passes : (isa : Isa) (x : Machine) (i : Instr) (cache : List (Option ℕ)) (g : Guess) →
      fetched isa x.hart.mem x.hart.pc ≡ Got i → is_free (kind_of i) ≡ true →
      step_here isa x ≡ departed (fresh cache (Got i) x.hart.pc g) x x.hart.mem

-- fourth law: issue and step read the same instruction, or the same trap, from the same code and address; and a step
-- changes no register but the destination
pub record ReadsAsIssued : Type 0 where
  pub issue : (cache : List (Option ℕ)) (f : Fetched) (pc : ℕ) (g : Guess) → Holds (fresh cache f pc g) f
  pub executes : (isa : Isa) (x : Machine) (i : Instr) → fetched isa x.hart.mem x.hart.pc ≡ Got i →
      (word : ℕ) × (decoded_as isa word ≡ Some i)
      × (machine.step isa x ≡ machine.after_output x.output (machine.execute (class_of i) x.hart x.rest word i))
  pub traps : (isa : Isa) (x : Machine) (e : End) → fetched isa x.hart.mem x.hart.pc ≡ Bad e → step_here isa x ≡ Stops e
  pub code : (isa : Isa) (m n : Memory) (pc : ℕ) → code_of m ≡ code_of n → fetched isa m pc ≡ fetched isa n pc
  pub others : (isa : Isa) (x : Machine) (i : Instr) (n : Machine) →
      fetched isa x.hart.mem x.hart.pc ≡ Got i → step_here isa x ≡ Goes n →
      (r : ℕ) → dst_of i ≢ Some r → slice_index n.hart.regs r ≡ slice_index x.hart.regs r
