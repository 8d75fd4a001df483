-- The line that the sequential machine gives with a step: the address, the word that was fetched, and the destination
-- with the value that it got.
use Rattle.std.proofs.Common.{◌≡◌, ℕ, ◌%◌, ◌<◌, List, [], ◌∷◌, Option, Some, None, Bool, true, false, Result, Ok, Err, refl, sym, ap, ◌∙◌, arith, length}
use Rattle.std.proofs.lemmas.List.{get_or-set_same}
use Rattle.std.specs.Prelude.{◌==◌, slice_index, if◌then◌else◌}
use Rattle.std.proofs.lemmas.Bool.Decides.{nat_tests}
use Rattle.mem_regions.specs.Memory.{Memory}
use Rattle.mem_regions.specs.Access.{bounds_of, permits_at}
use Rattle.mem_regions.specs.Ranges.{load_at}
use Rattle.mem_regions.specs.Fetching.{synced}
use Rattle.mem_regions.specs.Writing.{stored}
use Rattle.mem_regions.specs.declared.access.MemErr.{MemErr}
use Rattle.mem_regions.specs.declared.access.MemErr.TheVariants.{Misaligned, NoAccess}
use Rattle.rv_inst.specs.declared.accesses.Access.{Access}
use Rattle.rv_inst.specs.declared.classes.Class.{Class}
use Rattle.rv_inst.specs.declared.classes.Class.TheVariants.{Add, Logic, Shift, Compare, Branch, Jump, Memory as MemoryClass, Serial, Free, Mul, Div}
use Rattle.rv_inst.specs.declared.instruction.Instr.{Instr}
use Rattle.rv_inst.specs.declared.isa.Isa.{Isa}
use Rattle.rv_inst.specs.Decoding.{decoded_as}
use Rattle.rv_inst.specs.Words.{word_sum}
use Rattle.rv_inst.specs.Operands.{dest_of}
use Rattle.rv_inst.specs.Arithmetic.{next_pc}
use Rattle.rv_inst.specs.Accesses.{access_made, extended}
use Rattle.rv_mul.specs.Values.{value_of}
use Rattle.rv_machine.specs.declared.outcome.Retired.{Retired}
use Rattle.rv_machine.specs.Machine.{Machine}
use Rattle.rv_machine.specs.Outcome as outcome
use Rattle.rv_machine.specs.Call.{Called, call}
use Rattle.rv_machine.specs.Call as called
use Rattle.rv_machine.specs.Step as machine
use Rattle.cf_bind.specs.declared.binding.Binding.{Binding}
use Rattle.cf_semantics.specs.moves.Instructions.{kind_of, Got, fetched, register, dst_of, Goes, stepped, step_at, step_here}
use Rattle.cf_semantics.specs.runs.Lines.{Line, row, named, line_read, lines_in, lines_at}
use Rattle.theory_refinement.proofs.instructions.Steps.{IsFetched, fetched_is, step_executes, dst_below, store_bare, serial_destination, call_destination}

-- the line has the address, the word and the register; its value is the one that the register gets, or 0 for x0
pub record IsOwn (x : Machine) (w r : ℕ) (n : Machine) (own : Retired) : Type 0 where
  pub pc : own.pc ≡ x.hart.pc
  pub word : own.word ≡ w
  pub reg : own.reg ≡ r
  pub got : ℕ
  pub value : own.value ≡ (if r == 0 then 0 else got)
  pub regs : n.hart.regs ≡ machine.with_register x.hart.regs r got

-- so this holds of an outcome that goes on
abbrev pub GivesOwn : Machine → ℕ → ℕ → outcome.Outcome Machine → Type 0
GivesOwn x word r (outcome.Next n own) = IsOwn x word r n own
GivesOwn x word r (outcome.Trap cause pc detail) = Unit {0}
GivesOwn x word r (outcome.Exit status) = Unit {0}

-- an instruction that retires
own_retired : (x : Machine) (mem : Memory) (word pc r v : ℕ) (rest out : List ℕ) → GivesOwn x word r
    (machine.after_output x.output (machine.beside rest out (machine.retire (record x.hart { mem = mem }) word pc r v)))
unfolding machine.retire
own_retired x mem word pc r v rest out = record { pc = refl; word = refl; reg = refl; got = v; value = refl; regs = refl }

own_computed : (x : Machine) (word : ℕ) (i : Instr) → GivesOwn x word (dest_of i) (machine.after_output x.output
    (machine.beside x.rest [] (machine.compute x.hart word i)))
unfolding machine.compute
own_computed x word i = by (next % 4 == 0)
  where
    a : ℕ
    a = machine.first_value x.hart i

    b : ℕ
    b = machine.second_value x.hart i

    next : ℕ
    next = next_pc i x.hart.pc a b

    by : (t : Bool) → GivesOwn x word (dest_of i) (machine.after_output x.output (machine.beside x.rest []
        (if t then machine.retire x.hart word next (dest_of i) (value_of i x.hart.pc a b) else outcome.Trap 0 x.hart.pc next)))
    by true = own_retired x x.hart.mem word next (dest_of i) (value_of i x.hart.pc a b) x.rest []
    by false = tt

own_loaded : (x : Machine) (word : ℕ) (i : Instr) (addr : ℕ) (r : Result ℕ MemErr) → GivesOwn x word (dest_of i)
    (machine.after_output x.output (machine.beside x.rest [] (machine.loads x.hart word i addr r)))
own_loaded x word i addr (Ok raw) = own_retired x x.hart.mem word (word_sum x.hart.pc 4) (dest_of i) (extended i raw) x.rest []
own_loaded x word i addr (Err Misaligned) = tt
own_loaded x word i addr (Err NoAccess) = tt

own_stored : (x : Machine) (word : ℕ) (access : Access) (r : Result (Unit {0}) MemErr) → GivesOwn x word 0
    (machine.after_output x.output (machine.beside x.rest [] (machine.stores x.hart word access r)))
own_stored x word access (Ok done) = own_retired x (stored x.hart.mem access.addr access.width access.value) word (word_sum x.hart.pc 4) 0 0 x.rest []
own_stored x word access (Err Misaligned) = tt
own_stored x word access (Err NoAccess) = tt

own_accessed : (x : Machine) (word : ℕ) (i : Instr) → GivesOwn x word (dest_of i) (machine.after_output x.output
    (machine.beside x.rest [] (machine.access_memory x.hart word i)))
unfolding machine.access_memory
own_accessed x word i = by access.write refl
  where
    a : ℕ
    a = machine.first_value x.hart i

    b : ℕ
    b = machine.second_value x.hart i

    access : Access
    access = access_made i a b

    by : (w : Bool) → access.write ≡ w → GivesOwn x word (dest_of i) (machine.after_output x.output (machine.beside x.rest [] (if w
        then machine.stores x.hart word access (permits_at (bounds_of x.hart.mem) access.addr access.width true)
        else machine.loads x.hart word i access.addr (load_at x.hart.mem access.addr access.width))))
    by true e = rw (store_bare i a b e) (own_stored x word access (permits_at (bounds_of x.hart.mem) access.addr access.width true))
    by false e = own_loaded x word i access.addr (load_at x.hart.mem access.addr access.width)

free_destination : (i : Instr) → kind_of i ≡ Free → dest_of i ≡ 0
unfolding kind_of
free_destination i e = grind arith

own_passed : (x : Machine) (word : ℕ) (i : Instr) → kind_of i ≡ Free → GivesOwn x word (dest_of i)
    (machine.after_output x.output (machine.beside x.rest [] (machine.pass x.hart word i)))
unfolding machine.pass
own_passed x word i e = rw (free_destination i e) (by (machine.breaks i))
  where
    by : (t : Bool) → GivesOwn x word 0 (machine.after_output x.output (machine.beside x.rest []
        (if t then outcome.Trap 3 x.hart.pc x.hart.pc else machine.retire x.hart word (word_sum x.hart.pc 4) 0 0)))
    by true = tt
    by false = own_retired x x.hart.mem word (word_sum x.hart.pc 4) 0 0 x.rest []

own_answered : (x : Machine) (word : ℕ) (c : Called) → GivesOwn x word 10 (machine.after_output x.output (machine.environment x.hart word c))
own_answered x word (called.Value a) = own_retired x a.mem word (word_sum x.hart.pc 4) 10 a.value a.rest a.output
own_answered x word (called.Exit status) = tt

own_served : (x : Machine) (word : ℕ) (i : Instr) → kind_of i ≡ Serial → GivesOwn x word (dest_of i)
    (machine.after_output x.output (machine.serial x.hart x.rest word i))
unfolding machine.serial machine.synchronize
own_served x word i e = by (machine.synchronizes i) refl
  where
    by : (t : Bool) → machine.synchronizes i ≡ t → GivesOwn x word (dest_of i) (machine.after_output x.output (if t
        then machine.beside x.rest [] (machine.retire (record x.hart { mem = synced x.hart.mem }) word (word_sum x.hart.pc 4) 0 0)
        else machine.environment x.hart word (call x.hart.regs x.hart.mem x.rest)))
    by true f = rw (serial_destination i e f) (own_retired x (synced x.hart.mem) word (word_sum x.hart.pc 4) 0 0 x.rest [])
    by false f = rw (call_destination i e f) (own_answered x word (call x.hart.regs x.hart.mem x.rest))

own_executed : (c : Class) (x : Machine) (word : ℕ) (i : Instr) → kind_of i ≡ c → GivesOwn x word (dest_of i)
    (machine.after_output x.output (machine.execute c x.hart x.rest word i))
unfolding machine.execute
own_executed Add x word i e = own_computed x word i
own_executed Logic x word i e = own_computed x word i
own_executed Shift x word i e = own_computed x word i
own_executed Compare x word i e = own_computed x word i
own_executed Branch x word i e = own_computed x word i
own_executed Jump x word i e = own_computed x word i
own_executed MemoryClass x word i e = own_accessed x word i
own_executed Serial x word i e = own_served x word i e
own_executed Free x word i e = own_passed x word i e
own_executed Mul x word i e = own_computed x word i
own_executed Div x word i e = own_computed x word i

-- the line beside a step is that of the instruction that was fetched
pub own_step : (isa : Isa) (x : Machine) (i : Instr) (f : IsFetched isa x.hart.mem x.hart.pc i) → GivesOwn x f.word (dest_of i) (machine.step isa x)
own_step isa x i f = rw (step_executes isa x i f) (own_executed (kind_of i) x f.word i refl)

-- what a register got
abbrev pub got : List ℕ → Option ℕ → Option Binding
got regs None = None
got regs (Some r) = Some (record { reg = r; value = Some (slice_index regs r) })

-- the register that the line names has its value after the step
named_got : (regs : List ℕ) (r v : ℕ) → r < length regs → named r (if r == 0 then 0 else v) ≡ got (machine.with_register regs r v) (register r)
named_got regs r v b = by (r == 0) refl
  where
    by : (t : Bool) → (r == 0) ≡ t → named r (if r == 0 then 0 else v) ≡ got (machine.with_register regs r v) (register r)
    by true e = rw e refl
    by false e = rw e (ap (λ (u : ℕ). Some (record { reg = r; value = Some u })) (sym (get_or-set_same regs r v 0 b)))

dest_below : (isa : Isa) (x : Machine) (i : Instr) → fetched isa x.hart.mem x.hart.pc ≡ Got i → dest_of i < 32
unfolding dst_of
dest_below isa x i e = by (dest_of i == 0) refl
  where
    by : (t : Bool) → (dest_of i == 0) ≡ t → dest_of i < 32
    by true f = grind (arith, nat_tests)
    by false f = dst_below isa x.hart.mem x.hart.pc i e (dest_of i) (rw f refl)

read_own : (isa : Isa) (x n : Machine) (i : Instr) (word : ℕ) (own : Retired) → decoded_as isa word ≡ Some i → dest_of i < length x.hart.regs →
    IsOwn x word (dest_of i) n own → line_read isa own ≡ row x.hart.pc i (got n.hart.regs (dst_of i))
unfolding dst_of
read_own isa x n i word own d b h =
    rw (h.pc, h.word, h.reg, h.value, h.regs, d) (ap (λ (q : Option Binding). row x.hart.pc i q) (named_got x.hart.regs (dest_of i) h.got b))

-- of an instruction that retires, the machine's own line is its address, what it is, and its destination with the value
-- after the step
pub own_line : (isa : Isa) (x y : Machine) (i : Instr) → length x.hart.regs ≡ 32 → fetched isa x.hart.mem x.hart.pc ≡ Got i → step_here isa x ≡ Goes y →
    lines_at isa x ≡ row x.hart.pc i (got y.hart.regs (dst_of i)) ∷ []
unfolding step_at
own_line isa x y i wide e g =
    let f = fetched_is isa x.hart.mem x.hart.pc i e in
    by f.word f.read (machine.step isa x) (own_step isa x i f) g
  where
    by : (word : ℕ) → decoded_as isa word ≡ Some i → (o : outcome.Outcome Machine) → GivesOwn x word (dest_of i) o → stepped o ≡ Goes y →
        lines_in isa o ≡ row x.hart.pc i (got y.hart.regs (dst_of i)) ∷ []
    by word d (outcome.Next n own) h g =
        let same : n ≡ y = cc in
        ap (λ (l : Line). l ∷ []) (read_own isa x n i word own d (rw wide (dest_below isa x i e)) h
        ∙ ap (λ (z : Machine). row x.hart.pc i (got z.hart.regs (dst_of i))) same)
    by word d (outcome.Trap cause pc detail) h g = absurd (cc)
    by word d (outcome.Exit status) h g = absurd (cc)
