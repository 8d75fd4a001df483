-- What the proofs about moves use about single instructions; nowhere else do they depend on the instruction set.
use Rattle.std.proofs.Common.{◌≡◌, ◌≢◌, ℕ, ◌-◌, ◌%◌, ◌<◌, List, [], Option, Some, None, Bool, true, false, Result, Ok, Err, refl, sym, ap, ◌∙◌, arith, length, length-set, append-nil}
use Rattle.std.proofs.lemmas.Bool.Decides.{nat_tests}
use Rattle.std.proofs.lemmas.List.{get_or-set_other}
use Rattle.std.specs.Prelude.{not, ◌==◌, slice_index, if◌then◌else◌, IfSome, min, take, drop}
use Rattle.mem_regions.specs.Memory.{Memory}
use Rattle.mem_regions.specs.Access.{Bounds, bounds_of, permits_at, permission_told}
use Rattle.mem_regions.specs.Ranges.{load_at, range_of, can_write}
use Rattle.mem_regions.specs.Fetching.{fetch_at, synced}
use Rattle.mem_regions.specs.Writing.{stored}
use Rattle.mem_regions.specs.declared.access.MemErr.{MemErr}
use Rattle.mem_regions.specs.declared.access.MemErr.TheVariants.{Misaligned, NoAccess}
use Rattle.mem_regions.specs.Area.{Area}
use Rattle.mem_regions.specs.Access.{is_aligned}
use Rattle.mem_regions.specs.Ranges.{writes_in}
use Rattle.mem_regions.specs.Writing.{area_with, memory_with}
use Rattle.mem_regions.specs.Bytes.{le_bytes}
use Rattle.mem_regions.proofs.Loads.{load_at-permits}
use Rattle.mem_regions.proofs.Kept.{length-overwritten, map-first_changed, bounds-stored, bounds-synced, bounds-memory_with, bounds-break}
use Rattle.rv_inst.specs.declared.accesses.Access.{Access}
use Rattle.rv_inst.specs.declared.classes.Class.{Class}
use Rattle.rv_inst.specs.declared.classes.Class.TheVariants.{Add, Logic, Shift, Compare, Branch, Jump, Memory as MemoryClass, Serial, Free, Mul, Div}
use Rattle.rv_inst.specs.declared.instruction.Instr.{Instr}
use Rattle.rv_inst.specs.declared.instruction.Instr.TheVariants.{Ebreak}
use Rattle.rv_inst.specs.declared.isa.Isa.{Isa}
use Rattle.rv_inst.specs.declared.isa.Isa.TheVariants.{Rv32i, Rv32im}
use Rattle.rv_inst.specs.Ranges.{Fits}
use Rattle.rv_inst.specs.Words.{word_sum}
use Rattle.rv_inst.specs.Operands.{sources_of, dest_of}
use Rattle.rv_inst.specs.Arithmetic.{next_pc}
use Rattle.rv_inst.specs.Accesses.{access_made, extended}
use Rattle.rv_inst.specs.Decoding.{decoded_as, decoded, decoded_m}
use Rattle.rv_inst.proofs.Bounds.{decoded_fits, decoded_m_fits}
use Rattle.rv_mul.specs.Values.{value_of}
use Rattle.rv_machine.specs.Hart.{Hart}
use Rattle.rv_machine.specs.Machine.{Machine}
use Rattle.rv_machine.specs.Outcome as outcome
use Rattle.rv_machine.specs.Call.{Called, call}
use Rattle.rv_machine.specs.Call as called
use Rattle.rv_machine.specs.Step as machine
use Rattle.cf_bind.specs.declared.binding.Binding.{Binding}
use Rattle.cf_bind.specs.declared.passenger.Passenger.{Passenger}
use Rattle.cf_bind.specs.declared.passenger.End.{End}
use Rattle.cf_bind.specs.declared.passenger.End.TheVariants.{Trap}
use Rattle.cf_semantics.specs.state.Options.{on}
use Rattle.cf_layout.specs.Accepted.{is_control}
use Rattle.cf_semantics.specs.moves.Instructions.{kind_of, is_serial, Fetched, Got, Bad, read_as, word_read, fetched, register, src1_of, src2_of, dst_of, value_read, value_written, word_after, finish_trap, free_trap, refused, access_trap, mem_after, number, answer_of, serve_of, StepResult, Goes, Stops, stepped, step_at, at_pc, after_step}
use Rattle.cf_semantics.specs.state.Passengers.{kind, instruction, reg_in}
use Rattle.cf_semantics.specs.moves.Steps.{onward, served, stepped_as}
use Rattle.cf_semantics.specs.claims.Path.{is_trap, has_reg}
use Rattle.cf_semantics.specs.moves.Fetches.{area_text, code_of}
use Rattle.cf_semantics.specs.claims.Soundness.{Holds}
use Rattle.theory_refinement.proofs.invariant.Sure.{IsSure}
use Rattle.theory_refinement.proofs.invariant.Suited.{is_plain}

-- what was fetched: the word there, which is read as the instruction
pub record IsFetched (isa : Isa) (mem : Memory) (pc : ℕ) (i : Instr) : Type 0 where
  pub word : ℕ
  pub aligned : (pc % 4 == 0) ≡ true
  pub found : fetch_at mem pc ≡ Ok word
  pub read : decoded_as isa word ≡ Some i

read_is : (isa : Isa) (mem : Memory) (pc : ℕ) (i : Instr) (w : ℕ) (o : Option Instr) →
    (pc % 4 == 0) ≡ true → fetch_at mem pc ≡ Ok w → decoded_as isa w ≡ o →
    read_as pc w o ≡ Got i → IsFetched isa mem pc i
read_is isa mem pc i w None a f d e = absurd (cc)
read_is isa mem pc i w (Some j) a f d e =
    let g : j ≡ i = cc in
    record { word = w; aligned = a; found = f; read = d ∙ ap Some g }

pub fetched_is : (isa : Isa) (mem : Memory) (pc : ℕ) (i : Instr) → fetched isa mem pc ≡ Got i →
    IsFetched isa mem pc i
unfolding fetched
fetched_is isa mem pc i e = go (pc % 4 == 0) (fetch_at mem pc) refl refl e
  where
    go : (b : Bool) (r : Result ℕ MemErr) → (pc % 4 == 0) ≡ b → fetch_at mem pc ≡ r →
        (if b then word_read isa pc r else Bad (Trap 0 pc pc)) ≡ Got i → IsFetched isa mem pc i
    go false r a f e = absurd (cc)
    go true (Err q) a f e = absurd (cc)
    go true (Ok w) a f e = read_is isa mem pc i w (decoded_as isa w) a f refl e

-- the machine's step is the execution of the instruction
pub step_executes : (isa : Isa) (x : Machine) (i : Instr) (f : IsFetched isa x.hart.mem x.hart.pc i) →
    machine.step isa x ≡ machine.after_output x.output (machine.execute (kind_of i) x.hart x.rest f.word i)
unfolding kind_of machine.step machine.step_on
step_executes isa x i f = rw (f.aligned, f.found, f.read) refl

-- what is read from a word is in range
read_fits : (isa : Isa) (w : ℕ) (i : Instr) → decoded_as isa w ≡ Some i → Fits i
unfolding decoded_as
read_fits Rv32i w i e = of_some (decoded w) (decoded_fits w) e
  where
    of_some : (o : Option Instr) → IfSome o (λ j. Fits j) → o ≡ Some i → Fits i
    of_some None h e = absurd (cc)
    of_some (Some j) h e = let g : j ≡ i = cc in rw (← g) h
read_fits Rv32im w i e = of_some (decoded_m w) (decoded_m_fits w) e
  where
    of_some : (o : Option Instr) → IfSome o (λ j. Fits j) → o ≡ Some i → Fits i
    of_some None h e = absurd (cc)
    of_some (Some j) h e = let g : j ≡ i = cc in rw (← g) h

dest_below : (i : Instr) → Fits i → dest_of i < 32
dest_below i h = grind arith

-- a destination is one of the 32 registers
pub dst_below : (isa : Isa) (mem : Memory) (pc : ℕ) (i : Instr) → fetched isa mem pc ≡ Got i → (r : ℕ) → dst_of i ≡ Some r → r < 32
unfolding dst_of
dst_below isa mem pc i f r e =
    let q = fetched_is isa mem pc i f in
    let b = dest_below i (read_fits isa q.word i q.read) in
    grind (arith, nat_tests)

-- the values of the sources are those of their registers
source_value : (regs : List ℕ) (r : ℕ) → machine.register_value regs r ≡ value_read regs (register r)
source_value regs r = go (r == 0) refl
  where
    go : (b : Bool) → (r == 0) ≡ b → machine.register_value regs r ≡ value_read regs (register r)
    go true e = rw e refl
    go false e = rw e refl

-- a destination is written, if there is one
destination_written : (regs : List ℕ) (r v : ℕ) → machine.with_register regs r v ≡ value_written regs (register r) v
destination_written regs r v = go (r == 0) refl
  where
    go : (b : Bool) → (r == 0) ≡ b → machine.with_register regs r v ≡ value_written regs (register r) v
    go true e = rw e refl
    go false e = rw e refl

-- the hart's outcome beside an input and an output that stay
abbrev alone : Machine → outcome.Outcome Hart → StepResult
alone x o = stepped (machine.after_output x.output (machine.beside x.rest [] o))

-- an instruction that retires
retires : (x : Machine) (mem : Memory) (word pc r v : ℕ) →
    alone x (machine.retire (record x.hart { mem = mem }) word pc r v)
    ≡ Goes (onward x pc (value_written x.hart.regs (register r) v) mem)
unfolding machine.retire
retires x mem word pc r v = rw (append-nil x.output, destination_written x.hart.regs r v) refl

-- except at branches and jumps the program goes on at the next word
pub straight_next : (i : Instr) (pc a b : ℕ) → is_control (kind_of i) ≡ false → next_pc i pc a b ≡ word_after pc
unfolding kind_of next_pc
straight_next i pc a b e = grind arith

-- except at branches and jumps nothing traps at the end
pub straight_trap : (i : Instr) (pc a b : ℕ) → is_control (kind_of i) ≡ false → finish_trap i pc a b ≡ None
unfolding finish_trap
straight_trap i pc a b e = rw e refl

-- the next word of an aligned address is aligned
next_aligned : (pc : ℕ) → (pc % 4 == 0) ≡ true → (word_after pc % 4 == 0) ≡ true
next_aligned pc a = grind (arith, nat_tests)

-- what is computed, by whether control turns and whether the next address is aligned
computed : (x : Machine) (word : ℕ) (i : Instr) (a b n : ℕ) (turn aligned : Bool) → is_control (kind_of i) ≡ turn →
    (n % 4 == 0) ≡ aligned → (turn ≡ false → aligned ≡ true) → n ≡ next_pc i x.hart.pc a b →
    alone x (if aligned then machine.retire x.hart word n (dest_of i) (value_of i x.hart.pc a b) else outcome.Trap 0 x.hart.pc n)
    ≡ stepped_as Add i a b x
unfolding finish_trap dst_of
computed x word i a b n true true c al s e = rw (c, ← e, al) (retires x x.hart.mem word n (dest_of i) (value_of i x.hart.pc a b))
computed x word i a b n true false c al s e = rw (c, ← e, al) refl
computed x word i a b n false true c al s e = rw (c, ← e) (retires x x.hart.mem word n (dest_of i) (value_of i x.hart.pc a b))
computed x word i a b n false false c al s e = absurd (let q = s refl in cc)

-- arithmetic, branches and jumps
computes : (x : Machine) (word : ℕ) (i : Instr) → (x.hart.pc % 4 == 0) ≡ true →
    alone x (machine.compute x.hart word i)
    ≡ stepped_as Add i (value_read x.hart.regs (src1_of i)) (value_read x.hart.regs (src2_of i)) x
unfolding machine.compute src1_of src2_of
computes x word i al =
    let a = value_read x.hart.regs (register (sources_of i).0) in
    let b = value_read x.hart.regs (register (sources_of i).1) in
    let n = next_pc i x.hart.pc a b in
    let s : is_control (kind_of i) ≡ false → (n % 4 == 0) ≡ true = λ c. rw (straight_next i x.hart.pc a b c) (next_aligned x.hart.pc al) in
    rw (source_value x.hart.regs (sources_of i).0, source_value x.hart.regs (sources_of i).1)
    (computed x word i a b n (is_control (kind_of i)) (n % 4 == 0) refl refl s refl)

-- loads: what is found decides as what is permitted does
loaded : (x : Machine) (word : ℕ) (i : Instr) (access : Access) (r : Result ℕ MemErr) → access.write ≡ false →
    alone x (machine.loads x.hart word i access.addr r)
    ≡ on (refused x.hart.pc access (permission_told r))
    (Goes (onward x (word_after x.hart.pc) (value_written x.hart.regs (dst_of i) (extended i (number r))) x.hart.mem)) Stops
unfolding dst_of
loaded x word i access (Ok raw) w = retires x x.hart.mem word (word_after x.hart.pc) (dest_of i) (extended i raw)
loaded x word i access (Err Misaligned) w = rw w refl
loaded x word i access (Err NoAccess) w = rw w refl

-- stores
kept : (x : Machine) (word : ℕ) (i : Instr) (access : Access) (r : Result (Unit {0}) MemErr) → access.write ≡ true →
    dest_of i ≡ 0 →
    alone x (machine.stores x.hart word access r)
    ≡ on (refused x.hart.pc access r)
    (Goes (onward x (word_after x.hart.pc) (value_written x.hart.regs (dst_of i) 0) (stored x.hart.mem access.addr access.width access.value))) Stops
unfolding dst_of
kept x word i access (Ok done) w d = rw d (retires x (stored x.hart.mem access.addr access.width access.value) word (word_after x.hart.pc) 0 0)
kept x word i access (Err Misaligned) w d = rw w refl
kept x word i access (Err NoAccess) w d = rw w refl

-- an access does not depend on the value that a store would write
asked_address : (i : Instr) (a b : ℕ) → ((access_made i a b).addr ≡ (access_made i a 0).addr) × ((access_made i a b).width ≡ (access_made i a 0).width)
    × ((access_made i a b).write ≡ (access_made i a 0).write)
unfolding access_made
asked_address i a b = grind arith

pub store_bare : (i : Instr) (a b : ℕ) → (access_made i a b).write ≡ true → dest_of i ≡ 0
unfolding access_made
store_bare i a b e = grind arith

-- accesses of one address and direction are refused for the same reason
refused_alike : (pc : ℕ) (access other : Access) (r : Result (Unit {0}) MemErr) → other.addr ≡ access.addr →
    other.write ≡ access.write → refused pc other r ≡ refused pc access r
refused_alike pc access other (Ok done) e f = refl
refused_alike pc access other (Err Misaligned) e f = rw (e, f) refl
refused_alike pc access other (Err NoAccess) e f = rw (e, f) refl

bare_refused : (pc : ℕ) (bs : List Bounds) (access bare : Access) →
    (access.addr ≡ bare.addr) × (access.width ≡ bare.width) × (access.write ≡ bare.write) →
    refused pc access (permits_at bs access.addr access.width access.write)
    ≡ refused pc bare (permits_at bs bare.addr bare.width bare.write)
bare_refused pc bs access bare q =
    ap (λ n. refused pc access (permits_at bs n access.width access.write)) q.0
    ∙ ap (λ n. refused pc access (permits_at bs bare.addr n access.write)) q.1
    ∙ ap (λ w. refused pc access (permits_at bs bare.addr bare.width w)) q.2
    ∙ refused_alike pc bare access (permits_at bs bare.addr bare.width bare.write) q.0 q.2

-- a load or a store, by whether it writes
accesses_as : (x : Machine) (word : ℕ) (i : Instr) (a b : ℕ) (access : Access) (w : Bool) →
    access ≡ access_made i a b → access.write ≡ w →
    alone x (if w
    then machine.stores x.hart word access (permits_at (bounds_of x.hart.mem) access.addr access.width true)
    else machine.loads x.hart word i access.addr (load_at x.hart.mem access.addr access.width))
    ≡ on (refused x.hart.pc access (permits_at (bounds_of x.hart.mem) access.addr access.width w))
    (Goes (onward x (word_after x.hart.pc) (value_written x.hart.regs (dst_of i) (if w then 0 else extended i
    (number (load_at x.hart.mem access.addr access.width))))
    (if w then stored x.hart.mem access.addr access.width access.value else x.hart.mem))) Stops
accesses_as x word i a b access true e w =
    kept x word i access (permits_at (bounds_of x.hart.mem) access.addr access.width true) w
    (store_bare i a b (ap (λ (z : Access). z.write) (sym e) ∙ w))
accesses_as x word i a b access false e w =
    rw (← load_at-permits x.hart.mem access.addr access.width) (loaded x word i access (load_at x.hart.mem access.addr access.width) w)

-- the step that goes on, or traps as stated
abbrev or_trap : StepResult → Option End → StepResult
or_trap s o = on o s Stops

-- loads and stores
accesses : (x : Machine) (word : ℕ) (i : Instr) →
    alone x (machine.access_memory x.hart word i)
    ≡ stepped_as MemoryClass i (value_read x.hart.regs (src1_of i)) (value_read x.hart.regs (src2_of i)) x
unfolding machine.access_memory src1_of src2_of access_trap answer_of mem_after
accesses x word i =
    let a = value_read x.hart.regs (register (sources_of i).0) in
    let b = value_read x.hart.regs (register (sources_of i).1) in
    rw (source_value x.hart.regs (sources_of i).0, source_value x.hart.regs (sources_of i).1)
    (accesses_as x word i a b (access_made i a b) (access_made i a b).write refl refl
    ∙ ap (or_trap _) (bare_refused x.hart.pc (bounds_of x.hart.mem) (access_made i a b) (access_made i a 0) (asked_address i a b)))

-- an instruction of class Free has no bindings
pub free_bare : (i : Instr) → kind_of i ≡ Free → (src1_of i ≡ None) × (src2_of i ≡ None) × (dst_of i ≡ None)
unfolding kind_of src1_of src2_of dst_of
free_bare i e = grind arith

-- FENCE and EBREAK
passes : (x : Machine) (word : ℕ) (i : Instr) → alone x (machine.pass x.hart word i) ≡ stepped_as Free i 0 0 x
unfolding machine.pass free_trap
passes x word i = go (machine.breaks i) refl
  where
    go : (b : Bool) → machine.breaks i ≡ b →
        alone x (if b then outcome.Trap 3 x.hart.pc x.hart.pc else machine.retire x.hart word (word_sum x.hart.pc 4) 0 0)
        ≡ on (if b then Some (Trap 3 x.hart.pc x.hart.pc) else None) (Goes (onward x (word_after x.hart.pc) x.hart.regs x.hart.mem)) Stops
    go true e = refl
    go false e = retires x x.hart.mem word (word_after x.hart.pc) 0 0

-- the answer of the environment
environment_serves : (x : Machine) (word : ℕ) (c : Called) →
    stepped (machine.after_output x.output (machine.environment x.hart word c)) ≡ served c (Some 10) x
unfolding machine.retire
environment_serves x word (called.Value a) = refl
environment_serves x word (called.Exit status) = refl

pub serial_destination : (i : Instr) → kind_of i ≡ Serial → machine.synchronizes i ≡ true → dest_of i ≡ 0
unfolding kind_of
serial_destination i c e = grind arith

pub call_destination : (i : Instr) → kind_of i ≡ Serial → machine.synchronizes i ≡ false → dest_of i ≡ 10
unfolding kind_of
call_destination i c e = grind arith

-- ECALL and FENCE.I
serves : (x : Machine) (word : ℕ) (i : Instr) → kind_of i ≡ Serial →
    stepped (machine.after_output x.output (machine.serial x.hart x.rest word i)) ≡ stepped_as Serial i 0 0 x
unfolding machine.serial machine.synchronize machine.retire serve_of dst_of
serves x word i c = go (machine.synchronizes i) refl
  where
    go : (b : Bool) → machine.synchronizes i ≡ b → stepped (machine.after_output x.output (machine.serial x.hart x.rest word i)) ≡ stepped_as Serial i 0 0 x
    go true e = rw (e, serial_destination i c e) refl
    go false e = rw (e, call_destination i c e) (environment_serves x word (call x.hart.regs x.hart.mem x.rest))

-- what an instruction does, by its class
executes : (c : Class) (x : Machine) (word : ℕ) (i : Instr) → kind_of i ≡ c → (x.hart.pc % 4 == 0) ≡ true →
    stepped (machine.after_output x.output (machine.execute c x.hart x.rest word i))
    ≡ stepped_as c i (value_read x.hart.regs (src1_of i)) (value_read x.hart.regs (src2_of i)) x
unfolding machine.execute
executes Add x word i e a = computes x word i a
executes Logic x word i e a = computes x word i a
executes Shift x word i e a = computes x word i a
executes Compare x word i e a = computes x word i a
executes Branch x word i e a = computes x word i a
executes Jump x word i e a = computes x word i a
executes MemoryClass x word i e a = accesses x word i
executes Serial x word i e a = serves x word i e
executes Free x word i e a = passes x word i
executes Mul x word i e a = computes x word i a
executes Div x word i e a = computes x word i a

-- the step of an instruction that is fetched, by its class, with the values of its sources
pub step_is : (isa : Isa) (x : Machine) (pc : ℕ) (i : Instr) → fetched isa x.hart.mem pc ≡ Got i →
    step_at isa x pc ≡ stepped_as (kind_of i) i (value_read x.hart.regs (src1_of i)) (value_read x.hart.regs (src2_of i)) (at_pc x pc)
unfolding step_at
step_is isa x pc i e =
    let f = fetched_is isa x.hart.mem pc i e in
    ap stepped (step_executes isa (at_pc x pc) i f) ∙ executes (kind_of i) (at_pc x pc) f.word i refl f.aligned

-- if nothing is fetched, the step is that trap
read_stops : (isa : Isa) (x : Machine) (w : ℕ) (o : Option Instr) (e : End) → read_as x.hart.pc w o ≡ Bad e →
    stepped (machine.after_output x.output (machine.interpret x.hart x.rest w o)) ≡ Stops e
read_stops isa x w None e h = let g : Trap 2 x.hart.pc w ≡ e = cc in ap Stops g
read_stops isa x w (Some i) e h = absurd (cc)

pub bad_step : (isa : Isa) (x : Machine) (pc : ℕ) (e : End) → fetched isa x.hart.mem pc ≡ Bad e → step_at isa x pc ≡ Stops e
unfolding fetched step_at machine.step machine.step_on
bad_step isa x pc e h = go (pc % 4 == 0) (fetch_at x.hart.mem pc) refl refl h
  where
    go : (b : Bool) (r : Result ℕ MemErr) → (pc % 4 == 0) ≡ b → fetch_at x.hart.mem pc ≡ r →
        (if b then word_read isa pc r else Bad (Trap 0 pc pc)) ≡ Bad e → step_at isa x pc ≡ Stops e
    go false r a f k = let g : Trap 0 pc pc ≡ e = cc in rw a (ap Stops g)
    go true (Err q) a f k = let g : Trap 1 pc pc ≡ e = cc in rw (a, f) (ap Stops g)
    go true (Ok w) a f k = rw (a, f) (read_stops isa (at_pc x pc) w (decoded_as isa w) e k)

pub bad_stays : (isa : Isa) (x : Machine) (pc : ℕ) (e : End) → fetched isa x.hart.mem pc ≡ Bad e → after_step (step_at isa x pc) x ≡ x
bad_stays isa x pc e h = rw (bad_step isa x pc e h) refl

-- a plain class
plain_step : (c : Class) (i : Instr) (a b : ℕ) (m : Machine) → is_plain c ≡ true → stepped_as c i a b m ≡ stepped_as Add i a b m
plain_step MemoryClass i a b m e = absurd (cc)
plain_step Serial i a b m e = absurd (cc)
plain_step Free i a b m e = absurd (cc)
plain_step _ i a b m e = refl

-- units and sidings: the trap of Finish, or the value of Finish in the destination
pub plain_steps : (isa : Isa) (x : Machine) (pc : ℕ) (i : Instr) → fetched isa x.hart.mem pc ≡ Got i → is_plain (kind_of i) ≡ true →
    step_at isa x pc ≡ stepped_as Add i (value_read x.hart.regs (src1_of i)) (value_read x.hart.regs (src2_of i)) (at_pc x pc)
plain_steps isa x pc i e c =
    step_is isa x pc i e
    ∙ plain_step (kind_of i) i (value_read x.hart.regs (src1_of i)) (value_read x.hart.regs (src2_of i)) (at_pc x pc) c

write_other : (regs : List ℕ) (d : Option ℕ) (v r : ℕ) → d ≢ Some r → slice_index (value_written regs d v) r ≡ slice_index regs r
write_other regs None v r f = refl
write_other regs (Some q) v r f = get_or-set_other regs q r v 0 (λ e. f (ap Some (sym e)))

write_wide : (regs : List ℕ) (d : Option ℕ) (v : ℕ) → length (value_written regs d v) ≡ length regs
write_wide regs None v = refl
write_wide regs (Some r) v = length-set regs r v

-- a step leaves the number of registers, and each register but the destination
pub record Keeps (m n : Machine) (d : Option ℕ) : Type 0 where
  pub wide : length n.hart.regs ≡ length m.hart.regs
  pub other : (r : ℕ) → d ≢ Some r → slice_index n.hart.regs r ≡ slice_index m.hart.regs r

stay_keeps : (m : Machine) (d : Option ℕ) → Keeps m m d
stay_keeps m d = record { wide = refl; other = λ r e. refl }

write_keeps : (m n : Machine) (d : Option ℕ) (v : ℕ) → n.hart.regs ≡ value_written m.hart.regs d v → Keeps m n d
write_keeps m n d v e = record {
  wide = ap length e ∙ write_wide m.hart.regs d v;
  other = λ r f. ap (λ (l : List ℕ). slice_index l r) e ∙ write_other m.hart.regs d v r f;
}

on_keeps : (o : Option End) (n m : Machine) (d : Option ℕ) → Keeps m n d → Keeps m (after_step (on o (Goes n) Stops) m) d
on_keeps None n m d h = h
on_keeps (Some e) n m d h = stay_keeps m d

served_keeps : (c : Called) (d : Option ℕ) (m : Machine) → Keeps m (after_step (served c d m) m) d
served_keeps (called.Value a) d m = write_keeps m _ d a.value refl
served_keeps (called.Exit s) d m = stay_keeps m d

class_keeps : (c : Class) (i : Instr) (a b : ℕ) (m : Machine) → Keeps m (after_step (stepped_as c i a b m) m) (dst_of i)
class_keeps MemoryClass i a b m = on_keeps (access_trap i m.hart.pc a (bounds_of m.hart.mem)) _ m (dst_of i) (write_keeps m _ (dst_of i) _ refl)
class_keeps Serial i a b m = served_keeps (serve_of i m.hart.regs m.hart.mem m.rest) (dst_of i) m
class_keeps Free i a b m = on_keeps (free_trap i m.hart.pc) _ m (dst_of i) (record { wide = refl; other = λ r f. refl })
class_keeps _ i a b m = on_keeps (finish_trap i m.hart.pc a b) _ m (dst_of i) (write_keeps m _ (dst_of i) _ refl)

keeps_at : (s : StepResult) (x : Machine) (pc : ℕ) (d : Option ℕ) → Keeps (at_pc x pc) (after_step s (at_pc x pc)) d → Keeps x (after_step s x) d
keeps_at (Goes n) x pc d h = record { wide = h.wide; other = h.other }
keeps_at (Stops e) x pc d h = stay_keeps x d

pub step_keeps : (isa : Isa) (x : Machine) (pc : ℕ) (i : Instr) → fetched isa x.hart.mem pc ≡ Got i → Keeps x (after_step (step_at isa x pc) x) (dst_of i)
step_keeps isa x pc i e =
    keeps_at (step_at isa x pc) x pc (dst_of i)
    (rw (step_is isa x pc i e) (class_keeps (kind_of i) i (value_read x.hart.regs (src1_of i)) (value_read x.hart.regs (src2_of i)) (at_pc x pc)))

wide_by : (isa : Isa) (f : Fetched) (x : Machine) (pc : ℕ) → fetched isa x.hart.mem pc ≡ f →
    length (after_step (step_at isa x pc) x).hart.regs ≡ length x.hart.regs
wide_by isa (Got i) x pc e = (step_keeps isa x pc i e).wide
wide_by isa (Bad b) x pc e = rw (bad_stays isa x pc b e) refl

pub step_wide : (isa : Isa) (x : Machine) (pc : ℕ) → length (after_step (step_at isa x pc) x).hart.regs ≡ length x.hart.regs
step_wide isa x pc = wide_by isa (fetched isa x.hart.mem pc) x pc refl

not_reg : (o : Option Binding) (d : Option ℕ) (r : ℕ) → reg_in o ≡ d → has_reg o r ≡ false → d ≢ Some r
not_reg o d r e f g = grind (arith, nat_tests)

pub sure_keeps : (isa : Isa) (p : Passenger) (x : Machine) (g : Option ℕ) → IsSure isa p x (step_at isa x p.pc) g → (r : ℕ) → has_reg p.dst r ≡ false →
    slice_index (after_step (step_at isa x p.pc) x).hart.regs r ≡ slice_index x.hart.regs r
sure_keeps isa p x g h r f = go (fetched isa x.hart.mem p.pc) refl h.reads
  where
    go : (q : Fetched) → fetched isa x.hart.mem p.pc ≡ q → Holds p q → slice_index (after_step (step_at isa x p.pc) x).hart.regs r ≡ slice_index x.hart.regs r
    go (Got i) e k = (step_keeps isa x p.pc i e).other r (not_reg p.dst (dst_of i) r (h.shape i k).three f)
    go (Bad b) e k = rw (bad_stays isa x p.pc b e) refl

-- an ending that comes from a unit, or from the memory port, is a trap
pub finish_traps : (i : Instr) (pc a b : ℕ) (e : End) → finish_trap i pc a b ≡ Some e → is_trap (Some e) ≡ true
unfolding finish_trap
finish_traps i pc a b e h = grind arith

refused_traps : (pc : ℕ) (access : Access) (r : Result (Unit {0}) MemErr) (e : End) → refused pc access r ≡ Some e → is_trap (Some e) ≡ true
refused_traps pc access (Ok done) e h = absurd (cc)
refused_traps pc access (Err Misaligned) e h = grind arith
refused_traps pc access (Err NoAccess) e h = grind arith

pub access_traps : (i : Instr) (pc a : ℕ) (bs : List Bounds) (e : End) → access_trap i pc a bs ≡ Some e → is_trap (Some e) ≡ true
unfolding access_trap
access_traps i pc a bs e h = refused_traps pc (access_made i a 0) _ e h

pub kind_is : (p : Passenger) (i : Instr) → p.what ≡ Some i → kind p ≡ kind_of i
kind_is p i e = ap (λ (o : Option Instr). on o Free kind_of) e

pub word_is : (p : Passenger) (i : Instr) → p.what ≡ Some i → instruction p ≡ i
word_is p i e = ap (λ (o : Option Instr). on o Ebreak (λ j. j)) e

-- memory accesses keep the bounds and flags of the regions
pub bounds_after : (i : Instr) (a b : ℕ) (mem : Memory) → bounds_of (mem_after i a b mem) ≡ bounds_of mem
unfolding mem_after
bounds_after i a b mem = go (access_made i a b)
  where
    go : (access : Access) → bounds_of (if access.write then stored mem access.addr access.width access.value else mem) ≡ bounds_of mem
    go access = by access.write
      where
        by : (w : Bool) → bounds_of (if w then stored mem access.addr access.width access.value else mem) ≡ bounds_of mem
        by true = bounds-stored mem access.addr access.width access.value
        by false = refl

-- a call that answers leaves the bounds
answer_bounds : (mem : Memory) (rest : List ℕ) (value : ℕ) (a : called.CallAnswer) → called.answered_alone value mem rest ≡ called.Value a →
    bounds_of a.mem ≡ bounds_of mem
answer_bounds mem rest value a e =
    let g : record { value = value; mem = mem; rest = rest; output = [] } ≡ a = cc in
    ap (λ (z : called.CallAnswer). bounds_of z.mem) (sym g)

-- by the first test that holds
choice_bounds : (b : Bool) (mem : Memory) (u v : Called) (a : called.CallAnswer) → (u ≡ called.Value a → bounds_of a.mem ≡ bounds_of mem) →
    (v ≡ called.Value a → bounds_of a.mem ≡ bounds_of mem) → (if b then u else v) ≡ called.Value a → bounds_of a.mem ≡ bounds_of mem
choice_bounds true mem u v a f g e = f e
choice_bounds false mem u v a f g e = g e

read_bounds : (fd addr len : ℕ) (mem : Memory) (rest : List ℕ) (a : called.CallAnswer) → called.read fd addr len mem rest ≡ called.Value a →
    bounds_of a.mem ≡ bounds_of mem
unfolding called.read
read_bounds fd addr len mem rest a e =
    choice_bounds (not (fd == 0)) mem _ _ a (answer_bounds mem rest called.bad_file a)
    (choice_bounds (len == 0) mem _ _ a (answer_bounds mem rest 0 a)
    (choice_bounds (not (can_write mem addr len)) mem _ _ a (answer_bounds mem rest called.bad_address a) into)) e
  where
    into : called.read_into addr len mem rest ≡ called.Value a → bounds_of a.mem ≡ bounds_of mem
    into f =
        let count = min len (length rest) in
        let g : record { value = count; mem = memory_with mem addr len (take count rest); rest = drop count rest; output = [] } ≡ a = cc in
        ap (λ (z : called.CallAnswer). bounds_of z.mem) (sym g) ∙ bounds-memory_with mem addr len (take count rest)

write_bounds : (fd addr len : ℕ) (mem : Memory) (rest : List ℕ) (a : called.CallAnswer) → called.write fd addr len mem rest ≡ called.Value a →
    bounds_of a.mem ≡ bounds_of mem
unfolding called.write
write_bounds fd addr len mem rest a e =
    choice_bounds (not (called.is_output fd)) mem _ _ a (answer_bounds mem rest called.bad_file a)
    (choice_bounds (len == 0) mem _ _ a (answer_bounds mem rest 0 a) (from (range_of mem addr len))) e
  where
    from : (o : Option (List ℕ)) → called.write_from o len mem rest ≡ called.Value a → bounds_of a.mem ≡ bounds_of mem
    from None f = answer_bounds mem rest called.bad_address a f
    from (Some bytes) f =
        let g : record { value = len; mem = mem; rest = rest; output = bytes } ≡ a = cc in
        ap (λ (z : called.CallAnswer). bounds_of z.mem) (sym g)

brk_bounds : (addr : ℕ) (mem : Memory) (rest : List ℕ) (a : called.CallAnswer) → called.brk addr mem rest ≡ called.Value a → bounds_of a.mem ≡ bounds_of mem
unfolding called.with_break
brk_bounds addr mem rest a e = by (called.is_break addr) e
  where
    by : (b : Bool) → (let moved = if b then record mem { program_break = addr } else mem in called.answered_alone moved.program_break moved rest) ≡
        called.Value a →
        bounds_of a.mem ≡ bounds_of mem
    by true f = answer_bounds (record mem { program_break = addr }) rest addr a f ∙ bounds-break mem addr
    by false f = answer_bounds mem rest mem.program_break a f

-- the same of calls
pub call_bounds : (regs : List ℕ) (mem : Memory) (rest : List ℕ) (a : called.CallAnswer) → call regs mem rest ≡ called.Value a → bounds_of a.mem ≡ bounds_of mem
unfolding call
call_bounds regs mem rest a e =
    let x = called.first_argument regs in
    let y = called.second_argument regs in
    let z = called.third_argument regs in
    choice_bounds (called.call_number regs == 63) mem _ _ a (read_bounds x y z mem rest a)
    (choice_bounds (called.call_number regs == 64) mem _ _ a (write_bounds x y z mem rest a)
    (choice_bounds (called.is_exit (called.call_number regs)) mem _ _ a (λ f. absurd (cc))
    (choice_bounds (called.call_number regs == 214) mem _ _ a (brk_bounds x mem rest a) (answer_bounds mem rest called.no_such_call a)))) e

pub served_bounds : (i : Instr) (regs : List ℕ) (mem : Memory) (rest : List ℕ) (a : called.CallAnswer) → serve_of i regs mem rest ≡ called.Value a →
    bounds_of a.mem ≡ bounds_of mem
unfolding serve_of
served_bounds i regs mem rest a e = go (machine.synchronizes i) e
  where
    go : (b : Bool) → (if b then called.Value (record { value = 0; mem = synced mem; rest = rest; output = [] }) else call regs mem rest) ≡ called.Value a →
        bounds_of a.mem ≡ bounds_of mem
    go true f = let g : record { value = 0; mem = synced mem; rest = rest; output = [] } ≡ a = cc in
        ap (λ (z : called.CallAnswer). bounds_of z.mem) (sym g) ∙ bounds-synced mem
    go false f = call_bounds regs mem rest a f

-- from a region that was written the same code is fetched as before
text_kept : (addr : ℕ) (w : List ℕ) (a : Area) → area_text (area_with addr w a) ≡ area_text a
text_kept addr w a = rw (length-overwritten a.bytes (addr - a.base) w) refl

code_written : (m : Memory) (addr len : ℕ) (w : List ℕ) → code_of (memory_with m addr len w) ≡ code_of m
unfolding code_of memory_with
code_written m addr len w = map-first_changed area_text (writes_in addr len) (area_with addr w) (text_kept addr w) m.areas

code_stored : (m : Memory) (addr width n : ℕ) → code_of (stored m addr width n) ≡ code_of m
unfolding stored
code_stored m addr width n = go (is_aligned addr width)
  where
    go : (b : Bool) → code_of (if b then memory_with m addr width (le_bytes width n) else m) ≡ code_of m
    go true = code_written m addr width (le_bytes width n)
    go false = refl

-- memory accesses keep the code
pub code_after : (i : Instr) (a b : ℕ) (mem : Memory) → code_of (mem_after i a b mem) ≡ code_of mem
unfolding mem_after
code_after i a b mem = go (access_made i a b)
  where
    go : (access : Access) → code_of (if access.write then stored mem access.addr access.width access.value else mem) ≡ code_of mem
    go access = by access.write
      where
        by : (w : Bool) → code_of (if w then stored mem access.addr access.width access.value else mem) ≡ code_of mem
        by true = code_stored mem access.addr access.width access.value
        by false = refl

-- a step of another class than Serial leaves code, input and output
pub record Leaves (m n : Machine) : Type 0 where
  pub code : code_of n.hart.mem ≡ code_of m.hart.mem
  pub rest : n.rest ≡ m.rest
  pub out : n.output ≡ m.output

leaves_on : (o : Option End) (n m : Machine) → Leaves m n → Leaves m (after_step (on o (Goes n) Stops) m)
leaves_on None n m h = h
leaves_on (Some e) n m h = record { code = refl; rest = refl; out = refl }

class_leaves : (c : Class) (i : Instr) (a b : ℕ) (m : Machine) → is_serial c ≡ false → Leaves m (after_step (stepped_as c i a b m) m)
class_leaves MemoryClass i a b m e = leaves_on (access_trap i m.hart.pc a (bounds_of m.hart.mem)) _ m
    (record { code = code_after i a b m.hart.mem; rest = refl; out = refl })
class_leaves Serial i a b m e = absurd (cc)
class_leaves Free i a b m e = leaves_on (free_trap i m.hart.pc) _ m (record { code = refl; rest = refl; out = refl })
class_leaves _ i a b m e = leaves_on (finish_trap i m.hart.pc a b) _ m (record { code = refl; rest = refl; out = refl })

leaves_at : (s : StepResult) (x : Machine) (pc : ℕ) → Leaves (at_pc x pc) (after_step s (at_pc x pc)) → Leaves x (after_step s x)
leaves_at (Goes n) x pc h = record { code = h.code; rest = h.rest; out = h.out }
leaves_at (Stops e) x pc h = record { code = refl; rest = refl; out = refl }

pub sure_leaves : (isa : Isa) (p : Passenger) (x : Machine) (g : Option ℕ) → IsSure isa p x (step_at isa x p.pc) g → is_serial (kind p) ≡ false →
    Leaves x (after_step (step_at isa x p.pc) x)
sure_leaves isa p x g h c = go (fetched isa x.hart.mem p.pc) refl h.reads
  where
    go : (q : Fetched) → fetched isa x.hart.mem p.pc ≡ q → Holds p q → Leaves x (after_step (step_at isa x p.pc) x)
    go (Got i) e k = leaves_at (step_at isa x p.pc) x p.pc (rw (step_is isa x p.pc i e) (class_leaves (kind_of i) i (value_read x.hart.regs (src1_of i))
        (value_read x.hart.regs (src2_of i)) (at_pc x p.pc) (rw (kind_is p i k) at c)))
    go (Bad b) e k = rw (bad_stays isa x p.pc b e) (record { code = refl; rest = refl; out = refl })

-- no step changes bounds and flags
bounds_on : (o : Option End) (n m : Machine) → bounds_of n.hart.mem ≡ bounds_of m.hart.mem →
    bounds_of (after_step (on o (Goes n) Stops) m).hart.mem ≡ bounds_of m.hart.mem
bounds_on None n m h = h
bounds_on (Some e) n m h = refl

bounds_served : (i : Instr) (c : Called) (m : Machine) → serve_of i m.hart.regs m.hart.mem m.rest ≡ c →
    bounds_of (after_step (served c (dst_of i) m) m).hart.mem ≡ bounds_of m.hart.mem
bounds_served i (called.Value a) m e = served_bounds i m.hart.regs m.hart.mem m.rest a e
bounds_served i (called.Exit s) m e = refl

class_bounds : (c : Class) (i : Instr) (a b : ℕ) (m : Machine) → bounds_of (after_step (stepped_as c i a b m) m).hart.mem ≡ bounds_of m.hart.mem
class_bounds MemoryClass i a b m = bounds_on (access_trap i m.hart.pc a (bounds_of m.hart.mem)) _ m (bounds_after i a b m.hart.mem)
class_bounds Serial i a b m = bounds_served i (serve_of i m.hart.regs m.hart.mem m.rest) m refl
class_bounds Free i a b m = bounds_on (free_trap i m.hart.pc) _ m refl
class_bounds _ i a b m = bounds_on (finish_trap i m.hart.pc a b) _ m refl

bounds_at : (s : StepResult) (x : Machine) (pc : ℕ) → bounds_of (after_step s (at_pc x pc)).hart.mem ≡ bounds_of x.hart.mem →
    bounds_of (after_step s x).hart.mem ≡ bounds_of x.hart.mem
bounds_at (Goes n) x pc h = h
bounds_at (Stops e) x pc h = refl

pub step_bounds : (isa : Isa) (x : Machine) (pc : ℕ) → bounds_of (after_step (step_at isa x pc) x).hart.mem ≡ bounds_of x.hart.mem
step_bounds isa x pc = go (fetched isa x.hart.mem pc) refl
  where
    go : (q : Fetched) → fetched isa x.hart.mem pc ≡ q → bounds_of (after_step (step_at isa x pc) x).hart.mem ≡ bounds_of x.hart.mem
    go (Got i) e = bounds_at (step_at isa x pc) x pc (rw (step_is isa x pc i e) (class_bounds (kind_of i) i (value_read x.hart.regs (src1_of i))
        (value_read x.hart.regs (src2_of i)) (at_pc x pc)))
    go (Bad b) e = rw (bad_stays isa x pc b e) refl

-- a step that goes on writes only the destination
writes_on : (o : Option End) (k m : Machine) (d : Option ℕ) (n : Machine) → on o (Goes k) Stops ≡ Goes n →
    (v : ℕ) × (k.hart.regs ≡ value_written m.hart.regs d v) → (v : ℕ) × (n.hart.regs ≡ value_written m.hart.regs d v)
writes_on None k m d n e h = let q : k ≡ n = cc in rw (← q) h
writes_on (Some b) k m d n e h = absurd (cc)

writes_served : (c : Called) (d : Option ℕ) (m n : Machine) → served c d m ≡ Goes n → (v : ℕ) × (n.hart.regs ≡ value_written m.hart.regs d v)
writes_served (called.Value a) d m n e = writes_on None _ m d n e (a.value, refl)
writes_served (called.Exit s) d m n e = absurd (cc)

class_writes : (c : Class) (i : Instr) (a b : ℕ) (m n : Machine) → kind_of i ≡ c → stepped_as c i a b m ≡ Goes n →
    (v : ℕ) × (n.hart.regs ≡ value_written m.hart.regs (dst_of i) v)
class_writes MemoryClass i a b m n c e = writes_on (access_trap i m.hart.pc a (bounds_of m.hart.mem)) _ m (dst_of i) n e (_, refl)
class_writes Serial i a b m n c e = writes_served (serve_of i m.hart.regs m.hart.mem m.rest) (dst_of i) m n e
class_writes Free i a b m n c e = writes_on (free_trap i m.hart.pc) _ m (dst_of i) n e (0, rw (free_bare i c).2 refl)
class_writes _ i a b m n c e = writes_on (finish_trap i m.hart.pc a b) _ m (dst_of i) n e (_, refl)

pub step_writes : (isa : Isa) (x : Machine) (pc : ℕ) (i : Instr) (n : Machine) → fetched isa x.hart.mem pc ≡ Got i → step_at isa x pc ≡ Goes n →
    (v : ℕ) × (n.hart.regs ≡ value_written x.hart.regs (dst_of i) v)
step_writes isa x pc i n f e = class_writes (kind_of i) i (value_read x.hart.regs (src1_of i)) (value_read x.hart.regs (src2_of i)) (at_pc x pc) n refl
    (sym (step_is isa x pc i f) ∙ e)

-- the destination of a sure instruction is one of the 32 registers
pub sure_dst_below : (isa : Isa) (p : Passenger) (x : Machine) (s : StepResult) (g : Option ℕ) (i : Instr) → p.what ≡ Some i → IsSure isa p x s g → (r : ℕ) →
    dst_of i ≡ Some r → r < 32
sure_dst_below isa p x s g i w h = go (fetched isa x.hart.mem p.pc) refl h.reads
  where
    go : (q : Fetched) → fetched isa x.hart.mem p.pc ≡ q → Holds p q → (r : ℕ) → dst_of i ≡ Some r → r < 32
    go (Got j) e k = let y : j ≡ i = cc in dst_below isa x.hart.mem p.pc i (e ∙ ap Got y)
    go (Bad b) e k = absurd (let y = k.0 in cc)
