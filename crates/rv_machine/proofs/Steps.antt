-- A flat operation is a step of the machine that needs no stream, and several of them are the same number of steps.
use Rattle.std.proofs.Common.{◌≡◌, ◌≢◌, ◌∙◌, ℕ, zero, suc, ◌+◌, ◌*◌, ◌-◌, ◌≤◌, ◌%◌, ◌==◌, List, [], Bool, true, false, Option, Some, None, Result, Ok, Err, IsTrue, if◌then◌else◌, refl, ap, sym, subst, arith}
use Rattle.std.specs.Prelude.{IfSome, ℤ}
use Rattle.mem_regions.specs.Memory.{Memory}
use Rattle.mem_regions.specs.Fetching.{fetch_at}
use Rattle.mem_regions.specs.Writing.{stored}
use Rattle.mem_regions.specs.declared.MemErr.{MemErr}
use Rattle.mem_regions.specs.declared.MemErr.TheVariants.{Misaligned, NoAccess}
use Rattle.rv_inst.specs.declared.isa.Isa.{Isa}
use Rattle.rv_inst.specs.declared.instruction.Instr.{Instr}
use Rattle.rv_inst.specs.declared.instruction.Instr.TheVariants.{Lui, Auipc, Jal, Jalr, Branch, Load, Store, OpImm, Op, Fence, Ecall, Ebreak, FenceI, Mul}
use Rattle.rv_inst.specs.Words.{word_sum}
use Rattle.rv_inst.specs.Ranges.{Fits}
use Rattle.rv_inst.specs.Decoding.{decoded_as}
use Rattle.rv_inst.specs.Operands.{class_of, register_op}
use Rattle.rv_inst.specs.Arithmetic.{next_pc}
use Rattle.rv_inst.specs.Accesses.{access_made}
use Rattle.rv_inst.specs.declared.accesses.Access.{Access}
use Rattle.rv_machine.specs.declared.flat.FlatOp.{FlatOp}
use Rattle.rv_machine.specs.declared.flat.FlatOp.TheVariants as op
use Rattle.rv_machine.specs.declared.flat.Flat.{Flat}
use Rattle.rv_machine.specs.declared.flat_acting.Spot.{Spot}
use Rattle.rv_machine.specs.declared.flat_acting.Continuation.{Continuation}
use Rattle.rv_machine.specs.declared.flat_acting.Continuation.TheVariants.{On, To, Stop}
use Rattle.rv_machine.specs.Hart.{Hart}
use Rattle.rv_machine.specs.Outcome.{Next}
use Rattle.rv_machine.specs.Step.{with_register, first_value, second_value, retire, compute, loads, stores, access_memory, beside, execute, step_on}
use Rattle.rv_machine.specs.Decoded.{found_at, in_set}
use Rattle.rv_machine.specs.Flat.{instr_with, instr_of, IsAt}
use Rattle.rv_machine.specs.Quick.{uses_memory, is_flat, computed_alone, hart_after, hart_of, LeadsOnTo, ContinuesAs, GoesOnward, IsCarriedOut, spot_address, RetiresAlone, RetireAlone}
use Rattle.rv_machine.specs.declared.outcome.Stepped.TheVariants as stepped
use Rattle.rv_machine.specs.Streams.{Streams}
use Rattle.rv_machine.specs.Acts.{Steps}
use Rattle.rv_machine.proofs.Acting.{acts-alone, executed}
use Rattle.rv_machine.proofs.Classes.{op-computes}
use Rattle.rv_machine.proofs.Finding.{read_from-instruction}
use Rattle.rv_machine.proofs.Sets.{set-read, set-fits}

-- a known operation represents an instruction that has one
flat-is : (o : FlatOp) (rd rs1 rs2 : ℕ) (n : ℤ) → IfSome (instr_with o rd rs1 rs2 n) (λ i. IsTrue (is_flat i))
flat-is op.Slow rd rs1 rs2 n = tt
flat-is op.Nop rd rs1 rs2 n = refl
flat-is op.Lui rd rs1 rs2 n = refl
flat-is op.Auipc rd rs1 rs2 n = refl
flat-is op.Jal rd rs1 rs2 n = refl
flat-is op.Jalr rd rs1 rs2 n = refl
flat-is op.Beq rd rs1 rs2 n = refl
flat-is op.Bne rd rs1 rs2 n = refl
flat-is op.Blt rd rs1 rs2 n = refl
flat-is op.Bge rd rs1 rs2 n = refl
flat-is op.Bltu rd rs1 rs2 n = refl
flat-is op.Bgeu rd rs1 rs2 n = refl
flat-is op.Lb rd rs1 rs2 n = refl
flat-is op.Lh rd rs1 rs2 n = refl
flat-is op.Lw rd rs1 rs2 n = refl
flat-is op.Lbu rd rs1 rs2 n = refl
flat-is op.Lhu rd rs1 rs2 n = refl
flat-is op.Sb rd rs1 rs2 n = refl
flat-is op.Sh rd rs1 rs2 n = refl
flat-is op.Sw rd rs1 rs2 n = refl
flat-is op.Addi rd rs1 rs2 n = refl
flat-is op.Slti rd rs1 rs2 n = refl
flat-is op.Sltiu rd rs1 rs2 n = refl
flat-is op.Xori rd rs1 rs2 n = refl
flat-is op.Ori rd rs1 rs2 n = refl
flat-is op.Andi rd rs1 rs2 n = refl
flat-is op.Slli rd rs1 rs2 n = refl
flat-is op.Srli rd rs1 rs2 n = refl
flat-is op.Srai rd rs1 rs2 n = refl
flat-is op.Add rd rs1 rs2 n = refl
flat-is op.Sub rd rs1 rs2 n = refl
flat-is op.Sll rd rs1 rs2 n = refl
flat-is op.Slt rd rs1 rs2 n = refl
flat-is op.Sltu rd rs1 rs2 n = refl
flat-is op.Xor rd rs1 rs2 n = refl
flat-is op.Srl rd rs1 rs2 n = refl
flat-is op.Sra rd rs1 rs2 n = refl
flat-is op.Or rd rs1 rs2 n = refl
flat-is op.And rd rs1 rs2 n = refl

-- such an instruction is in both sets
flat-base : (i : Instr) (isa : Isa) → IsTrue (is_flat i) → in_set isa i ≡ Some i
unfolding in_set
flat-base (Lui rd imm) isa h = refl
flat-base (Auipc rd imm) isa h = refl
flat-base (Jal rd imm) isa h = refl
flat-base (Jalr rd rs1 imm) isa h = refl
flat-base (Branch c rs1 rs2 imm) isa h = refl
flat-base (Load k rd rs1 imm) isa h = refl
flat-base (Store k rs1 rs2 imm) isa h = refl
flat-base (OpImm op rd rs1 imm) isa h = refl
flat-base (Op op rd rs1 rs2) isa h = refl
flat-base (Fence rd rs1 imm) isa h = absurd (cc)
flat-base Ecall isa h = absurd (cc)
flat-base Ebreak isa h = absurd (cc)
flat-base (FenceI rd rs1 imm) isa h = absurd (cc)
flat-base (Mul op rd rs1 rs2) isa h = absurd (cc)

-- its effect is that of the instruction without streams
flat-executes : (i : Instr) (h : Hart) (rest : List ℕ) (word : ℕ) → IsTrue (is_flat i) →
    execute (class_of i) h rest word i ≡ beside rest [] (computed_alone h word i)
unfolding execute
flat-executes (Lui rd imm) h rest word f = refl
flat-executes (Auipc rd imm) h rest word f = refl
flat-executes (Jal rd imm) h rest word f = refl
flat-executes (Jalr rd rs1 imm) h rest word f = refl
flat-executes (Branch c rs1 rs2 imm) h rest word f = refl
flat-executes (Load k rd rs1 imm) h rest word f = refl
flat-executes (Store k rs1 rs2 imm) h rest word f = refl
flat-executes (OpImm op rd rs1 imm) h rest word f = executed _ h word (OpImm op rd rs1 imm) (op-computes (register_op op)) rest
flat-executes (Op op rd rs1 rs2) h rest word f = executed _ h word (Op op rd rs1 rs2) (op-computes op) rest
flat-executes (Fence rd rs1 imm) h rest word f = absurd (cc)
flat-executes Ecall h rest word f = absurd (cc)
flat-executes Ebreak h rest word f = absurd (cc)
flat-executes (FenceI rd rs1 imm) h rest word f = absurd (cc)
flat-executes (Mul op rd rs1 rs2) h rest word f = absurd (cc)

-- an instruction that retires in a hart in which nothing has retired retires in the same way if more has retired
abbrev hart_with : ℕ → List ℕ → Memory → ℕ → Hart
hart_with pc regs mem n = record { pc = pc; regs = regs; mem = mem; retired = n }

retire-more : (pc next other r v word n : ℕ) (regs later : List ℕ) (mem new : Memory) →
    hart_after (retire (hart_of pc regs mem) 0 next r v) ≡ Some (hart_with other later new 1) →
    ContinuesAs (retire (hart_with pc regs mem n) word next r v) (hart_with other later new (n + 1))
unfolding retire
retire-more pc next other r v word n regs later mem new e =
    let at : next ≡ other = grind arith in
    let regs_are : with_register regs r v ≡ later = grind arith in
    let mem_is : mem ≡ new = grind arith in (
      record { pc = pc; word = word; reg = r; value = if r == 0 then 0 else v },
      rw (at, regs_are, mem_is) refl,
    )

compute-by : (i : Instr) (pc other word n : ℕ) (regs later : List ℕ) (mem new : Memory) (b : Bool) →
    (next_pc i pc (first_value (hart_of pc regs mem) i) (second_value (hart_of pc regs mem) i) % 4 == 0) ≡ b →
    hart_after (compute (hart_of pc regs mem) 0 i) ≡ Some (hart_with other later new 1) →
    ContinuesAs (compute (hart_with pc regs mem n) word i) (hart_with other later new (n + 1))
unfolding compute
compute-by i pc other word n regs later mem new true t e =
    rw t (retire-more pc _ other _ _ word n regs later mem new (rw t at e))
compute-by i pc other word n regs later mem new false t e = absurd (let f = rw t at e in grind arith)

loads-by : (i : Instr) (pc addr other word n : ℕ) (regs later : List ℕ) (mem new : Memory) (r : Result ℕ MemErr) →
    hart_after (loads (hart_of pc regs mem) 0 i addr r) ≡ Some (hart_with other later new 1) →
    ContinuesAs (loads (hart_with pc regs mem n) word i addr r) (hart_with other later new (n + 1))
loads-by i pc addr other word n regs later mem new (Ok raw) e = retire-more pc _ other _ _ word n regs later mem new e
loads-by i pc addr other word n regs later mem new (Err Misaligned) e = absurd (grind arith)
loads-by i pc addr other word n regs later mem new (Err NoAccess) e = absurd (grind arith)

stores-by : (access : Access) (pc other word n : ℕ) (regs later : List ℕ) (mem new : Memory) (r : Result (Unit {0}) MemErr) →
    hart_after (stores (hart_of pc regs mem) 0 access r) ≡ Some (hart_with other later new 1) →
    ContinuesAs (stores (hart_with pc regs mem n) word access r) (hart_with other later new (n + 1))
stores-by access pc other word n regs later mem new (Ok done) e =
    retire-more pc _ other _ _ word n regs later (stored mem access.addr access.width access.value) new e
stores-by access pc other word n regs later mem new (Err Misaligned) e = absurd (grind arith)
stores-by access pc other word n regs later mem new (Err NoAccess) e = absurd (grind arith)

access-by : (i : Instr) (pc other word n : ℕ) (regs later : List ℕ) (mem new : Memory) (b : Bool) →
    (access_made i (first_value (hart_of pc regs mem) i) (second_value (hart_of pc regs mem) i)).write ≡ b →
    hart_after (access_memory (hart_of pc regs mem) 0 i) ≡ Some (hart_with other later new 1) →
    ContinuesAs (access_memory (hart_with pc regs mem n) word i) (hart_with other later new (n + 1))
unfolding access_memory
access-by i pc other word n regs later mem new true t e =
    rw t (stores-by (access_made i (first_value (hart_of pc regs mem) i) (second_value (hart_of pc regs mem) i)) pc other word n regs later mem new _
    (rw t at e))
access-by i pc other word n regs later mem new false t e =
    rw t (loads-by i pc (access_made i (first_value (hart_of pc regs mem) i) (second_value (hart_of pc regs mem) i)).addr other word n regs later mem new _
    (rw t at e))

alone-by : (i : Instr) (pc other word n : ℕ) (regs later : List ℕ) (mem new : Memory) (b : Bool) → uses_memory i ≡ b →
    hart_after (computed_alone (hart_of pc regs mem) 0 i) ≡ Some (hart_with other later new 1) →
    ContinuesAs (computed_alone (hart_with pc regs mem n) word i) (hart_with other later new (n + 1))
alone-by i pc other word n regs later mem new true t e =
    rw t (access-by i pc other word n regs later mem new _ refl (rw t at e))
alone-by i pc other word n regs later mem new false t e =
    rw t (compute-by i pc other word n regs later mem new _ refl (rw t at e))

-- the fields of an instruction that memory has are in range
pub at-fits : (mem : Memory) (pc : ℕ) (o : Option Instr) → IfSome o (IsAt mem pc) → IfSome o Fits
unfolding found_at
at-fits mem pc None h = tt
at-fits mem pc (Some i) h =
    let read = read_from-instruction (fetch_at mem pc) h.word i h.is in set-fits h.word i read.1

-- an instruction that memory has, and that goes on, is a step
retires-by : (mem new : Memory) (pc next n : ℕ) (regs later : List ℕ) (i : Instr) → IsTrue (is_flat i) → IsAt mem pc i →
    pc % 4 ≡ 0 → LeadsOnTo (computed_alone (hart_of pc regs mem) 0 i) next later new →
    RetiresAlone (hart_with pc regs mem n) (hart_with next later new (n + 1))
unfolding LeadsOnTo found_at step_on
retires-by mem new pc next n regs later i flat h aligned goes =
    let read = read_from-instruction (fetch_at mem pc) h.word i h.is in
    let reaches = alone-by i pc next h.word n regs later mem new (uses_memory i) refl goes in
    let test : (pc % 4 == 0) ≡ true = ap (λ (k : ℕ). k == 0) aligned in
    record {
      line = reaches.0;
      is = λ isa rest.
          let known : decoded_as isa h.word ≡ Some i = sym (set-read isa h.word i read.1) ∙ flat-base i isa flat in
          rw (test, read.0, known) (flat-executes i (hart_with pc regs mem n) rest h.word flat ∙ ap (beside rest []) reaches.1);
    }

-- the address to which a continuation leads from a spot
abbrev pub turned : Continuation → Spot → ℕ
turned On spot = word_sum (spot_address spot) 4
turned (To index) spot = word_sum spot.base (index * 4)
turned Stop spot = spot_address spot

turns-by : (mem new : Memory) (spot : Spot) (n : ℕ) (regs later : List ℕ) (turn : Continuation) (i : Instr) → IsTrue (is_flat i) →
    IsAt mem (spot_address spot) i → spot_address spot % 4 ≡ 0 → turn ≢ Stop →
    GoesOnward turn (computed_alone (hart_of (spot_address spot) regs mem) 0 i) spot later new →
    RetiresAlone (hart_with (spot_address spot) regs mem n) (hart_with (turned turn spot) later new (n + 1))
turns-by mem new spot n regs later On i flat h aligned other goes = retires-by mem new _ _ n regs later i flat h aligned goes
turns-by mem new spot n regs later (To index) i flat h aligned other goes = retires-by mem new _ _ n regs later i flat h aligned goes
turns-by mem new spot n regs later Stop i flat h aligned other goes = absurd (other refl)

passes-by : (mem new : Memory) (spot : Spot) (n : ℕ) (regs later : List ℕ) (turn : Continuation) (o : Option Instr) → IfSome o (λ i. IsTrue (is_flat i)) →
    IfSome o (IsAt mem (spot_address spot)) → spot_address spot % 4 ≡ 0 → turn ≢ Stop →
    IsCarriedOut turn o (hart_of (spot_address spot) regs mem) spot later new →
    RetiresAlone (hart_with (spot_address spot) regs mem n) (hart_with (turned turn spot) later new (n + 1))
passes-by mem new spot n regs later turn None flat h aligned other goes = absurd (other goes)
passes-by mem new spot n regs later turn (Some i) flat h aligned other goes = turns-by mem new spot n regs later turn i flat h aligned other goes

-- an operation that passes is a step
pub retires-alone : (mem new : Memory) (spot : Spot) (n : ℕ) (regs later : List ℕ) (turn : Continuation) (f : Flat) →
    IfSome (instr_of f) (IsAt mem (spot_address spot)) → spot_address spot % 4 ≡ 0 → turn ≢ Stop →
    IsCarriedOut turn (instr_of f) (hart_of (spot_address spot) regs mem) spot later new →
    RetiresAlone (record { pc = spot_address spot; regs = regs; mem = mem; retired = n })
    (record { pc = turned turn spot; regs = later; mem = new; retired = n + 1 })
retires-alone mem new spot n regs later turn f h aligned other passes =
    passes-by mem new spot n regs later turn (instr_of f) (flat-is f.op f.rd f.rs1 f.rs2 f.imm) h aligned other passes

-- such a step leaves the streams as they are
pub steps-alone : (isa : Isa) (old new : Hart) (s : Streams) (r : RetiresAlone old new) → Steps isa old new s s (stepped.Next r.line)
steps-alone isa old new s r = acts-alone _ _ (Next new r.line) old new s (stepped.Next r.line) (r.is isa) (refl, refl)

-- no step
pub retire-none : (h : Hart) (n : ℕ) → RetireAlone h (n - n) h
unfolding RetireAlone
retire-none h n = let e : n - n ≡ 0 = omega arith in rw e refl

-- one more step
pub retire-next : (old between new : Hart) (n m : ℕ) → m ≤ n → RetireAlone old (n - m) between → RetiresAlone between new →
    RetireAlone old (n + 1 - m) new
unfolding RetireAlone
retire-next old between new n m le h step = let e : n + 1 - m ≡ suc (n - m) = omega (arith, le) in rw e (between, h, step)

-- some steps, and then more
retire-on : (a b c : Hart) (n m : ℕ) → RetireAlone a n b → RetireAlone b m c → RetireAlone a (m + n) c
unfolding RetireAlone
retire-on a b c n zero h e = let none : zero + n ≡ n = omega arith in rw none (subst (RetireAlone a n) (sym e) h)
retire-on a b c n (suc m) h (between, before, step) =
    let more : suc m + n ≡ suc (m + n) = omega arith in rw more (between, retire-on a b between n m h before, step)

pub retire-again : (a b c : Hart) (k n m : ℕ) → k ≤ n → n ≤ m → RetireAlone a (n - k) b → RetireAlone b (m - n) c → RetireAlone a (m - k) c
retire-again a b c k n m le more h g =
    let e : m - k ≡ (m - n) + (n - k) = omega (arith, le, more) in rw e (retire-on a b c (n - k) (m - n) h g)

pub ruleset standing = (retire-none)
