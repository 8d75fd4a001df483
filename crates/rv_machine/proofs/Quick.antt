-- Instructions that need no stream: where the program continues, and that they leave the code as it is.
use Rattle.std.proofs.Common.{◌≡◌, ℕ, ◌*◌, ◌/◌, ◌%◌, ◌^◌, ◌<◌, ◌==◌, List, Ok, true, false, ℤ, IsTrue, refl, ap, subst, arith}
use Rattle.mem_regions.specs.Ranges.{load_at}
use Rattle.mem_regions.specs.Memory.{Memory}
use Rattle.mem_regions.specs.Writing.{stored}
use Rattle.mem_regions.proofs.Kept.{fetch_at-stored}
use Rattle.rv_inst.specs.declared.instruction.Instr.{Instr}
use Rattle.rv_inst.specs.declared.instruction.Instr.TheVariants.{Lui, Auipc, Jal, Jalr, Branch, Load, Store, OpImm, Op, Fence, Ecall, Ebreak, FenceI, Mul}
use Rattle.rv_inst.specs.Words.{word_sum, word_difference, signed_word}
use Rattle.rv_inst.specs.declared.instruction.Cond.{Cond}
use Rattle.rv_inst.specs.Arithmetic.{next_pc, is_taken}
use Rattle.rv_inst.specs.declared.accesses.Access.{Access}
use Rattle.rv_inst.specs.Accesses.{access_made, is_load, extended}
use Rattle.rv_inst.specs.Operands.{dest_of, sources_of}
use Rattle.rv_mul.specs.Values.{value_of}
use Rattle.rv_machine.specs.Step.{with_register, register_value, retire, compute, access_memory}
use Rattle.rv_machine.specs.Quick.{goes_straight, is_store, hart_of, LeadsOnTo, HasSameCode}

-- after an instruction that is neither a jump nor a branch the program continues at the next word
pub straight-next : (i : Instr) (pc a b : ℕ) → IsTrue (goes_straight i) → next_pc i pc a b ≡ word_sum pc 4
unfolding next_pc
straight-next (Lui rd imm) pc a b h = refl
straight-next (Auipc rd imm) pc a b h = refl
straight-next (Jal rd imm) pc a b h = absurd (cc)
straight-next (Jalr rd rs1 imm) pc a b h = absurd (cc)
straight-next (Branch c rs1 rs2 imm) pc a b h = absurd (cc)
straight-next (Load k rd rs1 imm) pc a b h = refl
straight-next (Store k rs1 rs2 imm) pc a b h = refl
straight-next (OpImm op rd rs1 imm) pc a b h = refl
straight-next (Op op rd rs1 rs2) pc a b h = refl
straight-next (Fence rd rs1 imm) pc a b h = refl
straight-next Ecall pc a b h = refl
straight-next Ebreak pc a b h = refl
straight-next (FenceI rd rs1 imm) pc a b h = refl
straight-next (Mul op rd rs1 rs2) pc a b h = refl

-- the next word is aligned if this one is
pub straight-aligned : (pc : ℕ) → pc % 4 ≡ 0 → word_sum pc 4 % 4 ≡ 0
straight-aligned pc h = omega (arith, h)

-- so after an instruction that computes it continues there, and its destination has the value
pub compute-straight : (i : Instr) (pc : ℕ) (regs : List ℕ) (mem : Memory) → IsTrue (goes_straight i) → pc % 4 ≡ 0 →
    LeadsOnTo (compute (hart_of pc regs mem) 0 i) (word_sum pc 4)
    (with_register regs (dest_of i) (value_of i pc (register_value regs (sources_of i).0) (register_value regs (sources_of i).1))) mem
unfolding LeadsOnTo compute retire
compute-straight i pc regs mem h aligned =
    let next : next_pc i pc (register_value regs (sources_of i).0) (register_value regs (sources_of i).1) ≡ word_sum pc 4 =
    straight-next i pc _ _ h in
    let test : (word_sum pc 4 % 4 == 0) ≡ true = ap (λ (n : ℕ). n == 0) (straight-aligned pc aligned) in
    rw (next, test) refl

-- an instruction without a destination changes no register
pub compute-nothing : (i : Instr) (pc : ℕ) (regs : List ℕ) (mem : Memory) → IsTrue (goes_straight i) → dest_of i ≡ 0 → pc % 4 ≡ 0 →
    LeadsOnTo (compute (hart_of pc regs mem) 0 i) (word_sum pc 4) regs mem
compute-nothing i pc regs mem h none aligned =
    let P : ℕ → Type 0 = λ r. LeadsOnTo (compute (hart_of pc regs mem) 0 i) (word_sum pc 4)
    (with_register regs r (value_of i pc (register_value regs (sources_of i).0) (register_value regs (sources_of i).1))) mem in
    subst P none (compute-straight i pc regs mem h aligned)

pub ruleset straight = (compute-straight, compute-nothing)

-- after a branch that is not taken the program continues at the next word
pub branch-on : (c : Cond) (rs1 rs2 : ℕ) (imm : ℤ) (pc : ℕ) (regs : List ℕ) (mem : Memory) →
    is_taken c (register_value regs rs1) (register_value regs rs2) ≡ false → pc % 4 ≡ 0 →
    LeadsOnTo (compute (hart_of pc regs mem) 0 (Branch c rs1 rs2 imm)) (word_sum pc 4) regs mem
unfolding LeadsOnTo compute retire next_pc
branch-on c rs1 rs2 imm pc regs mem taken aligned =
    let test : (word_sum pc 4 % 4 == 0) ≡ true = ap (λ (n : ℕ). n == 0) (straight-aligned pc aligned) in
    rw (taken, test) refl

-- after one that is taken it continues at its target
pub target-aligned : (pc distance : ℕ) → pc % 4 ≡ 0 → distance % 4 ≡ 0 → word_sum pc distance % 4 ≡ 0
target-aligned pc distance a d = omega (arith, a, d)

pub branch-to : (c : Cond) (rs1 rs2 : ℕ) (imm : ℤ) (pc : ℕ) (regs : List ℕ) (mem : Memory) →
    is_taken c (register_value regs rs1) (register_value regs rs2) ≡ true → pc % 4 ≡ 0 → signed_word imm % 4 ≡ 0 →
    LeadsOnTo (compute (hart_of pc regs mem) 0 (Branch c rs1 rs2 imm)) (word_sum pc (signed_word imm)) regs mem
unfolding LeadsOnTo compute retire next_pc
branch-to c rs1 rs2 imm pc regs mem taken aligned distance =
    let test : (word_sum pc (signed_word imm) % 4 == 0) ≡ true = ap (λ (n : ℕ). n == 0) (target-aligned pc (signed_word imm) aligned distance) in
    rw (taken, test) refl

pub ruleset branching = (branch-on, branch-to, target-aligned)

-- a load writes no memory
pub load-reads : (i : Instr) (a b : ℕ) → IsTrue (is_load i) → (access_made i a b).write ≡ false
unfolding access_made
load-reads (Lui rd imm) a b h = absurd (cc)
load-reads (Auipc rd imm) a b h = absurd (cc)
load-reads (Jal rd imm) a b h = absurd (cc)
load-reads (Jalr rd rs1 imm) a b h = absurd (cc)
load-reads (Branch c rs1 rs2 imm) a b h = absurd (cc)
load-reads (Load k rd rs1 imm) a b h = refl
load-reads (Store k rs1 rs2 imm) a b h = absurd (cc)
load-reads (OpImm op rd rs1 imm) a b h = absurd (cc)
load-reads (Op op rd rs1 rs2) a b h = absurd (cc)
load-reads (Fence rd rs1 imm) a b h = absurd (cc)
load-reads Ecall a b h = absurd (cc)
load-reads Ebreak a b h = absurd (cc)
load-reads (FenceI rd rs1 imm) a b h = absurd (cc)
load-reads (Mul op rd rs1 rs2) a b h = absurd (cc)

-- after a load the program continues at the next word, and its destination has the extended number
pub load-goes : (i : Instr) (pc raw : ℕ) (regs : List ℕ) (mem : Memory) (access : Access) → IsTrue (is_load i) →
    access ≡ access_made i (register_value regs (sources_of i).0) (register_value regs (sources_of i).1) →
    load_at mem access.addr access.width ≡ Ok raw →
    LeadsOnTo (access_memory (hart_of pc regs mem) 0 i) (word_sum pc 4) (with_register regs (dest_of i) (extended i raw)) mem
unfolding LeadsOnTo access_memory retire
load-goes i pc raw regs mem access h made found =
    let reads : (access_made i (register_value regs (sources_of i).0) (register_value regs (sources_of i).1)).write ≡ false =
    load-reads i _ _ h in
    rw (reads, rw made at found) refl

pub ruleset loading = (load-goes)

-- a store writes it
pub store-writes : (i : Instr) (a b : ℕ) → IsTrue (is_store i) → (access_made i a b).write ≡ true
unfolding access_made
store-writes (Lui rd imm) a b h = absurd (cc)
store-writes (Auipc rd imm) a b h = absurd (cc)
store-writes (Jal rd imm) a b h = absurd (cc)
store-writes (Jalr rd rs1 imm) a b h = absurd (cc)
store-writes (Branch c rs1 rs2 imm) a b h = absurd (cc)
store-writes (Load k rd rs1 imm) a b h = absurd (cc)
store-writes (Store k rs1 rs2 imm) a b h = refl
store-writes (OpImm op rd rs1 imm) a b h = absurd (cc)
store-writes (Op op rd rs1 rs2) a b h = absurd (cc)
store-writes (Fence rd rs1 imm) a b h = absurd (cc)
store-writes Ecall a b h = absurd (cc)
store-writes Ebreak a b h = absurd (cc)
store-writes (FenceI rd rs1 imm) a b h = absurd (cc)
store-writes (Mul op rd rs1 rs2) a b h = absurd (cc)

-- a store does not change the code that is fetched
pub store-same : (m : Memory) (addr width number : ℕ) → HasSameCode m (stored m addr width number)
unfolding HasSameCode
store-same m addr width number = fetch_at-stored m addr width number

pub same-code : (m : Memory) → HasSameCode m m
unfolding HasSameCode
same-code m pc = refl

pub ruleset storing = (store-writes, store-same, same-code)

-- the address of an index, and the index of an address
pub address-wraps : (base at : ℕ) → word_sum base (at * 4 % 2 ^ 32) ≡ word_sum base (at * 4)
address-wraps base at = omega arith

pub index-is : (base pc : ℕ) → base < 2 ^ 32 → pc < 2 ^ 32 → base % 4 ≡ 0 → pc % 4 ≡ 0 → word_sum base (word_difference pc base / 4 * 4) ≡ pc
index-is base pc small below aligned word = omega (arith, small, below, aligned, word)

-- only the last 30 bits of an index count
pub address-by : (base at : ℕ) → word_sum base (at % 1073741824 * 4) ≡ word_sum base (at * 4)
address-by base at = omega arith

pub ruleset distances = (address-by, address-wraps, index-is)
