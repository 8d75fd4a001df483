-- A step, according to what is at the program counter.
use Rattle.std.proofs.Common.{◌≡◌, ◌≢◌, ℕ, ◌%◌, false, Option, Some, None, Result, Ok, Err, find, refl, ap, sym, ◌∙◌, arith}
use Rattle.std.proofs.lemmas.Bool.Decides.{nat_tests}
use Rattle.mem_regions.specs.Memory.{Memory}
use Rattle.mem_regions.specs.Area.{Area}
use Rattle.mem_regions.specs.Fetching.{fetch_at, fetches_in, word_found}
use Rattle.mem_regions.specs.declared.MemErr.{MemErr}
use Rattle.mem_regions.specs.declared.MemErr.TheVariants.{Misaligned, NoAccess}
use Rattle.rv_inst.specs.declared.isa.Isa.{Isa}
use Rattle.rv_inst.specs.declared.instruction.Instr.{Instr}
use Rattle.rv_inst.specs.declared.instruction.Instr.TheVariants as instr
use Rattle.rv_inst.specs.Decoding.{decoded_m, decoded_as}
use Rattle.rv_machine.specs.declared.outcome.Stepped.{Stepped}
use Rattle.rv_machine.specs.declared.decode_cache.Found.{Found}
use Rattle.rv_machine.specs.declared.decode_cache.Found.TheVariants as found
use Rattle.rv_machine.specs.Hart.{Hart}
use Rattle.rv_machine.specs.Step.{interpret}
use Rattle.rv_machine.specs.Streams.{Streams}
use Rattle.rv_machine.specs.Acts.{Acts, CallsHere, Steps}
use Rattle.rv_machine.specs.Decoded.{found_as, read_from, found_at, is_instruction, trap_of}
use Rattle.rv_machine.proofs.Acting.{acts-unknown, steps-misaligned, steps-unfetched, steps-fetched}
use Rattle.rv_machine.proofs.Sets.{set-unknown}

-- what was read, by the instruction that the word encodes
read_as-instruction : (v w : ℕ) (i : Instr) (o : Option Instr) → found_as v o ≡ found.Instruction w i → (v ≡ w) × (o ≡ Some i)
read_as-instruction v w i None e = grind arith
read_as-instruction v w i (Some j) e = grind arith

read_as-unknown : (v w : ℕ) (o : Option Instr) → found_as v o ≡ found.Unknown w → (v ≡ w) × (o ≡ None)
read_as-unknown v w None e = grind arith
read_as-unknown v w (Some j) e = grind arith

read_as-nothing : (v : ℕ) (o : Option Instr) → found_as v o ≢ found.Nothing
read_as-nothing v None e = grind arith
read_as-nothing v (Some j) e = grind arith

read_as-misaligned : (v : ℕ) (o : Option Instr) → found_as v o ≢ found.Misaligned
read_as-misaligned v None e = grind arith
read_as-misaligned v (Some j) e = grind arith

-- what was read, by what was fetched
pub read_from-instruction : (r : Result ℕ MemErr) (w : ℕ) (i : Instr) → read_from r ≡ found.Instruction w i → (r ≡ Ok w) × (decoded_m w ≡ Some i)
read_from-instruction (Ok v) w i e = let f = read_as-instruction v w i (decoded_m v) e in (ap Ok f.0, ap decoded_m (sym f.0) ∙ f.1)
read_from-instruction (Err Misaligned) w i e = grind arith
read_from-instruction (Err NoAccess) w i e = grind arith

read_from-unknown : (r : Result ℕ MemErr) (w : ℕ) → read_from r ≡ found.Unknown w → (r ≡ Ok w) × (decoded_m w ≡ None)
read_from-unknown (Ok v) w e = let f = read_as-unknown v w (decoded_m v) e in (ap Ok f.0, ap decoded_m (sym f.0) ∙ f.1)
read_from-unknown (Err Misaligned) w e = grind arith
read_from-unknown (Err NoAccess) w e = grind arith

read_from-nothing : (r : Result ℕ MemErr) → read_from r ≡ found.Nothing → r ≡ Err NoAccess
read_from-nothing (Ok v) e = absurd (read_as-nothing v (decoded_m v) e)
read_from-nothing (Err Misaligned) e = grind arith
read_from-nothing (Err NoAccess) e = refl

read_from-misaligned : (r : Result ℕ MemErr) → read_from r ≡ found.Misaligned → r ≡ Err Misaligned
read_from-misaligned (Ok v) e = absurd (read_as-misaligned v (decoded_m v) e)
read_from-misaligned (Err Misaligned) e = refl
read_from-misaligned (Err NoAccess) e = grind arith

-- a word comes only from an aligned address
word-aligned : (m : Memory) (pc w : ℕ) → fetch_at m pc ≡ Ok w → pc % 4 ≡ 0
unfolding fetch_at
word-aligned m pc w e = grind (arith, nat_tests)

unpermitted-aligned : (m : Memory) (pc : ℕ) → fetch_at m pc ≡ Err NoAccess → pc % 4 ≡ 0
unfolding fetch_at
unpermitted-aligned m pc e = grind (arith, nat_tests)

-- what is read from a region that was found, or from none, is never reported as misaligned
word_of-aligned : (pc : ℕ) (o : Option Area) → word_found pc o ≢ Err Misaligned
word_of-aligned pc None e = grind arith
word_of-aligned pc (Some a) e = grind arith

misaligned : (m : Memory) (pc : ℕ) → fetch_at m pc ≡ Err Misaligned → pc % 4 ≢ 0
unfolding fetch_at
misaligned m pc e a =
    let f : word_found pc (find (fetches_in pc) m.areas) ≡ Err Misaligned = rw a at e in
    word_of-aligned pc (find (fetches_in pc) m.areas) f

-- if there is an instruction of RV32IM
pub steps-found : (isa : Isa) (h new : Hart) (before after : Streams) (word : ℕ) (i : Instr)
    (result : Stepped) → found_at h.mem h.pc ≡ found.Instruction word i →
    Acts (decoded_as isa word ≡ Some instr.Ecall)
    (λ rest. interpret h rest word (decoded_as isa word)) h new before after result →
    Steps isa h new before after result
unfolding found_at
steps-found isa h new before after word i result e acts =
    let f = read_from-instruction (fetch_at h.mem h.pc) word i e in
    steps-fetched isa h new before after word result (word-aligned h.mem h.pc word f.0) f.0 acts

-- if there is no instruction
stopped : (isa : Isa) (h : Hart) (s : Streams) (f : Found) (result : Stepped) → read_from (fetch_at h.mem h.pc) ≡ f →
    is_instruction f ≡ false → result ≡ trap_of h.pc f → Steps isa h h s s result
stopped isa h s (found.Instruction word i) result e none is = absurd (grind arith)
stopped isa h s (found.Unknown word) result e none is =
    let f = read_from-unknown (fetch_at h.mem h.pc) word e in
    steps-fetched isa h h s s word result (word-aligned h.mem h.pc word f.0) f.0
    (acts-unknown isa word h s result (set-unknown isa word f.1) is)
stopped isa h s found.Nothing result e none is =
    let f = read_from-nothing (fetch_at h.mem h.pc) e in
    steps-unfetched isa h s NoAccess result (unpermitted-aligned h.mem h.pc f) f is
stopped isa h s found.Misaligned result e none is =
    steps-misaligned isa h s result (misaligned h.mem h.pc (read_from-misaligned (fetch_at h.mem h.pc) e)) is

pub steps-stopped : (isa : Isa) (h : Hart) (s : Streams) (result : Stepped) →
    is_instruction (found_at h.mem h.pc) ≡ false → result ≡ trap_of h.pc (found_at h.mem h.pc) → Steps isa h h s s result
unfolding found_at
steps-stopped isa h s result none is = stopped isa h s (read_from (fetch_at h.mem h.pc)) result refl none is

-- the instruction of the larger set that was found
pub found-decoded : (m : Memory) (pc word : ℕ) (i : Instr) → found_at m pc ≡ found.Instruction word i → decoded_m word ≡ Some i
unfolding found_at
found-decoded m pc word i e = (read_from-instruction (fetch_at m pc) word i e).1

-- if it is ECALL
pub calls-here : (isa : Isa) (h : Hart) (word : ℕ) (i : Instr) → found_at h.mem h.pc ≡ found.Instruction word i →
    decoded_as isa word ≡ Some instr.Ecall → CallsHere isa h
unfolding found_at
calls-here isa h word i e d =
    let f = read_from-instruction (fetch_at h.mem h.pc) word i e in
    record { aligned = word-aligned h.mem h.pc word f.0; word = word; fetched = f.0; decoded = d }
