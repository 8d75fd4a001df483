-- An environment call leaves the instruction words of memory unchanged.
use Rattle.std.proofs.Common.{◌≡◌, ◌∙◌, ℕ, List, Bool, true, false, not, Option, Some, None, ◌==◌, cond, refl, ap, subst}
use Rattle.mem_regions.specs.Memory.{Memory}
use Rattle.mem_regions.specs.Fetching.{fetch_at}
use Rattle.mem_regions.specs.Ranges.{range_of, can_write}
use Rattle.mem_regions.proofs.Kept.{fetch_at-memory_with, fetch_at-break}
use Rattle.rv_machine.specs.declared.decode_cache.Decoded.{Decoded}
use Rattle.rv_machine.specs.declared.outcome.Served.{Served}
use Rattle.rv_machine.specs.declared.outcome.Served.TheVariants as served
use Rattle.rv_machine.specs.Call.{Called, Value, Exit, answered_alone, bad_file, bad_address, no_such_call, read, read_into, write, write_from, is_output, is_break, brk, with_break, is_exit, exit, call, call_number, first_argument, second_argument, third_argument}
use Rattle.rv_machine.specs.Streams.{Streams}
use Rattle.rv_machine.specs.Acts.{Serves}
use Rattle.rv_machine.specs.Decoded.{IsCacheOf}
use Rattle.rv_machine.specs.declared.flat_lines.FlatLine.{FlatLine}
use Rattle.rv_machine.specs.Lines.{AreLinesOf}
use Rattle.rv_machine.specs.Quick.{HasSameCode}
use Rattle.rv_machine.proofs.Keeping.{cache-same}
use Rattle.rv_machine.proofs.Lines.{lines-same}

-- the memory after a call
abbrev memory_after : Memory → Called → Memory
memory_after mem (Value answer) = answer.mem
memory_after mem (Exit status) = mem

-- the call leaves the word at the address unchanged
abbrev Leaves : Memory → ℕ → Called → Type 0
Leaves mem pc called = fetch_at (memory_after mem called) pc ≡ fetch_at mem pc

either : (mem : Memory) (pc : ℕ) (b : Bool) (x y : Called) → Leaves mem pc x → Leaves mem pc y → Leaves mem pc (cond b x y)
either mem pc true x y left right = left
either mem pc false x y left right = right

read-leaves : (fd addr len : ℕ) (mem : Memory) (rest : List ℕ) (pc : ℕ) → Leaves mem pc (read fd addr len mem rest)
unfolding read
read-leaves fd addr len mem rest pc =
    either mem pc (not (fd == 0)) (answered_alone bad_file mem rest) _ refl
    (either mem pc (len == 0) (answered_alone 0 mem rest) _ refl
    (either mem pc (not (can_write mem addr len)) (answered_alone bad_address mem rest) (read_into addr len mem rest) refl
    (fetch_at-memory_with mem addr len _ pc)))

write_from-leaves : (bytes : Option (List ℕ)) (len : ℕ) (mem : Memory) (rest : List ℕ) (pc : ℕ) → Leaves mem pc (write_from bytes len mem rest)
write_from-leaves None len mem rest pc = refl
write_from-leaves (Some bytes) len mem rest pc = refl

write-leaves : (fd addr len : ℕ) (mem : Memory) (rest : List ℕ) (pc : ℕ) → Leaves mem pc (write fd addr len mem rest)
unfolding write
write-leaves fd addr len mem rest pc =
    either mem pc (not (is_output fd)) (answered_alone bad_file mem rest) _ refl
    (either mem pc (len == 0) (answered_alone 0 mem rest) _ refl
    (write_from-leaves (range_of mem addr len) len mem rest pc))

moved-leaves : (mem moved : Memory) (pc : ℕ) (b : Bool) → fetch_at moved pc ≡ fetch_at mem pc → fetch_at (cond b moved mem) pc ≡ fetch_at mem pc
moved-leaves mem moved pc true e = e
moved-leaves mem moved pc false e = refl

brk-leaves : (addr : ℕ) (mem : Memory) (rest : List ℕ) (pc : ℕ) → Leaves mem pc (brk addr mem rest)
unfolding with_break
brk-leaves addr mem rest pc = moved-leaves mem (record mem { program_break = addr }) pc (is_break addr) (fetch_at-break mem addr pc)

call-leaves : (regs : List ℕ) (mem : Memory) (rest : List ℕ) (pc : ℕ) → Leaves mem pc (call regs mem rest)
unfolding call
call-leaves regs mem rest pc =
    let number = call_number regs in
    let a = first_argument regs in
    let b = second_argument regs in
    let c = third_argument regs in
    either mem pc (number == 63) (read a b c mem rest) _ (read-leaves a b c mem rest pc)
    (either mem pc (number == 64) (write a b c mem rest) _ (write-leaves a b c mem rest pc)
    (either mem pc (is_exit number) (exit a) _ refl
    (either mem pc (number == 214) (brk a mem rest) (answered_alone no_such_call mem rest) (brk-leaves a mem rest pc) refl)))

-- a call that was served leaves the word at each address unchanged
served-leaves : (regs : List ℕ) (mem new : Memory) (before after : Streams) (result : Served) (pc : ℕ) →
    Serves regs mem new before after result → fetch_at new pc ≡ fetch_at mem pc
unfolding Serves
served-leaves regs mem new before after (served.Value value) pc returns =
    let P : Called → Type 0 = λ called. Leaves mem pc called in
    subst P returns.is (call-leaves regs mem returns.rest pc)
served-leaves regs mem new before after (served.Exit status) pc quits = ap (λ (m : Memory). fetch_at m pc) quits.memory
served-leaves regs mem new before after served.ReadFault pc fails =
    ap (λ (m : Memory). fetch_at m pc) fails.takes.memory ∙ fetch_at-memory_with mem _ _ fails.taken pc
served-leaves regs mem new before after served.WriteFault pc fails = ap (λ (m : Memory). fetch_at m pc) fails.1

-- and so it preserves what a cache stores
pub cache-served : (regs : List ℕ) (mem new : Memory) (before after : Streams) (result : Served) (places : List Decoded) →
    Serves regs mem new before after result → IsCacheOf mem places → IsCacheOf new places
cache-served regs mem new before after result places serves =
    cache-same mem new places (λ pc. served-leaves regs mem new before after result pc serves)

pub lines-served : (regs : List ℕ) (mem new : Memory) (before after : Streams) (result : Served) (lines : List FlatLine) →
    AreLinesOf mem lines → Serves regs mem new before after result → AreLinesOf new lines
unfolding HasSameCode
lines-served regs mem new before after result lines h serves =
    lines-same mem new lines (λ pc. served-leaves regs mem new before after result pc serves) h

pub ruleset leaving = (cache-served, lines-served)
