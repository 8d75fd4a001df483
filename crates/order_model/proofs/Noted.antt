-- How a call of the environment affects memory when nothing is left of the input: only the break is moved.
use Rattle.std.proofs.Common.{◌≡◌, ◌≢◌, ℕ, ◌-◌, ◌≤◌, ◌+◌, List, [], ◌∷◌, ◌++◌, Bool, true, false, Option, Some, None, length, take, drop, refl, sym, ap, ◌∙◌, arith}
use Rattle.std.specs.Prelude.{◌==◌, if◌then◌else◌, not, slice_index, min}
use Rattle.std.proofs.lemmas.List.{append-nil, take-append-drop, take_all}
use Rattle.std.proofs.lemmas.Bool.Decides.{nat_tests}
use Rattle.mem_regions.specs.Area.{Area}
use Rattle.mem_regions.specs.Memory.{Memory}
use Rattle.mem_regions.specs.Ranges.{range_of, can_write, writes_in}
use Rattle.mem_regions.specs.Writing.{area_with, first_changed, memory_with, overwritten}
use Rattle.rv_machine.specs.Call.{call, read, read_into, write, write_from, exit, brk, with_break, is_break, answered_alone, bad_file, bad_address, no_such_call, is_output, is_exit, call_number, first_argument, second_argument, third_argument}
use Rattle.order_model.specs.ServeEffects.{memory_served}

-- a write of no bytes
none_written : (bytes : List ℕ) (at : ℕ) → overwritten bytes at [] ≡ bytes
none_written bytes at =
    let e : at + 0 ≡ at = omega arith in
    ap (λ (l : List ℕ). take (length bytes) (l ++ drop (at + 0) bytes)) (append-nil (take at bytes))
    ∙ ap (λ (i : ℕ). take (length bytes) (take at bytes ++ drop i bytes)) e ∙ ap (take (length bytes)) (take-append-drop at bytes)
    ∙ take_all (length bytes) bytes (omega arith)

areas_kept : (test : Area → Bool) (addr : ℕ) (areas : List Area) → first_changed test (area_with addr []) areas ≡ areas
areas_kept test addr [] = refl
areas_kept test addr (a ∷ areas) = go (test a) (areas_kept test addr areas) where
  go : (t : Bool) → first_changed test (area_with addr []) areas ≡ areas →
      (if t then area_with addr [] a ∷ areas else a ∷ first_changed test (area_with addr []) areas) ≡ a ∷ areas
  go true e = ap (λ (l : List ℕ). let b : Area = record a { bytes = l } in b ∷ areas) (none_written a.bytes (addr - a.base))
  go false e = ap (λ (l : List Area). a ∷ l) e

nothing_written : (mem : Memory) (addr len : ℕ) → memory_with mem addr len [] ≡ mem
unfolding memory_with
nothing_written mem addr len = ap (λ (l : List Area). let m : Memory = record mem { areas = l } in m) (areas_kept (writes_in addr len) addr mem.areas)

take_none : (n : ℕ) → take n (let l : List ℕ = [] in l) ≡ []
take_none n = take_all n [] (omega arith)

read_keeps : (fd addr len : ℕ) (mem : Memory) → memory_served (read fd addr len mem []) mem ≡ mem
unfolding read
read_keeps fd addr len mem = go (not (fd == 0)) (len == 0) (not (can_write mem addr len)) where
  go : (a b c : Bool) → memory_served (if a then answered_alone bad_file mem [] else if b then answered_alone 0 mem [] else if c
      then answered_alone bad_address mem [] else read_into addr len mem []) mem ≡ mem
  go true b c = refl
  go false true c = refl
  go false false true = refl
  go false false false = ap (memory_with mem addr len) (take_none (min len 0)) ∙ nothing_written mem addr len

write_keeps : (fd addr len : ℕ) (mem : Memory) → memory_served (write fd addr len mem []) mem ≡ mem
unfolding write
write_keeps fd addr len mem = go (not (is_output fd)) (len == 0) (range_of mem addr len) where
  go : (a b : Bool) (r : Option (List ℕ)) → memory_served (if a then answered_alone bad_file mem [] else if b then answered_alone 0 mem []
      else write_from r len mem []) mem ≡ mem
  go true b r = refl
  go false true r = refl
  go false false None = refl
  go false false (Some bytes) = refl

-- a call with a number other than that of brk
pub other_keeps : (regs : List ℕ) (mem : Memory) → slice_index regs 17 ≢ 214 → mem ≡ memory_served (call regs mem []) mem
unfolding call
other_keeps regs mem h = sym (go (call_number regs == 63) (call_number regs == 64) (is_exit (call_number regs)) (call_number regs == 214) refl) where
  go : (r w e b : Bool) → b ≡ (call_number regs == 214) → memory_served
      (if r then read (first_argument regs) (second_argument regs) (third_argument regs) mem [] else
      if w then write (first_argument regs) (second_argument regs) (third_argument regs) mem [] else
      if e then exit (first_argument regs) else if b then brk (first_argument regs) mem [] else answered_alone no_such_call mem []) mem ≡ mem
  go true w e b f = read_keeps (first_argument regs) (second_argument regs) (third_argument regs) mem
  go false true e b f = write_keeps (first_argument regs) (second_argument regs) (third_argument regs) mem
  go false false true b f = refl
  go false false false true f = absurd (h (grind (arith, nat_tests)))
  go false false false false f = refl

is_brk : (regs : List ℕ) (mem : Memory) → slice_index regs 17 ≡ 214 → memory_served (call regs mem []) mem ≡ with_break (slice_index regs 10) mem
unfolding call
is_brk regs mem e = rw e refl

breaks : (addr : ℕ) (mem : Memory) → is_break addr ≡ true → with_break addr mem ≡ record mem { program_break = addr }
unfolding with_break
breaks addr mem e = rw e refl

breaks_not : (addr : ℕ) (mem : Memory) → is_break addr ≡ false → with_break addr mem ≡ mem
unfolding with_break
breaks_not addr mem e = rw e refl

-- brk moves the break if it may
pub break_moves : (regs : List ℕ) (mem : Memory) → slice_index regs 17 ≡ 214 → 0x7f000000 ≤ slice_index regs 10 → slice_index regs 10 ≤ 0x7f080000 →
    record mem { program_break = slice_index regs 10 } ≡ memory_served (call regs mem []) mem
break_moves regs mem e l u = sym (is_brk regs mem e ∙ breaks (slice_index regs 10) mem (grind (arith, nat_tests)))

pub break_stays : (regs : List ℕ) (mem : Memory) → slice_index regs 17 ≡ 214 → is_break (slice_index regs 10) ≡ false →
    mem ≡ memory_served (call regs mem []) mem
break_stays regs mem e f = sym (is_brk regs mem e ∙ breaks_not (slice_index regs 10) mem f)

pub ruleset calling = (other_keeps, break_moves, break_stays)
