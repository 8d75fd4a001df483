-- What an environment call leaves of memory: all that neither a write nor a moved break changes.
use Rattle.std.proofs.Common.{◌≡◌, ℕ, List, Option, Some, None, Bool, true, false, refl}
use Rattle.std.specs.Prelude.{if◌then◌else◌, ◌==◌, not}
use Rattle.mem_regions.specs.Memory.{Memory}
use Rattle.mem_regions.specs.Ranges.{range_of, can_write}
use Rattle.mem_regions.specs.Writing.{memory_with}
use Rattle.rv_machine.specs.Call.{Called, Value, Exit, call, read, write, brk, write_from, with_break, is_break, is_exit, is_output, call_number}

-- what is seen of memory changes neither by a write nor by a moved break
pub record IsLasting {B : Type 0} (view : Memory → B) : Type 0 where
  pub writes : (m : Memory) (addr len : ℕ) (w : List ℕ) → view (memory_with m addr len w) ≡ view m
  pub break : (m : Memory) (addr : ℕ) → view (record m { program_break = addr }) ≡ view m

-- an answer leaves what is seen of memory as it was
abbrev pub Keeps : {B : Type 0} → (Memory → B) → Memory → Called → Type 0
Keeps view mem (Value a) = view a.mem ≡ view mem
Keeps view mem (Exit status) = Unit {0}

pub either-keeps : {B : Type 0} (view : Memory → B) (mem : Memory) (b : Bool) (c d : Called) → Keeps view mem c → Keeps view mem d →
    Keeps view mem (if b then c else d)
either-keeps view mem true c d h k = h
either-keeps view mem false c d h k = k

read_keeps : {B : Type 0} (view : Memory → B) → IsLasting view → (fd addr len : ℕ) (mem : Memory) (rest : List ℕ) →
    Keeps view mem (read fd addr len mem rest)
unfolding read
read_keeps view lasting fd addr len mem rest = either-keeps view mem (not (fd == 0)) _ _ refl (either-keeps view mem (len == 0) _ _ refl
    (either-keeps view mem (not (can_write mem addr len)) _ _ refl (lasting.writes mem addr len _)))

written_keeps : {B : Type 0} (view : Memory → B) (o : Option (List ℕ)) (len : ℕ) (mem : Memory) (rest : List ℕ) → Keeps view mem (write_from o len mem rest)
written_keeps view None len mem rest = refl
written_keeps view (Some bytes) len mem rest = refl

write_keeps : {B : Type 0} (view : Memory → B) (fd addr len : ℕ) (mem : Memory) (rest : List ℕ) → Keeps view mem (write fd addr len mem rest)
unfolding write
write_keeps view fd addr len mem rest = either-keeps view mem (not (is_output fd)) _ _ refl (either-keeps view mem (len == 0) _ _ refl
    (written_keeps view (range_of mem addr len) len mem rest))

break_keeps : {B : Type 0} (view : Memory → B) → IsLasting view → (b : Bool) (addr : ℕ) (mem : Memory) →
    view (if b then record mem { program_break = addr } else mem) ≡ view mem
break_keeps view lasting true addr mem = lasting.break mem addr
break_keeps view lasting false addr mem = refl

brk_keeps : {B : Type 0} (view : Memory → B) → IsLasting view → (addr : ℕ) (mem : Memory) (rest : List ℕ) → Keeps view mem (brk addr mem rest)
unfolding with_break
brk_keeps view lasting addr mem rest = break_keeps view lasting (is_break addr) addr mem

pub call-keeps : {B : Type 0} (view : Memory → B) → IsLasting view → (regs : List ℕ) (mem : Memory) (rest : List ℕ) → Keeps view mem (call regs mem rest)
unfolding call
call-keeps view lasting regs mem rest =
    either-keeps view mem (call_number regs == 63) _ _ (read_keeps view lasting _ _ _ mem rest)
    (either-keeps view mem (call_number regs == 64) _ _ (write_keeps view _ _ _ mem rest)
    (either-keeps view mem (is_exit (call_number regs)) _ _ tt
    (either-keeps view mem (call_number regs == 214) _ _ (brk_keeps view lasting _ mem rest) refl)))
