-- Whether a call ends the program does not depend on what the input has left.
use Rattle.std.proofs.Common.{◌≡◌, ℕ, List, Option, Some, None, Bool, true, false}
use Rattle.std.specs.Prelude.{if◌then◌else◌, ◌==◌, not}
use Rattle.mem_regions.specs.Memory.{Memory}
use Rattle.mem_regions.specs.Ranges.{range_of, can_write}
use Rattle.rv_machine.specs.Call.{Called, Value, Exit, CallAnswer, call, read, write, brk, exit, answered_alone, write_from, is_exit, is_output, call_number, first_argument, second_argument, third_argument, no_such_call}

-- the call does not exit
abbrev IsAnswer : Called → Type 0
IsAnswer c = (status : ℕ) → c ≡ Exit status → ⊥

value_answers : (a : CallAnswer) → IsAnswer (Value a)
value_answers a status e = absurd (cc)

either : (b : Bool) (c d : Called) → IsAnswer c → IsAnswer d → IsAnswer (if b then c else d)
either true c d h k = h
either false c d h k = k

read_answers : (fd addr len : ℕ) (mem : Memory) (rest : List ℕ) → IsAnswer (read fd addr len mem rest)
unfolding read
read_answers fd addr len mem rest = either (not (fd == 0)) _ _ (value_answers _) (either (len == 0) _ _ (value_answers _)
    (either (not (can_write mem addr len)) _ _ (value_answers _) (value_answers _)))

written_answers : (o : Option (List ℕ)) (len : ℕ) (mem : Memory) (rest : List ℕ) → IsAnswer (write_from o len mem rest)
written_answers None len mem rest = value_answers _
written_answers (Some bytes) len mem rest = value_answers _

write_answers : (fd addr len : ℕ) (mem : Memory) (rest : List ℕ) → IsAnswer (write fd addr len mem rest)
unfolding write
write_answers fd addr len mem rest = either (not (is_output fd)) _ _ (value_answers _) (either (len == 0) _ _ (value_answers _)
    (written_answers (range_of mem addr len) len mem rest))

-- two choices that differ only in answers
alike : (b : Bool) (c c' d d' : Called) (status : ℕ) → (c ≡ Exit status → c' ≡ Exit status) → (d ≡ Exit status → d' ≡ Exit status) →
    (if b then c else d) ≡ Exit status → (if b then c' else d') ≡ Exit status
alike true c c' d d' status h k e = h e
alike false c c' d d' status h k e = k e

pub exit-any_rest : (regs : List ℕ) (mem : Memory) (rest other : List ℕ) (status : ℕ) → call regs mem rest ≡ Exit status → call regs mem other ≡ Exit status
unfolding call
exit-any_rest regs mem rest other status e =
    alike (call_number regs == 63) (read a b c mem rest) (read a b c mem other) _ _ status (λ h. absurd (read_answers a b c mem rest status h))
    (alike (call_number regs == 64) (write a b c mem rest) (write a b c mem other) _ _ status (λ h. absurd (write_answers a b c mem rest status h))
    (alike (is_exit (call_number regs)) (exit a) (exit a) _ _ status (λ h. h)
    (alike (call_number regs == 214) (brk a mem rest) (brk a mem other) (answered_alone no_such_call mem rest) (answered_alone no_such_call mem other) status
    (λ h. absurd (value_answers _ status h)) (λ h. absurd (value_answers _ status h))))) e
  where
    a : ℕ
    a = first_argument regs

    b : ℕ
    b = second_argument regs

    c : ℕ
    c = third_argument regs
