-- The bytes that Serve writes to the output.
use Rattle.std.proofs.Common.{◌≡◌, ◌≢◌, ℕ, List, [], ◌∷◌, length, Option, Some, None, Bool, true, false, refl, ap, ◌∙◌, arith}
use Rattle.std.specs.Prelude.{◌==◌, if◌then◌else◌, not, slice_index}
use Rattle.std.proofs.lemmas.Bool.Decides.{nat_tests}
use Rattle.mem_regions.specs.Memory.{Memory}
use Rattle.mem_regions.specs.Ranges.{range_of, can_write}
use Rattle.rv_inst.specs.declared.instruction.Instr.{Instr}
use Rattle.rv_machine.specs.Call.{Called, call, read, read_into, write, write_from, exit, brk, answered_alone, bad_file, bad_address, no_such_call, is_output, is_exit, call_number, first_argument, second_argument, third_argument}
use Rattle.rv_machine.specs.Step.{synchronizes}
use Rattle.cf_layout.specs.Layout.{Plan}
use Rattle.cf_bind.specs.declared.cell.Cell.{Cell}
use Rattle.cf_bind.specs.declared.moves.Move.TheVariants.{Serve}
use Rattle.cf_bind.specs.declared.passenger.Passenger.{Passenger}
use Rattle.cf_semantics.specs.state.Options.{on}
use Rattle.cf_semantics.specs.state.State.{State, cell_at}
use Rattle.cf_semantics.specs.state.Passengers.{instruction}
use Rattle.cf_semantics.specs.moves.Instructions.{serve_of}
use Rattle.cf_semantics.specs.moves.Moves.{next, served}
use Rattle.rv_machine.specs.Call as called
use Rattle.order_model.specs.ServeEffects.{output_added}
use Rattle.order_model.specs.Situations.{lone_moment}

-- a read adds nothing
read_adds : (fd addr len : ℕ) (mem : Memory) → output_added (read fd addr len mem []) ≡ []
unfolding read
read_adds fd addr len mem = go (not (fd == 0)) (len == 0) (not (can_write mem addr len)) where
  go : (a b c : Bool) → output_added (if a then answered_alone bad_file mem [] else if b then answered_alone 0 mem [] else if c
      then answered_alone bad_address mem [] else read_into addr len mem []) ≡ []
  go true b c = refl
  go false true c = refl
  go false false true = refl
  go false false false = refl

brk_adds : (addr : ℕ) (mem : Memory) → output_added (brk addr mem []) ≡ []
brk_adds addr mem = refl

-- only a write adds to the output
pub adds_nothing : (regs : List ℕ) (mem : Memory) → slice_index regs 17 ≢ 64 → output_added (call regs mem []) ≡ []
unfolding call
adds_nothing regs mem h = go (call_number regs == 63) (call_number regs == 64) refl (is_exit (call_number regs)) (call_number regs == 214) where
  go : (r w : Bool) → w ≡ (call_number regs == 64) → (e b : Bool) → output_added
      (if r then read (first_argument regs) (second_argument regs) (third_argument regs) mem [] else
      if w then write (first_argument regs) (second_argument regs) (third_argument regs) mem [] else
      if e then exit (first_argument regs) else if b then brk (first_argument regs) mem [] else answered_alone no_such_call mem []) ≡ []
  go true w f e b = read_adds (first_argument regs) (second_argument regs) (third_argument regs) mem
  go false true f e b = absurd (h (grind (arith, nat_tests)))
  go false false f true b = refl
  go false false f false true = brk_adds (first_argument regs) mem
  go false false f false false = refl

-- the call with number 64 is a write
is_write : (regs : List ℕ) (mem : Memory) → slice_index regs 17 ≡ 64 →
    call regs mem [] ≡ write (first_argument regs) (second_argument regs) (third_argument regs) mem []
unfolding call
is_write regs mem e = rw e refl

-- what a write to the output adds: the bytes of its buffer, if it is in memory
write_adds : (addr len : ℕ) (mem : Memory) (o : Bool) → output_added (if not o then answered_alone bad_file mem [] else
    if len == 0 then answered_alone 0 mem [] else write_from (range_of mem addr len) len mem []) ≡ if o
    then (if len == 0 then [] else on (range_of mem addr len) [] (λ bytes. bytes)) else []
write_adds addr len mem false = refl
write_adds addr len mem true = go (len == 0) (range_of mem addr len) where
  go : (z : Bool) (r : Option (List ℕ)) → output_added (if z then answered_alone 0 mem [] else write_from r len mem []) ≡ if z then []
      else on r [] (λ bytes. bytes)
  go true r = refl
  go false None = refl
  go false (Some bytes) = refl

written_adds : (regs : List ℕ) (mem : Memory) (o : Bool) → slice_index regs 17 ≡ 64 → o ≡ is_output (slice_index regs 10) →
    output_added (call regs mem []) ≡ if o then (if slice_index regs 12 == 0 then []
    else on (range_of mem (slice_index regs 11) (slice_index regs 12)) [] (λ bytes. bytes)) else []
unfolding write
written_adds regs mem o e f = rw (is_write regs mem e, ← f) (write_adds (second_argument regs) (third_argument regs) mem o)

pub adds_nowhere : (regs : List ℕ) (mem : Memory) → slice_index regs 17 ≡ 64 → false ≡ is_output (slice_index regs 10) → output_added (call regs mem []) ≡ []
adds_nowhere regs mem e f = written_adds regs mem false e f

-- no byte is in an empty range
none_there : (len : ℕ) (bytes : List ℕ) (r : Option (List ℕ)) → r ≡ Some bytes → length bytes ≡ len → (if len == 0 then [] else on r [] (λ b. b)) ≡ bytes
none_there len bytes r e h = rw e (go (len == 0) refl bytes h) where
  go : (z : Bool) → z ≡ (len == 0) → (bytes : List ℕ) → length bytes ≡ len → (if z then [] else bytes) ≡ bytes
  go false f bytes h = refl
  go true f [] h = refl
  go true f (b ∷ bytes) h = absurd (grind (arith, nat_tests))

pub adds_bytes : (regs : List ℕ) (mem : Memory) (bytes : List ℕ) → slice_index regs 17 ≡ 64 → true ≡ is_output (slice_index regs 10) →
    range_of mem (slice_index regs 11) (slice_index regs 12) ≡ Some bytes → length bytes ≡ slice_index regs 12 → output_added (call regs mem []) ≡ bytes
adds_bytes regs mem bytes e f g h = written_adds regs mem true e f ∙ none_there (slice_index regs 12) bytes
    (range_of mem (slice_index regs 11) (slice_index regs 12)) g h

pub adds_none : (regs : List ℕ) (mem : Memory) → slice_index regs 17 ≡ 64 → true ≡ is_output (slice_index regs 10) →
    range_of mem (slice_index regs 11) (slice_index regs 12) ≡ None → output_added (call regs mem []) ≡ []
adds_none regs mem e f g = written_adds regs mem true e f ∙ go (slice_index regs 12 == 0) (range_of mem (slice_index regs 11) (slice_index regs 12)) g where
  go : (z : Bool) (r : Option (List ℕ)) → r ≡ None → (if z then [] else on r [] (λ b. b)) ≡ []
  go true r h = refl
  go false r h = rw h refl

pub ruleset writing = (adds_nothing, adds_nowhere, adds_bytes, adds_none)

-- Serve adds what the call adds
served_output : (s : State) (n : ℕ) (c : Cell) (p : Passenger) (o : Called) → (served (lone_moment s) n c p o).output ≡ output_added o
served_output s n c p (called.Value a) = refl
served_output s n c p (called.Exit status) = refl

pub asked_output : (plan : Plan) (s : State) (c : Cell) (p : Passenger) → cell_at s.cells plan.stages ≡ Some c → c.passenger ≡ Some p →
    (next plan (lone_moment s) Serve).output ≡ output_added (serve_of (instruction p) s.regs s.mem [])
unfolding next
asked_output plan s c p e f = rw (e, f) (served_output s plan.stages c p (serve_of (instruction p) s.regs s.mem []))

pub fence_adds : (i : Instr) (regs : List ℕ) (mem : Memory) → synchronizes i ≡ true → output_added (serve_of i regs mem []) ≡ []
unfolding serve_of
fence_adds i regs mem e = rw e refl

call_is : (i : Instr) (regs : List ℕ) (mem : Memory) → synchronizes i ≡ false → serve_of i regs mem [] ≡ call regs mem []
unfolding serve_of
call_is i regs mem e = rw e refl

pub call_adds : (i : Instr) (regs : List ℕ) (mem : Memory) → synchronizes i ≡ false → output_added (serve_of i regs mem []) ≡ output_added (call regs mem [])
call_adds i regs mem e = ap output_added (call_is i regs mem e)

pub ruleset answering = (fence_adds, call_adds)

pub output_no_cell : (plan : Plan) (s : State) → cell_at s.cells plan.stages ≡ None → (next plan (lone_moment s) Serve).output ≡ []
unfolding next
output_no_cell plan s e = rw e refl

pub output_no_passenger : (plan : Plan) (s : State) (c : Cell) → cell_at s.cells plan.stages ≡ Some c → c.passenger ≡ None →
    (next plan (lone_moment s) Serve).output ≡ []
unfolding next
output_no_passenger plan s c e f = rw (e, f) refl

pub ruleset adding = (output_no_cell, output_no_passenger)
