-- How an environment call ends, by its number and its tests.
use Rattle.std.proofs.Common.{◌≡◌, ◌∙◌, ◌≢◌, ℕ, ◌≤◌, ◌%◌, List, [], ◌++◌, Bool, true, false, not, Option, Some, None, ◌==◌, length, min, cond, refl, ap, sym, subst, IsTrue, arith}
use Rattle.std.proofs.Math.Seq.{take-append_seam, drop-append_seam}
use Rattle.std.proofs.lemmas.List.{length-append}
use Rattle.std.proofs.lemmas.Bool.Decides.{nat_tests}
use Rattle.cf_io.specs.Puts.{Writes, WritesFront}
use Rattle.cf_io.specs.Takes.{TakesMost}
use Rattle.mem_regions.specs.Memory.{Memory}
use Rattle.mem_regions.specs.Ranges.{range_of, can_write}
use Rattle.mem_regions.specs.Writing.{memory_with}
use Rattle.rv_machine.specs.declared.outcome.Served.{Served}
use Rattle.rv_machine.specs.declared.outcome.Served.TheVariants as served
use Rattle.rv_machine.specs.Call.{Called, Value, Exit, answered_alone, bad_file, bad_address, no_such_call, read, read_into, write, write_from, is_output, brk, with_break, is_exit, call, call_number, first_argument, second_argument, third_argument, asks_input, asks_output}
use Rattle.rv_machine.specs.Streams.{Streams, streams_of, IsTold, Leaves, IsSpent, GivesInput}
use Rattle.rv_machine.specs.Buffers.{Fills, FillsSome}
use Rattle.rv_machine.specs.Acts.{Serves}
use Rattle.rv_machine.proofs.InputKnown.{some_rest, rest-told, rest-spent, stays}

-- an answer that does not use the streams
serves-plain : (regs : List ℕ) (mem new : Memory) (s : Streams) (value : ℕ) →
    ((rest : List ℕ) → call regs mem rest ≡ answered_alone value new rest) →
    Serves regs mem new s s (served.Value value)
unfolding Serves
serves-plain regs mem new s value is = record {
  rest = some_rest s.input;
  told = rest-told s.input;
  later = some_rest s.input;
  added = [];
  is = is (some_rest s.input);
  leaves = stays s (some_rest s.input) (rest-told s.input);
  spent = rest-spent s.input;
}

-- a number other than that one
other : {n : ℕ} (k : ℕ) → n ≢ k → (n == k) ≡ false
other {n} k h = grind (arith, nat_tests)

-- a read of a different file
pub reads-bad-file : (regs : List ℕ) (mem : Memory) (s : Streams) → call_number regs ≡ 63 →
    first_argument regs ≢ 0 → Serves regs mem mem s s (served.Value bad_file)
unfolding call read
reads-bad-file regs mem s n fd =
    serves-plain regs mem mem s bad_file (λ rest. rw (n, other 0 fd) refl)

-- a read of nothing
pub reads-nothing : (regs : List ℕ) (mem : Memory) (s : Streams) → call_number regs ≡ 63 →
    first_argument regs ≡ 0 → third_argument regs ≡ 0 → Serves regs mem mem s s (served.Value 0)
unfolding call read
reads-nothing regs mem s n fd len =
    serves-plain regs mem mem s 0 (λ rest. rw (n, fd, len) refl)

-- a read into a buffer that may not be written
pub reads-nowhere : (regs : List ℕ) (mem : Memory) (s : Streams) → call_number regs ≡ 63 →
    first_argument regs ≡ 0 → third_argument regs ≢ 0 →
    can_write mem (second_argument regs) (third_argument regs) ≡ false →
    Serves regs mem mem s s (served.Value bad_address)
unfolding call read
reads-nowhere regs mem s n fd len can =
    serves-plain regs mem mem s bad_address (λ rest. rw (n, fd, other 0 len, can) refl)

-- the bytes that a read takes, and those after them
read_into-is : (addr len : ℕ) (mem : Memory) (taken later : List ℕ) →
    min len (length (taken ++ later)) ≡ length taken → read_into addr len mem (taken ++ later)
    ≡ Value (record {
      value = length taken;
      mem = memory_with mem addr len taken;
      rest = later;
      output = [];
    })
read_into-is addr len mem taken later count =
    rw (count, take-append_seam taken later, drop-append_seam taken later) refl

-- the answer of a read that takes these bytes
read-is : (regs : List ℕ) (mem : Memory) (taken later : List ℕ) → call_number regs ≡ 63 →
    first_argument regs ≡ 0 → third_argument regs ≢ 0 →
    can_write mem (second_argument regs) (third_argument regs) ≡ true →
    min (third_argument regs) (length (taken ++ later)) ≡ length taken →
    call regs mem (taken ++ later)
    ≡ Value (record {
      value = length taken;
      mem = memory_with mem (second_argument regs) (third_argument regs) taken;
      rest = later;
      output = [];
    })
unfolding call read
read-is regs mem taken later n fd len can count =
    rw (n, fd, other 0 len, can)
    (read_into-is (second_argument regs) (third_argument regs) mem taken later count)

-- the rest that a read finds: all that is known, or otherwise exactly the bytes that it takes
record Finds (left after : Option (List ℕ)) (len : ℕ) (taken : List ℕ) : Type 0 where
  pub later : List ℕ
  pub told : IsTold left (taken ++ later)
  pub leaves : Leaves (streams_of left (Some [])) (streams_of after (Some [])) later []
  pub spent : IsSpent left later
  pub count : min len (length (taken ++ later)) ≡ length taken

finds : (left after : Option (List ℕ)) (len : ℕ) (taken : List ℕ) → length taken ≤ len →
    GivesInput left after taken → TakesMost left len (length taken) → Finds left after len taken
finds None after len taken fits gives most = record {
  later = [];
  told = tt;
  leaves = record { input = tt; output = refl };
  spent = refl;
  count = omega (arith, fits, length-append taken []);
}
finds (Some told) after len taken fits (later, is, left) most = record {
  later = later;
  told = sym is;
  leaves = record { input = left; output = refl };
  spent = tt;
  count = ap (λ bytes. min len (length bytes)) (sym is) ∙ sym most;
}

-- a read that took bytes
pub reads-some : (regs : List ℕ) (mem new : Memory) (left after : Option (List ℕ)) (count : ℕ) →
    call_number regs ≡ 63 → first_argument regs ≡ 0 → third_argument regs ≢ 0 →
    can_write mem (second_argument regs) (third_argument regs) ≡ true →
    Fills (second_argument regs) (third_argument regs) mem new left after count →
    Serves regs mem new (streams_of left (Some [])) (streams_of after (Some [])) (served.Value count)
unfolding Serves
reads-some regs mem new left after count n fd len can fills =
    let most : TakesMost left (third_argument regs) (length fills.taken) =
    subst (TakesMost left (third_argument regs)) fills.count fills.most in
    let f : Finds left after (third_argument regs) fills.taken =
    finds left after _ fills.taken fills.takes.fits fills.takes.gives most in
    record {
      rest = fills.taken ++ f.later;
      told = f.told;
      later = f.later;
      added = [];
      is = read-is regs mem fills.taken f.later n fd len can f.count
          ∙ rw (fills.count, fills.takes.memory) refl;
      leaves = f.leaves;
      spent = f.spent;
    }

-- a read whose input failed
pub reads-fault : (regs : List ℕ) (mem new : Memory) (left after output : Option (List ℕ)) →
    call_number regs ≡ 63 → first_argument regs ≡ 0 → third_argument regs ≢ 0 →
    can_write mem (second_argument regs) (third_argument regs) ≡ true →
    FillsSome (second_argument regs) (third_argument regs) mem new left after →
    Serves regs mem new (streams_of left output) (streams_of after output) served.ReadFault
unfolding Serves asks_input
reads-fault regs mem new left after output n fd len can (taken, takes) = record {
  asks = rw (n, fd, other 0 len, can) refl;
  taken = taken;
  takes = takes;
  output = refl;
}

-- such a read uses the input
pub reads-asking : {A : Type 0} (regs : List ℕ) (mem : Memory) → call_number regs ≡ 63 →
    first_argument regs ≡ 0 → third_argument regs ≢ 0 →
    can_write mem (second_argument regs) (third_argument regs) ≡ true →
    asks_input regs mem ≡ false → A
unfolding asks_input
reads-asking regs mem n fd len can asks =
    let no : true ≡ false = rw (n, fd, other 0 len, can) at asks in cc

-- no read uses the output, and no write the input
not-output : (regs : List ℕ) (mem : Memory) → call_number regs ≡ 63 → IsTrue (asks_output regs mem) → ⊥
unfolding asks_output
not-output regs mem n asks = let no : false ≡ true = rw n at asks in cc

not-input : (regs : List ℕ) (mem : Memory) → call_number regs ≡ 64 → IsTrue (asks_input regs mem) → ⊥
unfolding asks_input
not-input regs mem n asks = let no : false ≡ true = rw n at asks in cc

-- a read leaves the output unchanged, whatever it exposes
pub beside-output : (regs : List ℕ) (mem new : Memory) (left after output : Option (List ℕ))
    (result : Served) → call_number regs ≡ 63 →
    Serves regs mem new (streams_of left (Some [])) (streams_of after (Some [])) result →
    Serves regs mem new (streams_of left output) (streams_of after output) result
unfolding Serves
beside-output regs mem new left after output (served.Value value) n h = record {
  rest = h.rest;
  told = h.told;
  later = h.later;
  added = [];
  is = h.is ∙ (let e : [] ≡ h.added = cc in rw e refl);
  leaves = record {
    input = h.leaves.input;
    output = (stays (streams_of left output) (some_rest left) (rest-told left)).output;
  };
  spent = h.spent;
}
beside-output regs mem new left after output (served.Exit status) n h = record {
  rest = h.rest;
  told = h.told;
  is = h.is;
  memory = h.memory;
  streams = ap (λ (s : Streams). streams_of s.input output) h.streams;
}
beside-output regs mem new left after output served.ReadFault n h =
    record { asks = h.asks; taken = h.taken; takes = h.takes; output = refl }
beside-output regs mem new left after output served.WriteFault n h =
    absurd (not-output regs mem n h.0.asks)

-- a write to a different file
pub writes-bad-file : (regs : List ℕ) (mem : Memory) (s : Streams) → call_number regs ≡ 64 →
    is_output (first_argument regs) ≡ false → Serves regs mem mem s s (served.Value bad_file)
unfolding call write
writes-bad-file regs mem s n fd =
    serves-plain regs mem mem s bad_file (λ rest. rw (n, fd) refl)

-- a write of nothing
pub writes-nothing : (regs : List ℕ) (mem : Memory) (s : Streams) → call_number regs ≡ 64 →
    is_output (first_argument regs) ≡ true → third_argument regs ≡ 0 →
    Serves regs mem mem s s (served.Value 0)
unfolding call write
writes-nothing regs mem s n fd len =
    serves-plain regs mem mem s 0 (λ rest. rw (n, fd, len) refl)

-- a write from a buffer that is not in memory
pub writes-nowhere : (regs : List ℕ) (mem : Memory) (s : Streams) → call_number regs ≡ 64 →
    is_output (first_argument regs) ≡ true → third_argument regs ≢ 0 →
    range_of mem (second_argument regs) (third_argument regs) ≡ None →
    Serves regs mem mem s s (served.Value bad_address)
unfolding call write
writes-nowhere regs mem s n fd len none =
    serves-plain regs mem mem s bad_address (λ rest. rw (n, fd, other 0 len, none) refl)

-- a write of the buffer's bytes
pub writes-some : (regs : List ℕ) (mem : Memory) (written after : Option (List ℕ))
    (bytes : List ℕ) → call_number regs ≡ 64 → is_output (first_argument regs) ≡ true →
    third_argument regs ≢ 0 →
    range_of mem (second_argument regs) (third_argument regs) ≡ Some bytes →
    Writes written after bytes → Serves regs mem mem (streams_of (Some []) written)
    (streams_of (Some []) after) (served.Value (third_argument regs))
unfolding Serves call write
writes-some regs mem written after bytes n fd len some writes = record {
  rest = [];
  told = refl;
  later = [];
  added = bytes;
  is = rw (n, fd, other 0 len, some) refl;
  leaves = record { input = refl; output = writes };
  spent = tt;
}

-- a write whose output failed
pub writes-fault : (regs : List ℕ) (mem : Memory) (input written after : Option (List ℕ))
    (bytes : List ℕ) → call_number regs ≡ 64 → is_output (first_argument regs) ≡ true →
    third_argument regs ≢ 0 →
    range_of mem (second_argument regs) (third_argument regs) ≡ Some bytes →
    WritesFront written after bytes →
    Serves regs mem mem (streams_of input written) (streams_of input after) served.WriteFault
unfolding Serves asks_output
writes-fault regs mem input written after bytes n fd len some front = (
  record {
    asks = rw (n, fd, other 0 len, some) refl;
    bytes = bytes;
    buffer = some;
    output = front;
    input = refl;
  },
  refl,
)

-- such a write uses the output
pub writes-asking : {A : Type 0} (regs : List ℕ) (mem : Memory) (bytes : List ℕ) →
    call_number regs ≡ 64 → is_output (first_argument regs) ≡ true → third_argument regs ≢ 0 →
    range_of mem (second_argument regs) (third_argument regs) ≡ Some bytes →
    asks_output regs mem ≡ false → A
unfolding asks_output
writes-asking regs mem bytes n fd len some asks =
    let no : true ≡ false = rw (n, fd, other 0 len, some) at asks in cc

-- the answer of a call, with another rest of the input
abbrev with_rest : List ℕ → Called → Called
with_rest rest (Value a) = Value (record a { rest = rest })
with_rest rest (Exit status) = Exit status

-- a write leaves the rest as it was, by its tests
write_step : (a b : Bool) (buffer : Option (List ℕ)) (len : ℕ) (mem : Memory)
    (one rest : List ℕ) →
    cond (not a) (answered_alone bad_file mem rest)
    (cond b (answered_alone 0 mem rest) (write_from buffer len mem rest))
    ≡ with_rest rest (cond (not a) (answered_alone bad_file mem one)
    (cond b (answered_alone 0 mem one) (write_from buffer len mem one)))
write_step false b buffer len mem one rest = refl
write_step true true buffer len mem one rest = refl
write_step true false None len mem one rest = refl
write_step true false (Some bytes) len mem one rest = refl

write-rest : (regs : List ℕ) (mem : Memory) (one rest : List ℕ) → call_number regs ≡ 64 →
    call regs mem rest ≡ with_rest rest (call regs mem one)
unfolding call write
write-rest regs mem one rest n = rw n (write_step (is_output (first_argument regs))
    (third_argument regs == 0) (range_of mem (second_argument regs) (third_argument regs))
    (third_argument regs) mem one rest)

-- a write leaves the input unchanged, whatever it exposes
pub beside-input : (regs : List ℕ) (mem : Memory) (input written after : Option (List ℕ))
    (result : Served) → call_number regs ≡ 64 →
    Serves regs mem mem (streams_of (Some []) written) (streams_of (Some []) after) result →
    Serves regs mem mem (streams_of input written) (streams_of input after) result
unfolding Serves
beside-input regs mem input written after (served.Value value) n h = record {
  rest = some_rest input;
  told = rest-told input;
  later = some_rest input;
  added = h.added;
  is = write-rest regs mem h.rest (some_rest input) n ∙ ap (with_rest (some_rest input)) h.is;
  leaves = record {
    input = (stays (streams_of input written) (some_rest input) (rest-told input)).input;
    output = h.leaves.output;
  };
  spent = rest-spent input;
}
beside-input regs mem input written after (served.Exit status) n h = record {
  rest = some_rest input;
  told = rest-told input;
  is = write-rest regs mem h.rest (some_rest input) n ∙ ap (with_rest (some_rest input)) h.is;
  memory = refl;
  streams = ap (λ (s : Streams). streams_of input s.output) h.streams;
}
beside-input regs mem input written after served.ReadFault n h =
    absurd (not-input regs mem n h.asks)
beside-input regs mem input written after served.WriteFault n h = (
  record {
    asks = h.0.asks;
    bytes = h.0.bytes;
    buffer = h.0.buffer;
    output = h.0.output;
    input = refl;
  },
  refl,
)

-- exit and exit_group
pub serves-exit : (regs : List ℕ) (mem : Memory) (s : Streams) → is_exit (call_number regs) ≡ true →
    call_number regs ≢ 63 → call_number regs ≢ 64 →
    Serves regs mem mem s s (served.Exit (first_argument regs % 256))
unfolding Serves call
serves-exit regs mem s e read write = record {
  rest = some_rest s.input;
  told = rest-told s.input;
  is = rw (other 63 read, other 64 write, e) refl;
  memory = refl;
  streams = refl;
}

-- brk
pub serves-break : (regs : List ℕ) (mem new : Memory) (s : Streams) (value : ℕ) →
    call_number regs ≡ 214 → new ≡ with_break (first_argument regs) mem → value ≡ new.program_break →
    Serves regs mem new s s (served.Value value)
unfolding call
serves-break regs mem new s value n is answer =
    serves-plain regs mem new s value (λ rest. rw (n, answer, is) refl)

-- a number that no call has
pub serves-nothing : (regs : List ℕ) (mem : Memory) (s : Streams) → call_number regs ≢ 63 →
    call_number regs ≢ 64 → is_exit (call_number regs) ≡ false → call_number regs ≢ 214 →
    Serves regs mem mem s s (served.Value no_such_call)
unfolding call
serves-nothing regs mem s read write exit brk =
    serves-plain regs mem mem s no_such_call
    (λ rest. rw (other 63 read, other 64 write, exit, other 214 brk) refl)
