-- The environment calls of Linux on RISC-V: the number in x17, the arguments from x10 on, the answer to x10 (Linux, the
-- generic table of system calls and the table of error numbers).
use Rattle.std.specs.Prelude.{ℕ, ◌%◌, negsuc, List, [], take, drop, length, min, Bool, not, is_some, nat_le, ◌==◌, ◌&&◌, ◌||◌, if◌then◌else◌, Option, Some, None, slice_index}
use Rattle.mem_regions.specs.Memory.{Memory}
use Rattle.mem_regions.specs.Ranges.{range_of, can_write}
use Rattle.mem_regions.specs.Writing.{memory_with}
use Rattle.rv_inst.specs.Words.{signed_word}

-- the answer of a call, the memory and the input that it leaves, and the bytes that it adds to the output
pub record CallAnswer : Type 0 where
  pub value : ℕ
  pub mem : Memory
  pub rest : List ℕ
  pub output : List ℕ

-- a call answers, or it ends the program
pub data Called : Type 0 where
  Value : CallAnswer → Called
  Exit : ℕ → Called

-- the number of the call that the registers request, and its arguments
abbrev pub call_number : List ℕ → ℕ
call_number regs = slice_index regs 17

abbrev pub first_argument : List ℕ → ℕ
first_argument regs = slice_index regs 10

abbrev pub second_argument : List ℕ → ℕ
second_argument regs = slice_index regs 11

abbrev pub third_argument : List ℕ → ℕ
third_argument regs = slice_index regs 12

-- EBADF, 9 below zero: no such file is open
abbrev pub bad_file : ℕ
bad_file = signed_word (negsuc 8)

-- EFAULT, 14 below zero: the buffer is not in memory
abbrev pub bad_address : ℕ
bad_address = signed_word (negsuc 13)

-- ENOSYS, 38 below zero: there is no call with this number
abbrev pub no_such_call : ℕ
no_such_call = signed_word (negsuc 37)

-- an answer that uses neither input nor output
abbrev pub answered_alone : ℕ → Memory → List ℕ → Called
answered_alone value mem rest = Value (record { value = value; mem = mem; rest = rest; output = [] })

-- the first bytes of the rest go to the buffer, as many as the smaller of the two lengths; the answer is their number
abbrev pub read_into : ℕ → ℕ → Memory → List ℕ → Called
read_into addr len mem rest =
    let count = min len (length rest) in
    Value (record {
      value = count;
      mem = memory_with mem addr len (take count rest);
      rest = drop count rest;
      output = [];
    })

-- read(fd, addr, len), where 0 is the input
unfoldable pub read : ℕ → ℕ → ℕ → Memory → List ℕ → Called
read fd addr len mem rest =
    if not (fd == 0) then answered_alone bad_file mem rest else
    if len == 0 then answered_alone 0 mem rest else
    if not (can_write mem addr len) then answered_alone bad_address mem rest else
    read_into addr len mem rest

-- the bytes of the buffer go to the output, if the buffer is in memory; the answer is their number
abbrev pub write_from : Option (List ℕ) → ℕ → Memory → List ℕ → Called
write_from None len mem rest = answered_alone bad_address mem rest
write_from (Some bytes) len mem rest =
    Value (record { value = len; mem = mem; rest = rest; output = bytes })

-- 1 and 2 are the output
abbrev pub is_output : ℕ → Bool
is_output fd = (fd == 1) || (fd == 2)

-- write(fd, addr, len)
unfoldable pub write : ℕ → ℕ → ℕ → Memory → List ℕ → Called
write fd addr len mem rest =
    if not (is_output fd) then answered_alone bad_file mem rest else
    if len == 0 then answered_alone 0 mem rest else
    write_from (range_of mem addr len) len mem rest

-- the heap is in the lower half of the stack's region, and the break is in it or at its end
abbrev pub is_break : ℕ → Bool
is_break addr = nat_le 0x7f000000 addr && nat_le addr 0x7f080000

-- the memory with its break at the address, if the break may be there
unfoldable pub with_break : ℕ → Memory → Memory
with_break addr mem = if is_break addr then record mem { program_break = addr } else mem

-- brk(addr): the break becomes the address, if it may; the answer is the break
abbrev pub brk : ℕ → Memory → List ℕ → Called
brk addr mem rest =
    let moved = with_break addr mem in answered_alone moved.program_break moved rest

-- exit(status) and exit_group(status): the low eight bits of the status
abbrev pub exit : ℕ → Called
exit status = Exit (status % 256)

-- the numbers of exit and exit_group
abbrev pub is_exit : ℕ → Bool
is_exit number = (number == 93) || (number == 94)

-- the call that the registers request
unfoldable pub call : List ℕ → Memory → List ℕ → Called
call regs mem rest =
    let number = call_number regs in
    let a = first_argument regs in
    let b = second_argument regs in
    let c = third_argument regs in
    if number == 63 then read a b c mem rest else
    if number == 64 then write a b c mem rest else
    if is_exit number then exit a else
    if number == 214 then brk a mem rest else answered_alone no_such_call mem rest

-- the call uses the input: it is a read that passes its tests
unfoldable pub asks_input : List ℕ → Memory → Bool
asks_input regs mem =
    let addr = second_argument regs in
    let len = third_argument regs in
    (call_number regs == 63) && (first_argument regs == 0) && not (len == 0)
    && can_write mem addr len

-- the call uses the output: it is a write that passes its tests
unfoldable pub asks_output : List ℕ → Memory → Bool
asks_output regs mem =
    let addr = second_argument regs in
    let len = third_argument regs in
    (call_number regs == 64) && is_output (first_argument regs) && not (len == 0)
    && is_some (range_of mem addr len)
