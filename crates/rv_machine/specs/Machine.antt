-- The sequential machine: a hart, and the outside world as the hart sees it.
use Rattle.std.specs.Prelude.{ℕ, List, replicate, slice_set}
use Rattle.mem_regions.specs.Memory.{Memory}
use Rattle.rv_machine.specs.Hart.{Hart}

-- a hart, the input that has not been read yet, and the output that was written
pub record Machine : Type 0 where
  pub hart : Hart
  pub rest : List ℕ
  pub output : List ℕ

-- the registers at the start: all zero except x2, which points below the top of the stack
abbrev pub start_regs : List ℕ
start_regs = slice_set (replicate 32 0) 2 0x7f0ffff0

-- a hart at its start: at the entry of a program that was loaded into the memory
abbrev pub start_hart : Memory → ℕ → Hart
start_hart mem entry = record { pc = entry; regs = start_regs; mem = mem; retired = 0 }
