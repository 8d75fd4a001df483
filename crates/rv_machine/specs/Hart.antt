-- A hart between two instructions (RISC-V Unprivileged ISA Manual, RV32I: programmers' model).
use Rattle.std.specs.Prelude.{ℕ, List}
use Rattle.mem_regions.specs.Memory.{Memory}

-- the address of the next instruction, the 32 registers, the memory, and how many instructions have retired
pub record Hart : Type 0 where
  pub pc : ℕ
  pub regs : List ℕ
  pub mem : Memory
  pub retired : ℕ
