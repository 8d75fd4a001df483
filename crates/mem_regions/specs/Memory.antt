-- The memory of a program: its regions in order, and the program break, which is the end of its heap.
use Rattle.std.specs.Prelude.{ℕ, List}
use Rattle.mem_regions.specs.Area.{Area}

-- regions in the order in which they were loaded, and the break as an address
pub record Memory : Type 0 where
  pub areas : List Area
  pub program_break : ℕ
