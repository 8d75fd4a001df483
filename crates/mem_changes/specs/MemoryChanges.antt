-- How a memory differs from another one with the same regions.
use Rattle.std.specs.Prelude.{ℕ, List}
use Rattle.mem_changes.specs.declared.changes.Change.{Change}

-- the bytes that differ, the bytes of the code, as it is fetched, that differ, and the program break
pub record MemoryChanges : Type 0 where
  pub bytes : List Change
  pub code : List Change
  pub program_break : ℕ
