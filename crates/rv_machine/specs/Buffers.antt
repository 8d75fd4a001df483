-- The effect of a read on its buffer, which is in memory (a convention of this project).
use Rattle.std.specs.Prelude.{◌≡◌, ◌≤◌, ℕ, List, length, Option}
use Rattle.cf_io.specs.Takes.{TakesMost}
use Rattle.mem_regions.specs.Memory.{Memory}
use Rattle.mem_regions.specs.Writing.{memory_with}
use Rattle.rv_machine.specs.Streams.{GivesInput}

-- bytes went from the input to the start of the buffer, and its old bytes follow them
pub record TakesInto (addr len : ℕ) (mem new : Memory) (left after : Option (List ℕ))
    (taken : List ℕ) : Type 0 where
  pub fits : length taken ≤ len
  pub memory : new ≡ memory_with mem addr len taken
  pub gives : GivesInput left after taken

-- n bytes went there, which fill the buffer or are all that the input had left
pub record Fills (addr len : ℕ) (mem new : Memory) (left after : Option (List ℕ)) (n : ℕ) :
    Type 0 where
  pub taken : List ℕ
  pub count : n ≡ length taken
  pub takes : TakesInto addr len mem new left after taken
  pub most : TakesMost left len n

-- some bytes went there
abbrev pub FillsSome : ℕ → ℕ → Memory → Memory → Option (List ℕ) → Option (List ℕ) → Type 0
FillsSome addr len mem new left after =
    (taken : List ℕ) × TakesInto addr len mem new left after taken
