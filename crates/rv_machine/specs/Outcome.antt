-- The outcome of one instruction.
use Rattle.std.specs.Prelude.{ℕ}
use Rattle.rv_machine.specs.declared.outcome.Retired.{Retired}

-- it continues with A and the line of the instruction that retired; a trap with its cause, the instruction's address
-- and a detail; the program's end
pub data Outcome (A : Type 0) : Type 0 where
  Next : A → Retired → Outcome A
  Trap : ℕ → ℕ → ℕ → Outcome A
  Exit : ℕ → Outcome A
