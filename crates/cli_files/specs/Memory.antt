-- The answer if memory was refused.
use Rattle.std.specs.Prelude.{◌≡◌, List, ℕ, codes}
use Rattle.rv_machine.specs.Streams.{Streams}
use Rattle.texts.specs.Lines.{line}
use Rattle.cli_files.specs.declared.status.Status.{Status}
use Rattle.cli_files.specs.declared.status.Status.TheVariants as status

-- the status and the report say so
abbrev pub SaysNoMemory : Status → List ℕ → Type 0
SaysNoMemory answer report = (answer ≡ status.NoMemory) × (report ≡ line (codes "no memory"))

-- memory for the processor, or for data kept with it, was refused before its first move
pub record LacksProcessor (before after : Streams) (answer : Status) (report : List ℕ) : Type 0 where
  pub status_is : answer ≡ status.NoMemory
  pub reports : report ≡ line (codes "no memory")
  pub streams : after ≡ before
