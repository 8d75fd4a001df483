-- The program that a file holds, and why it holds none.
use Rattle.std.specs.Prelude.{◌≡◌, ◌+◌, ◌⊎◌, ℕ, List, codes, Option}
use Rattle.cf_io.specs.Reads.{FilesSeen}
use Rattle.rv_machine.specs.Hart.{Hart}
use Rattle.cli_files.specs.Files.{IsFrontOf, LacksBytes}
use Rattle.cli_files.specs.Image.{most_bytes, IsProgramFile, IsRefused, hart_at_start}
use Rattle.cli_files.specs.Memory.{SaysNoMemory}
use Rattle.report_refusals.specs.Programs.{bad_program}
use Rattle.report_refusals.specs.declared.faults.ProgramErr.{ProgramErr}
use Rattle.cli_files.specs.declared.status.Status.{Status}
use Rattle.cli_files.specs.declared.status.Status.TheVariants as status
use Rattle.cli_files.specs.declared.status.Which.TheVariants as which

-- the program came from a read of up to one byte more than a program may have, and begins on this hart
pub record IsProgramAt (name : List ℕ) (before after : Option FilesSeen) (hart : Hart) : Type 0 where
  pub image : List ℕ
  pub front : IsFrontOf (most_bytes + 1) before after name image
  pub program : IsProgramFile image
  pub begins : hart ≡ hart_at_start image

-- the image is not a program, and the status and the report say why; or it is one, and memory for it was refused
abbrev pub IsNoProgram : List ℕ → Status → List ℕ → Type 0
IsNoProgram image answer report =
    ((error : ProgramErr) × IsRefused image error × (answer ≡ status.BadProgram error)
    × (report ≡ bad_program error))
    ⊎ (IsProgramFile image × SaysNoMemory answer report)

-- the file was read, and gives no program
pub record RefusesProgram (name : List ℕ) (before after : Option FilesSeen) (answer : Status)
    (report : List ℕ) : Type 0 where
  pub image : List ℕ
  pub front : IsFrontOf (most_bytes + 1) before after name image
  pub why : IsNoProgram image answer report

-- why the file of this name gives no program, the status that says so, and the report
abbrev pub LacksProgram : List ℕ → Option FilesSeen → Option FilesSeen → Status → List ℕ → Type 0
LacksProgram name before after answer report =
    RefusesProgram name before after answer report
    ⊎ LacksBytes which.Program (codes "read fault program") name before after answer report
