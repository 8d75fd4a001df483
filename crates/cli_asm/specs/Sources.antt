-- The answer of the command `asm`, and its effect on the outside.
use Rattle.std.specs.Prelude.{◌≡◌, ◌≢◌, ◌⊎◌, ℕ, List, codes, Option, Err}
use Rattle.rv_asm.specs.declared.object.Object.{Object}
use Rattle.rv_asm.specs.declared.refusal.AsmErr.{AsmErr}
use Rattle.rv_asm.specs.declared.refusal.AsmKind.TheVariants as AsmKind
use Rattle.rv_asm.specs.Assembling.{assembled}
use Rattle.rv_asm.specs.Objects.{Objects}
use Rattle.elf_make.specs.Files.{elf_file}
use Rattle.elf_make.specs.Viewed.{IsView}
use Rattle.report_refusals.specs.Sources.{bad_source}
use Rattle.cli_reports.specs.FileCommands.{FileSide, PutsOrFails, ComesOfFile, RefusesFile}
use Rattle.cli_files.specs.Memory.{SaysNoMemory}
use Rattle.cli_files.specs.declared.status.Status.{Status}
use Rattle.cli_files.specs.declared.status.Status.TheVariants as status
use Rattle.cli_files.specs.declared.status.Which.TheVariants as which

-- the maximum length that is read of a source: one byte more than a source may have
abbrev pub most_source : ℕ
most_source = 1048577

-- the file is that of the object that the source describes, and is seen as that object
pub record IsAssembly (source file : List ℕ) : Type 0 where
  pub object : Object
  pub stands : Objects object (assembled source)
  pub file_is : file ≡ elf_file object
  pub view : IsView object file

-- no file comes from the source: the status and the report say why; or memory was refused
abbrev pub IsUnassembled : List ℕ → Status → List ℕ → Type 0
IsUnassembled source answer report =
    ((error : AsmErr) × (assembled source ≡ Err error) × (answer ≡ status.BadSource error)
    × (report ≡ bad_source error))
    ⊎ SaysNoMemory answer report

-- the status and the report of a refusal
abbrev pub Refused : AsmErr → Status → List ℕ → Type 0
Refused error answer report =
    ((error.kind ≢ AsmKind.NoMemory) × (answer ≡ status.BadSource error) × (report ≡ bad_source error))
    ⊎ SaysNoMemory answer report

-- the file of the source was written to the output, or the output failed while it was written
pub record PutsAssembly (source : List ℕ) (before after : Option (List ℕ)) (answer : Status)
    (report : List ℕ) : Type 0 where
  pub file : List ℕ
  pub assembly : IsAssembly source file
  pub puts : PutsOrFails file before after answer report

-- the status and the report for a source
abbrev pub AssemblesSource : List ℕ → Option (List ℕ) → Option (List ℕ) → Status → List ℕ → Type 0
AssemblesSource source before after answer report =
    PutsAssembly source before after answer report
    ⊎ (IsUnassembled source answer report × (after ≡ before))

-- the answer of `asm` and its report
abbrev pub AnswersAsm : List ℕ → FileSide → FileSide → Status → List ℕ → Type 0
AnswersAsm name before after answer report =
    ComesOfFile AssemblesSource most_source name before after answer report
    ⊎ RefusesFile which.Source (codes "read fault source") name before after answer report
