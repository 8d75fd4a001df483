-- The answer of the command `list`, and its effect on the outside.
use Rattle.std.specs.Prelude.{◌≡◌, ◌⊎◌, ℕ, ◌+◌, ◌<◌, ◌≤◌, true, List, length, codes, Option, Some, if◌then◌else◌}
use Rattle.elf_view.specs.Executables.{IsElf}
use Rattle.elf_view.specs.Refusal.{starts_with_elf, file_refusal}
use Rattle.cf_io.specs.Puts.{WritesFront}
use Rattle.asm_listing.specs.Listing.{elf_listing, flat_listing}
use Rattle.texts.specs.Lines.{line}
use Rattle.cli_files.specs.Image.{most_bytes}
use Rattle.report_refusals.specs.Programs.{bad_program}
use Rattle.cli_reports.specs.FileCommands.{FileSide, PutsOutput, FailsText, ComesOfFile, RefusesFile}
use Rattle.cli_list.specs.declared.listing.ListErr.{ListErr}
use Rattle.cli_list.specs.declared.listing.ListErr.TheVariants as err
use Rattle.report_refusals.specs.declared.faults.ProgramErr.{ProgramErr}
use Rattle.report_refusals.specs.declared.faults.ProgramErr.TheVariants as program
use Rattle.cli_files.specs.declared.status.Status.{Status}
use Rattle.cli_files.specs.declared.status.Status.TheVariants as status
use Rattle.cli_files.specs.declared.status.Which.TheVariants as which

-- the listing of a program file; a file that does not begin as an ELF file is a flat image
unfoldable pub listing_of : List ℕ → List ℕ
listing_of image = if starts_with_elf image then elf_listing image else flat_listing image

-- the file can be listed: it is not too long, and is a sound ELF file if it begins as one
pub record IsListable (image : List ℕ) : Type 0 where
  pub fits : length image ≤ most_bytes
  pub formed : starts_with_elf image ≡ true → IsElf image

-- why it cannot be listed; its parts are not loaded, so they are never the cause
abbrev pub IsUnlistable : List ℕ → ProgramErr → Type 0
IsUnlistable image program.TooLong = most_bytes < length image
IsUnlistable image (program.Elf error) =
    (length image ≤ most_bytes) × (starts_with_elf image ≡ true)
    × (file_refusal image ≡ Some error)
IsUnlistable image (program.Load error) = ⊥

-- what is true of an image and of the output if the listing was not written
abbrev pub IsNotListed : List ℕ → Option (List ℕ) → Option (List ℕ) → ListErr → Type 0
IsNotListed image before after (err.Refused error) =
    IsUnlistable image error × (after ≡ before)
IsNotListed image before after err.NoMemory = IsListable image × (after ≡ before)
IsNotListed image before after err.Failed =
    IsListable image × WritesFront before after (listing_of image)

-- the status and the report for an image
abbrev pub ListsImage : List ℕ → Option (List ℕ) → Option (List ℕ) → Status → List ℕ → Type 0
ListsImage image before after status.Done report =
    IsListable image × PutsOutput (listing_of image) before after report
ListsImage image before after status.WriteFault report =
    IsListable image × FailsText (listing_of image) before after report
ListsImage image before after status.NoMemory report =
    IsListable image × (after ≡ before) × (report ≡ line (codes "no memory"))
ListsImage image before after (status.BadProgram error) report =
    IsUnlistable image error × (report ≡ bad_program error) × (after ≡ before)
ListsImage image before after _ report = ⊥

-- the answer of `list` and its report
abbrev pub AnswersList : List ℕ → FileSide → FileSide → Status → List ℕ → Type 0
AnswersList name before after answer report =
    ComesOfFile ListsImage (most_bytes + 1) name before after answer report
    ⊎ RefusesFile which.Program (codes "read fault program") name before after answer report
