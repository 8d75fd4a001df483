-- The file that `asm` reads.
use Rattle.std.proofs.Common.{ℕ, List, [], ◌∷◌, inl, inr}
use Rattle.cli_files.specs.Reads.{WereRead}
use Rattle.cli_files.specs.declared.status.Status.{Status}
use Rattle.cli_files.proofs.Reading.{one-read, were-all, were-lacking}
use Rattle.cli_reports.specs.FileCommands.{FileSide}
use Rattle.cli_asm.specs.Sources.{most_source, AnswersAsm}

pub source-read : (name : List ℕ) (before after : FileSide) (answer : Status) (report : List ℕ) →
    AnswersAsm name before after answer report → WereRead (name ∷ []) before.files after.files
source-read name before after answer report (inl c) =
    were-all (name ∷ []) before.files after.files (one-read most_source before.files after.files name c.bytes c.front)
source-read name before after answer report (inr (lacks, same)) =
    were-lacking _ _ name before.files after.files answer report lacks
