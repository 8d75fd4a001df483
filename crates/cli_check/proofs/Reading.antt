-- The file that `check` reads.
use Rattle.std.proofs.Common.{ℕ, List, inl, inr}
use Rattle.cli_arguments.specs.Arguments.{NamedLayout}
use Rattle.cli_files.specs.Reads.{layout_files, WereRead}
use Rattle.cli_files.specs.declared.status.Status.{Status}
use Rattle.cli_files.proofs.Reading.{were-all, layout-read, layout-lacking}
use Rattle.cli_check.specs.Check.{AnswersCheck}
use Rattle.cli_reports.specs.FileCommands.{FileSide}

pub check-read : (layout : NamedLayout) (before after : FileSide) (answer : Status) (report : List ℕ) →
    AnswersCheck layout before after answer report → WereRead (layout_files layout) before.files after.files
check-read layout before after answer report (inl w) =
    were-all (layout_files layout) before.files after.files (layout-read layout before.files after.files w.plan w.named)
check-read layout before after answer report (inr r) =
    layout-lacking layout before.files after.files answer report r.lacks
