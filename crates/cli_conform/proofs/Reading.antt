-- The files that `conform` reads.
use Rattle.std.proofs.Common.{ℕ, List, [], ◌∷◌, ◌++◌, inl, inr}
use Rattle.cli_files.specs.Outside.{Outside}
use Rattle.cli_files.specs.Reads.{layout_files, WereRead}
use Rattle.cli_files.specs.declared.status.Status.{Status}
use Rattle.cli_files.proofs.Reading.{were-all, loaded-read, loaded-lacking}
use Rattle.cli_conform.specs.Conform.{ConformAsked, AnswersConform}

pub conform-read : (asked : ConformAsked) (before after : Outside) (answer : Status) (report : List ℕ) →
    AnswersConform asked before after answer report → WereRead (layout_files asked.layout ++ asked.program ∷ []) before.files after.files
conform-read asked before after answer report (inl r) =
    were-all (layout_files asked.layout ++ asked.program ∷ []) before.files after.files
    (loaded-read asked.layout asked.program before.files after.files r.plan r.hart r.loaded)
conform-read asked before after answer report (inr r) =
    loaded-lacking asked.layout asked.program before.files after.files answer report r.lacks
