-- The files that `debug` reads.
use Rattle.std.proofs.Common.{ℕ, List, [], ◌∷◌, ◌++◌, Option, inl, inr}
use Rattle.cli_arguments.specs.Arguments.{NamedLayout}
use Rattle.cli_files.specs.Outside.{Outside}
use Rattle.cli_files.specs.Reads.{layout_files, WereRead}
use Rattle.cli_files.specs.declared.status.Status.{Status}
use Rattle.cli_files.proofs.Reading.{were-all, loaded-read, loaded-lacking}
use Rattle.cli_debug.specs.Debug.{AnswersDebug, BreaksDebug}

pub debugged-read : (layout : NamedLayout) (program : List ℕ) (before after : Outside) (answer : Status) (report : List ℕ) →
    AnswersDebug layout program before after answer report → WereRead (layout_files layout ++ program ∷ []) before.files after.files
debugged-read layout program before after answer report (inl d) =
    were-all (layout_files layout ++ program ∷ []) before.files after.files
    (loaded-read layout program before.files after.files d.plan d.hart d.loaded)
debugged-read layout program before after answer report (inr r) =
    loaded-lacking layout program before.files after.files answer report r.lacks

pub broken-read : (layout : NamedLayout) (program : List ℕ) (before after : Outside) (blank full : Option (List ℕ)) →
    BreaksDebug layout program before after blank full → WereRead (layout_files layout ++ program ∷ []) before.files after.files
broken-read layout program before after blank full b =
    were-all (layout_files layout ++ program ∷ []) before.files after.files
    (loaded-read layout program before.files after.files b.plan b.hart b.loaded)
