-- The files that `rounds` reads.
use Rattle.std.proofs.Common.{ℕ, List, [], ◌∷◌, ◌++◌, Option, inl, inr}
use Rattle.cli_files.specs.Outside.{Outside}
use Rattle.cli_files.specs.Reads.{layout_files, WereRead}
use Rattle.cli_files.specs.declared.status.Status.{Status}
use Rattle.cli_files.proofs.Reading.{were-all, loaded-read, loaded-lacking}
use Rattle.cli_rounds.specs.Rounds.{RoundsAsked, AnswersRounds, BreaksRounds}

pub rounds-read : (asked : RoundsAsked) (before after : Outside) (blank : Option (List ℕ)) (answer : Status) (shown closing : List ℕ) →
    AnswersRounds asked before after blank answer shown closing → WereRead (layout_files asked.layout ++ asked.program ∷ []) before.files after.files
rounds-read asked before after blank answer shown closing (inl r) =
    were-all (layout_files asked.layout ++ asked.program ∷ []) before.files after.files
    (loaded-read asked.layout asked.program before.files after.files r.plan r.hart r.loaded)
rounds-read asked before after blank answer shown closing (inr r) =
    loaded-lacking asked.layout asked.program before.files after.files answer (shown ++ closing) r.lacks

pub rounds-broken : (asked : RoundsAsked) (before after : Outside) (blank full : Option (List ℕ)) →
    BreaksRounds asked before after blank full → WereRead (layout_files asked.layout ++ asked.program ∷ []) before.files after.files
rounds-broken asked before after blank full r =
    were-all (layout_files asked.layout ++ asked.program ∷ []) before.files after.files
    (loaded-read asked.layout asked.program before.files after.files r.plan r.hart r.loaded)
