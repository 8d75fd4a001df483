-- The file that `machine` reads.
use Rattle.std.proofs.Common.{ℕ, List, [], ◌∷◌, ◌++◌, Option, inl, inr}
use Rattle.cli_files.specs.Outside.{Outside}
use Rattle.cli_files.specs.Reads.{WereRead}
use Rattle.cli_files.specs.declared.status.Status.{Status}
use Rattle.cli_files.proofs.Reading.{were-all, program-read, program-lacking}
use Rattle.cli_machine.specs.Machine.{AnswersMachine, BreaksProgram}
use Rattle.cli_machine.specs.Options.{Chosen}

pub machine-read : (name : List ℕ) (chosen : Chosen) (before after : Outside) (answer : Status) (shown closing : List ℕ) →
    AnswersMachine name chosen before after answer shown closing → WereRead (name ∷ []) before.files after.files
machine-read name chosen before after answer shown closing (inl r) =
    were-all (name ∷ []) before.files after.files (program-read name before.files after.files r.start r.program)
machine-read name chosen before after answer shown closing (inr r) =
    program-lacking name before.files after.files answer (shown ++ closing) r.lacks

pub machine-broken : (name : List ℕ) (chosen : Chosen) (before after : Outside) (blank full : Option (List ℕ)) →
    BreaksProgram name chosen before after blank full → WereRead (name ∷ []) before.files after.files
machine-broken name chosen before after blank full r =
    were-all (name ∷ []) before.files after.files (program-read name before.files after.files r.start r.program)
