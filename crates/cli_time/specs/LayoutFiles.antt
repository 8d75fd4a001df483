-- The layouts that some arguments name, read one after another, and the first that is missing.
use Rattle.std.specs.Prelude.{◌≡◌, ◌⊎◌, ℕ, List, [], ◌∷◌, Option}
use Rattle.cf_io.specs.Reads.{FilesSeen}
use Rattle.cf_layout.specs.Layout.{Plan}
use Rattle.cli_arguments.specs.Arguments.{NamedLayout}
use Rattle.cli_files.specs.Layouts.{IsLayoutAt, LacksLayout}
use Rattle.cli_files.specs.Memory.{SaysNoMemory}
use Rattle.cli_files.specs.declared.status.Status.{Status}

-- the arguments name these layouts, in their order
abbrev pub AreLayoutsAt : List NamedLayout → Option FilesSeen → Option FilesSeen → List Plan → Type 0
AreLayoutsAt [] before after [] = after ≡ before
AreLayoutsAt [] before after (plan ∷ plans) = ⊥
AreLayoutsAt (argument ∷ arguments) before after [] = ⊥
AreLayoutsAt (argument ∷ arguments) before after (plan ∷ plans) =
    (between : Option FilesSeen) × IsLayoutAt argument before between plan × AreLayoutsAt arguments between after plans

-- the first arguments name layouts, and the next one names none, or memory to keep it was refused: the status that says
-- why, and the report
abbrev pub LacksLayouts : List NamedLayout → Option FilesSeen → Option FilesSeen → Status → List ℕ → Type 0
LacksLayouts [] before after answer report = ⊥
LacksLayouts (argument ∷ arguments) before after answer report =
    LacksLayout argument before after answer report
    ⊎ (((plan : Plan) × IsLayoutAt argument before after plan × SaysNoMemory answer report)
    ⊎ ((between : Option FilesSeen) × (plan : Plan) × IsLayoutAt argument before between plan
    × LacksLayouts arguments between after answer report))
