-- The layout and the program that a command works on, read one after the other.
use Rattle.std.specs.Prelude.{◌⊎◌, ℕ, List, Option}
use Rattle.cf_io.specs.Reads.{FilesSeen}
use Rattle.rv_machine.specs.Hart.{Hart}
use Rattle.cf_layout.specs.Layout.{Plan}
use Rattle.cli_arguments.specs.Arguments.{NamedLayout}
use Rattle.cli_files.specs.Layouts.{IsLayoutAt, LacksLayout}
use Rattle.cli_files.specs.LooseLayouts.{IsLooseLayoutAt, LacksLooseLayout}
use Rattle.cli_files.specs.Programs.{IsProgramAt, LacksProgram}
use Rattle.cli_files.specs.declared.status.Status.{Status}

-- the argument names this layout, and after it the program was read, which begins on this hart
pub record IsLoaded (layout : NamedLayout) (name : List ℕ) (before after : Option FilesSeen) (plan : Plan)
    (hart : Hart) : Type 0 where
  pub between : Option FilesSeen
  pub laid : IsLayoutAt layout before between plan
  pub program : IsProgramAt name between after hart

-- the layout was found, and the program was not
pub record StopsAtProgram (layout : NamedLayout) (name : List ℕ) (before after : Option FilesSeen) (answer : Status)
    (report : List ℕ) : Type 0 where
  pub plan : Plan
  pub between : Option FilesSeen
  pub laid : IsLayoutAt layout before between plan
  pub lacks : LacksProgram name between after answer report

-- the first of the two that is missing, the status that says why, and the report
abbrev pub LacksLoaded : NamedLayout → List ℕ → Option FilesSeen → Option FilesSeen → Status → List ℕ → Type 0
LacksLoaded layout program before after answer report =
    LacksLayout layout before after answer report
    ⊎ StopsAtProgram layout program before after answer report

-- the same, if the layout may break the rule on where control turns
pub record IsLoadedLoosely (layout : NamedLayout) (name : List ℕ) (before after : Option FilesSeen) (plan : Plan)
    (hart : Hart) : Type 0 where
  pub between : Option FilesSeen
  pub laid : IsLooseLayoutAt layout before between plan
  pub program : IsProgramAt name between after hart

pub record StopsAtProgramLoosely (layout : NamedLayout) (name : List ℕ) (before after : Option FilesSeen)
    (answer : Status) (report : List ℕ) : Type 0 where
  pub plan : Plan
  pub between : Option FilesSeen
  pub laid : IsLooseLayoutAt layout before between plan
  pub lacks : LacksProgram name between after answer report

abbrev pub LacksLoadedLoosely : NamedLayout → List ℕ → Option FilesSeen → Option FilesSeen → Status → List ℕ → Type 0
LacksLoadedLoosely layout program before after answer report =
    LacksLooseLayout layout before after answer report
    ⊎ StopsAtProgramLoosely layout program before after answer report
