-- The layout that an argument of the command line names, and why it names none, if a layout may break the rule on where
-- control turns.
use Rattle.std.specs.Prelude.{◌≡◌, ◌≢◌, ◌⊎◌, ℕ, ◌+◌, List, codes, Option}
use Rattle.cf_io.specs.Reads.{FilesSeen}
use Rattle.cf_layout.specs.Layout.{Plan}
use Rattle.cf_layout.specs.Plain as built_in
use Rattle.layout_file.specs.declared.fault.FileErr.{FileErr}
use Rattle.layout_file.specs.declared.fault.FileErr.TheVariants as err
use Rattle.layout_file.specs.Answers.{LooseLayoutFails, DescribesLoosely}
use Rattle.layout_file.specs.Limits.{most_layout_bytes}
use Rattle.report_refusals.specs.Layouts.{bad_layout}
use Rattle.cli_arguments.specs.Arguments.{NamedLayout, plain, in_file}
use Rattle.cli_files.specs.Files.{IsFrontOf, LacksBytes}
use Rattle.cli_files.specs.Memory.{SaysNoMemory}
use Rattle.cli_files.specs.declared.status.Status.{Status}
use Rattle.cli_files.specs.declared.status.Status.TheVariants as status
use Rattle.cli_files.specs.declared.status.Which.TheVariants as which

-- the argument names this layout: the built-in one, or the one that is described by its file, of which up to one byte
-- more than a layout may have is read
abbrev pub IsLooseLayoutAt : NamedLayout → Option FilesSeen → Option FilesSeen → Plan → Type 0
IsLooseLayoutAt plain before after plan = (plan ≡ built_in.plain) × (after ≡ before)
IsLooseLayoutAt (in_file name) before after plan =
    (file : List ℕ) × IsFrontOf (most_layout_bytes + 1) before after name file × DescribesLoosely file plan

-- the content of a file is no such layout, and the status and the report say why; or memory for it was refused
abbrev pub IsNoLooseLayout : List ℕ → Status → List ℕ → Type 0
IsNoLooseLayout file answer report =
    ((error : FileErr) × LooseLayoutFails file error × (error ≢ err.NoMemory)
    × (answer ≡ status.BadLayout error) × (report ≡ bad_layout error))
    ⊎ SaysNoMemory answer report

-- the file was read, and gives no such layout
pub record RefusesLooseLayout (name : List ℕ) (before after : Option FilesSeen) (answer : Status)
    (report : List ℕ) : Type 0 where
  pub file : List ℕ
  pub front : IsFrontOf (most_layout_bytes + 1) before after name file
  pub why : IsNoLooseLayout file answer report

-- why the argument names no such layout, the status that says so, and the report; the built-in layout always exists
abbrev pub LacksLooseLayout : NamedLayout → Option FilesSeen → Option FilesSeen → Status → List ℕ → Type 0
LacksLooseLayout plain before after answer report = ⊥
LacksLooseLayout (in_file name) before after answer report =
    RefusesLooseLayout name before after answer report
    ⊎ LacksBytes which.Layout (codes "read fault layout") name before after answer report
