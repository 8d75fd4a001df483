-- The answer of the command `check`, and its effect on the outside.
use Rattle.std.specs.Prelude.{◌≡◌, ◌⊎◌, ℕ, List, [], codes, Option}
use Rattle.cf_io.specs.Puts.{Writes, WritesFront}
use Rattle.cf_layout.specs.Layout.{Plan}
use Rattle.layout_file.specs.Text.{layout_text}
use Rattle.texts.specs.Lines.{line}
use Rattle.cli_arguments.specs.Arguments.{NamedLayout}
use Rattle.cli_reports.specs.FileCommands.{FileSide}
use Rattle.cli_files.specs.Layouts.{IsLayoutAt, LacksLayout}
use Rattle.cli_files.specs.declared.status.Status.{Status}
use Rattle.cli_files.specs.declared.status.Status.TheVariants as status

-- what the output has after the layout's text was written to it, and the report, by the status
abbrev pub WritesText : Plan → Option (List ℕ) → Option (List ℕ) → Status → List ℕ → Type 0
WritesText plan before after status.Done report =
    Writes before after (layout_text plan) × (report ≡ [])
WritesText plan before after status.WriteFault report =
    WritesFront before after (layout_text plan) × (report ≡ line (codes "write fault output"))
WritesText plan before after status.NoMemory report =
    (after ≡ before) × (report ≡ line (codes "no memory"))
WritesText plan before after _ report = ⊥

-- the argument names a layout, and its text was written, or a prefix of it before the output failed
pub record WritesLayout (layout : NamedLayout) (before after : FileSide) (answer : Status)
    (report : List ℕ) : Type 0 where
  pub plan : Plan
  pub named : IsLayoutAt layout before.files after.files plan
  pub text : WritesText plan before.output after.output answer report

-- there is no layout, and the output was left unchanged
pub record RefusesCheck (layout : NamedLayout) (before after : FileSide) (answer : Status)
    (report : List ℕ) : Type 0 where
  pub lacks : LacksLayout layout before.files after.files answer report
  pub output : after.output ≡ before.output

-- the answer of `check` and its report
abbrev pub AnswersCheck : NamedLayout → FileSide → FileSide → Status → List ℕ → Type 0
AnswersCheck layout before after answer report =
    WritesLayout layout before after answer report
    ⊎ RefusesCheck layout before after answer report
