-- The script that a file holds, and why it holds none.
use Rattle.std.specs.Prelude.{◌≡◌, ◌<◌, ◌≤◌, ◌+◌, ◌⊎◌, ℕ, List, length, codes, Option}
use Rattle.cf_io.specs.Reads.{FilesSeen}
use Rattle.run_scripts.specs.Limits.{most_script}
use Rattle.texts.specs.Lines.{line}
use Rattle.cli_files.specs.Files.{IsFrontOf, LacksBytes}
use Rattle.report_refusals.specs.declared.faults.ScriptFault.TheVariants as fault
use Rattle.cli_files.specs.declared.status.Status.{Status}
use Rattle.cli_files.specs.declared.status.Status.TheVariants as status
use Rattle.cli_files.specs.declared.status.Which.TheVariants as which

-- this text came from a read of up to one byte more than a script may have, and is not too long
pub record IsScriptAt (name : List ℕ) (before after : Option FilesSeen) (text : List ℕ) : Type 0 where
  pub front : IsFrontOf (most_script + 1) before after name text
  pub fits : length text ≤ most_script

-- the text is too long
pub record ScriptTooLong (name : List ℕ) (before after : Option FilesSeen) (answer : Status)
    (report : List ℕ) : Type 0 where
  pub text : List ℕ
  pub front : IsFrontOf (most_script + 1) before after name text
  pub long : most_script < length text
  pub status_is : answer ≡ status.BadScript fault.TooLong
  pub reports : report ≡ line (codes "bad script: TooLong")

-- why the file of this name gives no script, the status that says so, and the report
abbrev pub LacksScript : List ℕ → Option FilesSeen → Option FilesSeen → Status → List ℕ → Type 0
LacksScript name before after answer report =
    ScriptTooLong name before after answer report
    ⊎ LacksBytes which.Script (codes "read fault script") name before after answer report
