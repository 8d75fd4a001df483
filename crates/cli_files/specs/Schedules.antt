-- What chooses the moves of a run, once its files are read.
use Rattle.std.specs.Prelude.{◌≡◌, ◌≤◌, ℕ, List, length, vec_items, Option}
use Rattle.run_options.specs.declared.guess_rule.GuessRule.{GuessRule}
use Rattle.cf_io.specs.Reads.{FilesSeen}
use Rattle.cli_arguments.specs.Options.{Schedule, by_script, by_seed, by_rule}
use Rattle.run_scripts.specs.Limits.{most_script}
use Rattle.cli_files.specs.Scripts.{IsScriptAt, LacksScript}
use Rattle.cli_files.specs.declared.status.Status.{Status}
use Rattle.cli_files.specs.declared.schedules.ReadySchedule as rust
use Rattle.cli_files.specs.declared.schedules.ReadySchedule.TheVariants as schedules

-- the text of a script, a seed from which the moves are drawn, or the fixed rule; with the latter two, only moves that
-- a guess rule keeps
pub data ReadySchedule : Type 0 where
  in_script : (text : List ℕ) → ReadySchedule
  drawn_from : (seed : ℕ) → GuessRule → ReadySchedule
  in_turn : GuessRule → ReadySchedule

-- the schedule that the arguments ask for, with a script's file read; if there is no script, no file is read
abbrev pub IsScheduled : Schedule → Option FilesSeen → Option FilesSeen → ReadySchedule → Type 0
IsScheduled (by_script file) before after (in_script text) = IsScriptAt file before after text
IsScheduled (by_script file) before after (drawn_from seed rule) = ⊥
IsScheduled (by_script file) before after (in_turn rule) = ⊥
IsScheduled (by_seed seed rule) before after ready = (ready ≡ drawn_from seed rule) × (after ≡ before)
IsScheduled (by_rule rule) before after ready = (ready ≡ in_turn rule) × (after ≡ before)

-- a text is no longer than a script may be
abbrev pub FitsScript : ReadySchedule → Type 0
FitsScript (in_script text) = length text ≤ most_script
FitsScript (drawn_from seed rule) = Unit {0}
FitsScript (in_turn rule) = Unit {0}

-- the arguments ask for the script in a file, and that file gives none: the status that says why, and the report
pub record LacksSchedule (schedule : Schedule) (before after : Option FilesSeen) (answer : Status)
    (report : List ℕ) : Type 0 where
  pub file : List ℕ
  pub asks : schedule ≡ by_script file
  pub lacks : LacksScript file before after answer report

-- the schedule as contracts see it
abbrev pub ready_schedule_view : rust.ReadySchedule → ReadySchedule
ready_schedule_view (schedules.Script text) = in_script (vec_items text)
ready_schedule_view (schedules.Seed seed rule) = drawn_from seed rule
ready_schedule_view (schedules.Rule rule) = in_turn rule
