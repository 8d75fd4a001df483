-- The delays that a file gives, and why it gives none.
use Rattle.std.specs.Prelude.{◌≡◌, ◌<◌, ◌≤◌, ◌+◌, ◌⊎◌, ℕ, List, length, codes, Option, Ok, Err}
use Rattle.cf_timed.specs.declared.span.Span.{Span}
use Rattle.cf_io.specs.Reads.{FilesSeen}
use Rattle.cf_timed.specs.DelayLines.{delays_in}
use Rattle.cf_timed.specs.Limits.{most_delays}
use Rattle.cli_files.specs.Files.{IsFrontOf, LacksBytes}
use Rattle.report_refusals.specs.declared.faults.DelaysFault.{DelaysFault}
use Rattle.report_refusals.specs.declared.faults.DelaysFault.TheVariants as fault
use Rattle.cli_files.specs.declared.status.Status.{Status}
use Rattle.cli_files.specs.declared.status.Status.TheVariants as status
use Rattle.cli_files.specs.declared.status.Which.TheVariants as which
use Rattle.report_refusals.specs.Delays.{bad_delays}

-- these delays are in a text that came from a read of up to one byte more than such a file may have, and is not too
-- long
pub record IsDelaysAt (name : List ℕ) (before after : Option FilesSeen) (delays : List Span) : Type 0 where
  pub text : List ℕ
  pub front : IsFrontOf (most_delays + 1) before after name text
  pub fits : length text ≤ most_delays
  pub told : delays_in text ≡ Ok delays

-- why a text gives none: it is too long, or otherwise this line of it is the first that gives no delay
abbrev pub IsNoText : List ℕ → DelaysFault → Type 0
IsNoText text fault.TooLong = most_delays < length text
IsNoText text (fault.Line error) = (length text ≤ most_delays) × (delays_in text ≡ Err error)

-- the status and the report that say so
abbrev pub RefusesText : List ℕ → Status → List ℕ → Type 0
RefusesText text answer report =
    (reason : DelaysFault) × IsNoText text reason × (answer ≡ status.BadDelays reason) × (report ≡ bad_delays reason)

-- the file's first bytes give none
pub record RefusesDelays (name : List ℕ) (before after : Option FilesSeen) (answer : Status) (report : List ℕ) : Type 0 where
  pub text : List ℕ
  pub front : IsFrontOf (most_delays + 1) before after name text
  pub refuses : RefusesText text answer report

-- why the file of this name gives no delays, the status that says so, and the report
abbrev pub LacksDelays : List ℕ → Option FilesSeen → Option FilesSeen → Status → List ℕ → Type 0
LacksDelays name before after answer report =
    RefusesDelays name before after answer report
    ⊎ LacksBytes which.Delays (codes "read fault delays") name before after answer report
