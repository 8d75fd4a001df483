-- The trace that a file holds, and why it holds none.
use Rattle.std.specs.Prelude.{◌≡◌, ◌<◌, ◌≤◌, ◌+◌, ◌⊎◌, ℕ, List, length, codes, Option}
use Rattle.cf_io.specs.Reads.{FilesSeen}
use Rattle.cf_audit.specs.Limits.{most_trace}
use Rattle.cli_files.specs.Files.{IsFrontOf, LacksBytes}
use Rattle.cli_files.specs.declared.status.Status.{Status}
use Rattle.cli_files.specs.declared.status.Status.TheVariants as status
use Rattle.report_refusals.specs.declared.faults.TraceFault.TheVariants as fault
use Rattle.cli_files.specs.declared.status.Which.TheVariants as which
use Rattle.report_refusals.specs.Traces.{bad_trace}

-- this text came from a read of up to one byte more than a trace may have, and is not too long
pub record IsTraceAt (name : List ℕ) (before after : Option FilesSeen) (text : List ℕ) : Type 0 where
  pub front : IsFrontOf (most_trace + 1) before after name text
  pub fits : length text ≤ most_trace

-- the text is too long
pub record TraceTooLong (name : List ℕ) (before after : Option FilesSeen) (answer : Status)
    (report : List ℕ) : Type 0 where
  pub text : List ℕ
  pub front : IsFrontOf (most_trace + 1) before after name text
  pub long : most_trace < length text
  pub status_is : answer ≡ status.BadTrace fault.TooLong
  pub reports : report ≡ bad_trace fault.TooLong

-- why the file of this name gives no trace, the status that says so, and the report
abbrev pub LacksTrace : List ℕ → Option FilesSeen → Option FilesSeen → Status → List ℕ → Type 0
LacksTrace name before after answer report =
    TraceTooLong name before after answer report
    ⊎ LacksBytes which.Trace (codes "read fault trace") name before after answer report
