-- The report of a file that gives no delays (a format of this project).
use Rattle.std.specs.Prelude.{ℕ, List, ◌++◌, codes, decimal}
use Rattle.texts.specs.Lines.{line}
use Rattle.run_scripts.specs.declared.delay_refusal.DelayErr.{DelayErr}
use Rattle.run_scripts.specs.declared.delay_refusal.DelayKind.{DelayKind}
use Rattle.run_scripts.specs.declared.delay_refusal.DelayKind.TheVariants.{NotAscii, UnknownKind, KindTwice, BadDelay, ExtraWords}
use Rattle.report_refusals.specs.declared.faults.DelaysFault.{DelaysFault}
use Rattle.report_refusals.specs.declared.faults.DelaysFault.TheVariants as fault

-- why a line gives no delay
unfoldable pub delay_refusal : DelayKind → List ℕ
delay_refusal NotAscii = codes "NotAscii"
delay_refusal UnknownKind = codes "UnknownKind"
delay_refusal KindTwice = codes "KindTwice"
delay_refusal BadDelay = codes "BadDelay"
delay_refusal ExtraWords = codes "ExtraWords"

-- the first line that gives no delay, by its number, and why
unfoldable pub delay_line_refusal : DelayErr → List ℕ
delay_line_refusal error = codes " line " ++ decimal error.line ++ codes ": " ++ delay_refusal error.kind

-- the report
unfoldable pub bad_delays : DelaysFault → List ℕ
bad_delays fault.TooLong = line (codes "bad delays: TooLong")
bad_delays (fault.Line error) = line (codes "bad delays" ++ delay_line_refusal error)
