-- The report of a file that is not the trace of a run (a format of this project).
use Rattle.std.specs.Prelude.{ℕ, List, ◌++◌, codes, decimal}
use Rattle.run_scripts.specs.declared.trace_refusal.TraceKind.{TraceKind}
use Rattle.run_scripts.specs.declared.trace_refusal.TraceKind.TheVariants as kind
use Rattle.report_refusals.specs.Bars.{bar_text}
use Rattle.texts.specs.Lines.{line}
use Rattle.report_refusals.specs.declared.faults.TraceFault.{TraceFault}
use Rattle.report_refusals.specs.declared.faults.TraceFault.TheVariants as fault

-- why a text is not the trace of a run: the name, and after a space the bar of the move
unfoldable pub trace_refusal : TraceKind → List ℕ
trace_refusal kind.NotAMove = codes "NotAMove"
trace_refusal (kind.Barred bar) = codes "Barred " ++ bar_text bar
trace_refusal kind.Differs = codes "Differs"
trace_refusal kind.Cut = codes "Cut"

-- the line that shows it
unfoldable pub line_number : ℕ → List ℕ
line_number number = codes " line " ++ decimal number

-- the fault of a file
unfoldable pub trace_line_refusal : TraceFault → List ℕ
trace_line_refusal fault.TooLong = codes ": TooLong"
trace_line_refusal (fault.Line number why) = line_number number ++ codes ": " ++ trace_refusal why

-- the report of a file that is not the trace of a run
unfoldable pub bad_trace : TraceFault → List ℕ
bad_trace why = line (codes "bad trace" ++ trace_line_refusal why)
