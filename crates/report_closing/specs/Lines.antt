-- The first line of the report that closes a run: how the run finished (a format of this project).
use Rattle.std.specs.Prelude.{ℕ, List, [], ◌++◌, codes, decimal}
use Rattle.cf_bind.specs.declared.moves.Bar.{Bar}
use Rattle.run_scripts.specs.declared.refusal.ScriptErr.{ScriptErr}
use Rattle.texts.specs.Lines.{line, counted_line, trap_line}
use Rattle.report_refusals.specs.Bars.{bar_text}
use Rattle.report_refusals.specs.Scripts.{script_refusal}
use Rattle.run_finishes.specs.declared.finish.Ran.{Ran as Answer}
use Rattle.run_finishes.specs.declared.finish.Ran.TheVariants as ran
use Rattle.run_finishes.specs.declared.finish.Scripted.{Scripted}
use Rattle.run_finishes.specs.declared.finish.Scripted.TheVariants.{Ran, ScriptEnd, BadScript, BarredAt}

-- what happened at this line of a script, before the cause
unfoldable pub place_in_script : List ℕ → ℕ → List ℕ
place_in_script what number = what ++ decimal number ++ codes ": "

-- a line of the script is not a move
unfoldable pub bad_line : ScriptErr → List ℕ
bad_line refusal = line (place_in_script (codes "bad script line ") refusal.line ++ script_refusal refusal.kind)

-- the move of a line of the script is barred
unfoldable pub barred_line : ℕ → Bar → List ℕ
barred_line number bar = line (place_in_script (codes "barred at line ") number ++ bar_text bar)

-- how a run finished, under this limit; no line if the report failed
unfoldable pub line_of_run : ℕ → Answer → List ℕ
line_of_run limit (ran.Exit status) = counted_line (codes "exit ") status
line_of_run limit (ran.Trap cause pc detail) = trap_line cause pc detail
line_of_run limit ran.Limit = counted_line (codes "limit ") limit
line_of_run limit ran.ReadFault = line (codes "read fault input")
line_of_run limit ran.WriteFault = line (codes "write fault output")
line_of_run limit ran.ReportFault = []

-- how the run of a script finished, under this limit, with this many moves made
unfoldable pub first_line : (limit moves : ℕ) → Scripted → List ℕ
first_line limit moves (Ran answer) = line_of_run limit answer
first_line limit moves ScriptEnd = line (codes "script end after " ++ decimal moves ++ codes " moves")
first_line limit moves (BadScript refusal) = bad_line refusal
first_line limit moves (BarredAt number bar) = barred_line number bar
