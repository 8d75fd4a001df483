-- The report of a trace that is the trace of a run (a format of this project).
use Rattle.std.specs.Prelude.{ℕ, List, ◌++◌, codes, decimal}
use Rattle.texts.specs.Lines.{line}

-- the trace of a run of this many moves
unfoldable pub trace_of : ℕ → List ℕ
trace_of moves = line (codes "trace of " ++ decimal moves ++ codes " moves")
