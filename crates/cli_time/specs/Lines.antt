-- The lines of the report of `time` (a format of this project).
use Rattle.std.specs.Prelude.{ℕ, ◌-◌, List, [], ◌∷◌, ◌++◌, codes, decimal, length, take}
use Rattle.report_closing.specs.Lines.{line_of_run}
use Rattle.texts.specs.Lines.{counted_line, line}
use Rattle.cf_timed.specs.declared.answer.Timed.{Timed}
use Rattle.cf_timed.specs.TimedRuns.{answer_of_timed}
use Rattle.cli_arguments.specs.Arguments.{NamedLayout}
use Rattle.cli_time.specs.Asked.{layout_name}
use Rattle.cli_time.specs.Measures.{TakenRun}
use Rattle.cli_time.specs.SiteLines.{sites_text}
use Rattle.cli_time.specs.declared.measuring.Measured.{Measured}

-- a line without its line feed
abbrev pub unended : List ℕ → List ℕ
unended text = take (length text - 1) text

-- how the run ended: the first line of the report of `run`, without its line feed
unfoldable pub run_ending_text : ℕ → Timed → List ℕ
run_ending_text limit answer = unended (line_of_run limit (answer_of_timed answer))

-- a number after its name
unfoldable pub number_text : List ℕ → ℕ → List ℕ
number_text name number = name ++ decimal number

-- what was measured, after the name of the layout
unfoldable pub measured_text : ℕ → Measured → List ℕ
measured_text limit measured =
    codes ": " ++ run_ending_text limit measured.answer ++ number_text (codes " time ") measured.time
    ++ number_text (codes " moves ") measured.moves ++ counted_line (codes " retired ") measured.retired

-- the line of a layout
abbrev pub time_line : ℕ → NamedLayout → Measured → List ℕ
time_line limit argument measured = layout_name argument ++ measured_text limit measured

-- the same, followed by the lines of what the time is made of, if that is shown
abbrev pub closing_lines : ℕ → NamedLayout → Measured → List ℕ
closing_lines limit argument measured = time_line limit argument measured ++ sites_text measured.sites

-- what is shown of the moves, and then these
abbrev pub layout_lines : ℕ → NamedLayout → TakenRun → List ℕ
layout_lines limit argument taken = taken.shown ++ closing_lines limit argument taken.measured

-- the lines of the first layouts, as many as were measured
abbrev pub time_lines : ℕ → List NamedLayout → List TakenRun → List ℕ
time_lines limit arguments [] = []
time_lines limit [] (taken ∷ more) = []
time_lines limit (argument ∷ arguments) (taken ∷ more) = layout_lines limit argument taken ++ time_lines limit arguments more

-- the line that names the layout with the least time
abbrev pub least_line : NamedLayout → List ℕ
least_line argument = codes "least " ++ line (layout_name argument)
