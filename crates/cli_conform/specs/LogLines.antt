-- The report of a log (a format of this project).
use Rattle.std.specs.Prelude.{ℕ, List, [], ◌++◌, codes, decimal, Option, Some, None}
use Rattle.std.specs.List.{flat_map}
use Rattle.texts.specs.Lines.{line, counted_line}
use Rattle.cf_layout.specs.Layout.{Plan}
use Rattle.cf_bind.specs.declared.moves.Move.{Move}
use Rattle.cf_bind.specs.MoveTexts.{move_line}
use Rattle.cf_semantics.specs.moves.Candidates.{candidates}
use Rattle.cf_semantics.specs.state.State.{State}
use Rattle.cf_log.specs.declared.kind.LogKind.{LogKind}
use Rattle.cf_log.specs.declared.kind.LogKind.TheVariants as kind
use Rattle.cf_conform.specs.declared.answer.Conformed.{Conformed}
use Rattle.cf_conform.specs.declared.answer.Conformed.TheVariants.{Ran, LogEnd, BadLog, Differs}
use Rattle.cf_conform.specs.declared.progress.LatestRetired.{LatestRetired}
use Rattle.cf_conform.specs.declared.progress.LogProgress.{LogProgress}
use Rattle.cf_conform.specs.Wanted.{wanted_line}
use Rattle.report_closing.specs.Closing.{rest_text}
use Rattle.report_closing.specs.Lines.{line_of_run}
use Rattle.report_refusals.specs.Bars.{bar_text}

-- why a line of a log is refused
unfoldable pub log_refusal : LogKind → List ℕ
log_refusal kind.TooLong = codes "TooLong"
log_refusal kind.NotAscii = codes "NotAscii"
log_refusal kind.BadTime = codes "BadTime"
log_refusal kind.UnknownLine = codes "UnknownLine"
log_refusal kind.BadNumber = codes "BadNumber"
log_refusal kind.ExtraWords = codes "ExtraWords"
log_refusal (kind.Barred bar) = codes "Barred " ++ bar_text bar
log_refusal kind.Differs = codes "Differs"

-- this line of a log is refused
unfoldable pub bad_log_line : ℕ → LogKind → List ℕ
bad_log_line number kind = line (codes "bad log line " ++ decimal number ++ codes ": " ++ log_refusal kind)

-- how processing a log finished under this limit, with this many moves made
unfoldable pub log_line : (limit moves : ℕ) → Conformed → List ℕ
log_line limit moves (Ran ran) = line_of_run limit ran
log_line limit moves LogEnd = line (codes "log end after " ++ decimal moves ++ codes " moves")
log_line limit moves (BadLog refusal) = bad_log_line refusal.line refusal.kind
log_line limit moves (Differs number part) = bad_log_line number kind.Differs

-- a move that can be made
unfoldable pub allowed_line : Move → List ℕ
allowed_line mv = codes "allowed " ++ move_line mv ++ codes "\n"

abbrev pub allowed_lines : List Move → List ℕ
allowed_lines moves = flat_map allowed_line moves

-- the moves that can be made in a state
unfoldable pub allowed_text : Plan → State → List ℕ
allowed_text plan s = allowed_lines (candidates plan s)

-- the line that an observation should be, if there is one
unfoldable pub expected_text : Option (List ℕ) → List ℕ
expected_text None = []
expected_text (Some wanted) = codes "expected " ++ wanted

-- after the refusal of a line: the moves that can be made, if the line's move is barred
abbrev pub after_refusal : Plan → State → LogKind → List ℕ
after_refusal plan s (kind.Barred bar) = allowed_text plan s
after_refusal plan s kind.TooLong = []
after_refusal plan s kind.NotAscii = []
after_refusal plan s kind.BadTime = []
after_refusal plan s kind.UnknownLine = []
after_refusal plan s kind.BadNumber = []
after_refusal plan s kind.ExtraWords = []
after_refusal plan s kind.Differs = []

-- what follows the first line: the moves that can be made, or the line that the observation should be
unfoldable pub log_help : Plan → State → Option LatestRetired → Conformed → List ℕ
log_help plan s latest (Ran ran) = []
log_help plan s latest LogEnd = allowed_text plan s
log_help plan s latest (BadLog refusal) = after_refusal plan s refusal.kind
log_help plan s latest (Differs number part) = expected_text (wanted_line plan s latest part)

-- how many instructions have retired, and how many observations agreed
unfoldable pub agreement_text : (retired observed : ℕ) → List ℕ
agreement_text retired observed = counted_line (codes "retired ") retired ++ counted_line (codes "observed ") observed

-- the report of a log
unfoldable pub log_closing : (limit : ℕ) → Conformed → Plan → State → LogProgress → List ℕ
log_closing limit answer plan s progress =
    log_line limit progress.tally.moves answer ++ log_help plan s progress.latest answer
    ++ agreement_text s.retired progress.observed ++ rest_text plan s progress.tally
