-- The judgement of a whole log: the lines that are processed, and where and why this stops.
use Rattle.std.specs.Prelude.{◌≡◌, ◌⊎◌, ℕ, ◌+◌, ◌-◌, ◌<◌, ◌≤◌, ◌^◌, false, List, [], ◌∷◌, ◌++◌, All, length, min, Option, Some, None, Result, Ok, Err, codes}
use Rattle.run_options.specs.Reportings as show
use Rattle.rv_machine.specs.Hart.{Hart}
use Rattle.rv_machine.specs.Streams.{GivesInput, IsTold}
use Rattle.rv_machine.specs.declared.outcome.Retired.{Retired}
use Rattle.cf_layout.specs.Layout.{Plan}
use Rattle.cf_bind.specs.declared.moves.Move.{Move}
use Rattle.cf_semantics.specs.runs.Lines.{sequence}
use Rattle.cf_semantics.specs.state.Layouts.{isa_of}
use Rattle.cf_semantics.specs.state.State.{State}
use Rattle.cf_core.specs.Processors.{Processor, opened_processor}
use Rattle.cf_report.specs.Lines.{retired_line}
use Rattle.rv_text.specs.Pieces.{name_part}
use Rattle.run_scripts.specs.Scripts.{is_skipped}
use Rattle.run_scripts.specs.Words.{words_of}
use Rattle.cf_log.specs.declared.kind.LogErr.{LogErr}
use Rattle.cf_log.specs.declared.kind.LogKind.{LogKind}
use Rattle.cf_log.specs.declared.kind.LogKind.TheVariants.{TooLong}
use Rattle.cf_log.specs.declared.said.Said.{Said}
use Rattle.cf_log.specs.declared.said.Said.TheVariants.{Makes, Observes}
use Rattle.cf_log.specs.declared.said.TimedLine.{TimedLine}
use Rattle.cf_log.specs.Cutting.{LogFeeding, HasLogLines, IsCut, IsLogPiece, longest_held}
use Rattle.cf_log.specs.Lines.{after_time, log_line_read}
use Rattle.run_finishes.specs.declared.finish.Ran.{Ran as Answer}
use Rattle.run_finishes.specs.declared.finish.Ran.TheVariants as ran
use Rattle.run_finishes.specs.declared.finish.Scripted.{Scripted}
use Rattle.run_finishes.specs.declared.finish.Scripted.TheVariants as scripted
use Rattle.cf_run.specs.Ending.{EndsSequentially}
use Rattle.cf_run.specs.Headline.{machine_on, AreTexts, RunsSequentially}
use Rattle.cf_run.specs.Made.{moves_of}
use Rattle.cf_run.specs.Reaching.{Reaches, GoesOn, IsOver}
use Rattle.cf_conform.specs.declared.answer.Conformed.{Conformed}
use Rattle.cf_conform.specs.declared.answer.Conformed.TheVariants.{Ran, LogEnd, BadLog}
use Rattle.cf_conform.specs.declared.answer.Conformed.TheVariants as conformed
use Rattle.cf_conform.specs.declared.answer.LineStop.{LineStop}
use Rattle.cf_conform.specs.declared.answer.LineStop.TheVariants.{Refused, Differs, WriteFault}
use Rattle.cf_conform.specs.Judging.{JudgesLine}
use Rattle.cf_conform.specs.LogPlaces.{LogPlace, as_run}
use Rattle.cf_conform.specs.Wanted.{without_feed}

-- Lines that are processed --

-- as many instructions have retired as the limit allows, and the program has not ended
abbrev pub IsLimited : ℕ → LogPlace → Type 0
IsLimited limit at = IsOver limit at.core.state ran.Limit

-- these lines are processed one after another: each is as it should be, and before each the limit is not reached
unfoldable pub GoesThrough : ℕ → LogPlace → List (List ℕ) → LogPlace → Type 0
GoesThrough limit now [] last = last ≡ now
GoesThrough limit now (line ∷ lines) last =
    (next : LogPlace) × (IsLimited limit now → ⊥) × JudgesLine line now next (Ok tt) × GoesThrough limit next lines last

-- the moves that a line says, at most one
abbrev pub moves_said : Said → List Move
moves_said (Makes mv) = mv ∷ []
moves_said (Observes part) = []

abbrev pub moves_read : Result (Option TimedLine) LogKind → List Move
moves_read (Ok None) = []
moves_read (Ok (Some timed)) = moves_said timed.said
moves_read (Err kind) = []

-- the latest time after a line, given the latest time before it
abbrev pub latest_time : ℕ → Result (Option TimedLine) LogKind → ℕ
latest_time earlier (Ok None) = earlier
latest_time earlier (Ok (Some timed)) = timed.time
latest_time earlier (Err kind) = earlier

-- the moves that these lines say, in order, given the latest time before them and the number of the next move
unfoldable pub logged_moves : (earlier next : ℕ) → List (List ℕ) → List Move
logged_moves earlier next [] = []
logged_moves earlier next (line ∷ lines) =
    moves_read (log_line_read earlier next line)
    ++ logged_moves (latest_time earlier (log_line_read earlier next line)) (next + length (moves_read (log_line_read earlier next line))) lines

-- Lines of the sequential machine --

-- the first word of the line, after its time, is `retire`
abbrev pub IsRetireLine : List ℕ → Type 0
IsRetireLine line = (is_skipped line ≡ false) × (name_part (after_time line) ≡ codes "retire")

-- The sequential machine starts on this hart with an empty input. The text has a line for each of its first
-- instructions, in order, up to some number of them, numbered by the machine's count. The words of this line, after its
-- time, are those of the last line of the text.
pub record IsMachineLine (plan : Plan) (hart : Hart) (line : List ℕ) : Type 0 where
  pub count : ℕ
  pub text : List ℕ
  pub texts : AreTexts (hart.retired + 1) (sequence (isa_of plan) (machine_on hart []) count) text
  pub front : List ℕ
  pub number : ℕ
  pub shown : Retired
  pub last : text ≡ front ++ retired_line number shown
  pub same : words_of (after_time line) ≡ words_of (without_feed (retired_line number shown))

-- whatever hart the processor was opened on, the retirement lines among these are lines of that machine
unfoldable pub RetireAsMachine : Processor → List (List ℕ) → Type 0
RetireAsMachine core lines =
    (hart : Hart) → core ≡ opened_processor core.plan hart → All (λ line. IsRetireLine line → IsMachineLine core.plan hart line) lines

-- Where the processing stops --

-- the line number that follows this many lines, counted from 1, up to the largest u32
abbrev pub line_after : ℕ → ℕ
line_after lines = min (lines + 1) (2 ^ 32 - 1)

-- the answer if a line stops the log, after this many lines
abbrev pub answer_at : ℕ → LineStop → Conformed
answer_at lines (Refused kind) = BadLog (record { line = line_after lines; kind = kind })
answer_at lines (Differs part) = conformed.Differs (line_after lines) part
answer_at lines WriteFault = Ran ran.WriteFault

-- the answer at the end of a log: how the program ended, or that it has not
unfoldable pub EndsLogAt : ℕ → State → Conformed → Type 0
EndsLogAt limit s (Ran r) = IsOver limit s r
EndsLogAt limit s LogEnd = GoesOn limit s
EndsLogAt limit s (BadLog refusal) = ⊥
EndsLogAt limit s (conformed.Differs line part) = ⊥

-- this line comes next in the bytes that are left of those taken: it ends with a line feed; or it is all that is left,
-- and the log has no further bytes
abbrev pub ComesNext : (told : Option (List ℕ)) → (taken rest line : List ℕ) → Type 0
ComesNext told taken rest line =
    ((new : LogFeeding) × IsCut rest new × (new.line ≡ line))
    ⊎ (IsTold told taken × IsLogPiece rest × (0 < length rest) × (line ≡ rest))

-- the limit is reached
pub record StopsAtLimit (limit : ℕ) (now new : LogPlace) (answer : Conformed) : Type 0 where
  pub limited : IsLimited limit now
  pub same : new ≡ now
  pub answer_is : answer ≡ Ran ran.Limit

-- the next line, after this many, is refused, or does not agree, or the output fails its move
pub record StopsAtLine (limit : ℕ) (told : Option (List ℕ)) (taken rest : List ℕ) (lines : ℕ) (now new : LogPlace) (answer : Conformed) : Type 0 where
  pub free : IsLimited limit now → ⊥
  pub line : List ℕ
  pub next : ComesNext told taken rest line
  pub stop : LineStop
  pub does : JudgesLine line now new (Err stop)
  pub answer_is : answer ≡ answer_at lines stop

-- the next line, after this many, is unfinished and too long
pub record StopsTooLong (limit : ℕ) (rest : List ℕ) (lines : ℕ) (now new : LogPlace) (answer : Conformed) : Type 0 where
  pub free : IsLimited limit now → ⊥
  pub piece : IsLogPiece rest
  pub long : longest_held ≤ length rest
  pub same : new ≡ now
  pub answer_is : answer ≡ answer_at lines (Refused TooLong)

-- the log fails
pub record StopsUnread (limit : ℕ) (rest : List ℕ) (now new : LogPlace) (answer : Conformed) : Type 0 where
  pub free : IsLimited limit now → ⊥
  pub piece : IsLogPiece rest
  pub same : new ≡ now
  pub answer_is : answer ≡ Ran ran.ReadFault

-- the log has ended
pub record StopsAtLogEnd (limit : ℕ) (told : Option (List ℕ)) (taken rest : List ℕ) (now new : LogPlace) (answer : Conformed) : Type 0 where
  pub whole : IsTold told taken
  pub nothing : rest ≡ []
  pub same : new ≡ now
  pub ends : EndsLogAt limit now.core.state answer

-- the maximum count of lines was processed: this counts as the end of the log
pub record StopsAtMost (limit : ℕ) (lines : ℕ) (now new : LogPlace) (answer : Conformed) : Type 0 where
  pub most : lines ≡ 2 ^ 64 - 1
  pub same : new ≡ now
  pub ends : EndsLogAt limit now.core.state answer

-- where and why the log stops after this many lines that end with a line feed; these are the bytes left of those taken
abbrev pub StopsLog : ℕ → (told : Option (List ℕ)) → (taken rest : List ℕ) → ℕ → (now new : LogPlace) → Conformed → Type 0
StopsLog limit told taken rest lines now new answer =
    StopsAtLimit limit now new answer ⊎ StopsAtLine limit told taken rest lines now new answer
    ⊎ StopsTooLong limit rest lines now new answer ⊎ StopsUnread limit rest now new answer
    ⊎ StopsAtLogEnd limit told taken rest now new answer ⊎ StopsAtMost limit lines now new answer

-- these are all bytes of the log, and these are its lines; the last line is unfinished
pub record EndsUnfinished (told : Option (List ℕ)) (taken : List ℕ) (lines : List (List ℕ)) : Type 0 where
  pub whole : IsTold told taken
  pub front : List (List ℕ)
  pub last : List ℕ
  pub cut : HasLogLines taken front last
  pub piece : IsLogPiece last
  pub some : 0 < length last
  pub lines_are : lines ≡ front ++ last ∷ []

-- the bytes that were taken are these lines and the rest, and the log stops at the rest; or the last line is unfinished
-- and is processed too, and then the log has ended
abbrev pub StopsAfter : ℕ → (told : Option (List ℕ)) → (taken : List ℕ) → (lines : List (List ℕ)) → (rest : List ℕ) → (now new : LogPlace) → Conformed → Type 0
StopsAfter limit told taken lines rest now new answer =
    (HasLogLines taken lines rest × StopsLog limit told taken rest (length lines) now new answer)
    ⊎ (EndsUnfinished told taken lines × (new ≡ now) × EndsLogAt limit now.core.state answer)

-- the answer of the run of a script that makes the moves of the log; if the log fails, the script has no further move
abbrev pub as_script : Conformed → Scripted
as_script (Ran ran.ReadFault) = scripted.ScriptEnd
as_script (Ran ran.WriteFault) = scripted.Ran ran.WriteFault
as_script (Ran ran.ReportFault) = scripted.ScriptEnd
as_script (Ran ran.Limit) = scripted.Ran ran.Limit
as_script (Ran (ran.Exit status)) = scripted.Ran (ran.Exit status)
as_script (Ran (ran.Trap cause pc detail)) = scripted.Ran (ran.Trap cause pc detail)
as_script LogEnd = scripted.ScriptEnd
as_script (BadLog refusal) = scripted.ScriptEnd
as_script (conformed.Differs line part) = scripted.ScriptEnd

-- The judgement of a log, by its bytes, or by those that were taken if the log does not expose its bytes: these lines
-- are processed, and the log stops after them with this answer. The moves in these lines lead to the processor as it is
-- now. Its run is a run of the sequential machine, and the retirement lines among these lines are lines of that
-- machine.
pub record JudgesLog (limit : ℕ) (before after : Option (List ℕ)) (start new : LogPlace) (answer : Conformed) : Type 0 where
  pub taken : List ℕ
  pub gives : GivesInput before after taken
  pub lines : List (List ℕ)
  pub rest : List ℕ
  pub now : LogPlace
  pub through : GoesThrough limit start lines now
  pub stops : StopsAfter limit before taken lines rest now new answer
  pub reaches : Reaches limit show.report (as_run start) (as_run now)
  pub moves : moves_of reaches.trace ≡ logged_moves 0 1 lines
  pub sequential : RunsSequentially show.report (logged_moves 0 1 lines) (as_run start) (as_run new) (as_script answer)
  pub ends : EndsSequentially limit (as_run start) (as_run new) (as_script answer)
  pub retire : RetireAsMachine start.core lines

-- One turn --

-- the unfinished line at the end of the log is processed, and the log has ended
pub record EndsWithLine (limit : ℕ) (told : Option (List ℕ)) (taken rest : List ℕ) (now new : LogPlace) (answer : Conformed) : Type 0 where
  pub free : IsLimited limit now → ⊥
  pub whole : IsTold told taken
  pub piece : IsLogPiece rest
  pub some : 0 < length rest
  pub does : JudgesLine rest now new (Ok tt)
  pub ends : EndsLogAt limit new.core.state answer

-- the next line is processed
pub record TurnsOn (limit : ℕ) (rest : List ℕ) (feed : LogFeeding) (now new : LogPlace) : Type 0 where
  pub free : IsLimited limit now → ⊥
  pub cut : IsCut rest feed
  pub does : JudgesLine feed.line now new (Ok tt)

-- after this many lines the next one is processed, or the log stops; these bytes were left, and more may be taken
unfoldable pub LogTurns : (limit lines : ℕ) → (before after : Option (List ℕ)) → (feed next : LogFeeding) → (now new : LogPlace) → Option Conformed → Type 0
LogTurns limit lines before after feed next now new None =
    (taken : List ℕ) × GivesInput before after taken × TurnsOn limit (feed.rest ++ taken) next now new
LogTurns limit lines before after feed next now new (Some answer) =
    (taken : List ℕ) × GivesInput before after taken
    × (StopsLog limit before taken (feed.rest ++ taken) lines now new answer ⊎ EndsWithLine limit before taken (feed.rest ++ taken) now new answer)
