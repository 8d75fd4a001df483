-- A session of the debugger: its commands are answered line by line, until one of them is `end` or there are no more.
use Rattle.std.specs.Prelude.{◌≡◌, ◌≢◌, ◌⊎◌, ℕ, ◌+◌, ◌<◌, ◌≤◌, List, [], ◌∷◌, ◌++◌, length, Option, Some, None, Result, Ok, Err}
use Rattle.cf_io.specs.Puts.{Writes, WritesFront}
use Rattle.rv_machine.specs.Streams.{GivesInput, IsTold}
use Rattle.cf_semantics.specs.moves.Kept.{Kept}
use Rattle.cf_core.specs.Processors.{Processor}
use Rattle.cf_debug.specs.declared.answer.Broken.{Broken}
use Rattle.cf_debug.specs.declared.answer.Broken.TheVariants as broken
use Rattle.cf_debug.specs.declared.answer.Debugged.{Debugged}
use Rattle.cf_debug.specs.declared.answer.Debugged.TheVariants.{Done, Limit, ReadFault, WriteFault, ReportFault}
use Rattle.cf_debug.specs.declared.command.DebugCommand.TheVariants.{End}
use Rattle.cf_debug.specs.Commands.{command_in}
use Rattle.rv_text.specs.Lines.{without_return}
use Rattle.cf_debug.specs.Cutting.{HasLines, held_line, last_line}
use Rattle.cf_debug.specs.Limits.{most_bytes, most_taken}
use Rattle.cf_debug.specs.Making.{ProcessorState, processor_state}
use Rattle.cf_debug.specs.Replies.{DebuggerState, debugger_state, AnswersLine, AnswersAll, AnswersPart, FailsAnswer}

-- what a session shows from outside: the processor, and what the commands and the report expose
pub record Session : Type 0 where
  pub processor : ProcessorState
  pub commands : Option (List ℕ)
  pub report : Option (List ℕ)

abbrev pub session_of : ProcessorState → (commands report : Option (List ℕ)) → Session
session_of processor commands report = record { processor = processor; commands = commands; report = report }

-- One line --

-- the outcome of a line: it is answered, and the session goes on; or it is `end`; or it ends the session by a fault
unfoldable pub LineLeaves : List ℕ → (now new : DebuggerState) → (written after : Option (List ℕ)) → Option Debugged → Type 0
LineLeaves line now new written after None = (text : List ℕ) × AnswersLine (command_in line) now new text × Writes written after text
LineLeaves line now new written after (Some Done) = (command_in line ≡ Ok End) × (new ≡ now) × (after ≡ written)
LineLeaves line now new written after (Some WriteFault) = (text : List ℕ) × FailsAnswer (command_in line) now new text × Writes written after text
LineLeaves line now new written after (Some ReportFault) = (text : List ℕ) × AnswersPart (command_in line) now new text × WritesFront written after text
LineLeaves line now new written after (Some Limit) = ⊥
LineLeaves line now new written after (Some ReadFault) = ⊥

-- how the outcome of a command ends the session
abbrev pub ended_by : Result (Unit {0}) Broken → Option Debugged
ended_by (Ok done) = None
ended_by (Err broken.Output) = Some WriteFault
ended_by (Err broken.Report) = Some ReportFault

-- the outcome of a byte: it continues the unfinished line, of which this is kept; or it ends the line
abbrev pub UsesByte : ℕ → (line later : List ℕ) → (now new : DebuggerState) → (written after : Option (List ℕ)) → Option Debugged → Type 0
UsesByte byte line later now new written after answer =
    ((byte ≢ 10) × (later ≡ held_line (line ++ byte ∷ [])) × (new ≡ now) × (after ≡ written) × (answer ≡ None))
    ⊎ ((byte ≡ 10) × (later ≡ []) × LineLeaves (without_return line) now new written after answer)

-- the outcome of the end of the commands: there is no unfinished line; or it is answered, or ends the session
abbrev pub FinishesSession : List ℕ → (now new : DebuggerState) → (written after : Option (List ℕ)) → Debugged → Type 0
FinishesSession line now new written after answer =
    ((line ≡ []) × (answer ≡ Done) × (new ≡ now) × (after ≡ written))
    ⊎ ((0 < length line) × (answer ≡ Done) × LineLeaves line now new written after None)
    ⊎ ((0 < length line) × LineLeaves line now new written after (Some answer))

-- All lines --

-- these bytes were taken, no more than the limit allows
abbrev pub Taken : (before after : Session) → List ℕ → Type 0
Taken before after bytes = GivesInput before.commands after.commands bytes × (length bytes ≤ most_bytes)

-- the lines are answered, and their answers written
abbrev pub AnswersLines : List (List ℕ) → (begin now : DebuggerState) → (written after : Option (List ℕ)) → Type 0
AnswersLines lines begin now written after = (text : List ℕ) × AnswersAll lines begin now text × Writes written after text

-- the whole lines among the bytes that were taken are answered, and then this follows
pub record AnswersWhole (bytes : List ℕ) (begin now : DebuggerState) (written after : Option (List ℕ)) : Type 0 where
  pub lines : List (List ℕ)
  pub unfinished : List ℕ
  pub has : HasLines bytes lines unfinished
  pub answers : AnswersLines lines begin now written after

-- the next line, after these: a line that was taken whole, with fewer bytes after it than one take gives; or the
-- unfinished line at the end of the commands
abbrev pub IsNext : (told : Option (List ℕ)) → List ℕ → List (List ℕ) → List ℕ → Type 0
IsNext told bytes lines line =
    ((front rest : List ℕ) × (bytes ≡ front ++ rest) × (length rest < most_taken) × HasLines front (lines ++ line ∷ []) [])
    ⊎ (IsTold told bytes × (0 < length line) × HasLines bytes lines line)

-- the lines before it are answered, and this one ends the session in this way
pub record EndsAtLine (before after : Session) (begin new : DebuggerState) (answer : Debugged) : Type 0 where
  pub bytes : List ℕ
  pub taken : Taken before after bytes
  pub lines : List (List ℕ)
  pub line : List ℕ
  pub is_next : IsNext before.commands bytes lines line
  pub now : DebuggerState
  pub written : Option (List ℕ)
  pub answers : AnswersLines lines begin now before.report written
  pub ends : LineLeaves line now new written after.report (Some answer)

-- these are all the bytes of the commands, if the source exposes them, and all lines are answered
pub record EndsAtLast (before after : Session) (begin new : DebuggerState) : Type 0 where
  pub bytes : List ℕ
  pub taken : Taken before after bytes
  pub all : IsTold before.commands bytes
  pub lines : List (List ℕ)
  pub unfinished : List ℕ
  pub has : HasLines bytes lines unfinished
  pub answers : AnswersLines (lines ++ last_line unfinished) begin new before.report after.report

-- a take failed, and the whole lines are answered
pub record EndsAtFault (before after : Session) (begin new : DebuggerState) : Type 0 where
  pub bytes : List ℕ
  pub taken : Taken before after bytes
  pub answers : AnswersWhole bytes begin new before.report after.report

-- as many bytes were taken as the limit allows, and one more; the whole lines are answered
pub record EndsAtLimit (before after : Session) (begin new : DebuggerState) : Type 0 where
  pub bytes : List ℕ
  pub more : ℕ
  pub gives : GivesInput before.commands after.commands (bytes ++ more ∷ [])
  pub size : length bytes ≡ most_bytes
  pub answers : AnswersWhole bytes begin new before.report after.report

-- how a session ends
unfoldable pub EndsSession : (before after : Session) → (begin new : DebuggerState) → Debugged → Type 0
EndsSession before after begin new Done = EndsAtLine before after begin new Done ⊎ EndsAtLast before after begin new
EndsSession before after begin new Limit = EndsAtLimit before after begin new
EndsSession before after begin new ReadFault = EndsAtFault before after begin new
EndsSession before after begin new WriteFault = EndsAtLine before after begin new WriteFault
EndsSession before after begin new ReportFault = EndsAtLine before after begin new ReportFault

-- the session: it begins without a break address, and ends in this way
pub record Debugs (before after : Session) (answer : Debugged) : Type 0 where
  pub stop : Option ℕ
  pub ends : EndsSession before after (debugger_state before.processor None) (debugger_state after.processor stop) answer

-- an error if the commands failed the session
abbrev pub commands_ended : Option Debugged → Result (Unit {0}) (Unit {0})
commands_ended (Some ReadFault) = Err tt
commands_ended answer = Ok tt

-- an error if the output failed the session
abbrev pub output_ended : Option Debugged → Result (Unit {0}) (Unit {0})
output_ended (Some WriteFault) = Err tt
output_ended answer = Ok tt

-- an error if the report failed the session
abbrev pub report_ended : Option Debugged → Result (Unit {0}) (Unit {0})
report_ended (Some ReportFault) = Err tt
report_ended answer = Ok tt
