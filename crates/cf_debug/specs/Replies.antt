-- What each command does and answers: the table of the debugger (a format of this project).
use Rattle.std.specs.Prelude.{◌≡◌, ◌≢◌, ◌⊎◌, ℕ, zero, suc, ◌<◌, ◌≤◌, ◌/◌, ◌%◌, List, [], ◌∷◌, ◌++◌, Option, Some, None, Result, Ok, Err, codes, decimal}
use Rattle.std.specs.Char.{digit_char}
use Rattle.std.specs.List.{flat_map}
use Rattle.mem_regions.specs.declared.access.MemErr.{MemErr}
use Rattle.mem_regions.specs.Fetching.{fetch_at}
use Rattle.mem_regions.specs.Ranges.{range_of}
use Rattle.cf_bind.specs.declared.moves.Bar.{Bar}
use Rattle.cf_bind.specs.declared.moves.Move.{Move as AnyMove}
use Rattle.cf_bind.specs.MoveTexts.{move_line}
use Rattle.cf_semantics.specs.declared.event.Event.{Event}
use Rattle.cf_semantics.specs.moves.Bars.{bar}
use Rattle.cf_semantics.specs.moves.Candidates.{candidates}
use Rattle.cf_semantics.specs.moves.Kept.{Kept, restored}
use Rattle.cf_semantics.specs.claims.Weight.{weight}
use Rattle.cf_core.specs.Processors.{Processor, in_state}
use Rattle.asm_listing.specs.Lines.{word_line}
use Rattle.texts.specs.Hexadecimal.{hex8}
use Rattle.texts.specs.Lines.{line, counted_line}
use Rattle.cf_report.specs.Lines.{registers_text}
use Rattle.cf_report.specs.Picture.{picture}
use Rattle.report_refusals.specs.Bars.{bar_text}
use Rattle.report_refusals.specs.Scripts.{script_refusal}
use Rattle.report_closing.specs.Moves.{line_in}
use Rattle.cf_run.specs.Made.{retirement}
use Rattle.cf_debug.specs.declared.command.DebugCommand.{DebugCommand}
use Rattle.cf_debug.specs.declared.command.DebugCommand.TheVariants.{Nothing, Move, Auto, Show, Break, Back, End}
use Rattle.cf_debug.specs.declared.command.Refusal.{Refusal}
use Rattle.cf_debug.specs.declared.command.View.{View}
use Rattle.cf_debug.specs.declared.command.View.TheVariants.{Picture, Registers, Memory, Bound, Allowed, Standing, Code, Help}
use Rattle.cf_debug.specs.declared.command.Refusal.TheVariants.{TooLong, UnknownCommand, BadNumber, ExtraWords, Script}
use Rattle.cf_debug.specs.declared.help.TheConstants.{COMMANDS_HELP}
use Rattle.cf_debug.specs.Commands.{command_in}
use Rattle.cf_debug.specs.Driving.{Drives, DrivesOn, DrivesAground}
use Rattle.cf_debug.specs.Limits.{most_retired}
use Rattle.cf_debug.specs.Making.{ProcessorState, MakesAndKeeps, FailsOne}

-- the state of a session: the processor, and the address at which `auto` stops, if there is one
pub record DebuggerState : Type 0 where
  pub processor : ProcessorState
  pub stop : Option ℕ

abbrev pub debugger_state : ProcessorState → Option ℕ → DebuggerState
debugger_state processor stop = record { processor = processor; stop = stop }

-- Texts --

-- the line of a refusal
abbrev pub refused_line : List ℕ → List ℕ
refused_line why = line (codes "? " ++ why)

-- why a line is not a command
unfoldable pub refusal_text : Refusal → List ℕ
refusal_text TooLong = codes "TooLong"
refusal_text UnknownCommand = codes "UnknownCommand"
refusal_text BadNumber = codes "BadNumber"
refusal_text ExtraWords = codes "ExtraWords"
refusal_text (Script kind) = script_refusal kind

-- bytes, each as two hexadecimal digits after a space
unfoldable pub bytes_text : List ℕ → List ℕ
bytes_text [] = []
bytes_text (byte ∷ bytes) = (codes " " ++ digit_char (byte / 16) ∷ digit_char (byte % 16) ∷ []) ++ bytes_text bytes

-- the bytes from an address on, if memory has them
unfoldable pub memory_text : ℕ → Option (List ℕ) → List ℕ
memory_text address None = refused_line (codes "NoAccess")
memory_text address (Some bytes) = line (hex8 address ++ bytes_text bytes)

-- the word that is fetched at an address, as a line of a listing
unfoldable pub code_text : ℕ → Result ℕ MemErr → List ℕ
code_text address (Ok word) = word_line address word
code_text address (Err error) = refused_line (codes "NoAccess")

-- a break address, or that there is none
unfoldable pub break_text : Option ℕ → List ℕ
break_text None = line (codes "break none")
break_text (Some address) = line (codes "break " ++ hex8 address)

-- the move that was taken back
unfoldable pub back_text : AnyMove → List ℕ
back_text mv = codes "back " ++ line (move_line mv)

-- a move that was made, and the instruction that retired with it, if one did
abbrev pub moved_text : ProcessorState → Event → List ℕ
moved_text new event = line (codes "moved") ++ retirement new.core.state.retired event

-- Commands --

-- as many instructions have retired as the limit allows
abbrev pub IsAtLimit : ProcessorState → Type 0
IsAtLimit now = most_retired ≤ now.core.state.retired

abbrev pub SessionGoesOn : ProcessorState → Type 0
SessionGoesOn now = now.core.state.retired < most_retired

-- nothing changes, and the answer is a refusal
abbrev pub RefusesLine : (now new : ProcessorState) → List ℕ → List ℕ → Type 0
RefusesLine now new text why = (new ≡ now) × (text ≡ refused_line why)

-- `move`: the limit is reached, or the move is barred, or it is made
abbrev pub Moves : AnyMove → (now new : ProcessorState) → List ℕ → Type 0
Moves mv now new text =
    (IsAtLimit now × RefusesLine now new text (codes "Limit"))
    ⊎ (SessionGoesOn now × ((b : Bar) × (bar now.core.plan now.core.state mv ≡ Some b) × RefusesLine now new text (bar_text b)))
    ⊎ (SessionGoesOn now × ((event : Event) × MakesAndKeeps mv event now new × (text ≡ moved_text new event)))

-- `auto`: the limit is reached, or moves are made in turn
abbrev pub Automates : ℕ → Option ℕ → (now new : ProcessorState) → List ℕ → Type 0
Automates n stop now new text =
    (IsAtLimit now × RefusesLine now new text (codes "Limit"))
    ⊎ (SessionGoesOn now × ((count : ℕ) × (lines : List ℕ) × Drives n stop now new count lines × (text ≡ lines ++ counted_line (codes "auto ") count)))

-- the newest move that is kept is taken back
abbrev pub TakesNewest : (now new : ProcessorState) → List ℕ → Type 0
TakesNewest now new text =
    (older : List Kept) × (k : Kept) × (now.ring ≡ older ++ k ∷ [])
    × (new ≡ record now { core = in_state now.core (restored now.core.state k); ring = older }) × (text ≡ back_text k.move)

-- this many moves are taken back, each the newest that is kept then
unfoldable pub TakesMoves : ℕ → (now new : ProcessorState) → List ℕ → Type 0
TakesMoves zero now new text = (new ≡ now) × (text ≡ [])
TakesMoves (suc n) now new text =
    (between : ProcessorState) × (lines last : List ℕ) × TakesMoves n now between lines × TakesNewest between new last
    × (text ≡ lines ++ last)

-- `back`: as many moves as are asked for are taken back; or fewer, after which nothing is kept
abbrev pub TakesBack : ℕ → (now new : ProcessorState) → List ℕ → Type 0
TakesBack n now new text =
    TakesMoves n now new text
    ⊎ ((m : ℕ) × (lines : List ℕ) × (m < n) × TakesMoves m now new lines × (new.ring ≡ [])
    × (text ≡ lines ++ refused_line (codes "NothingKept")))

-- nothing changes, and this is the answer
abbrev pub OnlyAnswers : (now new : DebuggerState) → (text told : List ℕ) → Type 0
OnlyAnswers now new text told = (new ≡ now) × (text ≡ told)

-- what is shown of a processor
unfoldable pub view_shown : Processor → View → List ℕ
view_shown core Picture = picture core.plan core.state
view_shown core Registers = registers_text core.state.regs
view_shown core (Memory address len) = memory_text address (range_of core.state.mem address len)
view_shown core Bound = counted_line (codes "bound ") (weight core.plan core.state)
view_shown core Allowed = flat_map (line_in core.plan core.state) (candidates core.plan core.state)
view_shown core (Standing mv) = line_in core.plan core.state mv
view_shown core (Code address) = code_text address (fetch_at core.state.mem address)
view_shown core Help = COMMANDS_HELP.now

-- the table
unfoldable pub CommandAnswers : DebugCommand → (now new : DebuggerState) → List ℕ → Type 0
CommandAnswers Nothing now new text = OnlyAnswers now new text []
CommandAnswers (Move mv) now new text = (new.stop ≡ now.stop) × Moves mv now.processor new.processor text
CommandAnswers (Auto n) now new text = (new.stop ≡ now.stop) × Automates n now.stop now.processor new.processor text
CommandAnswers (Show view) now new text = OnlyAnswers now new text (view_shown now.processor.core view)
CommandAnswers (Break stop) now new text = (new ≡ debugger_state now.processor stop) × (text ≡ break_text stop)
CommandAnswers (Back n) now new text = (new.stop ≡ now.stop) × TakesBack n now.processor new.processor text
CommandAnswers End now new text = OnlyAnswers now new text []

-- the same if the report fails after a prefix of the text: the whole command is carried out, or `auto` in part, or
-- `back` as one for fewer moves
unfoldable pub CommandAnswersPart : DebugCommand → (now new : DebuggerState) → List ℕ → Type 0
CommandAnswersPart (Auto n) now new text = CommandAnswers (Auto n) now new text ⊎ ((new.stop ≡ now.stop) × DrivesOn n now.stop now.processor new.processor text)
CommandAnswersPart (Back n) now new text = (new.stop ≡ now.stop) × ((m : ℕ) × (m ≤ n) × TakesBack m now.processor new.processor text)
CommandAnswersPart command now new text = CommandAnswers command now new text

-- the output fails the call of a move
unfoldable pub RunsAground : DebugCommand → (now new : DebuggerState) → List ℕ → Type 0
RunsAground (Move mv) now new text = (text ≡ []) × FailsOne mv now.processor new.processor
RunsAground (Auto n) now new text = DrivesAground n now.stop now.processor new.processor text
RunsAground command now new text = ⊥

-- Lines --

-- a line is answered: a command other than `end`, or a refusal
unfoldable pub AnswersLine : Result DebugCommand Refusal → (now new : DebuggerState) → List ℕ → Type 0
AnswersLine (Ok command) now new text = (command ≢ End) × CommandAnswers command now new text
AnswersLine (Err refusal) now new text = OnlyAnswers now new text (refused_line (refusal_text refusal))

-- the same in part
unfoldable pub AnswersPart : Result DebugCommand Refusal → (now new : DebuggerState) → List ℕ → Type 0
AnswersPart (Ok command) now new text = (command ≢ End) × CommandAnswersPart command now new text
AnswersPart (Err refusal) now new text = OnlyAnswers now new text (refused_line (refusal_text refusal))

-- the output fails the command
unfoldable pub FailsAnswer : Result DebugCommand Refusal → (now new : DebuggerState) → List ℕ → Type 0
FailsAnswer (Ok command) now new text = RunsAground command now new text
FailsAnswer (Err refusal) now new text = ⊥

-- the lines are answered one after another
unfoldable pub AnswersAll : List (List ℕ) → (now new : DebuggerState) → List ℕ → Type 0
AnswersAll [] now new text = OnlyAnswers now new text []
AnswersAll (told ∷ lines) now new text =
    (next : DebuggerState) × (first rest : List ℕ) × AnswersLine (command_in told) now next first
    × AnswersAll lines next new rest × (text ≡ first ++ rest)
