-- What a line of a log says (a format of this project): a move that a circuit makes, or an observation of it, after the
-- time if there is one.
use Rattle.std.specs.Prelude.{ℕ, ◌||◌, not, Bool, List, drop, take, length, Option, Some, None, Result, Ok, Err, codes, decimal, nat_eq, nat_lt, if◌then◌else◌}
use Rattle.std.specs.List.{starts_with}
use Rattle.std.specs.Str.{bytes_eq}
use Rattle.texts.specs.Answers.{and_then}
use Rattle.texts.specs.Bytes.{is_ascii}
use Rattle.rv_text.specs.Numbers.{numeral}
use Rattle.rv_text.specs.Pieces.{name_part, operand_part}
use Rattle.cf_bind.specs.declared.moves.Move.{Move}
use Rattle.run_scripts.specs.declared.refusal.ScriptKind.{ScriptKind}
use Rattle.run_scripts.specs.declared.refusal.ScriptKind.TheVariants as script
use Rattle.run_scripts.specs.MoveLines.{move_in}
use Rattle.run_scripts.specs.Scripts.{is_skipped}
use Rattle.cf_log.specs.declared.kind.LogKind.{LogKind}
use Rattle.cf_log.specs.declared.kind.LogKind.TheVariants.{TooLong, NotAscii, BadTime, UnknownLine, BadNumber, ExtraWords}
use Rattle.cf_log.specs.declared.said.Said.{Said}
use Rattle.cf_log.specs.declared.said.Said.TheVariants.{Makes, Observes}
use Rattle.cf_log.specs.declared.said.ObservedPart.{ObservedPart}
use Rattle.cf_log.specs.declared.said.ObservedPart.TheVariants.{Retire, Fetch, Lane, Cache, Stage, Siding, Register, Ended}
use Rattle.cf_log.specs.declared.said.TimedLine.{TimedLine}

-- the maximum number of bytes in a line
abbrev pub longest_line : ℕ
longest_line = 512

-- Times --

-- the word begins as a time does
unfoldable pub is_timed : List ℕ → Bool
is_timed word = starts_with nat_eq word (codes "@")

-- the time, if it is not earlier than another
abbrev pub no_earlier : ℕ → Option ℕ → Result ℕ LogKind
no_earlier earlier None = Err BadTime
no_earlier earlier (Some time) = if nat_lt time earlier then Err BadTime else Ok time

-- the time that a word gives after its first byte, in 1 to 18 decimal digits
unfoldable pub time_told : ℕ → List ℕ → Result ℕ LogKind
time_told earlier word = no_earlier earlier (numeral 10 18 (drop 1 word))

-- the latest time up to and including a line
unfoldable pub time_read : ℕ → List ℕ → Result ℕ LogKind
time_read earlier line = if is_timed (name_part line) then time_told earlier (name_part line) else Ok earlier

-- the words of a line after its time, if it has one
unfoldable pub after_time : List ℕ → List ℕ
after_time line = if is_timed (name_part line) then operand_part line else line

-- Observations --

-- the number that the first word gives in decimal, without leading zeros
abbrev pub as_written : List ℕ → Option ℕ → Option ℕ
as_written word None = None
as_written word (Some number) = if bytes_eq (decimal number) word then Some number else None

unfoldable pub move_number_in : List ℕ → Option ℕ
move_number_in text = as_written (name_part text) (numeral 10 9 (name_part text))

-- the number, if it is that of a register
abbrev pub within_file : Option ℕ → Option ℕ
within_file None = None
within_file (Some register) = if nat_lt register 32 then Some register else None

-- the register of a word `xRR=V`
unfoldable pub register_of_word : List ℕ → Option ℕ
register_of_word word =
    if nat_lt (length word) 4 || (not (starts_with nat_eq word (codes "x")) || not (starts_with nat_eq (drop 3 word) (codes "="))) then None
    else within_file (numeral 10 2 (take 2 (drop 1 word)))

-- the register as what is observed, if there is one
abbrev pub of_register : Option ℕ → Option ObservedPart
of_register None = None
of_register (Some register) = Some (Register register)

-- what an observation is about that begins with this word, followed by these
unfoldable pub subject_named : List ℕ → List ℕ → Option ObservedPart
subject_named word after =
    if bytes_eq word (codes "retire") then Some Retire
    else if bytes_eq word (codes "fetch") then Some Fetch
    else if bytes_eq word (codes "lane") then Some Lane
    else if bytes_eq word (codes "cache") then Some Cache
    else if bytes_eq word (codes "stage") then Some (Stage (move_number_in after))
    else if bytes_eq word (codes "siding") then Some (Siding (move_number_in after))
    else if bytes_eq word (codes "ended") then Some Ended
    else of_register (register_of_word word)

-- what the words are an observation of, if they are one
unfoldable pub subject_in : List ℕ → Option ObservedPart
subject_in text = subject_named (name_part text) (operand_part text)

-- Moves --

-- what words say that are read in this way as a line of a script
abbrev pub move_said : Result Move ScriptKind → Result Said LogKind
move_said (Ok mv) = Ok (Makes mv)
move_said (Err script.UnknownMove) = Err UnknownLine
move_said (Err script.BadNumber) = Err BadNumber
move_said (Err script.ExtraWords) = Err ExtraWords
move_said (Err script.NotAscii) = Err NotAscii

-- what the words after the number of a move say, if they are read in this way as a line of a script
abbrev pub numbered_told : Result Move ScriptKind → Result Said LogKind
numbered_told (Ok mv) = Ok (Makes mv)
numbered_told (Err script.ExtraWords) = Err ExtraWords
numbered_told (Err script.UnknownMove) = Err BadNumber
numbered_told (Err script.BadNumber) = Err BadNumber
numbered_told (Err script.NotAscii) = Err BadNumber

-- what follows `move`: the number of the next move, without leading zeros, and a move
unfoldable pub numbered_said : ℕ → List ℕ → Result Said LogKind
numbered_said next text =
    if bytes_eq (decimal next) (name_part text) then numbered_told (move_in (operand_part text)) else Err BadNumber

-- an observation, or otherwise a move
abbrev pub observed_or : Option ObservedPart → Result Said LogKind → Result Said LogKind
observed_or (Some subject) other = Ok (Observes subject)
observed_or None other = other

-- what words say that do not begin with `move`
abbrev pub said_words : List ℕ → Result Said LogKind
said_words text = observed_or (subject_in text) (move_said (move_in text))

-- what the words after the time say, if the next move has this number
unfoldable pub said_in : ℕ → List ℕ → Result Said LogKind
said_in next text =
    if bytes_eq (name_part text) (codes "move") then numbered_said next (operand_part text) else said_words text

-- Lines --

abbrev pub line_with_time : ℕ → Said → TimedLine
line_with_time time said = record { time = time; said = said }

-- what a line says, if it says something, or the first refusal: `earlier` is the latest time before it, and `next` the
-- number of the next move
unfoldable pub log_line_read : (earlier next : ℕ) → List ℕ → Result (Option TimedLine) LogKind
log_line_read earlier next line =
    if nat_lt longest_line (length line) then Err TooLong
    else if is_skipped line then Ok None
    else if not (is_ascii line) then Err NotAscii
    else and_then (time_read earlier line) (λ time.
    and_then (said_in next (after_time line)) (λ said. Ok (Some (line_with_time time said))))
