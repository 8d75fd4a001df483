-- The commands of the debugger, one per line (a format of this project): a name, and its operands.
use Rattle.std.specs.Prelude.{ℕ, ◌≤◌, ◌==◌, ◌&&◌, List, [], drop, length, Option, Some, None, Result, Ok, Err, codes, is_some, nat_le, nat_lt, if◌then◌else◌}
use Rattle.std.specs.Str.{bytes_eq}
use Rattle.texts.specs.Answers.{and_then, needed}
use Rattle.rv_text.specs.Pieces.{name_part, operand_part}
use Rattle.cf_bind.specs.declared.moves.Move.{Move as AnyMove}
use Rattle.run_scripts.specs.declared.refusal.ScriptKind.{ScriptKind}
use Rattle.run_scripts.specs.Kinds.{place_named}
use Rattle.run_scripts.specs.MoveLines.{move_in}
use Rattle.run_scripts.specs.Words.{words_of, first_word, first_number, address_in}
use Rattle.cf_debug.specs.declared.command.DebugCommand.{DebugCommand}
use Rattle.cf_debug.specs.declared.command.DebugCommand.TheVariants.{Nothing, Move, Auto, Show, Break, Back, End}
use Rattle.cf_debug.specs.declared.command.View.{View}
use Rattle.cf_debug.specs.declared.command.View.TheVariants.{Picture, Registers, Memory, Bound, Allowed, Standing, Code, Help}
use Rattle.cf_debug.specs.declared.command.Refusal.{Refusal}
use Rattle.cf_debug.specs.declared.command.Refusal.TheVariants.{TooLong, UnknownCommand, BadNumber, ExtraWords, Script}
use Rattle.cf_debug.specs.Limits.{longest_line, most_kept, most_auto_moves}

-- the number, from one up to a limit, or a refusal if it is missing
abbrev pub number_within : ℕ → Result ℕ ScriptKind → Result ℕ Refusal
number_within most (Err kind) = Err BadNumber
number_within most (Ok n) = if nat_le 1 n && nat_le n most then Ok n else Err BadNumber

-- a number that the first word spells in one to nine decimal digits, from one up to a limit
unfoldable pub number_told : ℕ → List (List ℕ) → Result ℕ Refusal
number_told most words = number_within most (first_number words)

-- the address that a word spells in eight hexadecimal digits
unfoldable pub address_told : List ℕ → Result ℕ Refusal
address_told word = needed BadNumber (address_in word)

-- an address, or `none`
unfoldable pub break_told : List ℕ → Result (Option ℕ) Refusal
break_told word = if bytes_eq word (codes "none") then Ok None else and_then (address_told word) (λ a. Ok (Some a))

-- a command after which no word is left
unfoldable pub command_alone : List (List ℕ) → DebugCommand → Result DebugCommand Refusal
command_alone words command = if length words == 0 then Ok command else Err ExtraWords

-- the move that the text after `move` names, as a line of a script
abbrev pub move_told : Result AnyMove ScriptKind → Result DebugCommand Refusal
move_told (Ok mv) = Ok (Move mv)
move_told (Err kind) = Err (Script kind)

-- the move whose first bar is asked for, in the same way
abbrev pub why_told : Result AnyMove ScriptKind → Result DebugCommand Refusal
why_told (Ok mv) = Ok (Show (Standing mv))
why_told (Err kind) = Err (Script kind)

-- how many moves
unfoldable pub auto_told : List (List ℕ) → Result DebugCommand Refusal
auto_told words = and_then (number_told most_auto_moves words) (λ n. command_alone (drop 1 words) (Auto n))

-- how many moves are taken back, up to as many as are kept: one if no word follows
unfoldable pub back_told : List (List ℕ) → Result DebugCommand Refusal
back_told words =
    if length words == 0 then Ok (Back 1)
    else and_then (number_told most_kept words) (λ n. command_alone (drop 1 words) (Back n))

-- an address, and nothing more
unfoldable pub code_told : List (List ℕ) → Result DebugCommand Refusal
code_told words = and_then (address_told (first_word words)) (λ address. command_alone (drop 1 words) (Show (Code address)))

-- an address and how many bytes, up to 16
unfoldable pub memory_told : List (List ℕ) → Result DebugCommand Refusal
memory_told words =
    and_then (address_told (first_word words)) (λ address.
    and_then (number_told 16 (drop 1 words)) (λ len.
    command_alone (drop 1 (drop 1 words)) (Show (Memory address len))))

-- a break address, or `none`, and nothing more
unfoldable pub stop_told : List (List ℕ) → Result DebugCommand Refusal
stop_told words = and_then (break_told (first_word words)) (λ stop. command_alone (drop 1 words) (Break stop))

-- the command of this name, if it is one after which no word may follow
unfoldable pub lone_command : List ℕ → Option DebugCommand
lone_command name =
    if bytes_eq name (codes "show") then Some (Show Picture)
    else if bytes_eq name (codes "regs") then Some (Show Registers)
    else if bytes_eq name (codes "bound") then Some (Show Bound)
    else if bytes_eq name (codes "moves") then Some (Show Allowed)
    else if bytes_eq name (codes "help") then Some (Show Help)
    else if bytes_eq name (codes "end") then Some End
    else None

-- such a command, or the refusal of an unknown name
abbrev pub lone_told : Option DebugCommand → List (List ℕ) → Result DebugCommand Refusal
lone_told None words = Err UnknownCommand
lone_told (Some command) words = command_alone words command

-- a line that begins with the name of a move is that move, as in a script; any other is a command after which no word
-- may follow
unfoldable pub other_told : (line name after : List ℕ) → Result DebugCommand Refusal
other_told line name after =
    if is_some (place_named name) then move_told (move_in line) else lone_told (lone_command name) (words_of after)

-- the command of a line, by its name and the text after it
unfoldable pub command_named : (line name after : List ℕ) → Result DebugCommand Refusal
command_named line name after =
    if bytes_eq name (codes "") then Ok Nothing
    else if bytes_eq name (codes "move") then move_told (move_in after)
    else if bytes_eq name (codes "auto") then auto_told (words_of after)
    else if bytes_eq name (codes "mem") then memory_told (words_of after)
    else if bytes_eq name (codes "break") then stop_told (words_of after)
    else if bytes_eq name (codes "why") then why_told (move_in after)
    else if bytes_eq name (codes "back") then back_told (words_of after)
    else if bytes_eq name (codes "list") then code_told (words_of after)
    else other_told line name after

-- the command of a line, or the first refusal
unfoldable pub command_in : List ℕ → Result DebugCommand Refusal
command_in line =
    if nat_lt longest_line (length line) then Err TooLong
    else command_named line (name_part line) (operand_part line)

-- the view shows at most 16 bytes of memory
abbrev pub ShowsFew : View → Type 0
ShowsFew (Memory address len) = len ≤ 16
ShowsFew view = Unit {0}

-- the command shows at most 16 bytes of memory
abbrev pub AsksFew : DebugCommand → Type 0
AsksFew (Show view) = ShowsFew view
AsksFew command = Unit {0}
