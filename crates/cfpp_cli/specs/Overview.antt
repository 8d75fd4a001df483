-- What the help text of the program describes: each command and each option of the command line, each status, and the
-- limits (a text of this project).
use Rattle.std.specs.Prelude.{◌≡◌, ℕ, ◌/◌, List, [], ◌∷◌, ◌++◌, codes, decimal, take, nat_eq, Bool, true, false, if◌then◌else◌, ◌||◌}
use Rattle.std.specs.List.{starts_with}
use Rattle.run_options.specs.Limits.{most_limit, most_timed_limit}
use Rattle.cli_arguments.specs.declared.names.CommandName.{CommandName}
use Rattle.cli_arguments.specs.declared.options.Key.{Key}
use Rattle.cli_arguments.specs.Commands.{command_name, has_help}
use Rattle.cli_arguments.specs.Options.{option_name, default_limit, most_seed}
use Rattle.cli_files.specs.Codes.{exit_code}
use Rattle.cli_files.specs.declared.status.Status.{Status}
use Rattle.cli_files.specs.declared.status.Status.TheVariants as status
use Rattle.cli_help.specs.Help.{operands}

-- the part occurs in the text
unfoldable pub stands_in : List ℕ → List ℕ → Bool
stands_in part [] = false
stands_in part (byte ∷ rest) = starts_with nat_eq (byte ∷ rest) part || stands_in part rest

-- the part begins a line, after two blanks
abbrev pub begins_line : List ℕ → List ℕ → Bool
begins_line part text = stands_in (10 ∷ codes "  " ++ part) text

-- a command's arguments up to the first optional one, which is in brackets
unfoldable pub before_brackets : List ℕ → List ℕ
before_brackets [] = []
before_brackets (byte ∷ rest) =
    if starts_with nat_eq (byte ∷ rest) (codes " [") then [] else byte ∷ before_brackets rest

-- the call of a command with the arguments that it needs
abbrev pub call_of : CommandName → List ℕ
call_of name = codes "cfpp " ++ before_brackets (command_name name ++ codes " " ++ operands name)

-- the meaning of each status
abbrev pub meaning : Status → List ℕ
meaning (status.Exit code) = codes "the program's own status"
meaning (status.Trap cause pc detail) = codes "the program trapped"
meaning (status.Limit limit) = codes "the limit was reached"
meaning (status.ScriptEnd moves) = codes "a command was carried out, or a script ended before the program did"
meaning status.Done = codes "a command was carried out, or a script ended before the program did"
meaning (status.BadWords index) = codes "unrecognised arguments"
meaning (status.BadLayout error) = codes "the layout is refused"
meaning (status.BadProgram error) = codes "the program is refused"
meaning (status.BadScript fault) = codes "the script is refused"
meaning (status.BarredAt line bar) = codes "the move of a line is barred"
meaning (status.BadSource error) = codes "the source is refused"
meaning (status.ReadFault which) = codes "a file or the input cannot be read"
meaning status.WriteFault = codes "output or report cannot be written"
meaning status.NoMemory = codes "memory is refused"
meaning (status.BadDelays fault) = codes "the delays are refused"
meaning (status.BadTrace fault) = codes "the trace is refused"
meaning (status.BadLog refusal) = codes "a line of the log is refused"
meaning (status.LogEnd moves) = codes "the log ended before the program"
meaning status.Wrong = codes "an order is wrong"
meaning (status.TooMany most) = codes "the limit was reached"
meaning status.BadInput = codes "the input is refused"

-- the number of a status, in a column of five, and its meaning; a program's own status has no number here
abbrev pub status_told : Status → List ℕ
status_told (status.Exit code) = meaning (status.Exit code)
status_told said = codes "  " ++ take 5 (decimal (exit_code said) ++ codes "     ") ++ meaning said

-- the text has each command that has a help text of its own, each option of these, each status with its number, the
-- maximum limit, with and without a letter, the default limit, and the largest seed
pub record IsOverview (text : List ℕ) : Type 0 where
  pub commands : (name : CommandName) → has_help name ≡ true → begins_line (call_of name) text ≡ true
  pub options : (key : Key) → begins_line (option_name key) text ≡ true
  pub statuses : (said : Status) → stands_in (status_told said) text ≡ true
  pub greatest : stands_in (codes "at most " ++ decimal (most_limit / 1000000000) ++ codes "G") text ≡ true
  pub plain : stands_in (codes "at most " ++ decimal most_timed_limit ++ codes ", or with") text ≡ true
  pub otherwise : stands_in (codes "without it at " ++ decimal default_limit) text ≡ true
  pub seeds : stands_in (codes "at most " ++ decimal most_seed) text ≡ true
