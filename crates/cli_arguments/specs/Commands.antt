-- The commands of the project's command line: the first argument of each, and how many positional arguments follow it.
use Rattle.std.specs.Prelude.{ℕ, List, codes, nat_eq, Bool, true, false, Option, Some, None, is_some, if◌then◌else◌}
use lib.Pointwise.{pointwise}
use Rattle.cli_arguments.specs.declared.names.CommandName.{CommandName}
use Rattle.cli_arguments.specs.declared.names.CommandName.TheVariants as names
use Rattle.cli_arguments.specs.declared.names.PlaceKind.{PlaceKind}
use Rattle.cli_arguments.specs.declared.names.PlaceKind.TheVariants.{Files, Numbers, Topics}
use Rattle.cli_arguments.specs.Values.{is_file_name, count_in}

-- the name of each command
abbrev pub command_name : CommandName → List ℕ
command_name names.Machine = codes "machine"
command_name names.Run = codes "run"
command_name names.Moves = codes "moves"
command_name names.Rounds = codes "rounds"
command_name names.Orders = codes "orders"
command_name names.Conform = codes "conform"
command_name names.Debug = codes "debug"
command_name names.Time = codes "time"
command_name names.Audit = codes "audit"
command_name names.Check = codes "check"
command_name names.Asm = codes "asm"
command_name names.List = codes "list"
command_name names.Gen = codes "gen"
command_name names.Help = codes "help"
command_name names.HelpOption = codes "--help"
command_name names.HelpLetter = codes "-h"
command_name names.Version = codes "--version"
command_name names.VersionLetter = codes "-V"

-- the minimum number of positional arguments of a command
abbrev pub fewest : CommandName → ℕ
fewest names.Machine = 1
fewest names.Run = 2
fewest names.Moves = 2
fewest names.Rounds = 2
fewest names.Orders = 2
fewest names.Conform = 2
fewest names.Debug = 2
fewest names.Time = 3
fewest names.Audit = 3
fewest names.Check = 1
fewest names.Asm = 1
fewest names.List = 1
fewest names.Gen = 1
fewest names.Help = 0
fewest names.HelpOption = 0
fewest names.HelpLetter = 0
fewest names.Version = 0
fewest names.VersionLetter = 0

-- and the maximum: `time` may have seven more layouts, `help` a command's name, and no other command more arguments
-- than it needs
abbrev pub most : CommandName → ℕ
most names.Time = 10
most names.Machine = 1
most names.Run = 2
most names.Moves = 2
most names.Rounds = 2
most names.Orders = 2
most names.Conform = 2
most names.Debug = 2
most names.Audit = 3
most names.Check = 1
most names.Asm = 1
most names.List = 1
most names.Gen = 1
most names.Help = 1
most names.HelpOption = 0
most names.HelpLetter = 0
most names.Version = 0
most names.VersionLetter = 0

-- an argument that is this text
abbrev pub is_text : List ℕ → List ℕ → Bool
is_text argument text = pointwise nat_eq argument text

-- the command that an argument names
unfoldable pub name_in : List ℕ → Option CommandName
name_in argument =
    if is_text argument (codes "machine") then Some names.Machine
    else if is_text argument (codes "run") then Some names.Run
    else if is_text argument (codes "moves") then Some names.Moves
    else if is_text argument (codes "rounds") then Some names.Rounds
    else if is_text argument (codes "orders") then Some names.Orders
    else if is_text argument (codes "conform") then Some names.Conform
    else if is_text argument (codes "debug") then Some names.Debug
    else if is_text argument (codes "time") then Some names.Time
    else if is_text argument (codes "audit") then Some names.Audit
    else if is_text argument (codes "check") then Some names.Check
    else if is_text argument (codes "asm") then Some names.Asm
    else if is_text argument (codes "list") then Some names.List
    else if is_text argument (codes "gen") then Some names.Gen
    else if is_text argument (codes "help") then Some names.Help
    else if is_text argument (codes "--help") then Some names.HelpOption
    else if is_text argument (codes "-h") then Some names.HelpLetter
    else if is_text argument (codes "--version") then Some names.Version
    else if is_text argument (codes "-V") then Some names.VersionLetter
    else None

-- whether there is help on a command: on all except those that are written as options
abbrev pub has_help : CommandName → Bool
has_help names.HelpOption = false
has_help names.HelpLetter = false
has_help names.Version = false
has_help names.VersionLetter = false
has_help _ = true

-- the command, if there is help on it
abbrev pub helped : Option CommandName → Option CommandName
helped None = None
helped (Some name) = if has_help name then Some name else None

-- the command that an argument after `help` names
unfoldable pub topic_in : List ℕ → Option CommandName
topic_in argument = helped (name_in argument)

-- the kind of a command's positional arguments: names of files, numbers, or commands
abbrev pub place_kind : CommandName → PlaceKind
place_kind names.Gen = Numbers
place_kind names.Help = Topics
place_kind _ = Files

-- an argument of this kind
abbrev pub is_of : PlaceKind → List ℕ → Bool
is_of Files argument = is_file_name argument
is_of Numbers argument = is_some (count_in argument)
is_of Topics argument = is_some (topic_in argument)

-- an argument that may be among the positional arguments of a command
unfoldable pub is_positional : CommandName → List ℕ → Bool
is_positional name argument = is_of (place_kind name) argument
