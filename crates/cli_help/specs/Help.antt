-- How the help text of a command begins, by the grammar of the command line.
use Rattle.std.specs.Prelude.{◌≡◌, ℕ, List, [], ◌∷◌, ◌++◌, codes, filter, nat_eq, Bool, true}
use Rattle.std.specs.List.{flat_map, starts_with}
use Rattle.cli_arguments.specs.declared.names.CommandName.{CommandName}
use Rattle.cli_arguments.specs.declared.names.CommandName.TheVariants as names
use Rattle.cli_arguments.specs.declared.options.Key.{Key}
use Rattle.cli_arguments.specs.declared.options.Key.TheVariants as keys
use Rattle.cli_arguments.specs.Commands.{command_name}
use Rattle.cli_arguments.specs.Options.{option_name, takes_key}
use Rattle.texts.specs.Lines.{line}

-- what follows the command's name: its positional arguments, and options if it has optional ones
abbrev pub operands : CommandName → List ℕ
operands names.Machine = codes "PROGRAM [OPTION ..]"
operands names.Run = codes "LAYOUT PROGRAM [OPTION ..]"
operands names.Moves = codes "LAYOUT PROGRAM --script FILE [OPTION ..]"
operands names.Rounds = codes "LAYOUT PROGRAM [OPTION ..]"
operands names.Orders = codes "LAYOUT PROGRAM [OPTION ..]"
operands names.Conform = codes "LAYOUT PROGRAM [OPTION ..]"
operands names.Debug = codes "LAYOUT PROGRAM"
operands names.Time = codes "DELAYS PROGRAM LAYOUT .. [OPTION ..]"
operands names.Audit = codes "LAYOUT PROGRAM TRACE"
operands names.Check = codes "LAYOUT"
operands names.Asm = codes "SOURCE"
operands names.List = codes "PROGRAM"
operands names.Gen = codes "N [OPTION ..]"
operands names.Help = codes "[COMMAND]"
operands _ = []

-- all options
abbrev pub all_keys : List Key
all_keys =
    keys.Limit ∷ keys.Every ∷ keys.Show ∷ keys.Script ∷ keys.Seed ∷ keys.Guess ∷ keys.Input
    ∷ keys.Issues ∷ keys.States ∷ keys.Without ∷ keys.Mul ∷ keys.Run ∷ []

-- the options' own names, each after a space
abbrev pub option_names : List Key → List ℕ
option_names [] = codes " none"
option_names (key ∷ others) = flat_map (λ k. codes " " ++ option_name k) (key ∷ others)

-- the first two lines: the command with its positional arguments, and the options that the grammar gives it
abbrev pub head_lines : CommandName → List ℕ
head_lines name =
    line (codes "cfpp " ++ command_name name ++ codes " " ++ operands name)
    ++ line (codes "Options:" ++ option_names (filter (takes_key name) all_keys))

-- the help text of a command begins with these
abbrev pub IsHelp : CommandName → List ℕ → Type 0
IsHelp name text = starts_with nat_eq text (head_lines name) ≡ true
