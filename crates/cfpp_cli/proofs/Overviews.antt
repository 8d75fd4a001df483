-- The help text of the program describes each command, each option, each status and the limits.
use Rattle.std.proofs.Common.{◌≡◌, true, refl}
use Rattle.std.specs.Fmt.{digits}
use Rattle.cli_arguments.specs.declared.names.CommandName.{CommandName}
use Rattle.cli_arguments.specs.declared.names.CommandName.TheVariants as names
use Rattle.cli_arguments.specs.declared.options.Key.{Key}
use Rattle.cli_arguments.specs.declared.options.Key.TheVariants as keys
use Rattle.cli_arguments.specs.Commands.{has_help}
use Rattle.cli_arguments.specs.Options.{option_name}
use Rattle.cli_files.specs.declared.status.Status.{Status}
use Rattle.cli_files.specs.declared.status.Status.TheVariants as status
use Rattle.cfpp_cli.specs.Overview.{IsOverview, begins_line, before_brackets, call_of, stands_in, status_told}
use Rattle.cfpp_cli.specs.declared.help.TheConstants.{HELP}

commands : (name : CommandName) → has_help name ≡ true → begins_line (call_of name) HELP.now ≡ true
unfolding stands_in before_brackets
commands names.Machine h = refl
commands names.Run h = refl
commands names.Moves h = refl
commands names.Rounds h = refl
commands names.Orders h = refl
commands names.Conform h = refl
commands names.Debug h = refl
commands names.Time h = refl
commands names.Audit h = refl
commands names.Check h = refl
commands names.Asm h = refl
commands names.List h = refl
commands names.Gen h = refl
commands names.Help h = refl
commands names.HelpOption h = absurd (cc)
commands names.HelpLetter h = absurd (cc)
commands names.Version h = absurd (cc)
commands names.VersionLetter h = absurd (cc)

options : (key : Key) → begins_line (option_name key) HELP.now ≡ true
unfolding stands_in
options keys.Limit = refl
options keys.Every = refl
options keys.Show = refl
options keys.Script = refl
options keys.Seed = refl
options keys.Guess = refl
options keys.Input = refl
options keys.Issues = refl
options keys.States = refl
options keys.Without = refl
options keys.Mul = refl
options keys.Run = refl

statuses : (said : Status) → stands_in (status_told said) HELP.now ≡ true
unfolding stands_in digits
statuses (status.Exit code) = refl
statuses (status.Trap cause pc detail) = refl
statuses (status.Limit limit) = refl
statuses (status.ScriptEnd moves) = refl
statuses status.Done = refl
statuses (status.BadWords index) = refl
statuses (status.BadLayout error) = refl
statuses (status.BadProgram error) = refl
statuses (status.BadScript fault) = refl
statuses (status.BarredAt line bar) = refl
statuses (status.BadSource error) = refl
statuses (status.ReadFault which) = refl
statuses status.WriteFault = refl
statuses status.NoMemory = refl
statuses (status.BadDelays fault) = refl
statuses (status.BadTrace fault) = refl
statuses (status.BadLog refusal) = refl
statuses (status.LogEnd moves) = refl
statuses status.Wrong = refl
statuses (status.TooMany most) = refl
statuses status.BadInput = refl

pub overview-told : IsOverview HELP.now
unfolding stands_in digits
overview-told = record {
  commands = commands;
  options = options;
  statuses = statuses;
  greatest = refl;
  plain = refl;
  otherwise = refl;
  seeds = refl;
}
