-- Each text begins as the grammar requires.
use Rattle.std.proofs.Common.{◌≡◌, true, refl}
use Rattle.cli_arguments.specs.declared.names.CommandName.{CommandName}
use Rattle.cli_arguments.specs.declared.names.CommandName.TheVariants as names
use Rattle.cli_arguments.specs.Commands.{has_help}
use Rattle.cli_help.specs.Help.{IsHelp}
use Rattle.cli_help.specs.Table.{help_text}

pub texts-described : (name : CommandName) → has_help name ≡ true → IsHelp name (help_text name)
unfolding help_text
texts-described names.Machine h = refl
texts-described names.Run h = refl
texts-described names.Moves h = refl
texts-described names.Rounds h = refl
texts-described names.Orders h = refl
texts-described names.Conform h = refl
texts-described names.Debug h = refl
texts-described names.Time h = refl
texts-described names.Audit h = refl
texts-described names.Check h = refl
texts-described names.Asm h = refl
texts-described names.List h = refl
texts-described names.Gen h = refl
texts-described names.Help h = refl
texts-described names.HelpOption h = absurd (cc)
texts-described names.HelpLetter h = absurd (cc)
texts-described names.Version h = absurd (cc)
texts-described names.VersionLetter h = absurd (cc)
