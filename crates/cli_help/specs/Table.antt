-- The table of the help texts, which are constants of this project.
use Rattle.std.specs.Prelude.{ℕ, List}
use Rattle.cli_arguments.specs.declared.names.CommandName.{CommandName}
use Rattle.cli_arguments.specs.declared.names.CommandName.TheVariants as names
use Rattle.cli_help.specs.declared.pages.machine.TheConstants.{HELP_ON_MACHINE}
use Rattle.cli_help.specs.declared.pages.run.TheConstants.{HELP_ON_RUN}
use Rattle.cli_help.specs.declared.pages.moves.TheConstants.{HELP_ON_MOVES}
use Rattle.cli_help.specs.declared.pages.rounds.TheConstants.{HELP_ON_ROUNDS}
use Rattle.cli_help.specs.declared.pages.orders.TheConstants.{HELP_ON_ORDERS}
use Rattle.cli_help.specs.declared.pages.conform.TheConstants.{HELP_ON_CONFORM}
use Rattle.cli_help.specs.declared.pages.debug.TheConstants.{HELP_ON_DEBUG}
use Rattle.cli_help.specs.declared.pages.time.TheConstants.{HELP_ON_TIME}
use Rattle.cli_help.specs.declared.pages.audit.TheConstants.{HELP_ON_AUDIT}
use Rattle.cli_help.specs.declared.pages.check.TheConstants.{HELP_ON_CHECK}
use Rattle.cli_help.specs.declared.pages.asm.TheConstants.{HELP_ON_ASM}
use Rattle.cli_help.specs.declared.pages.list.TheConstants.{HELP_ON_LIST}
use Rattle.cli_help.specs.declared.pages.drawn.TheConstants.{HELP_ON_GEN}
use Rattle.cli_help.specs.declared.pages.help.TheConstants.{HELP_ON_HELP}

-- the text of each command; commands that are written as options have that of `help`
unfoldable pub help_text : CommandName → List ℕ
help_text names.Machine = HELP_ON_MACHINE.now
help_text names.Run = HELP_ON_RUN.now
help_text names.Moves = HELP_ON_MOVES.now
help_text names.Rounds = HELP_ON_ROUNDS.now
help_text names.Orders = HELP_ON_ORDERS.now
help_text names.Conform = HELP_ON_CONFORM.now
help_text names.Debug = HELP_ON_DEBUG.now
help_text names.Time = HELP_ON_TIME.now
help_text names.Audit = HELP_ON_AUDIT.now
help_text names.Check = HELP_ON_CHECK.now
help_text names.Asm = HELP_ON_ASM.now
help_text names.List = HELP_ON_LIST.now
help_text names.Gen = HELP_ON_GEN.now
help_text names.Help = HELP_ON_HELP.now
help_text names.HelpOption = HELP_ON_HELP.now
help_text names.HelpLetter = HELP_ON_HELP.now
help_text names.Version = HELP_ON_HELP.now
help_text names.VersionLetter = HELP_ON_HELP.now
