use Rattle.cli_help.proofs.Texts.{texts-described}
use Rattle.cli_help.proofs.table.help_on.Goals as goal

pub returns-clause-about : goal.returns-clause-about
returns-clause-about c = λ h. rw c.text_of.ensures (texts-described c.args.name h)
