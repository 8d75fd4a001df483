use Rattle.cfpp_cli.proofs.Overviews.{overview-told}
use Rattle.cfpp_cli.proofs.help.overview.Goals as goal

pub returns-clause-tells : goal.returns-clause-tells
returns-clause-tells c = overview-told
