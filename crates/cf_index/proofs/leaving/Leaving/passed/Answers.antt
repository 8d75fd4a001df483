use Rattle.std.proofs.Common.{sym}
use Rattle.cf_index.proofs.PassedEnds.{enters_or_passes, leaving_none}
use Rattle.cf_index.proofs.leaving.Leaving.passed.Goals as goal

pub returns-in_default-clause-count : goal.returns-in_default-clause-count
returns-in_default-clause-count c =
    let n = c.in_default in
    sym (leaving_none c.args.self.now c.args.last (enters_or_passes c.args.last n.not-Access n.not-Recover n.not-Leave n.not-Exit n.not-Serve))
