use Rattle.std.proofs.Common.{◌≡◌, ◌∙◌, None, Some, sym}
use Rattle.cf_layout.proofs.Facts.{memory_siding}
use Rattle.cf_timed.proofs.reaching.port.Goals as goal

pub returns-in-None-clause-cell : goal.returns-in-None-clause-cell
returns-in-None-clause-cell c =
    let m = memory_siding c.args.layout.now c.stages-accepted.ensures.accepted in
    let e : None ≡ Some m.0 = sym c.in-None.is ∙ c.siding_of.ensures.siding ∙ m.1 in
    absurd (cc)
