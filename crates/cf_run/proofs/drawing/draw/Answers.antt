use Rattle.std.proofs.Common.{subst}
use Rattle.run_options.specs.declared.reporting.Reporting.{Reporting}
use Rattle.cf_run.specs.Sweeps.{DrawsTo, policy_at}
use Rattle.cf_run.proofs.Turning.{come_on, shows-nothing}
use Rattle.cf_run.proofs.drawing.draw.Goals as goal

pub returns-in-Report-None-clause-come : goal.returns-in-Report-None-clause-come
returns-in-Report-None-clause-come c =
    let now = policy_at c.args.core.now c.args.drawn.now c.args.pace.now c.args.tally.now in
    let new = policy_at c.draw_on.new.core c.draw_on.new.drawn c.draw_on.new.pace c.draw_on.new.tally in
    come_on _ _ now new c.requires.come
    (subst (λ (r : Reporting). DrawsTo c.args.limit r now new)
    (shows-nothing c.args.reporting c.in-Report-None.is-0 c.in-Report-None.is-1) c.draw_on.ensures.draws)
