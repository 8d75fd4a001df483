use Rattle.std.proofs.Common.{subst}
use Rattle.run_options.specs.declared.reporting.Reporting.{Reporting}
use Rattle.cf_run.specs.Sweeps.{SweepsTo, rule_at}
use Rattle.cf_run.proofs.Turning.{come_on, shows-nothing}
use Rattle.cf_run.proofs.rule.sweep.Goals as goal

pub returns-in-Some-Report-None-clause-come : goal.returns-in-Some-Report-None-clause-come
returns-in-Some-Report-None-clause-come c =
    let now = rule_at c.args.core.now c.args.round.now c.args.pace.now c.args.tally.now in
    let new = rule_at c.sweep_after.new.core c.sweep_after.new.round c.sweep_after.new.pace c.sweep_after.new.tally in
    come_on _ _ now new c.requires.come
    (subst (λ (r : Reporting). SweepsTo c.args.limit r now new)
    (shows-nothing c.args.reporting c.in-Some-Report-None.is-1 c.in-Some-Report-None.is-2) c.sweep_after.ensures.swept)
