use Rattle.std.proofs.Common.{◌++◌, refl}
use Rattle.cf_report.specs.Lines.{retired_line}
use Rattle.cf_report.proofs.Puttings.{failed-more, has-failed, puts-again}
use Rattle.cli_orders.proofs.wrong.put_line.Goals as goal

pub returns-in_err-put_all : goal.returns-in_err-put_all
returns-in_err-put_all g c =
    let bad = c.from_residual.ensures.0 in
    failed-more {x = c.args.name.now} (retired_line c.args.n c.args.line.now) _ bad
    (has-failed _ c.in_err-put_all.was bad (record { all = c.put_all.ensures.all; front = c.put_all.ensures.front; cause = c.put_all.ensures.cause }))

pub returns : goal.returns
returns g c =
    puts-again (c.args.name.now ++ retired_line c.args.n c.args.line.now) c.in_ok-put_all.was refl
    (record { all = c.put_all.ensures.all; front = c.put_all.ensures.front; cause = c.put_all.ensures.cause }) c.put_retired.ensures
