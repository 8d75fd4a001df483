use Rattle.std.proofs.Common.{◌++◌, codes, refl}
use Rattle.cf_report.proofs.Puttings.{failed-more, has-failed, puts-again}
use Rattle.cli_conform.proofs.closing.put_wanted.Goals as goal

pub returns-in_err-put_all : goal.returns-in_err-put_all
returns-in_err-put_all g c =
    let bad = c.from_residual.ensures.0 in
    failed-more {x = codes "expected "} c.args.wanted.now _ bad
    (has-failed _ c.in_err-put_all.was bad (record { all = c.put_all.ensures.all; front = c.put_all.ensures.front; cause = c.put_all.ensures.cause }))

pub returns : goal.returns
returns g c =
    puts-again (codes "expected " ++ c.args.wanted.now) c.in_ok-put_all.was refl
    (record { all = c.put_all.ensures.all; front = c.put_all.ensures.front; cause = c.put_all.ensures.cause })
    (record { all = c.put_all-2.ensures.all; front = c.put_all-2.ensures.front; cause = c.put_all-2.ensures.cause })
