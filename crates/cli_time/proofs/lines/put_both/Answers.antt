use Rattle.std.proofs.Common.{◌++◌, refl}
use Rattle.cf_report.proofs.Puttings.{puts-again}
use Rattle.cli_time.proofs.lines.put_both.Goals as goal

pub returns : goal.returns
returns g c =
    puts-again (c.args.first.now ++ c.args.second.now) c.in_ok-put_all.was refl
    (record { all = c.put_all.ensures.all; front = c.put_all.ensures.front; cause = c.put_all.ensures.cause })
    (record { all = c.put_all-2.ensures.all; front = c.put_all-2.ensures.front; cause = c.put_all-2.ensures.cause })
