use Rattle.std.proofs.Common.{refl}
use Rattle.cf_report.proofs.Puttings.{puts-again}
use Rattle.report_closing.specs.Moves.{between}
use Rattle.report_closing.proofs.moves.put_between.Goals as goal

pub returns : goal.returns
returns g c =
    puts-again (between c.args.before.now c.args.mv c.args.after.now) c.in_ok-put_all.was refl
    (record { all = c.put_all.ensures.all; front = c.put_all.ensures.front; cause = c.put_all.ensures.cause })
    c.put_move.ensures
