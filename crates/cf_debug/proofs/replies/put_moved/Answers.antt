use Rattle.std.proofs.Common.{refl}
use Rattle.cf_run.specs.Made.{retirement}
use Rattle.cf_report.proofs.Puttings.{puts-again, puts-stopped}
use Rattle.cf_debug.proofs.replies.put_moved.Goals as goal

pub returns-in_err-put : goal.returns-in_err-put
returns-in_err-put g c = puts-stopped (retirement c.args.core.now.state.retired c.args.event.now) _ c.in_err-put.was refl c.from_residual.ensures.0
    c.put.ensures

pub returns : goal.returns
returns g c = puts-again _ c.in_ok-put.was refl c.put.ensures c.put_retirement.ensures
