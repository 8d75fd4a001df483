-- How far the run has come follows the retirement's line.
use Rattle.std.proofs.Common.{refl}
use Rattle.cf_report.proofs.Puttings.{puts-again, puts-stopped}
use Rattle.cf_run.specs.Made.{progress}
use Rattle.cf_run.proofs.showing.put_both.Goals as goal

pub returns-in_err-put_retirement : goal.returns-in_err-put_retirement
returns-in_err-put_retirement g c =
    puts-stopped (progress c.args.every c.args.retired c.args.made.now.number c.args.made.now.event) _ c.in_err-put_retirement.was refl
    c.from_residual.ensures.0 c.put_retirement.ensures

pub returns : goal.returns
returns g c = puts-again _ c.in_ok-put_retirement.was refl c.put_retirement.ensures c.put_progress.ensures
