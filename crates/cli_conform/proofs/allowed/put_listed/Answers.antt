use Rattle.cf_report.proofs.Puttings.{has-front, has-more, has-same, put-nothing}
use Rattle.cli_conform.proofs.CandidateLines.{line-after, line-next}
use Rattle.cli_conform.proofs.allowed.put_listed.Goals as goal

pub loop-place-init : goal.loop-place-init
loop-place-init g c = put-nothing _ _

pub returns-in_err-put_allowed : goal.returns-in_err-put_allowed
returns-in_err-put_allowed g c =
    has-front _ c.in_err-put_allowed.was c.from_residual.ensures.0
    (line-after c.args.candidates.now c.loop-place.place _ c.pick.ensures) c.loop-place.invariant c.put_allowed.ensures

pub loop-place-preserved : goal.loop-place-preserved
loop-place-preserved g c =
    has-same _ (line-next c.args.candidates.now c.loop-place.place _ c.pick.ensures)
    (has-more c.in_ok-put_allowed.was c.loop-place.invariant c.put_allowed.ensures)
