use Rattle.cf_run.proofs.Turning.{swept_on}
use Rattle.cf_run.proofs.sweep.sweep_stages.Goals as goal

pub returns : goal.returns
returns c =
    let climbed = swept_on _ _ _ _ _ _ c.sweep_once-emitted.ensures.on c.sweep_climbs-climbed.ensures.on in
    let met = swept_on _ _ _ _ _ _ (swept_on _ _ _ _ _ _ climbed c.sweep_falls-fallen.ensures.on) c.sweep_kind-met.ensures.on in
    let sent = swept_on _ _ _ _ _ _ (swept_on _ _ _ _ _ _ met c.sweep_kind-executed.ensures.on) c.sweep_kind-sent.ensures.on in
    record { on = swept_on _ _ _ _ _ _ sent c.sweep_kind.ensures.on }
