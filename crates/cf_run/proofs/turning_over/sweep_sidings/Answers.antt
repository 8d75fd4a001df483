use Rattle.cf_run.proofs.Turning.{sweeps_on, swept_on}
use Rattle.cf_run.proofs.turning_over.sweep_sidings.Goals as goal

pub returns : goal.returns
returns c =
    let on = swept_on _ _ _ _ _ _ c.sweep_once-accessed.ensures.on c.sweep_kind-recovered.ensures.on in
    record { swept = sweeps_on _ _ _ _ _ c.take_slide-slid.ensures.swept on.swept; from = λ goes. on.from }
