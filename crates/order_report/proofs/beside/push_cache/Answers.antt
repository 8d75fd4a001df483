use Rattle.std.proofs.Common.{arith}
use Rattle.cf_report.proofs.Listed.{kept-none, kept-next}
use Rattle.order_report.proofs.beside.push_cache.Goals as goal

pub loop-register-init : goal.loop-register-init
loop-register-init c = record { text = kept-none _ _; size = omega arith }

pub loop-register-preserved : goal.loop-register-preserved
loop-register-preserved c =
    let more = kept-next c.args.page.now c.args.cache.now c.loop-register.register in
    record { text = cc; size = omega (arith, c.push_kept.ensures.size, c.loop-register.invariant.size) }
