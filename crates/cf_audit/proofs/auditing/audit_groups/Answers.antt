use Rattle.std.proofs.Common.{◌∙◌, arith, refl}
use Rattle.cf_audit.proofs.Coming.{comes-first, comes-on, comes-falls, counts-small, retires-below}
use Rattle.cf_audit.proofs.Turning.{audited}
use Rattle.cf_audit.proofs.auditing.audit_groups.Goals as goal

pub loop-stop-init : goal.loop-stop-init
loop-stop-init g c = record {
  comes = comes-first _ _ _ _ c.requires.fresh c.requires.retired;
  still = refl;
}

pub advance-requires-clause-retired : goal.advance-requires-clause-retired
advance-requires-clause-retired g c =
    let low = retires-below _ _ _ c.loop-stop.invariant.comes c.requires.size in
    omega (arith, low)

pub advance-requires-clause-counts : goal.advance-requires-clause-counts
advance-requires-clause-counts g c =
    let small = counts-small _ _ _ c.loop-stop.invariant.comes c.requires.size in
    record { moves = omega (arith, small.0); meets = omega (arith, small.1); kills = omega (arith, small.2); dead = omega (arith, small.3) }

pub loop-stop-preserved : goal.loop-stop-preserved
loop-stop-preserved g c = record {
  comes = (comes-on _ _ _ _ c.requires.size refl c.loop-stop.invariant.comes c.in_default.ensures.tests).0;
  still = c.in_default.ensures.input.still ∙ c.loop-stop.invariant.still;
}

pub loop-stop-smaller : goal.loop-stop-smaller
loop-stop-smaller g c =
    let on = comes-on _ _ _ _ c.requires.size refl c.loop-stop.invariant.comes c.in_default.ensures.tests in
    comes-falls _ _ _ _ on.0 on.1

pub returns-in-Some-clause-audits : goal.returns-in-Some-clause-audits
returns-in-Some-clause-audits g c = audited _ _ _ _ _ c.requires.size refl (refl, refl) c.loop-stop.invariant.comes c.in-Some.ensures.tests
