use Rattle.std.proofs.Common.{List, length, ap, arith}
use Rattle.cf_bind.specs.declared.moves.Move.{Move}
use Rattle.cf_sched.proofs.Packing.{packed_offered}
use Rattle.cf_sched.proofs.drawn.Drawn.choose_of_all.Goals as goal

pub pick-place-requires : goal.pick-place-requires
pick-place-requires c =
    let e = packed_offered c.args.pace.now c.rule.result c.args.core.now.plan c.args.core.now.state c.held.result c.of-candidates.result
    c.rule.ensures c.held.ensures.value c.of-candidates.ensures in
    let n = ap (λ (l : List Move). length l) e in
    let some = c.requires in
    omega (arith, n, some)

pub returns-clause-choice : goal.returns-clause-choice
returns-clause-choice c =
    let e = packed_offered c.args.pace.now c.rule.result c.args.core.now.plan c.args.core.now.state c.held.result c.of-candidates.result
    c.rule.ensures c.held.ensures.value c.of-candidates.ensures in
    let at = c.pick.ensures in
    rw (c.pick-place.ensures.picked, e) at at
