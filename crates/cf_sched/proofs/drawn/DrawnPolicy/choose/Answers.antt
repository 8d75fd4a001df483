use Rattle.std.proofs.Common.{List, length, ap, arith}
use Rattle.cf_bind.specs.declared.moves.Move.{Move}
use Rattle.cf_sched.proofs.Packing.{packed_offered}
use Rattle.cf_sched.proofs.drawn.DrawnPolicy.choose.Goals as goal

pub pick_packed-requires : goal.pick_packed-requires
pick_packed-requires c =
    let e = packed_offered c.args.pace.now c.rule.result c.args.core.now.plan c.args.core.now.state c.held.result c.in-Some.packed
    c.rule.ensures c.held.ensures.value c.in-Some.ensures.offered in
    let n = ap (λ (l : List Move). length l) e in
    let some = c.requires in
    omega (arith, n, some)

pub returns-in-Some-clause-choice : goal.returns-in-Some-clause-choice
returns-in-Some-clause-choice c =
    let e = packed_offered c.args.pace.now c.rule.result c.args.core.now.plan c.args.core.now.state c.held.result c.in-Some.packed
    c.rule.ensures c.held.ensures.value c.in-Some.ensures.offered in
    let at = c.pick_packed.ensures.choice in
    rw e at at
