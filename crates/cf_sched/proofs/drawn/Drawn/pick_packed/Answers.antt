use Rattle.std.proofs.Common.{◌≡◌, refl, ap, arith}
use Rattle.rand_pcg.specs.Pcg.{pcg32}
use Rattle.cf_sched.proofs.Packing.{drawn_place}
use Rattle.cf_sched.proofs.drawn.Drawn.pick_packed.Goals as goal

pub nonzero_rem-draw : goal.nonzero_rem-draw
nonzero_rem-draw c =
    let count = c.len.ensures.count in
    let some = c.requires in
    omega (arith, count, some)

pub pick-requires : goal.pick-requires
pick-requires c = drawn_place c.draw.result c.len.result c.args.packed.now c.args.packed.now c.len.ensures.count refl c.requires

pub returns-clause-choice : goal.returns-clause-choice
returns-clause-choice c =
    let d : c.draw.result ≡ (pcg32 c.args.self.now).0 = ap (λ p. p.0) c.draw.ensures in
    let at = c.pick.ensures in
    rw (c.len.ensures.count, d) at at
