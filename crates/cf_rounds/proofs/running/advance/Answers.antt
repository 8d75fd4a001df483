use Rattle.std.proofs.Common.{refl, arith}
use Rattle.cf_rounds.proofs.Rounding.{offered-candidates, offered-some, offers, over-read, over-written, turned, turned-over, turned-read, turned-written}
use Rattle.cf_rounds.proofs.running.advance.Goals as goal

pub choose-requires-clause-candidates : goal.choose-requires-clause-candidates
choose-requires-clause-candidates g c = offered-candidates _ _ _ _ c.requires.counted c.offer.ensures.offered

pub choose-requires-clause-some : goal.choose-requires-clause-some
choose-requires-clause-some g c = offered-some _ _ _ _ c.requires.counted c.offer.ensures.offered (c.requires.some c.in_default.ensures.unended)

pub returns-in-Some-clause-turns : goal.returns-in-Some-clause-turns
returns-in-Some-clause-turns g c = turned-over _ _ _ _ c.in-Some.ensures

pub returns-in-Some-clause-input : goal.returns-in-Some-clause-input
returns-in-Some-clause-input g c = rw (over-read c.args.limit c.args.core.now.state c.in-Some.clocked c.in-Some.ensures)
    (record { never_falls = omega arith; rose = tt; still = refl })

pub returns-in-Some-clause-output : goal.returns-in-Some-clause-output
returns-in-Some-clause-output g c = rw (over-written c.args.limit c.args.core.now.state c.in-Some.clocked c.in-Some.ensures)
    (record { never_falls = omega arith; rose = tt; still = refl })

pub returns-clause-turns : goal.returns-clause-turns
returns-clause-turns g c =
    turned _ _ _ _ _ _ _ _ _ c.in_default.ensures (offers _ _ _ _ c.layout.ensures.facts c.offer.ensures.offered c.choose.ensures.round
    c.choose.ensures.is_round c.choose.ensures.some) c.fire.ensures.fires c.finish_with.ensures

pub returns-clause-input : goal.returns-clause-input
returns-clause-input g c = rw (c.finish_with.ensures, turned-read c.fire.result) c.fire.ensures.input

pub returns-clause-output : goal.returns-clause-output
returns-clause-output g c = rw (c.finish_with.ensures, turned-written c.fire.result) c.fire.ensures.output
