use Rattle.std.proofs.Common.{true}
use Rattle.cf_run.specs.Sweeps.{policy_at}
use Rattle.cf_run.proofs.Turning.{allowed-inside, can-retire, come-counts, drawing-offered, drawn-free, drawn-on}
use Rattle.cf_run.proofs.drawing.take_turn_with_slides.Goals as goal

pub pick_packed-mv-requires : goal.pick_packed-mv-requires
pick_packed-mv-requires c = rw c.requires.offered (drawing-offered _ _ c.requires.ready)

pub make_recorded-requires-clause-allowed : goal.make_recorded-requires-clause-allowed
make_recorded-requires-clause-allowed c =
    let now = policy_at c.args.core.now c.args.drawn.now c.args.pace.now c.args.tally.now in
    drawn-free c.args.limit now c.pick_packed-mv.result c.args.offered c.requires.offered c.pick_packed-mv.ensures.choice

pub make_recorded-requires-clause-other : goal.make_recorded-requires-clause-other
make_recorded-requires-clause-other c =
    let now = policy_at c.args.core.now c.args.drawn.now c.args.pace.now c.args.tally.now in
    allowed-inside c.args.core.now.plan c.args.core.now.state c.pick_packed-mv.result c.requires.inside
    (drawn-free c.args.limit now c.pick_packed-mv.result c.args.offered c.requires.offered c.pick_packed-mv.ensures.choice)

pub make_recorded-requires-clause-retired : goal.make_recorded-requires-clause-retired
make_recorded-requires-clause-retired c = can-retire _ _ c.requires.ready

pub make_recorded-requires-clause-counts : goal.make_recorded-requires-clause-counts
make_recorded-requires-clause-counts c = come-counts _ _ _ c.requires.ready.come

pub returns : goal.returns
returns c =
    let now = policy_at c.args.core.now c.args.drawn.now c.args.pace.now c.args.tally.now in
    record {
      on = rw c.pick_packed-mv.ensures.onward (drawn-on c.args.limit true now _ _ _ _ c.args.offered c.requires.inside c.requires.ready c.requires.offered
          c.pick_packed-mv.ensures.choice c.make_recorded.ensures (λ no. absurd (cc)) (λ no. absurd (cc)));
    }
