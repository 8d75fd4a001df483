use Rattle.std.proofs.Common.{arith}
use Rattle.cf_semantics.specs.moves.Holding.{is_held}
use Rattle.cf_index.proofs.PickedFrom.{picked_on}
use Rattle.cf_run.proofs.Turning.{no_turns, picked_here, unset}
use Rattle.cf_run.proofs.turning_over.take_slide.Goals as goal

pub returns-in-None : goal.returns-in-None
returns-in-None c = record {
  swept = no_turns _ _ _;
  from = λ goes. record {
    ready = c.requires.from.ready;
    picked = picked_on _ _ _ _ _ _ _ (c.first_slide.ensures.gone c.in-None.is) c.requires.from.picked;
  };
}

pub make_within-requires-clause-before : goal.make_within-requires-clause-before
make_within-requires-clause-before c = let slide = c.in-Some.ensures.slide in omega (arith, slide)

pub make_within-requires-clause-after : goal.make_within-requires-clause-after
make_within-requires-clause-after c = let slide = c.in-Some.ensures.slide in omega (arith, slide)

pub make_within-requires-clause-picked : goal.make_within-requires-clause-picked
make_within-requires-clause-picked c = picked_here _ _ _ _ _ _ _ c.requires.from.picked c.in-Some.ensures.here

pub returns-in-Some : goal.returns-in-Some
returns-in-Some c =
    let pace = c.args.pace.now in
    let plan = c.make_within.new.core.plan in
    record {
      swept = c.make_within.ensures.swept;
      from = λ goes. record {
        ready = c.make_within.ensures.ready;
        picked = c.slides_after.ensures pace.rule (is_held plan pace.count) (unset _ goes);
      };
    }
