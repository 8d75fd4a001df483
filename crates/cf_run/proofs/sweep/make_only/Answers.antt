use Rattle.cf_semantics.specs.moves.Holding.{is_held}
use Rattle.cf_run.proofs.Turning.{few_after}
use Rattle.cf_run.proofs.sweep.make_only.Goals as goal

pub make_within-requires-clause-picked : goal.make_within-requires-clause-picked
make_within-requires-clause-picked g c = rw c.only-mv.ensures.value c.requires.picked

pub returns : goal.returns
returns g c =
    let pace = c.args.pace.now in
    let plan = c.make_within.new.core.plan in
    let s = c.make_within.new.core.state in
    record {
      on = record {
        swept = c.make_within.ensures.swept;
        from = record {
          ready = c.make_within.ensures.ready;
          picked = c.only-mv.ensures.picked pace.rule (is_held plan pace.count) plan s (few_after _ _ _ c.requires.ready c.make_within.ensures.swept);
        };
      };
    }
