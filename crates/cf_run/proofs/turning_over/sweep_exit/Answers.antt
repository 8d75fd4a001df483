use Rattle.std.proofs.Common.{◌∙◌, ap, arith}
use Rattle.cf_bind.specs.declared.moves.Move.TheVariants.{Exit, Serve}
use Rattle.cf_semantics.specs.moves.Holding.{is_held}
use Rattle.cf_core.specs.Processors.{Processor}
use Rattle.cf_index.specs.Allowed.{is_allowed}
use Rattle.cf_index.proofs.AfterLeaving.{serve_kept}
use Rattle.cf_index.proofs.PickedFrom.{exited_on, picked_on}
use Rattle.cf_run.proofs.Turning.{few_after, no_turns, picked_free, picked_here}
use Rattle.cf_run.proofs.turning_over.sweep_exit.Goals as goal

pub returns-then-not-may_exit-clause-on : goal.returns-then-not-may_exit-clause-on
returns-then-not-may_exit-clause-on c = record {
  swept = no_turns _ _ _;
  from = record {
    ready = c.requires.from.ready;
    picked = picked_on _ _ _ _ _ _ _ (c.may_exit.ensures.gone c.if-not-may_exit.true) c.requires.from.picked;
  };
}

pub make_picked-requires-clause-picked : goal.make_picked-requires-clause-picked
make_picked-requires-clause-picked c = picked_here _ _ _ _ _ _ _ c.requires.from.picked (c.may_exit.ensures.here c.if-not-may_exit.false)

pub make_picked-requires-clause-ready : goal.make_picked-requires-clause-ready
make_picked-requires-clause-ready c = c.requires.from.ready

pub returns-clause-on : goal.returns-clause-on
returns-clause-on c =
    let pace = c.make_picked.new.pace in
    let plan = c.make_picked.new.core.plan in
    let s = c.make_picked.new.core.state in
    record {
      swept = c.make_picked.ensures.swept;
      from = record {
        ready = c.make_picked.ensures.ready (λ is. absurd (omega (arith, is)));
        picked = exited_on pace.rule (is_held plan pace.count) plan s (few_after _ _ _ c.requires.from.ready c.make_picked.ensures.swept);
      };
    }

pub returns-clause-serve : goal.returns-clause-serve
returns-clause-serve c =
    let old = c.args.core.now in
    let free = picked_free _ _ _ _ _ Exit (picked_here _ _ _ _ _ _ _ c.requires.from.picked (c.may_exit.ensures.here c.if-not-may_exit.false)) in
    ap (λ (p : Processor). is_allowed p.plan p.state Serve) c.make_picked.ensures.made ∙ serve_kept old.plan old.state free
