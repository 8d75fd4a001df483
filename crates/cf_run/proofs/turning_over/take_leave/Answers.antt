use Rattle.std.specs.Prelude.{not}
use Rattle.std.proofs.Common.{◌∙◌, ap}
use Rattle.cf_bind.specs.declared.moves.Move.TheVariants.{Leave, Serve}
use Rattle.cf_semantics.specs.moves.Holding.{is_held}
use Rattle.cf_core.specs.Processors.{Processor}
use Rattle.cf_index.specs.Allowed.{is_allowed}
use Rattle.cf_index.proofs.AfterLeaving.{none_served}
use Rattle.cf_index.proofs.PickedFrom.{left_on}
use Rattle.cf_run.proofs.Turning.{come_on, few_after, not-over, picked_free, sweeping-on}
use Rattle.cf_run.proofs.turning_over.take_leave.Goals as goal

pub over-requires : goal.over-requires
over-requires c = (come_on _ _ _ _ c.requires.ready.come c.make_picked.ensures.swept).within

pub returns-clause-from : goal.returns-clause-from
returns-clause-from c = λ goes.
    let pace = c.make_picked.new.pace in
    let plan = c.make_picked.new.core.plan in
    let s = c.make_picked.new.core.state in
    record {
      ready = sweeping-on _ _ _ c.requires.ready c.make_picked.ensures.swept (not-over _ _ _ c.over.ensures (c.is_none.ensures ∙ ap not goes));
      picked = left_on pace.rule (is_held plan pace.count) plan s (few_after _ _ _ c.requires.ready c.make_picked.ensures.swept);
    }

pub returns-clause-serve : goal.returns-clause-serve
returns-clause-serve c =
    let old = c.args.core.now in
    ap (λ (p : Processor). is_allowed p.plan p.state Serve) c.make_picked.ensures.made
    ∙ none_served old.plan old.state (picked_free _ _ _ _ _ Leave c.requires.picked)
