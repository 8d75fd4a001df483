use Rattle.std.proofs.Common.{◌∙◌, sym}
use Rattle.cf_index.proofs.PickedFrom.{picked_on, top_leaves, top_rests}
use Rattle.cf_run.proofs.Turning.{no_turns, picked_here}
use Rattle.cf_run.proofs.turning_over.pass_leave.Goals as goal

pub take_leave-requires-clause-picked : goal.take_leave-requires-clause-picked
take_leave-requires-clause-picked c =
    picked_here _ _ _ _ _ _ _ c.requires.from.picked (top_leaves _ _ (sym c.requires.top ∙ c.in-Leaves.is))

pub returns-in-Serves : goal.returns-in-Serves
returns-in-Serves c =
    let rests = top_rests c.args.core.now.plan c.args.core.now.state c.args.top c.requires.top c.in-Serves.is in
    record {
      swept = no_turns _ _ _;
      from = λ goes. record { ready = c.requires.from.ready; picked = picked_on _ _ _ _ _ _ _ rests.0 c.requires.from.picked };
      serve = rests.1;
    }
