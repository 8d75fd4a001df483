use Rattle.std.proofs.Common.{arith}
use Rattle.std.proofs.lemmas.Bool.Decides.{nat_tests}
use Rattle.cf_index.proofs.FallsInTurn.{quiet-falls}
use Rattle.cf_index.proofs.in_turn.falls_bar_no_launch.Goals as goal

pub returns : goal.returns
returns c = λ none.
    quiet-falls c.args.core.now.plan c.args.core.now.state c.open_masks-masks.result c.below_results.result c.requires c.open_masks-masks.ensures
    c.know_stages.ensures.cells c.below_results.ensures (grind (arith, nat_tests))
