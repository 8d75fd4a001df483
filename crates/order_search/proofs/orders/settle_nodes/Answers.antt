use Rattle.order_search.proofs.Sweeping.{swept_on}
use Rattle.order_search.proofs.orders.settle_nodes.Goals as goal

pub returns-clause-swept : goal.returns-clause-swept
returns-clause-swept c = swept_on c.args.rows.now c.args.counts.now c.settle_along_paths.new.counts c.settle_in_turns.new.counts
    c.settle_along_paths.ensures.swept c.settle_in_turns.ensures.swept
