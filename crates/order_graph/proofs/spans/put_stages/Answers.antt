-- The stages are those of the list again.
use Rattle.order_graph.proofs.Within.{put_again}
use Rattle.order_graph.proofs.spans.put_stages.Goals as goal

pub returns : goal.returns
returns c = put_again c.args.cells.now c.args.from.now c.copy_from_slice.new.self c.args.span.low c.args.span.high c.requires.order c.requires.inside
    c.requires.lower c.requires.upper c.copy_from_slice.ensures.after
