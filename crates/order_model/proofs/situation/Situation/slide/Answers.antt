-- The operation of a cell moves to the next one.
use Rattle.std.proofs.Common.{sym, ◌∙◌}
use Rattle.order_model.proofs.Accessed.{slides}
use Rattle.order_model.proofs.situation.Situation.slide.Goals as goal

pub returns : goal.returns
returns c = slides c.args.layout.now c.args.self.now c.args.mem.now c.args.k c.args.c c.in-Some.op c.set_op.new.self c.set_op-2.new.self
    (sym c.op_at.ensures ∙ c.in-Some.is) c.set_op.ensures c.set_op-2.ensures
