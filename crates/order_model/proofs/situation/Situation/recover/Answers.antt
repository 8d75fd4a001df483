-- An instruction that takes its operation back has an answer, or is one that computes.
use Rattle.std.proofs.Common.{sym, ap, ◌∙◌}
use Rattle.cf_layout.specs.Layout.{siding_of}
use Rattle.cf_semantics.specs.moves.Bars.{last_op}
use Rattle.order_model.specs.Situations.{in_memory}
use Rattle.order_model.proofs.Allowed.{recover_computes}
use Rattle.order_model.proofs.situation.Situation.recover.Goals as goal

pub take_back-requires : goal.take_back-requires
take_back-requires c = record {
  computing = recover_computes c.args.away c.args.layout.now (in_memory c.args.self.now c.args.mem.now) c.args.i c.in-Some.cell
      c.in-Some-passenger.passenger c.in-Some-siding_of.k c.in-Some-last_op.op c.stages.ensures.equipped c.requires
      (sym c.cell.ensures ∙ c.in-Some.is) c.in-Some-passenger.is
      (ap (siding_of c.args.layout.now) (sym c.kind.ensures) ∙ (sym c.siding_of.ensures.siding ∙ c.in-Some-siding_of.is))
      (ap last_op (sym c.siding.ensures) ∙ (sym c.last_op.ensures ∙ c.in-Some-last_op.is));
}
