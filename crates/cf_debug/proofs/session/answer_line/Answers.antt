use Rattle.std.proofs.Common.{refl, sym, ap, ◌∙◌}
use Rattle.std.specs.Prelude.{Ok}
use Rattle.cf_debug.specs.Sessions.{LineLeaves}
use Rattle.cf_debug.proofs.Answering.{ends-refusal, ends-told}
use Rattle.cf_debug.proofs.Ranges.{few-told}
use Rattle.cf_debug.proofs.session.answer_line.Goals as goal

pub returns-then-is_end-clause-ends : goal.returns-then-is_end-clause-ends
unfolding LineLeaves
returns-then-is_end-clause-ends g c = (sym c.read_command.ensures ∙ c.in-Ok.is ∙ ap Ok (c.is_end.ensures.yes c.if-is_end.true), refl, refl)

pub carry_out-requires-clause-few : goal.carry_out-requires-clause-few
carry_out-requires-clause-few g c = few-told _ _ (sym c.read_command.ensures ∙ c.in-Ok.is)

pub returns-else-is_end-clause-ends : goal.returns-else-is_end-clause-ends
returns-else-is_end-clause-ends g c = ends-told _ _ _ _ _ _ _ _ c.ended.ensures (sym c.read_command.ensures ∙ c.in-Ok.is)
    (c.is_end.ensures.no c.if-is_end.false) c.carry_out.ensures.carries

pub returns-in-Err-clause-ends : goal.returns-in-Err-clause-ends
returns-in-Err-clause-ends g c = ends-refusal _ _ _ _ _ _ _ _ _ _ c.ended-in-Err.ensures c.told.ensures (sym c.read_command.ensures
    ∙ c.in-Err.is) c.refuse_line.ensures
