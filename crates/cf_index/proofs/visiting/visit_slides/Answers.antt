use Rattle.std.proofs.Common.{refl, arith}
use Rattle.cf_index.proofs.EmptySidings.{no_slides}
use Rattle.cf_index.proofs.visiting.visit_slides.Goals as goal

-- none is shown where the sidings are empty
pub returns-then-are_empty-clause-shown : goal.returns-then-are_empty-clause-shown
returns-then-are_empty-clause-shown g c = rw (no_slides c.args.core.now.plan c.args.core.now.state (c.are_empty.ensures.each c.if-are_empty.true)) refl

pub returns-then-are_empty-clause-few : goal.returns-then-are_empty-clause-few
returns-then-are_empty-clause-few g c =
    rw (no_slides c.args.core.now.plan c.args.core.now.state (c.are_empty.ensures.each c.if-are_empty.true)) (omega arith)
