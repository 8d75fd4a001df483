use Rattle.cf_debug.proofs.Answering.{as-told, auto-made, auto-spent, auto-stopped}
use Rattle.cf_debug.proofs.carrying.carry_auto.Goals as goal

pub returns-then-is_spent-clause-carries : goal.returns-then-is_spent-clause-carries
returns-then-is_spent-clause-carries g c = as-told _ _ _ _ _ _ _ c.told.ensures (auto-spent _ _ _ _ _ _ _ _
    (c.is_spent.ensures.yes c.if-is_spent.true) c.refuse.ensures)

pub returns-clause-carries : goal.returns-clause-carries
returns-clause-carries g c = as-told _ _ _ _ _ _ _ c.told-2.ensures (auto-made _ _ _ _ _ _ _ _ _ _ _ _
    (c.is_spent.ensures.no c.if-is_spent.false) c.in_ok-made.ensures.drives c.from.ensures c.put_counted.ensures)

pub returns-in_err-made-clause-carries : goal.returns-in_err-made-clause-carries
returns-in_err-made-clause-carries g c = auto-stopped _ _ _ _ _ _ _ _ c.from_residual.ensures.1 c.in_err-made.ensures.drives
