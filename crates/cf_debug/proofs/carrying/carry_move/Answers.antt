use Rattle.std.proofs.Common.{sym}
use Rattle.cf_debug.proofs.Answering.{as-told, carries-move, move-aground, moves-barred, moves-made, moves-spent}
use Rattle.cf_debug.proofs.carrying.carry_move.Goals as goal

pub returns-then-is_spent-clause-carries : goal.returns-then-is_spent-clause-carries
returns-then-is_spent-clause-carries g c = as-told _ _ _ _ _ _ _ c.told.ensures (carries-move _ _ _ _ _ _ _ _ _ _
    (moves-spent _ _ (c.is_spent.ensures.yes c.if-is_spent.true)) c.refuse.ensures)

pub returns-in-Some-clause-carries : goal.returns-in-Some-clause-carries
returns-in-Some-clause-carries g c = as-told _ _ _ _ _ _ _ c.told-in-Some.ensures (carries-move _ _ _ _ _ _ _ _ _ _
    (moves-barred _ _ _ (c.is_spent.ensures.no c.if-is_spent.false) (sym c.in-Some.ensures)) c.refuse_bar.ensures)

pub returns-clause-carries : goal.returns-clause-carries
returns-clause-carries g c = as-told _ _ _ _ _ _ _ c.told-2.ensures (carries-move _ _ _ _ _ _ _ _ _ _
    (moves-made _ _ _ _ (c.is_spent.ensures.no c.if-is_spent.false) c.in-Ok.ensures.makes) c.put_moved.ensures)

pub returns-in_default-make-clause-carries : goal.returns-in_default-make-clause-carries
returns-in_default-make-clause-carries g c = move-aground _ _ _ _ _ _ c.in_default-make.ensures.makes
