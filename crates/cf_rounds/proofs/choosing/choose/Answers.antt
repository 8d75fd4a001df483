use Rattle.std.proofs.Common.{sym, subst, ◌∙◌}
use Rattle.cf_rounds.specs.Rounds.{IsFull}
use Rattle.cf_rounds.proofs.Chosen.{round_full}
use Rattle.cf_rounds.proofs.InOrder.{chose_alone, chose_round, chose_taken, round_some}
use Rattle.cf_rounds.proofs.choosing.choose.Goals as goal

pub returns-in-Some-clause-round : goal.returns-in-Some-clause-round
returns-in-Some-clause-round c = chose_alone _ _ _ _ _ (sym c.in-Some.is ∙ c.alone.ensures) (rw c.clear.ensures at c.push.ensures)

pub returns-in-Some-clause-is_round : goal.returns-in-Some-clause-is_round
returns-in-Some-clause-is_round c = chose_round _ _ _ _ c.requires.candidates (returns-in-Some-clause-round c)

pub returns-in-Some-clause-full : goal.returns-in-Some-clause-full
returns-in-Some-clause-full c = subst (IsFull c.args.core.now.plan c.args.core.now.state c.args.c.now) (sym (returns-in-Some-clause-round c))
    (round_full c.args.core.now.plan c.args.core.now.state c.args.c.now c.requires.candidates)

pub returns-in-None-clause-round : goal.returns-in-None-clause-round
returns-in-None-clause-round c = chose_taken _ _ _ _ (sym c.in-None.is ∙ c.alone.ensures) c.take_all.ensures

pub returns-in-None-clause-is_round : goal.returns-in-None-clause-is_round
returns-in-None-clause-is_round c = chose_round _ _ _ _ c.requires.candidates (returns-in-None-clause-round c)

pub returns-in-None-clause-full : goal.returns-in-None-clause-full
returns-in-None-clause-full c = subst (IsFull c.args.core.now.plan c.args.core.now.state c.args.c.now) (sym (returns-in-None-clause-round c))
    (round_full c.args.core.now.plan c.args.core.now.state c.args.c.now c.requires.candidates)

pub returns-in-None-clause-some : goal.returns-in-None-clause-some
returns-in-None-clause-some c = round_some _ _ _ _ c.requires.some (returns-in-None-clause-round c)
