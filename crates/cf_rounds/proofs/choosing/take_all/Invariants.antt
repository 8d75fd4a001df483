use Rattle.cf_rounds.proofs.InOrder.{TakenSoFar}
use Rattle.cf_rounds.proofs.choosing.take_all.Given as goal

-- the candidates so far are taken, or share a site with one that is
abbrev pub invariant-loop-place : goal.invariant-loop-place
invariant-loop-place l = TakenSoFar l.core.plan l.c l.set l.place
