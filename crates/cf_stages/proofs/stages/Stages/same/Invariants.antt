use Rattle.cf_stages.proofs.Sameness.{AreSame}
use Rattle.cf_stages.proofs.stages.Stages.same.Given as goal

-- the stages below are the same in both
abbrev pub invariant-loop-below : goal.invariant-loop-below
invariant-loop-below l = AreSame l.self l.other l.below
