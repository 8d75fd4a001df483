use Rattle.std.proofs.Common.{◌≡◌, ◌++◌}
use Rattle.cf_layout.proofs.Words.{stages_from}
use Rattle.cf_layout.proofs.stage_set.StageSet.list.Given as goal

abbrev pub invariant-loop-stage : goal.invariant-loop-stage
invariant-loop-stage l = l.list.items ++ stages_from l.self-inside.word l.stage ≡ stages_from l.self-inside.word 1
