use Rattle.std.proofs.Common.{◌≡◌, find, nat_lt}
use Rattle.cf_layout.proofs.Words.{stages_from}
use Rattle.cf_layout.proofs.stage_set.StageSet.first_above.Given as goal

abbrev pub invariant-loop-stage : goal.invariant-loop-stage
invariant-loop-stage l = find (nat_lt l.other) (stages_from l.self-inside.word l.stage) ≡ find (nat_lt l.other) (stages_from l.self-inside.word 1)
