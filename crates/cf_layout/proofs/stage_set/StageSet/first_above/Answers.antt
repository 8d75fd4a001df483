use Rattle.std.proofs.Common.{◌≡◌, ◌-◌, false, nat_lt, arith, ◌∙◌}
use Rattle.std.specs.Prelude.{◌&&◌}
use Rattle.std.proofs.lemmas.Bool.Decides.{nat_tests}
use Rattle.cf_layout.specs.Words.{has_bit}
use Rattle.cf_layout.proofs.Words.{find_on}
use Rattle.cf_layout.proofs.stage_set.StageSet.first_above.Goals.{else-other-stage-via-then-other-stage+else-has_bit, else-other-stage-via-else-other-stage}
use Rattle.cf_layout.proofs.stage_set.StageSet.first_above.Goals as goal

pub loop-stage-preserved : goal.loop-stage-preserved
loop-stage-preserved c =
    let no : (nat_lt c.args.other c.loop-stage.stage && has_bit c.self.inside.word (c.loop-stage.stage - 1)) ≡ false = elim c.else-other-stage.branch [
      | else-other-stage-via-then-other-stage+else-has_bit w ↦ grind (arith, nat_tests)
      | else-other-stage-via-else-other-stage w ↦ grind (arith, nat_tests)
    ] in
    find_on c.self.inside.word c.args.other c.loop-stage.stage (omega arith) (omega arith) no ∙ c.loop-stage.invariant
