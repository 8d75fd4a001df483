use Rattle.std.proofs.Common.{◌≡◌, ℕ, ◌+◌, ◌<◌, ◌^◌, take}
use Rattle.std.specs.List.{list_any}
use Rattle.cf_layout.specs.Asked.{is_integer}
use Rattle.cf_layout.specs.Words.{has_bit}
use Rattle.cf_layout.proofs.stage_set.StageSet.of.Given as goal

abbrev pub invariant-loop-stage : goal.invariant-loop-stage
invariant-loop-stage l = record {
  small : l.word < 2 ^ 32;
  bits : (i : ℕ) → i < 32 → has_bit l.word i ≡ list_any (is_integer (i + 1)) (take l.stage-index l.stages);
}
