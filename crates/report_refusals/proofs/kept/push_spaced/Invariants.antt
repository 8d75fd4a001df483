use Rattle.std.proofs.Common.{◌≡◌, ◌≤◌, ◌+◌, ◌*◌, ◌++◌, drop, length, map}
use Rattle.report_refusals.specs.Variants.{spaced}
use Rattle.report_refusals.specs.Kept.{kept_text}
use Rattle.report_refusals.proofs.kept.push_spaced.Given as goal

-- what is written and the values that are left make the whole text
abbrev pub invariant-loop-value : goal.invariant-loop-value
invariant-loop-value l = record {
  text : l.page ++ spaced (map kept_text (drop l.value-index l.kept)) ≡ l.initial.page ++ spaced (map kept_text l.kept);
  size : length l.page ≤ length l.initial.page + 21 * l.value-index;
}
