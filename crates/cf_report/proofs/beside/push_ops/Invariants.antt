use Rattle.std.proofs.Common.{◌≡◌, ◌+◌, ◌*◌, ◌≤◌, ◌++◌, drop, length}
use Rattle.cf_report.specs.Picture.{ops_text}
use Rattle.cf_report.proofs.beside.push_ops.Given as goal

-- what is written and the cells that are left make the whole text
abbrev pub invariant-loop-cell : goal.invariant-loop-cell
invariant-loop-cell l = record {
  text : l.page ++ ops_text (drop l.cell-index l.ops) ≡ l.initial.page ++ ops_text l.ops;
  size : length l.page ≤ length l.initial.page + 10 * l.cell-index;
}
