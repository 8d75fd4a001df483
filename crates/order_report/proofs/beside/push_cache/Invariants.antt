use Rattle.std.proofs.Common.{◌≡◌, ◌+◌, ◌*◌, ◌≤◌, ◌++◌, length}
use Rattle.cf_report.specs.Picture.{kept_below}
use Rattle.order_report.proofs.beside.push_cache.Given as goal

-- the registers so far are written
abbrev pub invariant-loop-register : goal.invariant-loop-register
invariant-loop-register l = record {
  text : l.page ≡ l.initial.page ++ kept_below l.register l.cache;
  size : length l.page ≤ length l.initial.page + 13 * l.register;
}
