use Rattle.std.proofs.Common.{◌≡◌, ◌+◌, ◌*◌, ◌≤◌, ◌++◌, length, take}
use Rattle.std.specs.List.{zip}
use Rattle.run_scripts.specs.Kinds.{names}
use Rattle.cli_time.specs.SiteLines.{counts_text}
use Rattle.cli_time.proofs.site_lines.push_counts.Given as goal

-- the kinds so far are written
abbrev pub invariant-loop-place : goal.invariant-loop-place
invariant-loop-place l = record {
  text : l.page ≡ l.initial.page ++ counts_text (take l.place (zip names l.numbers));
  size : length l.page ≤ length l.initial.page + 29 * l.place;
}
