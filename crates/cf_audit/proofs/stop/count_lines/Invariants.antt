use Rattle.std.proofs.Common.{◌≡◌, ◌≤◌, take}
use Rattle.std.specs.Prelude.{count_by}
use Rattle.rv_text.specs.Lines.{is_line_feed}
use Rattle.cf_audit.proofs.stop.count_lines.Given as goal

-- the line feeds so far are counted
abbrev pub invariant-loop-byte : goal.invariant-loop-byte
invariant-loop-byte l = record {
  count : l.count ≡ count_by is_line_feed (take l.byte-index l.text);
  within : l.count ≤ l.byte-index;
}
