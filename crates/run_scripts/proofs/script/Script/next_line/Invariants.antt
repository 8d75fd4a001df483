use Rattle.std.proofs.Common.{◌≡◌, ◌+◌, ◌≤◌, length}
use Rattle.rv_text.specs.Lines.{text_lines}
use Rattle.run_scripts.specs.Limits.{most_script}
use Rattle.run_scripts.specs.Scripts.{told_from}
use Rattle.run_scripts.proofs.script.Script.next_line.Given as goal

-- what the remaining lines say is what the script says
abbrev pub invariant-loop-self : goal.invariant-loop-self
invariant-loop-self l = record {
  same : told_from l.self-inside.above (text_lines l.self-inside.rest.now) ≡ l.fn.self;
  counted : l.self-inside.above + length l.self-inside.rest.now ≤ most_script;
}

abbrev pub decreases-loop-self : goal.decreases-loop-self
decreases-loop-self l = length l.self-inside.rest.now
