use Rattle.std.proofs.Common.{◌≡◌, ◌≤◌, ◌+◌, length}
use Rattle.rv_text.specs.Lines.{text_lines}
use Rattle.rv_asm.specs.Assembling.{are_ascii}
use Rattle.rv_asm.proofs.assembling.check_ascii.Given as goal

abbrev pub invariant-loop-rest : goal.invariant-loop-rest
invariant-loop-rest l = record {
  same : are_ascii l.above (text_lines l.rest) ≡ are_ascii 0 (text_lines l.source);
  counted : l.above + length l.rest ≤ length l.source;
}

abbrev pub decreases-loop-rest : goal.decreases-loop-rest
decreases-loop-rest l = length l.rest
