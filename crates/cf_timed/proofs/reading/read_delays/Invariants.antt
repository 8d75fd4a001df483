use Rattle.std.proofs.Common.{◌≡◌, ◌+◌, ◌≤◌, length}
use Rattle.std.specs.Prelude.{All, IfSome}
use Rattle.rv_text.specs.Lines.{text_lines}
use Rattle.cf_timed.specs.Delays.{IsSpan}
use Rattle.cf_timed.specs.DelayLines.{lines_told, unnamed}
use Rattle.cf_timed.specs.Limits.{most_delays}
use Rattle.cf_timed.proofs.reading.read_delays.Given as goal

-- what was given, together with what the lines that are left give, is what the text gives
abbrev pub invariant-loop-rest : goal.invariant-loop-rest
invariant-loop-rest l = (l.above + length l.rest ≤ most_delays) × (lines_told l.above l.named (text_lines l.rest) ≡ lines_told 0 unnamed (text_lines l.text))
    × All (λ span. IfSome span IsSpan) l.named

abbrev pub decreases-loop-rest : goal.decreases-loop-rest
decreases-loop-rest l = length l.rest
