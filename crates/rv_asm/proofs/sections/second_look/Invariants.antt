use Rattle.std.proofs.Common.{◌≤◌, ◌+◌, length}
use Rattle.rv_text.specs.Lines.{text_lines}
use Rattle.rv_asm.specs.Places.{IsPlaceInLimits}
use Rattle.rv_asm.specs.Assembling.{empty_sections, sections_from}
use Rattle.rv_asm.proofs.Filled.{IsReached}
use Rattle.rv_asm.proofs.sections.second_look.Given as goal

abbrev pub invariant-loop-rest : goal.invariant-loop-rest
invariant-loop-rest l = record {
  reached : IsReached l.above l.out (text_lines l.rest) (sections_from 0 (empty_sections l.fn.labels) (text_lines l.source));
  place : IsPlaceInLimits l.out.place;
  counted : l.above + length l.rest ≤ length l.source;
}

abbrev pub decreases-loop-rest : goal.decreases-loop-rest
decreases-loop-rest l = length l.rest
