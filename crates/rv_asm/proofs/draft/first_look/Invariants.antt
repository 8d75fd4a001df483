use Rattle.std.proofs.Common.{◌≡◌, ◌≤◌, ◌+◌, [], length}
use Rattle.rv_text.specs.Lines.{text_lines}
use Rattle.rv_asm.specs.Places.{IsPlaceInLimits, start_of_text}
use Rattle.rv_asm.specs.Assembling.{draft_from}
use Rattle.rv_asm.proofs.draft.first_look.Given as goal

abbrev pub invariant-loop-rest : goal.invariant-loop-rest
invariant-loop-rest l = record {
  same : draft_from l.above l.draft (text_lines l.rest)
      ≡ draft_from 0 (record { place = start_of_text; labels = [] }) (text_lines l.source);
  place : IsPlaceInLimits l.draft.place;
  counted : l.above + length l.rest ≤ length l.source;
}

abbrev pub decreases-loop-rest : goal.decreases-loop-rest
decreases-loop-rest l = length l.rest
