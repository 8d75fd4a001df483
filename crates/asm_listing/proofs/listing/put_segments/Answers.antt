use Rattle.std.proofs.Common.{List, ap, map, ◌∙◌}
use Rattle.std.specs.List.{flat_map}
use Rattle.elf_view.specs.Segments.{LoadSegment}
use Rattle.elf_view.specs.Symbols.{shown_lazy}
use Rattle.asm_listing.specs.Listing.{segment_lines}
use Rattle.cf_io.proofs.Owing.{err-owes, owes-next}
use Rattle.asm_listing.proofs.listing.put_segments.Goals as goal

pub returns-in_err-put_segment-clause-err : goal.returns-in_err-put_segment-clause-err
returns-in_err-put_segment-clause-err g c =
    err-owes _ _ _ _ _ _ _ _ _ _ c.in_err-put_segment.was c.loop-segment.invariant.owes
    (ap (λ (segments : List LoadSegment). flat_map (segment_lines (map shown_lazy c.args.symbols.now)) segments) c.in-Some.ensures.steps)
    c.put_segment.ensures.err

pub loop-segment-preserved : goal.loop-segment-preserved
loop-segment-preserved g c = record {
  owes = owes-next _ _ _ _ _ _ _ c.loop-segment.invariant.owes
      (ap (λ (segments : List LoadSegment). flat_map (segment_lines (map shown_lazy c.args.symbols.now)) segments) c.in-Some.ensures.steps)
      c.in_ok-put_segment.ensures.ok;
  still = c.in_ok-put_segment.ensures.cause.still ∙ c.loop-segment.invariant.still;
}
