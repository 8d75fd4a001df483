use Rattle.std.proofs.Common.{◌≡◌, map}
use Rattle.std.specs.List.{flat_map}
use Rattle.elf_view.specs.Left.{segments_left}
use Rattle.elf_view.specs.Segments.{segments_of}
use Rattle.elf_view.specs.Symbols.{shown_lazy}
use Rattle.asm_listing.specs.Listing.{segment_lines}
use Rattle.cf_io.proofs.Owing.{Owes}
use Rattle.asm_listing.proofs.listing.put_segments.Given as goal

abbrev pub invariant-loop-segment : goal.invariant-loop-segment
invariant-loop-segment g l = record {
  owes : Owes (g.K.Sink.written l.initial.out) (g.K.Sink.written l.out) (flat_map (segment_lines (map shown_lazy l.symbols)) (segments_left l.segment-iterator))
      (flat_map (segment_lines (map shown_lazy l.symbols)) (segments_of l.elf));
  still : g.K.Sink.faults l.out ≡ g.K.Sink.faults l.initial.out;
}
