use Rattle.std.proofs.Common.{◌≡◌, ◌<◌, ◌^◌, ◌%◌, length, map}
use Rattle.elf_view.specs.Symbols.{shown_lazy}
use Rattle.asm_listing.specs.Lines.{listed_from}
use Rattle.cf_io.proofs.Owing.{Owes}
use Rattle.asm_listing.proofs.words.put_aligned.Given as goal

abbrev pub invariant-loop-word : goal.invariant-loop-word
invariant-loop-word g l = record {
  owes : Owes (g.K.Sink.written l.initial.out) (g.K.Sink.written l.out) (listed_from (map shown_lazy l.symbols) l.pc l.rest)
      (listed_from (map shown_lazy l.symbols) l.start l.bytes);
  aligned : l.pc % 4 ≡ 0;
  below : l.pc < 2 ^ 32;
  still : g.K.Sink.faults l.out ≡ g.K.Sink.faults l.initial.out;
}

abbrev pub decreases-loop-word : goal.decreases-loop-word
decreases-loop-word g l = length l.rest
