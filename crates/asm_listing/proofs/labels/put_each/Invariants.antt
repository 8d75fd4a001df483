use Rattle.std.proofs.Common.{◌≡◌, drop, map}
use Rattle.elf_view.specs.Symbols.{shown_lazy}
use Rattle.asm_listing.specs.Lines.{label_lines}
use Rattle.cf_io.proofs.Owing.{Owes}
use Rattle.asm_listing.proofs.labels.put_each.Given as goal

abbrev pub invariant-loop-symbol : goal.invariant-loop-symbol
invariant-loop-symbol g l = record {
  owes : Owes (g.K.Sink.written l.initial.out) (g.K.Sink.written l.out) (label_lines (map shown_lazy (drop l.symbol-index l.symbols)) l.pc)
      (label_lines (map shown_lazy l.symbols) l.pc);
  still : g.K.Sink.faults l.out ≡ g.K.Sink.faults l.initial.out;
}
