use Rattle.std.proofs.Common.{List, ap, map, ◌∙◌}
use Rattle.std.proofs.lemmas.List.{drop_more}
use Rattle.elf_view.specs.Symbols.{shown_lazy}
use Rattle.elf_view.specs.declared.symbols.LazySymbol.{LazySymbol}
use Rattle.asm_listing.specs.Lines.{label_lines}
use Rattle.cf_io.proofs.Owing.{err-owes, owes-next}
use Rattle.asm_listing.proofs.labels.put_each.Goals as goal

pub returns-in_err-put_label-clause-err : goal.returns-in_err-put_label-clause-err
returns-in_err-put_label-clause-err g c =
    err-owes _ _ _ _ _ _ _ _ _ _ c.in_err-put_label.was c.loop-symbol.invariant.owes
    (ap (λ (symbols : List LazySymbol). label_lines (map shown_lazy symbols) c.args.pc)
    (drop_more c.args.symbols.now c.loop-symbol.symbol-index _ c.loop-symbol-test.true))
    c.put_label.ensures.err

pub loop-symbol-preserved : goal.loop-symbol-preserved
loop-symbol-preserved g c = record {
  owes = owes-next _ _ _ _ _ _ _ c.loop-symbol.invariant.owes
      (ap (λ (symbols : List LazySymbol). label_lines (map shown_lazy symbols) c.args.pc)
      (drop_more c.args.symbols.now c.loop-symbol.symbol-index _ c.loop-symbol-test.true))
      c.in_ok-put_label.ensures.ok;
  still = c.in_ok-put_label.ensures.cause.still ∙ c.loop-symbol.invariant.still;
}
