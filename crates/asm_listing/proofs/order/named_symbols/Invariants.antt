use Rattle.std.proofs.Common.{◌≡◌, ◌++◌, map, filter}
use Rattle.elf_view.specs.Left.{lazy_left}
use Rattle.elf_view.specs.Symbols.{has_name, shown_lazy, symbols_of}
use Rattle.asm_listing.proofs.order.named_symbols.Given as goal

abbrev pub invariant-loop-symbol : goal.invariant-loop-symbol
invariant-loop-symbol l = map shown_lazy l.symbols.items ++ filter has_name (lazy_left l.symbol-iterator) ≡ filter has_name (symbols_of l.elf)
