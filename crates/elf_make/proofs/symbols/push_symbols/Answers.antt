use Rattle.std.proofs.Common.{map, replicate}
use Rattle.rv_asm.specs.Labels.{label_view}
use Rattle.elf_make.specs.declared.binding.SymbolBinding.TheVariants.{Local, Global}
use Rattle.elf_make.specs.Symbols.{bound, locals_first, symbol_table}
use Rattle.elf_make.proofs.Entries.{symbols-put}
use Rattle.elf_make.proofs.symbols.push_symbols.Goals as goal

pub returns-clause-table : goal.returns-clause-table
unfolding symbol_table locals_first
returns-clause-table c =
    let labels = map label_view c.args.labels.now in
    symbols-put c.args.file.now.items (replicate 16 0) c.extend_from_slice.new.self.items c.push_entries.new.file.items
    c.push_entries-2.new.file.items c.in_ok-start.start (bound Local labels) (bound Global labels)
    c.in_ok-push_entries.ensures.entries c.in_ok-start.ensures.entries c.in_ok-extend_from_slice.ensures.items c.in_ok-start.ensures.after
