use Rattle.std.proofs.Common.{rules, tests, refl}
use Rattle.std.specs.Prelude.{nat_lt}
use Rattle.std.proofs.lemmas.Iterator.Consumers.{YieldsList-from_first}
use Rattle.std.proofs.lemmas.Iterator.Search.{all_from_yields_List}
use Rattle.elf_view.specs.Fields.{entries}
use Rattle.elf_view.specs.Headers.{symbol_entry}
use Rattle.elf_view.proofs.sections.names_begin_in.Goals as goal

pub returns : goal.returns
returns c =
    all_from_yields_List (λ e. nat_lt e.name c.args.names.now.size) c.all.new.self _ _ c.all.ensures.ran
    (YieldsList-from_first (λ x. x) (λ s. entries symbol_entry 16 s.file.now s.at s.left) {s = c.args.entries} _ refl) (λ x b q k. search (rules, tests))
