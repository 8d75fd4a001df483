use Rattle.std.proofs.Common.{◌≤◌, length}
use Rattle.elf_view.proofs.Lists.{all_left}
use Rattle.elf_view.proofs.symbols.LazySymbolsIterator.next.Goals as goal

pub invariant_of-self : goal.invariant_of-self
invariant_of-self c = record { named = all_left (λ e. e.name ≤ length c.args.self.now.names.now) c.next.result _ _ c.next.ensures.steps c.args.self.now.named }
