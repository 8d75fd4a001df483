use Rattle.std.proofs.Common.{◌≡◌, ◌≤◌, ◌+◌, ◌++◌, length, map}
use Rattle.rv_asm.specs.Labels.{label_view}
use Rattle.elf_make.specs.Symbols.{bound, terminated_names, entries_from, are_addresses}
use Rattle.elf_make.proofs.symbols.push_entries.Given as goal

abbrev pub invariant-loop-rest : goal.invariant-loop-rest
invariant-loop-rest l = record {
  entries : l.file.items ++ entries_from l.name (bound l.binding (map label_view l.rest)) ≡ l.fn.file.items
      ++ entries_from l.start (bound l.binding (map label_view l.labels));
  counted : l.name + length (terminated_names (bound l.binding (map label_view l.rest)))
      ≡ l.start + length (terminated_names (bound l.binding (map label_view l.labels)));
  within : l.name + length (terminated_names (map label_view l.rest)) ≤ 4000000;
  addresses : are_addresses (bound l.binding (map label_view l.rest)) ≡ are_addresses (bound l.binding (map label_view l.labels));
}

abbrev pub decreases-loop-rest : goal.decreases-loop-rest
decreases-loop-rest l = length l.rest
