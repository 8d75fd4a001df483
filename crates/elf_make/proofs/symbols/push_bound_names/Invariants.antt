use Rattle.std.proofs.Common.{◌≡◌, ◌++◌, length, map}
use Rattle.rv_asm.specs.Labels.{label_view}
use Rattle.elf_make.specs.Symbols.{bound, terminated_names}
use Rattle.elf_make.proofs.symbols.push_bound_names.Given as goal

abbrev pub invariant-loop-rest : goal.invariant-loop-rest
invariant-loop-rest l =
    l.file.items ++ terminated_names (bound l.binding (map label_view l.rest)) ≡ l.fn.file.items ++ terminated_names (bound l.binding (map label_view l.labels))

abbrev pub decreases-loop-rest : goal.decreases-loop-rest
decreases-loop-rest l = length l.rest
