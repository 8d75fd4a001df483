use Rattle.std.proofs.Common.{◌≡◌, length, map, ◌+◌}
use Rattle.rv_asm.specs.Labels.{label_view}
use Rattle.elf_make.specs.Symbols.{terminated_names}
use Rattle.elf_make.proofs.sizes.terminated_names_len.Given as goal

abbrev pub invariant-loop-rest : goal.invariant-loop-rest
invariant-loop-rest l = l.len + length (terminated_names (map label_view l.rest)) ≡ length (terminated_names (map label_view l.labels))

abbrev pub decreases-loop-rest : goal.decreases-loop-rest
decreases-loop-rest l = length l.rest
