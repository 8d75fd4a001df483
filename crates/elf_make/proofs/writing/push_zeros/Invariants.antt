use Rattle.std.proofs.Common.{◌≡◌, ◌++◌, replicate}
use Rattle.elf_make.proofs.writing.push_zeros.Given as goal

abbrev pub invariant-loop : goal.invariant-loop
invariant-loop l = l.file.items ≡ l.fn.file.items ++ replicate l.counter 0
