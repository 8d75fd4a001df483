use Rattle.std.proofs.Common.{◌≡◌, ◌++◌, take}
use Rattle.elf_make.specs.Fields.{halves}
use Rattle.elf_make.proofs.fields.push_halves.Given as goal

abbrev pub invariant-loop-number : goal.invariant-loop-number
invariant-loop-number l = l.file.items ≡ l.fn.file.items ++ halves (take l.number-index l.numbers)
