use Rattle.std.proofs.Common.{◌≡◌, ◌++◌, take}
use Rattle.elf_make.specs.Fields.{words}
use Rattle.elf_make.proofs.fields.push_words.Given as goal

abbrev pub invariant-loop-number : goal.invariant-loop-number
invariant-loop-number l = l.file.items ≡ l.fn.file.items ++ words (take l.number-index l.numbers)
