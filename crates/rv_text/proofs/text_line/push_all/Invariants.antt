use Rattle.std.proofs.Common.{◌≡◌, ◌++◌, take}
use Rattle.rv_text.proofs.text_line.push_all.Given as goal

abbrev pub invariant-loop-byte : goal.invariant-loop-byte
invariant-loop-byte l = l.letters.items ≡ l.initial.letters.items ++ take l.byte-index l.text
