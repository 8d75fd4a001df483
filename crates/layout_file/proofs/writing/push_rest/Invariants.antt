use Rattle.std.proofs.Common.{◌≡◌, ◌++◌, drop, map, string_bytes}
use Rattle.std.specs.Prelude.{decimal}
use Rattle.layout_file.specs.Text.{array_rest}
use Rattle.layout_file.proofs.writing.push_rest.Given as goal

abbrev pub invariant-loop-number : goal.invariant-loop-number
invariant-loop-number l = string_bytes l.text ++ array_rest (map decimal (drop l.number-index l.numbers)) ≡ string_bytes l.initial.text
    ++ array_rest (map decimal l.numbers)
