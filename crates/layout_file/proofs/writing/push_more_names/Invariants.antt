use Rattle.std.proofs.Common.{◌≡◌, ◌++◌, drop, map, string_bytes}
use Rattle.layout_file.specs.Text.{array_rest, quoted_name}
use Rattle.layout_file.proofs.writing.push_more_names.Given as goal

abbrev pub invariant-loop-class : goal.invariant-loop-class
invariant-loop-class l = string_bytes l.text ++ array_rest (map quoted_name (drop l.class-index l.classes)) ≡ string_bytes l.initial.text
    ++ array_rest (map quoted_name l.classes)
