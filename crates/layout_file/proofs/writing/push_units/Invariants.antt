use Rattle.std.proofs.Common.{◌≡◌, ◌++◌, drop, string_bytes}
use Rattle.layout_file.specs.Text.{unit_lines}
use Rattle.layout_file.proofs.writing.push_units.Given as goal

abbrev pub invariant-loop-class : goal.invariant-loop-class
invariant-loop-class l = string_bytes l.text ++ unit_lines l.layout (drop l.class-index l.classes) ≡ string_bytes l.initial.text
    ++ unit_lines l.layout l.classes
