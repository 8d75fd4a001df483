use Rattle.std.proofs.Common.{◌≡◌, ◌++◌, drop, string_bytes}
use Rattle.layout_file.specs.Text.{siding_texts}
use Rattle.layout_file.proofs.writing.push_sidings.Given as goal

abbrev pub invariant-loop-siding : goal.invariant-loop-siding
invariant-loop-siding l = string_bytes l.text ++ siding_texts (drop l.siding l.layout.sidings) ≡ string_bytes l.initial.text ++ siding_texts l.layout.sidings
