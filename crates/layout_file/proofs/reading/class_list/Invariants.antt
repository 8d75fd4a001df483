use Rattle.std.proofs.Common.{◌≡◌, ◌++◌, drop}
use Rattle.layout_file.specs.Reading.{classes_of, first_nameless}
use Rattle.toml.specs.View.{items_view}
use Rattle.layout_file.proofs.reading.class_list.Given as goal

abbrev pub invariant-loop-value : goal.invariant-loop-value
invariant-loop-value l = record {
  made : l.list.items ++ classes_of l.format (items_view (drop l.value-index l.array)) ≡ classes_of l.format (items_view l.array);
  named : first_nameless l.format (items_view (drop l.value-index l.array)) ≡ first_nameless l.format (items_view l.array);
}
