use Rattle.std.proofs.Common.{◌≡◌, ◌++◌, drop}
use Rattle.layout_file.specs.Reading.{sidings_in, sidings_fault}
use Rattle.toml.specs.View.{items_view}
use Rattle.layout_file.proofs.reading.siding_list.Given as goal

abbrev pub invariant-loop-value : goal.invariant-loop-value
invariant-loop-value l = record {
  made : l.list.items ++ sidings_in l.format (items_view (drop l.value-index l.array)) ≡ sidings_in l.format (items_view l.array);
  right : sidings_fault l.format (items_view (drop l.value-index l.array)) ≡ sidings_fault l.format (items_view l.array);
}
