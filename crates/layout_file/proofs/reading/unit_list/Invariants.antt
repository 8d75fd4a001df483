use Rattle.std.proofs.Common.{◌≡◌, ◌++◌, drop}
use Rattle.layout_file.specs.Reading.{units_among}
use Rattle.toml.specs.View.{table_view}
use Rattle.layout_file.proofs.reading.unit_list.Given as goal

abbrev pub invariant-loop-class : goal.invariant-loop-class
invariant-loop-class l = l.list.items ++ units_among (drop l.class-index l.classes) (table_view l.table) ≡ units_among l.classes (table_view l.table)
