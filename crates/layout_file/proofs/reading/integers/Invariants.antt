use Rattle.std.proofs.Common.{◌≡◌, ◌++◌, drop}
use Rattle.layout_file.specs.Reading.{integers_of}
use Rattle.toml.specs.View.{items_view}
use Rattle.layout_file.proofs.reading.integers.Given as goal

abbrev pub invariant-loop-value : goal.invariant-loop-value
invariant-loop-value l = l.list.items ++ integers_of (items_view (drop l.value-index l.array)) ≡ integers_of (items_view l.array)
