use Rattle.std.proofs.Common.{◌≡◌}
use Rattle.layout_file.specs.Tables.{first_misfit_key}
use Rattle.toml.specs.View.{members_view}
use Rattle.layout_file.proofs.tables.misfit_key.Given as goal

abbrev pub invariant-loop-key : goal.invariant-loop-key
invariant-loop-key l = first_misfit_key l.kind (members_view l.key-iterator) ≡ first_misfit_key l.kind (members_view l.table.entries)
