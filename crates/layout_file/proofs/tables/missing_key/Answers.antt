use Rattle.toml.specs.View.{table_view}
use Rattle.layout_file.proofs.Views.{missing_seen}
use Rattle.layout_file.proofs.tables.missing_key.Goals as goal

pub returns : goal.returns
returns c = rw (c.first_missing.ensures, ← c.needed_keys.ensures) (missing_seen c.needed_keys.result.now (table_view c.args.table.now))
