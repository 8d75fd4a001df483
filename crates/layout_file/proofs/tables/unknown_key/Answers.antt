use Rattle.layout_file.proofs.Views.{unknown_of}
use Rattle.layout_file.proofs.tables.unknown_key.Goals as goal

pub returns : goal.returns
returns c = unknown_of c.args.kind c.unknown_name.result c.args.table.now.entries c.unknown_name.ensures
