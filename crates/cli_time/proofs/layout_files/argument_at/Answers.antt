use Rattle.cli_time.proofs.LayoutLists.{argument-is}
use Rattle.cli_time.proofs.layout_files.argument_at.Goals as goal

pub returns : goal.returns
returns c =
    argument-is c.args.arguments.now c.args.place c.index-arguments-place.result c.as_str.result.now _ c.requires c.index-arguments-place.is
    c.as_str.ensures.value c.from_argument.ensures
