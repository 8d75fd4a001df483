use Rattle.std.proofs.Common.{◌∙◌}
use Rattle.cli_gen.proofs.Loads.{assembly_lacks, drawn_lacks}
use Rattle.cli_gen.proofs.drawn.drawn_machine.Goals as goal

pub returns-in-Err-file_of-clause-lacks : goal.returns-in-Err-file_of-clause-lacks
returns-in-Err-file_of-clause-lacks c =
    drawn_lacks c.args.number _ _ _ c.requires.limit (c.bytes.ensures ∙ c.in-Ok.ensures.text) c.in-Err-file_of.ensures.err

pub returns-clause-lacks : goal.returns-clause-lacks
returns-clause-lacks c =
    assembly_lacks _ _ _ _ _ c.in-Ok-file_of.ensures.ok c.as_slice.ensures.value c.in-Err-open_image.ensures.refused
