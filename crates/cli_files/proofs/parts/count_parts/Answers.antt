use Rattle.std.proofs.Common.{arith}
use Rattle.std.proofs.lemmas.Grind.{common_steps}
use Rattle.cli_files.proofs.Segments.{count-parts}
use Rattle.cli_files.proofs.parts.count_parts.Goals as goal

pub returns : goal.returns
returns c = grind (arith, common_steps, count-parts c.args.elf.now)
