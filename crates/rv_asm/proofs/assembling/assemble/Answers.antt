use Rattle.std.proofs.Common.{arith}
use Rattle.rv_asm.proofs.Few.{small-result}
use Rattle.rv_asm.proofs.assembling.assemble.Goals as goal

pub returns-clause-small : goal.returns-clause-small
returns-clause-small c = small-result c.args.source.now c.assemble_lines.result (omega arith) c.assemble_lines.ensures.ok
