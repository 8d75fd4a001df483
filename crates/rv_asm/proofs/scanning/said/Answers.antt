use Rattle.rv_asm.proofs.Shorter.{cut-shorter}
use Rattle.rv_asm.proofs.scanning.said.Goals as goal

pub returns-clause-within : goal.returns-clause-within
returns-clause-within c = rw c.trim.ensures (cut-shorter c.comment_at.result c.args.line.now)
