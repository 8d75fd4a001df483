use Rattle.layout_file.proofs.ReadBack.{read_fails}
use Rattle.layout_file.proofs.laws.read_back.Goals as goal

pub returns-clause-memory : goal.returns-clause-memory
returns-clause-memory c = read_fails c.deref.result.now c.args.layout.now c.read_layout.result
    (rw c.deref.ensures.value c.in_ok-file.ensures.read_back) c.read_layout.ensures.refused
