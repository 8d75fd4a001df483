use Rattle.rv_machine.specs.Lines.{line_at}
use Rattle.rv_machine.proofs.Lines.{line-begun, line-of}
use Rattle.rv_machine.proofs.flat_lines.FlatLines.learn.Goals as goal

pub learned-requires-clause-line : goal.learned-requires-clause-line
learned-requires-clause-line c =
    line-begun c.args.mem.now c.begun-line.result c.line.result.now
    (rw c.line.ensures.line (line-of c.args.mem.now c.args.self.now.lines (line_at c.args.pc) c.line.ensures.below c.requires.lines))
    c.begun-line.ensures.kept
