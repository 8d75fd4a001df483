use Rattle.rv_machine.specs.Lines.{line_at, cover}
use Rattle.rv_machine.proofs.Keeping.{cache-same-code}
use Rattle.rv_machine.proofs.Lines.{line-of, lines-same}
use Rattle.rv_machine.proofs.machine.Machine.run_block.Goals as goal

pub run_line-to-requires-clause-line : goal.run_line-to-requires-clause-line
run_line-to-requires-clause-line c =
    rw c.line-line.ensures.line
    (line-of c.self.inside.mem c.prepare.new.self.lines (line_at c.self.inside.pc) c.line-line.ensures.below c.prepare.ensures.lines)

pub invariant_of-self : goal.invariant_of-self
invariant_of-self c = (
  c.run_line-to.ensures.zero,
  cache-same-code c.self.inside.mem c.run_line-to.new.mem c.self.inside.cache.places c.run_line-to.ensures.code c.self.invariant.1,
  lines-same c.self.inside.mem c.run_line-to.new.mem c.prepare.new.self.lines c.run_line-to.ensures.code c.prepare.ensures.lines,
)

pub run_line-to-requires-clause-covers : goal.run_line-to-requires-clause-covers
unfolding cover
run_line-to-requires-clause-covers c = rw c.line-line.ensures.line c.prepare.ensures.covers
