use Rattle.std.proofs.Common.{◌-◌, ◌%◌, arith}
use Rattle.rv_machine.proofs.Lines.{blank-line}
use Rattle.rv_machine.proofs.flat_lines.blank.Goals as goal

pub returns-clause-blank : goal.returns-clause-blank
returns-clause-blank c = blank-line (c.args.pc - c.args.pc % 1024) (omega arith) (omega (arith, c.ranges.pc.fits))
