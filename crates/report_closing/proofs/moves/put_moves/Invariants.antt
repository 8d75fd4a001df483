use Rattle.std.proofs.Common.{take}
use Rattle.std.specs.List.{flat_map}
use Rattle.cf_report.proofs.Puttings.{HasPut}
use Rattle.report_closing.specs.Parts.{part_moves, move_lines}
use Rattle.report_closing.specs.declared.parts.TheConstants.{PARTS}
use Rattle.report_closing.proofs.moves.put_moves.Given as goal

-- the lines of the parts so far are written
abbrev pub invariant-loop-part : goal.invariant-loop-part
invariant-loop-part g l =
    HasPut (g.R.Sink.written l.initial.report) (g.R.Sink.written l.report) (g.R.Sink.faults l.initial.report)
    (g.R.Sink.faults l.report)
    (move_lines l.core.plan l.core.state (flat_map (part_moves l.core.plan) (take l.part-index PARTS)))
