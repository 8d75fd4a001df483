-- The parts of a new processor are empty, and its words are 0.
use Rattle.std.proofs.Common.{ap, ◌∙◌, ℕ}
use Rattle.std.specs.Prelude.{replicate}
use Rattle.cf_ends.specs.Ends.{PipeEnds}
use Rattle.cf_semantics.specs.runs.Runs.{empty_cell}
use Rattle.cf_core.proofs.Opened.{opened-is, opened-marks}
use Rattle.cf_core.proofs.counterflow.Core.new.Goals as goal

pub invariant_of-result-2 : goal.invariant_of-result-2
invariant_of-result-2 c =
    let stages = c.in_ok-stages.ensures ∙ ap (λ (n : ℕ). replicate n empty_cell) c.stages.ensures.stages in (
      opened-is c.args.layout _ c.stages.ensures.accepted stages c.in_ok-sidings.ensures (ap (λ (e : PipeEnds). e.lane) c.in_ok-ends.ensures.ends),
      c.none.ensures ∙ opened-marks c.args.layout _ stages,
    )
