use Rattle.std.proofs.Common.{◌∙◌, ap}
use Rattle.cf_semantics.specs.state.State.{siding_at}
use Rattle.cf_core.specs.Processors.{Processor}
use Rattle.cf_core.proofs.Berths.{last-indexed}
use Rattle.cf_core.proofs.processor.Processor.last_op.Goals as goal

pub returns : goal.returns
returns c =
    let same = c.siding-cells.ensures ∙ ap (λ (p : Processor). siding_at p.state c.args.k) c.self.view_is in
    rw same (last-indexed (siding_at c.args.self.now.state c.args.k) c.requires.within)
