-- The words that are seen are those of the state.
use Rattle.std.proofs.Common.{◌∙◌, ap, sym}
use Rattle.std.specs.Prelude.{◌&&◌, not}
use Rattle.cf_semantics.specs.state.Options.{is_some}
use Rattle.cf_core.specs.Masks.{masks_of}
use Rattle.cf_core.specs.Processors.{Processor}
use Rattle.cf_core.proofs.Masked.{masks-seen}
use Rattle.cf_core.proofs.counterflow.Core.masks_if.Goals as goal

pub returns : goal.returns
returns c =
    masks-seen c.self.inside.processor c.processor.inside.stages c.self.inside.marks c.args.goes_on _ _ _ _ _ _ c.self.invariant.1
    (c.requires ∙ ap (λ (p : Processor). not (is_some p.state.ending) && not p.state.failed) (sym c.self.view_is))
    (ap (λ (p : Processor). p.state.cells) c.processor.view_is)
    c.passengers.ensures c.packets.ensures c.met.ensures c.where_on.ensures c.where_on-2.ensures c.where_on-3.ensures
    ∙ ap (λ (p : Processor). masks_of p.plan p.state) c.self.view_is
