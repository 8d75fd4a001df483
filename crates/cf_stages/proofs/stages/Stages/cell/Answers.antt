-- What was read of a stage has met only if both are there.
use Rattle.std.proofs.Common.{◌∙◌, All, List, ap, subst}
use Rattle.cf_bind.specs.declared.cell.Cell.{Cell}
use Rattle.cf_stages.specs.Changes.{IsCell, has_met_at}
use Rattle.cf_stages.proofs.Entries.{is-cell, met-bit, seen-within}
use Rattle.cf_stages.proofs.stages.Stages.cell.Goals as goal

pub returns-clause-met : goal.returns-clause-met
returns-clause-met c =
    is-cell c.args.self.now c.args.i _ _ _ (subst (λ (cells : List Cell). All IsCell cells) c.self.view_is c.self.invariant.cells) c.requires.above
    c.requires.within (c.copied.ensures ∙ c.passenger.ensures) c.packet.ensures
    (c.has_bit.ensures ∙ met-bit _ _ _ _ _ c.args.i c.self.invariant c.requires.above (seen-within _ _ c.args.i c.self.view_is c.requires.within)
    ∙ ap (λ (cells : List Cell). has_met_at cells c.args.i) c.self.view_is)
