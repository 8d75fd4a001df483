-- What is fetched is an instruction of the set, or a trap.
use Rattle.std.proofs.Common.{◌∙◌, ap, subst}
use Rattle.cf_semantics.specs.state.Layouts.{isa_of}
use Rattle.cf_passengers.specs.Facts.{IsPassenger}
use Rattle.cf_core.specs.Processors.{Processor}
use Rattle.cf_core.proofs.moves.KeptTemplates.{fetched-instruction}
use Rattle.cf_core.proofs.processor.Processor.issued_at.Goals as goal

pub returns-clause-facts : goal.returns-clause-facts
returns-clause-facts c =
    let isa = c.self.inside.isa in
    let is = c.self.invariant.1.1.0 ∙ ap (λ (p : Processor). isa_of p.plan) c.self.view_is in
    let found = fetched-instruction isa c.self.inside.memory c.args.pc _ c.fetched-fetched.ensures in
    subst (λ set. IsPassenger set c.issue.new.p) is (c.issue.ensures.facts isa found)
