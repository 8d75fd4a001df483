-- Fetch goes on where the template says.
use Rattle.std.proofs.Common.{◌∙◌, ap, sym}
use Rattle.cf_semantics.specs.moves.Instructions.{fetched}
use Rattle.cf_semantics.specs.state.Layouts.{isa_of}
use Rattle.cf_semantics.specs.state.Passengers.{goto}
use Rattle.cf_passengers.proofs.FromTemplates.{kept-whole}
use Rattle.cf_core.specs.Processors.{Processor}
use Rattle.cf_core.proofs.moves.KeptTemplates.{template-passenger}
use Rattle.cf_core.proofs.processor.Processor.issue_by.Goals as goal

pub goto-next-requires : goal.goto-next-requires
goto-next-requires c =
    let p : Processor = c.args.self.now in
    kept-whole c.args.pc (fetched (isa_of p.plan) p.state.mem c.args.pc) c.args.template c.requires.template

pub enter-requires-clause-next : goal.enter-requires-clause-next
enter-requires-clause-next c =
    let p : Processor = c.args.self.now in
    let issued = template-passenger p.plan p.state c.args.pc c.args.guess c.args.template c.requires.template in
    c.goto-next.ensures p.state.cache ∙ ap goto (issued ∙ sym c.issued_by-passenger.ensures.passenger)
