-- What is issued by the template of an address is what is fetched there.
use Rattle.std.proofs.Common.{◌∙◌, ap, sym, subst}
use Rattle.cf_semantics.specs.moves.Instructions.{fetched}
use Rattle.cf_semantics.specs.state.Layouts.{isa_of}
use Rattle.cf_semantics.specs.state.Passengers.{fresh_undone}
use Rattle.cf_passengers.specs.Facts.{IsPassenger}
use Rattle.cf_passengers.proofs.FromTemplates.{kept-whole}
use Rattle.cf_core.specs.Processors.{Processor}
use Rattle.cf_core.proofs.moves.KeptTemplates.{template-facts, template-instruction, template-passenger}
use Rattle.cf_core.proofs.processor.Processor.issued_by.Goals as goal

pub passenger-requires-clause-template : goal.passenger-requires-clause-template
passenger-requires-clause-template c =
    let p : Processor = c.args.self.now in
    kept-whole c.args.pc (fetched (isa_of p.plan) p.state.mem c.args.pc) c.args.template c.requires

pub passenger-requires-clause-fits : goal.passenger-requires-clause-fits
passenger-requires-clause-fits c =
    let p : Processor = c.args.self.now in
    (template-instruction (isa_of p.plan) p.state.mem c.args.pc c.args.template c.requires).fits

pub returns-clause-passenger : goal.returns-clause-passenger
returns-clause-passenger c =
    let p : Processor = c.args.self.now in
    c.passenger.ensures ∙ ap (λ (q : Processor). fresh_undone q.state.cache c.args.template.instr c.args.pc c.args.guess) c.self.view_is
    ∙ template-passenger p.plan p.state c.args.pc c.args.guess c.args.template c.requires

pub returns-clause-facts : goal.returns-clause-facts
returns-clause-facts c =
    let p : Processor = c.args.self.now in
    let is = c.passenger.ensures ∙ ap (λ (q : Processor). fresh_undone q.state.cache c.args.template.instr c.args.pc c.args.guess) c.self.view_is
    ∙ template-passenger p.plan p.state c.args.pc c.args.guess c.args.template c.requires in
    subst (IsPassenger (isa_of p.plan)) (sym is) (template-facts p.plan p.state c.args.pc c.args.guess c.args.template c.requires)
