-- The template is that of what is fetched at the address.
use Rattle.std.proofs.Common.{◌∙◌, ap}
use Rattle.mem_regions.specs.Memory.{Memory}
use Rattle.rv_inst.specs.declared.isa.Isa.{Isa}
use Rattle.cf_semantics.specs.moves.Instructions.{fetched}
use Rattle.cf_semantics.specs.state.Layouts.{isa_of}
use Rattle.cf_passengers.specs.Templates.{kept_for}
use Rattle.cf_core.specs.Processors.{Processor}
use Rattle.cf_core.proofs.processor.Processor.issuable_at.Goals as goal

pub issued_by-requires : goal.issued_by-requires
issued_by-requires c =
    let pc = c.args.pc in
    let isa = c.self.inside.isa in
    let mem = c.self.inside.memory in
    let is = c.self.invariant.1.1.0 ∙ ap (λ (p : Processor). isa_of p.plan) c.self.view_is in
    let here = ap (λ (p : Processor). p.state.mem) c.self.view_is in
    let same = ap (λ (set : Isa). fetched set mem pc) is ∙ ap (λ (m : Memory). fetched (isa_of c.args.self.now.plan) m pc) here in
    c.in-Some.ensures.found isa mem c.self.invariant.1.1.1 ∙ ap (kept_for pc) same
