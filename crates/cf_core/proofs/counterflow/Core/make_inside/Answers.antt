-- The move and its marks leave a processor, and its words.
use Rattle.std.proofs.Common.{◌≡◌, None, subst, sym}
use Rattle.cf_semantics.specs.moves.Bars.{bar}
use Rattle.cf_core.specs.Processors.{Processor}
use Rattle.cf_core.proofs.Made.{facts-after}
use Rattle.cf_core.proofs.moves.KeptServe.{unbarred}
use Rattle.cf_core.proofs.counterflow.Core.make_inside.Goals as goal

pub invariant_of-self : goal.invariant_of-self
invariant_of-self c =
    let p = c.self.inside.processor in
    let free = subst (λ (q : Processor). bar q.plan q.state c.args.m ≡ None) (sym c.self.view_is) c.requires.allowed in (
      facts-after p c.make_marked.new.self c.args.m c.self.invariant.0 (unbarred p.plan p.state c.args.m free) c.make_marked.ensures.processor,
      c.make_marked.ensures.marks,
    )
