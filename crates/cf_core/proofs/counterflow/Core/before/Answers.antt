use Rattle.std.proofs.Common.{◌≡◌, None, sym, subst}
use Rattle.cf_semantics.specs.moves.Bars.{bar}
use Rattle.cf_core.specs.Processors.{Processor}
use Rattle.cf_core.proofs.moves.KeptServe.{unbarred}
use Rattle.cf_core.proofs.counterflow.Core.before.Goals as goal

pub undo_of-requires-clause-allowed : goal.undo_of-requires-clause-allowed
undo_of-requires-clause-allowed c =
    unbarred c.self.inside.processor.plan c.self.inside.processor.state c.args.m (subst (λ (p : Processor). bar p.plan p.state c.args.m ≡ None)
    (sym c.self.view_is) c.requires.allowed)
