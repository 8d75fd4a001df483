-- The cells that the move writes are those of its instruction's siding, of a slide, or of the port.
use Rattle.std.proofs.Common.{◌≡◌, ◌∙◌, None, subst, sym, arith}
use Rattle.cf_bind.specs.declared.moves.Move.{Move}
use Rattle.cf_semantics.specs.moves.Bars.{row_bar}
use Rattle.cf_core.specs.Processors.{Processor}
use Rattle.cf_core.proofs.OldOps.{slide-cells, slide-few, there-cells, there-number}
use Rattle.cf_core.proofs.Ported.{port-cells}
use Rattle.cf_core.proofs.Sites.{launch-high, launch-low, port-number, recover-high, recover-low, slide-number}
use Rattle.cf_core.proofs.processor.Processor.old_ops.Goals as goal

-- the move is the one of the arm, and nothing in its row bars it
free_here : (p : Processor) (m arm : Move) → m ≡ arm → row_bar p.plan p.state m ≡ None → row_bar p.plan p.state arm ≡ None
free_here p m arm is free = subst (λ (other : Move). row_bar p.plan p.state other ≡ None) is free

pub siding_there-requires-clause-above : goal.siding_there-requires-clause-above
siding_there-requires-clause-above c = launch-low _ _ c.in-Launch.i c.requires.facts (free_here c.args.self.now _ _ c.in-Launch.is c.requires.allowed)

pub siding_there-requires-clause-within : goal.siding_there-requires-clause-within
siding_there-requires-clause-within c =
    let below = launch-high _ _ c.in-Launch.i c.requires.facts (free_here c.args.self.now _ _ c.in-Launch.is c.requires.allowed) in
    omega (arith, below, c.requires.facts.stages)

pub old_op-requires-clause-siding : goal.old_op-requires-clause-siding
old_op-requires-clause-siding c = there-number _ _ _ _ c.requires.facts (sym c.in-Some.is ∙ c.siding_there.ensures)

pub old_op-requires-clause-cell : goal.old_op-requires-clause-cell
old_op-requires-clause-cell c = there-cells _ _ _ _ c.requires.facts (sym c.in-Some.is ∙ c.siding_there.ensures)

pub old_op-requires-in-Slide-clause-siding : goal.old_op-requires-in-Slide-clause-siding
old_op-requires-in-Slide-clause-siding c = slide-number _ _ c.in-Slide.k c.in-Slide.c c.requires.facts
    (free_here c.args.self.now _ _ c.in-Slide.is c.requires.allowed)

pub old_op-requires-in-Slide-clause-cell : goal.old_op-requires-in-Slide-clause-cell
old_op-requires-in-Slide-clause-cell c =
    let within = slide-cells c.args.self.now.plan c.args.self.now.state c.in-Slide.k c.in-Slide.c
    (free_here c.args.self.now _ _ c.in-Slide.is c.requires.allowed) in
    omega (arith, within)

pub overflow_add-c : goal.overflow_add-c
overflow_add-c c =
    let few = slide-few _ _ c.in-Slide.k c.in-Slide.c c.requires.facts (free_here c.args.self.now _ _ c.in-Slide.is c.requires.allowed) in
    omega (arith, few)

pub old_op-requires-in-Slide-2-clause-siding : goal.old_op-requires-in-Slide-2-clause-siding
old_op-requires-in-Slide-2-clause-siding c = slide-number _ _ c.in-Slide.k c.in-Slide.c c.requires.facts
    (free_here c.args.self.now _ _ c.in-Slide.is c.requires.allowed)

pub old_op-requires-in-Slide-2-clause-cell : goal.old_op-requires-in-Slide-2-clause-cell
old_op-requires-in-Slide-2-clause-cell c = slide-cells c.args.self.now.plan c.args.self.now.state c.in-Slide.k c.in-Slide.c
    (free_here c.args.self.now _ _ c.in-Slide.is c.requires.allowed)

pub old_op-requires-in-Access-clause-siding : goal.old_op-requires-in-Access-clause-siding
old_op-requires-in-Access-clause-siding c = rw c.port.ensures (port-number _ _ c.requires.facts)

pub old_op-requires-in-Access-clause-cell : goal.old_op-requires-in-Access-clause-cell
old_op-requires-in-Access-clause-cell c =
    let some = port-cells c.args.self.now.plan c.args.self.now.state c.requires.facts in
    rw (c.cells_in.ensures, c.port.ensures, c.port-in-Access.ensures) (omega (arith, some))

pub siding_there-requires-in-Recover-clause-above : goal.siding_there-requires-in-Recover-clause-above
siding_there-requires-in-Recover-clause-above c = recover-low _ _ c.in-Recover.i c.requires.facts
    (free_here c.args.self.now _ _ c.in-Recover.is c.requires.allowed)

pub siding_there-requires-in-Recover-clause-within : goal.siding_there-requires-in-Recover-clause-within
siding_there-requires-in-Recover-clause-within c =
    let below = recover-high _ _ c.in-Recover.i c.requires.facts (free_here c.args.self.now _ _ c.in-Recover.is c.requires.allowed) in
    omega (arith, below, c.requires.facts.stages)

pub old_op-requires-in-Some-siding_there-clause-siding : goal.old_op-requires-in-Some-siding_there-clause-siding
old_op-requires-in-Some-siding_there-clause-siding c = there-number _ _ _ _ c.requires.facts (sym c.in-Some-siding_there.is ∙ c.siding_there-in-Recover.ensures)

pub old_op-requires-in-Some-siding_there-clause-cell : goal.old_op-requires-in-Some-siding_there-clause-cell
old_op-requires-in-Some-siding_there-clause-cell c =
    let some = there-cells _ _ _ _ c.requires.facts (sym c.in-Some-siding_there.is ∙ c.siding_there-in-Recover.ensures) in
    omega (arith, some, c.cells_in-in-Some-siding_there.ensures)
