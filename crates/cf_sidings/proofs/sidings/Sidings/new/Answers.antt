use Rattle.std.proofs.Common.{◌≡◌, length, subst, sym, arith}
use Rattle.cf_sidings.specs.Sidings.{HaveWords}
use Rattle.cf_sidings.proofs.Empty.{empty-words}
use Rattle.cf_sidings.proofs.sidings.Sidings.new.Goals as goal

-- no cell has an operation yet
pub invariant_of-result : goal.invariant_of-result
invariant_of-result c =
    let plan = c.args.layout.now in
    let all : c.loop-k.k ≡ length plan.sidings = omega arith in
    subst (λ l. HaveWords l 0 c.inner_cells.result) (sym c.loop-k.invariant)
    (empty-words plan c.loop-k.k c.inner_cells.result c.stages-stages.ensures.accepted all c.inner_cells.ensures)
