-- The bit words follow an instruction to a higher stage.
use Rattle.std.proofs.Common.{ℕ, ◌-◌, ◌∙◌, List, ap, length-set, sym, subst, true}
use Rattle.std.specs.Prelude.{IsNone, IsSome}
use Rattle.cf_bind.specs.declared.cell.Cell.{Cell}
use Rattle.cf_stages.specs.Changes.{passenger_at}
use Rattle.cf_stages.specs.Words.{with_bit}
use Rattle.cf_stages.proofs.Entries.{within-entries}
use Rattle.cf_stages.proofs.Written.{lifted-stages, same-count}
use Rattle.cf_stages.proofs.stages.Stages.lift.Goals as goal

pub invariant_of-self : goal.invariant_of-self
invariant_of-self c =
    lifted-stages _ _ _ _ _ _ _ c.args.i c.args.j c.index.result.now c.self.invariant c.requires.above c.requires.order
    (within-entries _ _ _ _ _ c.args.j _ c.self.invariant c.self.view_is c.requires.within)
    (subst (λ (cells : List Cell). IsSome (passenger_at cells c.args.i)) (sym c.self.view_is) c.requires.there)
    (subst (λ (cells : List Cell). IsNone (passenger_at cells c.args.j)) (sym c.self.view_is) c.requires.room)
    c.index.ensures (c.with_bit-self-inside.ensures ∙ ap (λ (w : ℕ). with_bit w (c.args.j - 1) true) c.with_bit.ensures) c.with_bit-self-inside-2.ensures

pub returns-clause-count : goal.returns-clause-count
returns-clause-count c =
    same-count _ _ _ _ _ _ _ _ _ _ _ c.self.invariant c.self.view_is (invariant_of-self c) (length-set _ (c.args.j - 1) _)
