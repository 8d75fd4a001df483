-- The bit words agree with the stages whatever instruction is returned.
use Rattle.std.proofs.Common.{◌∙◌, List, refl, sym, ap, subst, arith}
use Rattle.std.specs.Prelude.{IsSome}
use Rattle.cf_bind.specs.declared.cell.Cell.{Cell}
use Rattle.cf_semantics.specs.moves.Moves.{with_passenger}
use Rattle.cf_stages.specs.Changes.{changed, passenger_at}
use Rattle.cf_stages.proofs.Entries.{passenger-entry, within-entries}
use Rattle.cf_stages.proofs.Kept.{stage-ridden}
use Rattle.cf_stages.proofs.Written.{renewed-is, renewed-stages}
use Rattle.cf_stages.proofs.stages.Stages.passenger_mut.Goals as goal

pub index_mut-requires : goal.index_mut-requires
index_mut-requires c =
    let stage = stage-ridden _ c.args.i c.requires in
    let within = within-entries _ _ _ _ _ c.args.i _ c.self.invariant c.self.view_is stage.1 in
    let low = stage.0 in
    omega arith

pub invariant_of-self-lent : goal.invariant_of-self-lent
invariant_of-self-lent c w =
    renewed-stages _ _ _ _ _ c.args.i w c.self.invariant
    (subst (λ (cells : List Cell). IsSome (passenger_at cells c.args.i)) (sym c.self.view_is) c.requires)

pub returns : goal.returns
returns c =
    let rides = subst (λ (cells : List Cell). IsSome (passenger_at cells c.args.i)) (sym c.self.view_is) c.requires in (
      (
        refl,
        λ w. renewed-is _ _ _ _ _ c.args.i w c.self.invariant rides
            ∙ ap (λ (cells : List Cell). changed cells c.args.i (λ d. with_passenger d w)) c.self.view_is,
      ),
      record {
        writes_back = tt;
        value = ap (λ (cells : List Cell). passenger_at cells c.args.i) (sym c.self.view_is)
            ∙ sym (passenger-entry _ _ _ _ _ c.args.i _ c.self.invariant rides c.index_mut.ensures.value);
      },
    )
