use Rattle.std.proofs.Common.{◌∙◌, ap, sym}
use Rattle.cf_bind.specs.declared.moves.Move.TheVariants.{Fall}
use Rattle.cf_index.specs.PickedFrom.{from_meet, left_then}
use Rattle.cf_index.proofs.FallsInTurn.{no-falls}
use Rattle.cf_index.proofs.PickedFrom.{picked_on}
use Rattle.cf_run.proofs.Turning.{no_turns}
use Rattle.cf_run.proofs.sweep.sweep_falls.Goals as goal

pub returns-then-left-eq0 : goal.returns-then-left-eq0
returns-then-left-eq0 c =
    let plan = c.args.core.now.plan in
    let s = c.args.core.now.state in
    let none = sym (no-falls Fall (from_meet plan s)) ∙ ap (λ w. left_then Fall w from_meet plan s) (sym c.if-left-eq0.true) ∙ c.left-left.ensures.listed in
    record {
      on = record {
        swept = no_turns _ _ _;
        from = record { ready = c.requires.from.ready; picked = picked_on _ _ _ _ _ _ _ none c.requires.from.picked };
      };
    }
