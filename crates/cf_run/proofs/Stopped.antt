-- A count that stops once the candidates are held gives the same offers.
use Rattle.std.proofs.Common.{◌≡◌, ℕ, ◌+◌, ◌*◌, Bool, true, false, refl, ap, min, nat_le, arith}
use Rattle.std.proofs.lemmas.Bool.Decides.{nat_tests}
use Rattle.std.specs.Prelude.{◌||◌, if◌then◌else◌}
use Rattle.run_options.specs.declared.guess_rule.GuessRule.{GuessRule}
use Rattle.cf_layout.specs.Layout.{Plan}
use Rattle.cf_bind.specs.declared.moves.Move.{Move}
use Rattle.cf_semantics.specs.declared.event.Event.{Event}
use Rattle.cf_semantics.specs.moves.Holding.{is_held, is_retirement, paced}
use Rattle.cf_semantics.specs.state.State.{State}
use Rattle.cf_semantics.specs.claims.Weight.{is_issue}
use Rattle.cf_index.specs.Allowed.{withheld}
use Rattle.cf_index.specs.GuessRules.{guided}
use Rattle.cf_sched.specs.Paces.{PaceCount, offered_by, offers, stopped}

held_stopped : (plan : Plan) (count : ℕ) → is_held plan (stopped plan.stages count) ≡ is_held plan count
held_stopped plan count = grind (arith, nat_tests)

-- the same is offered
pub offered-stopped : (r : GuessRule) (plan : Plan) (count : ℕ) (s : State) → offered_by r plan (stopped plan.stages count) s ≡ offered_by r plan count s
unfolding offered_by
offered-stopped r plan count s = rw (held_stopped plan count) refl

-- and it goes on as the count does
pub paced-stopped : (stages count : ℕ) (mv : Move) (e : Event) (drained : Bool) → stopped stages (paced (stopped stages count) mv e drained)
    ≡ stopped stages (paced count mv e drained)
unfolding paced
paced-stopped stages count mv e drained = go (is_retirement e || drained) (is_issue mv)
  where
    go : (b c : Bool) → min (if b then 0 else (if c then min count (2 * stages) + 1 else min count (2 * stages))) (2 * stages)
        ≡ min (if b then 0 else (if c then count + 1 else count)) (2 * stages)
    go true c = refl
    go false true = grind (arith, nat_tests)
    go false false = grind (arith, nat_tests)

-- the count that stops gives the same offers as the whole count, for the stages of the layout
pub offers-offered : (c : PaceCount) (plan : Plan) (s : State) → c.stages ≡ plan.stages → offers c plan s ≡ offered_by c.rule plan c.count s
unfolding offered_by offers
offers-offered c plan s beside = ap (λ (n : ℕ). withheld (nat_le (2 * n) c.count) (guided c.rule plan s)) beside

pub ruleset offering = (offers-offered)
