-- The candidates in one word are what is offered, and the draw is a place among them.
use Rattle.std.proofs.Common.{◌≡◌, ap, ℕ, ◌<◌, ◌%◌, Bool, List, length, arith}
use Rattle.std.proofs.lemmas.Nat.{mod_below}
use Rattle.cf_bind.specs.declared.moves.Move.{Move}
use Rattle.run_options.specs.declared.guess_rule.GuessRule.{GuessRule}
use Rattle.cf_layout.specs.Layout.{Plan}
use Rattle.cf_semantics.specs.state.State.{State}
use Rattle.cf_index.specs.Allowed.{withheld}
use Rattle.cf_index.specs.GuessRules.{guided}
use Rattle.cf_sched.specs.Paces.{PaceCount, holds_issue, offers}

pub packed_offered : (c : PaceCount) (r : GuessRule) (plan : Plan) (s : State) (held : Bool) (packed : List Move) → r ≡ c.rule → held ≡ holds_issue c →
    packed ≡ withheld held (guided r plan s) → packed ≡ offers c plan s
unfolding offers
packed_offered c r plan s held packed same is e = rw (same, is) at e

pub drawn_place : (word count : ℕ) (moves packed : List Move) → count ≡ length packed → packed ≡ moves → 0 < length moves → word % count < length packed
drawn_place word count moves packed counted e some =
    let n = ap (λ (l : List Move). length l) e in
    let small = mod_below word count (omega (arith, counted, n, some)) in
    omega (arith, small, counted)
