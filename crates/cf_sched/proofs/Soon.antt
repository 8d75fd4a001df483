-- The first candidate after a move is the first offered move after it.
use Rattle.std.proofs.Common.{◌≡◌, Bool, Option, Some, None}
use Rattle.std.specs.Prelude.{IfSome, MatchOption, slice_get}
use Rattle.cf_bind.specs.declared.moves.Move.{Move}
use Rattle.run_options.specs.declared.guess_rule.GuessRule.{GuessRule}
use Rattle.cf_layout.specs.Layout.{Plan}
use Rattle.cf_semantics.specs.state.State.{State}
use Rattle.cf_index.specs.Allowed.{withheld}
use Rattle.cf_index.specs.GuessRules.{guided}
use Rattle.cf_index.specs.declared.rank.Rank.{Rank}
use Rattle.cf_index.specs.Order.{first_after, slide_place}
use Rattle.cf_index.specs.Ranks.{rank_of}
use Rattle.cf_sched.specs.Paces.{PaceCount, holds_issue, offers}

pub next_offered : (c : PaceCount) (r : GuessRule) (plan : Plan) (s : State) (held : Bool) (last next : Move) → r ≡ c.rule → held ≡ holds_issue c →
    Some next ≡ slice_get (withheld held (guided r plan s)) (first_after (Some last) (withheld held (guided r plan s))) →
    Some next ≡ slice_get (offers c plan s) (first_after (Some last) (offers c plan s))
unfolding offers
next_offered c r plan s held last next same is e = rw (same, is) at e

-- whatever was picked last; if nothing was, the rank is that of a Slide, after which no move is given
pub next_picked : (c : PaceCount) (r : GuessRule) (plan : Plan) (s : State) (held : Bool) (last : Option Move) (rank : Rank) (o : Option Move) (next : Move) →
    r ≡ c.rule → held ≡ holds_issue c →
    MatchOption last (rank.kind ≡ slide_place) (λ mv. rank ≡ rank_of mv) →
    ((mv : Move) → rank ≡ rank_of mv → IfSome o (λ first. Some first ≡ slice_get (withheld held (guided r plan s))
    (first_after (Some mv) (withheld held (guided r plan s))))) → (rank.kind ≡ slide_place → o ≡ None) → o ≡ Some next →
    Some next ≡ slice_get (offers c plan s) (first_after last (offers c plan s))
next_picked c r plan s held None rank o next same is stands after none some = let nothing = none stands in absurd (cc)
next_picked c r plan s held (Some mv) rank o next same is stands after none some = next_offered c r plan s held mv next same is (rw some at (after mv stands))
