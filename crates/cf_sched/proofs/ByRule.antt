-- What is offered under a guess rule: a part of what is offered under none, and at least one move if anything is
-- offered then.
use Rattle.std.proofs.Common.{◌≡◌, ◌∙◌, ap, sym, subst, ℕ, ◌<◌, List, length, Some, Bool, true, false, nat_lt}
use Rattle.std.specs.Prelude.{slice_get, if◌then◌else◌}
use Rattle.run_options.specs.declared.guess_rule.GuessRule.{GuessRule}
use Rattle.run_options.specs.declared.guess_rule.GuessRule.TheVariants as rules
use Rattle.cf_layout.specs.Layout.{Plan}
use Rattle.cf_bind.specs.declared.moves.Move.{Move}
use Rattle.cf_semantics.specs.moves.Candidates.{candidates, held_back, other_moves}
use Rattle.cf_semantics.specs.moves.Holding.{is_held, offered}
use Rattle.cf_semantics.specs.state.State.{State}
use Rattle.theory_confluence.proofs.Candidates.{Has, kept_passes}
use Rattle.cf_index.specs.Allowed.{withheld}
use Rattle.cf_index.specs.GuessRules.{guided, keeps_move}
use Rattle.cf_index.proofs.Firsts.{any_guided, guided_others, others_are}
use Rattle.cf_index.proofs.OneIssue.{some-left}
use Rattle.cf_sched.specs.Paces.{offered_by}

-- the rule that keeps every guess gives the same offers
pub any-offered : (plan : Plan) (count : ℕ) (s : State) → offered_by rules.Any plan count s ≡ offered plan count s
unfolding offered offered_by
any-offered plan count s = ap (withheld (is_held plan count)) (any_guided plan s)

-- a move that is left is a candidate
left-candidate : (r : GuessRule) (plan : Plan) (s : State) (k : ℕ) (mv : Move) → slice_get (guided r plan s) k ≡ Some mv → Has (candidates plan s) mv
unfolding guided
left-candidate r plan s k mv there = (kept_passes (keeps_move r plan s) (candidates plan s) k mv there).1

-- the others are the same
same-others : (r : GuessRule) (plan : Plan) (s : State) → other_moves (guided r plan s) ≡ other_moves (candidates plan s)
same-others r plan s = guided_others r plan s ∙ sym (others_are plan s)

-- so what is offered under the rule is offered under none
held-among : (r : GuessRule) (plan : Plan) (s : State) (k : ℕ) (mv : Move) → slice_get (held_back (guided r plan s)) k ≡ Some mv →
    Has (held_back (candidates plan s)) mv
unfolding held_back
held-among r plan s k mv there = go (nat_lt 0 (length (other_moves (candidates plan s))))
    (subst (λ (xs : List Move). slice_get (if nat_lt 0 (length xs) then xs else guided r plan s) k ≡ Some mv) (same-others r plan s) there)
  where
    go : (b : Bool) → slice_get (if b then other_moves (candidates plan s) else guided r plan s) k ≡ Some mv →
        Has (if b then other_moves (candidates plan s) else candidates plan s) mv
    go true e = record { place = k; there = e }
    go false e = left-candidate r plan s k mv e

pub among-offered : (r : GuessRule) (plan : Plan) (count : ℕ) (s : State) (k : ℕ) (mv : Move) → slice_get (offered_by r plan count s) k ≡ Some mv →
    Has (offered plan count s) mv
unfolding offered offered_by
among-offered r plan count s k mv there = go (is_held plan count) there
  where
    go : (b : Bool) → slice_get (withheld b (guided r plan s)) k ≡ Some mv → Has (if b then held_back (candidates plan s) else candidates plan s) mv
    go true e = held-among r plan s k mv e
    go false e = left-candidate r plan s k mv e

-- and at least one move is offered
held-some : (r : GuessRule) (plan : Plan) (s : State) → 0 < length (held_back (candidates plan s)) → 0 < length (held_back (guided r plan s))
unfolding held_back
held-some r plan s some =
    subst (λ (xs : List Move). 0 < length (if nat_lt 0 (length xs) then xs else guided r plan s)) (sym (same-others r plan s))
    (go (nat_lt 0 (length (other_moves (candidates plan s)))) some)
  where
    go : (b : Bool) → 0 < length (if b then other_moves (candidates plan s) else candidates plan s) →
        0 < length (if b then other_moves (candidates plan s) else guided r plan s)
    go true e = e
    go false e = some-left r plan s e

pub some-offered : (r : GuessRule) (plan : Plan) (count : ℕ) (s : State) → 0 < length (offered plan count s) → 0 < length (offered_by r plan count s)
unfolding offered offered_by
some-offered r plan count s some = go (is_held plan count) some
  where
    go : (b : Bool) → 0 < length (if b then held_back (candidates plan s) else candidates plan s) → 0 < length (withheld b (guided r plan s))
    go true e = held-some r plan s e
    go false e = some-left r plan s e
