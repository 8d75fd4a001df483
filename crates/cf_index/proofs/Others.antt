-- The allowed moves in two parts: the Issues and the others.
use Rattle.std.proofs.Common.{◌≡◌, refl, ap, ◌<◌, ◌≤◌, List, [], ◌∷◌, ◌++◌, length, Bool, true, false, cond, nat_lt, Option, Some, None, arith}
use Rattle.std.specs.Prelude.{◌&&◌, filter, not, slice_get}
use Rattle.std.proofs.lemmas.Bool.Decides.{nat_tests}
use Rattle.std.proofs.lemmas.List.{length-append}
use Rattle.run_options.specs.declared.guess_rule.GuessRule.{GuessRule}
use Rattle.cf_layout.specs.Layout.{Plan}
use Rattle.cf_bind.specs.declared.moves.Bar.{Bar}
use Rattle.cf_bind.specs.declared.moves.Bar.TheVariants.{Failed, Halted}
use Rattle.cf_bind.specs.declared.moves.Move.{Move}
use Rattle.cf_bind.specs.declared.moves.Move.TheVariants.{Issue, Emit}
use Rattle.cf_bind.specs.declared.passenger.Guess.TheVariants.{Next, Taken, Wait}
use Rattle.cf_semantics.specs.moves.Bars.{bar, first, row_bar}
use Rattle.cf_semantics.specs.moves.Candidates.{held_back, slides_from}
use Rattle.cf_semantics.specs.state.Options.{is_some}
use Rattle.cf_semantics.specs.state.State.{State}
use Rattle.cf_index.specs.Allowed.{all_leaving, all_passing, allowed_others, is_allowed, kept_issues, may_issue, unheld_issues, withheld}
use Rattle.cf_index.specs.GuessRules.{guided, keeps_move}
use Rattle.cf_index.specs.Listed.{flagged}
use Rattle.cf_index.specs.Words.{goes_on}
use Rattle.cf_index.specs.Most.{most_leaving, most_of_kind, most_others, most_passing}
use Rattle.cf_index.proofs.Firsts.{guided_others, guided_parts}
use Rattle.cf_index.proofs.Guided.{three-flagged}

-- Emit, if it is allowed
pub emit_chosen : (plan : Plan) (s : State) (b : Bool) → b ≡ is_allowed plan s Emit → flagged b Emit ≡ filter (is_allowed plan s) (Emit ∷ [])
emit_chosen plan s true e = rw (← e) refl
emit_chosen plan s false e = rw (← e) refl

-- if there are others, what is offered is the Issues, unless they are held back, followed by the others
pub withheld_others : (r : GuessRule) (plan : Plan) (s : State) (held : Bool) → 0 < length (allowed_others plan s) →
    withheld held (guided r plan s) ≡ unheld_issues held r plan s ++ allowed_others plan s
unfolding held_back
withheld_others r plan s false some = guided_parts r plan s
withheld_others r plan s true some =
    let e = guided_others r plan s in
    let t : nat_lt 0 (length (allowed_others plan s)) ≡ true = grind (arith, nat_tests) in
    rw (e, t) refl

-- there are not many of them
few_emit : (b : Bool) → length (cond b (Emit ∷ []) []) ≤ 1
few_emit true = omega arith
few_emit false = omega arith

pub few_parts : (plan : Plan) (s : State) →
    length (filter (is_allowed plan s) (all_passing plan)) ≤ most_passing → length (filter (is_allowed plan s) (slides_from 0 plan.sidings)) ≤ most_of_kind →
    length (filter (is_allowed plan s) (all_leaving plan)) ≤ most_leaving →
    length (allowed_others plan s) ≤ most_others
few_parts plan s passing slides leaving =
    let q = is_allowed plan s in
    let one = few_emit (q Emit) in
    let a = length-append (filter q (Emit ∷ [])) (filter q (all_passing plan) ++ (filter q (slides_from 0 plan.sidings) ++ filter q (all_leaving plan))) in
    let b = length-append (filter q (all_passing plan)) (filter q (slides_from 0 plan.sidings) ++ filter q (all_leaving plan)) in
    let c = length-append (filter q (slides_from 0 plan.sidings)) (filter q (all_leaving plan)) in
    omega (arith, one, a, b, c, passing, slides, leaving)

-- the first Issue, by whether each of the three is left
pub issue_next : (r : GuessRule) (plan : Plan) (s : State) (n t w : Bool) → n ≡ may_issue r plan s Next → t ≡ may_issue r plan s Taken →
    w ≡ may_issue r plan s Wait → n ≡ true → Some (Issue Next) ≡ slice_get (kept_issues r plan s) 0
issue_next r plan s n t w next taken wait e =
    rw e at (ap (λ (l : List Move). slice_get l 0) (three-flagged (keeps_move r plan s) (is_allowed plan s) n t w next taken wait))

pub issue_taken : (r : GuessRule) (plan : Plan) (s : State) (n t w : Bool) → n ≡ may_issue r plan s Next → t ≡ may_issue r plan s Taken →
    w ≡ may_issue r plan s Wait → n ≡ false → t ≡ true → Some (Issue Taken) ≡ slice_get (kept_issues r plan s) 0
issue_taken r plan s n t w next taken wait e f =
    rw (e, f) at (ap (λ (l : List Move). slice_get l 0) (three-flagged (keeps_move r plan s) (is_allowed plan s) n t w next taken wait))

pub issue_wait : (r : GuessRule) (plan : Plan) (s : State) (n t w : Bool) → n ≡ may_issue r plan s Next → t ≡ may_issue r plan s Taken →
    w ≡ may_issue r plan s Wait → n ≡ false → t ≡ false → w ≡ true → Some (Issue Wait) ≡ slice_get (kept_issues r plan s) 0
issue_wait r plan s n t w next taken wait e f g =
    rw (e, f, g) at (ap (λ (l : List Move). slice_get l 0) (three-flagged (keeps_move r plan s) (is_allowed plan s) n t w next taken wait))

pub issue_none : (r : GuessRule) (plan : Plan) (s : State) (n t w : Bool) → n ≡ may_issue r plan s Next → t ≡ may_issue r plan s Taken →
    w ≡ may_issue r plan s Wait → n ≡ false → t ≡ false → w ≡ false → None ≡ slice_get (kept_issues r plan s) 0
issue_none r plan s n t w next taken wait e f g =
    rw (e, f, g) at (ap (λ (l : List Move). slice_get l 0) (three-flagged (keeps_move r plan s) (is_allowed plan s) n t w next taken wait))

pub ruleset issues = (issue_next, issue_taken, issue_wait, issue_none)

-- once the program has ended, or the input or the output has failed, none is allowed
barred_over : (ended failed : Bool) (b : Option Bar) → (not ended && not failed) ≡ false →
    not (is_some (first ended Halted (first failed Failed b))) ≡ false
barred_over true failed b over = refl
barred_over false true b over = refl
barred_over false false b over = absurd (cc)

none_allowed : (plan : Plan) (s : State) → goes_on s ≡ false → (mv : Move) → is_allowed plan s mv ≡ false
unfolding bar
none_allowed plan s over mv = barred_over (is_some s.ending) s.failed (row_bar plan s mv) over

none_chosen : (q : Move → Bool) (xs : List Move) → ((mv : Move) → q mv ≡ false) → filter q xs ≡ []
none_chosen q [] none = refl
none_chosen q (x ∷ xs) none = rw (none x) (none_chosen q xs none)

pub none_once_over : (plan : Plan) (s : State) → goes_on s ≡ false → allowed_others plan s ≡ []
none_once_over plan s over =
    let q = is_allowed plan s in
    let none = none_allowed plan s over in
    let passing = none_chosen q (all_passing plan) none in
    let slides = none_chosen q (slides_from 0 plan.sidings) none in
    rw (none Emit, passing, slides, none_chosen q (all_leaving plan) none) refl
