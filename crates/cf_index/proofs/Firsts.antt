-- The first of the candidates, whether or not Issue is held back.
use Rattle.std.proofs.Common.{◌≡◌, ◌∙◌, sym, refl, ap, ℕ, zero, suc, ◌<◌, ◌≤◌, List, [], ◌∷◌, ◌++◌, length, map, Bool, true, false, cond, nat_lt, Option, Some, None, arith}
use Rattle.std.specs.Prelude.{◌-◌, filter, find, not, slice_get, IfSome}
use Rattle.std.specs.List.{position_or_len}
use Rattle.std.proofs.lemmas.Bool.Decides.{nat_tests}
use Rattle.std.proofs.lemmas.List.{append_assoc}
use Rattle.std.proofs.lemmas.List.Elements.{filter-append}
use Rattle.std.proofs.lemmas.List.Folds.{find_at}
use Rattle.std.proofs.lemmas.Option.{slice_get_within}
use Rattle.run_options.specs.declared.guess_rule.GuessRule.{GuessRule}
use Rattle.run_options.specs.declared.guess_rule.GuessRule.TheVariants as rules
use Rattle.cf_layout.specs.Layout.{Plan, SidingPlan}
use Rattle.cf_bind.specs.declared.moves.Move.{Move}
use Rattle.cf_bind.specs.declared.moves.Move.TheVariants.{Issue, Emit, Climb, Fall, Meet, Execute, Send, Launch, Slide, Access, Recover, Leave, Exit, Serve}
use Rattle.cf_bind.specs.declared.passenger.Guess.TheVariants.{Next, Taken, Wait}
use Rattle.cf_semantics.specs.moves.Candidates.{candidates, counted_from, held_back, other_moves, slides_from}
use Rattle.cf_semantics.specs.state.State.{State}
use Rattle.cf_semantics.specs.claims.Weight.{is_issue}
use Rattle.cf_index.specs.Allowed.{all_entering, all_leaving, all_passing, allowed_issues, allowed_others, is_allowed, kept_issues, withheld}
use Rattle.cf_index.specs.GuessRules.{guided, keeps_move}
use Rattle.cf_index.specs.Order.{first_after, kind_place, stands_after}
use Rattle.cf_index.proofs.FirstsAfter.{found_after, found_candidate, found_held, found_second, entering_none, no_issue}
use Rattle.cf_index.proofs.Filled.{all_chosen}
use Rattle.cf_index.proofs.Guided.{found-kept, keeps-others, kept-others, same-others}
use Rattle.cf_index.proofs.Held.{others_parts}
use Rattle.cf_index.proofs.Passed.{later}

-- the first move that is not an Issue
pub emit_first : (plan : Plan) (s : State) → is_allowed plan s Emit ≡ true → Some Emit ≡ slice_get (allowed_others plan s) 0
emit_first plan s e = rw e refl

pub emit_barred : (plan : Plan) (s : State) (o : Option Move) → is_allowed plan s Emit ≡ false →
    o ≡ slice_get (filter (is_allowed plan s) (all_passing plan) ++ (filter (is_allowed plan s) (slides_from 0 plan.sidings)
    ++ filter (is_allowed plan s) (all_leaving plan))) 0 → o ≡ slice_get (allowed_others plan s) 0
emit_barred plan s o e first = rw e first

-- no Issue is among the others
chosen_step : (b : Bool) (x : Move) (xs : List Move) → is_issue x ≡ false → other_moves xs ≡ xs → other_moves (cond b (x ∷ xs) xs) ≡ cond b (x ∷ xs) xs
chosen_step true x xs e rest = rw (e, rest) refl
chosen_step false x xs e rest = rest

chosen_map : (q : Move → Bool) (f : ℕ → Move) (ks : List ℕ) → ((k : ℕ) → is_issue (f k) ≡ false) → other_moves (filter q (map f ks)) ≡ filter q (map f ks)
chosen_map q f [] none = refl
chosen_map q f (k ∷ ks) none = chosen_step (q (f k)) (f k) (filter q (map f ks)) (none k) (chosen_map q f ks none)

chosen_parts : (q : Move → Bool) (xs ys : List Move) → other_moves (filter q xs) ≡ filter q xs → other_moves (filter q ys) ≡ filter q ys →
    other_moves (filter q (xs ++ ys)) ≡ filter q (xs ++ ys)
chosen_parts q xs ys e f = rw (filter-append q xs ys) (others_parts (filter q xs) (filter q ys) e f)

chosen_slides : (q : Move → Bool) (k : ℕ) (sidings : List SidingPlan) → other_moves (filter q (slides_from k sidings)) ≡ filter q (slides_from k sidings)
chosen_slides q k [] = refl
chosen_slides q k (siding ∷ sidings) = chosen_parts q (map (Slide k) (counted_from 0 (siding.cells - 1))) (slides_from (suc k) sidings)
    (chosen_map q (Slide k) (counted_from 0 (siding.cells - 1)) (λ c. refl)) (chosen_slides q (suc k) sidings)

chosen_passing : (q : Move → Bool) (plan : Plan) → other_moves (filter q (all_passing plan)) ≡ filter q (all_passing plan)
chosen_passing q plan =
    let stages = counted_from 1 plan.stages in
    chosen_parts q _ _ (chosen_map q Climb stages (λ k. refl)) (
    chosen_parts q _ _ (chosen_map q Fall stages (λ k. refl)) (
    chosen_parts q _ _ (chosen_map q Meet stages (λ k. refl)) (
    chosen_parts q _ _ (chosen_map q Execute stages (λ k. refl)) (
    chosen_parts q _ _ (chosen_map q Send stages (λ k. refl)) (chosen_map q Launch stages (λ k. refl))))))

chosen_leaving : (q : Move → Bool) (plan : Plan) → other_moves (filter q (all_leaving plan)) ≡ filter q (all_leaving plan)
chosen_leaving q plan =
    chosen_step (q Access) Access _ refl (
    chosen_parts q _ (Leave ∷ Exit ∷ Serve ∷ []) (chosen_map q Recover (counted_from 1 plan.stages) (λ k. refl)) (
    chosen_step (q Leave) Leave _ refl (chosen_step (q Exit) Exit _ refl (chosen_step (q Serve) Serve [] refl refl))))

-- so the others are the candidates except for each Issue
rest_of : Plan → State → List Move
rest_of plan s = filter (is_allowed plan s) (all_passing plan) ++ (filter (is_allowed plan s) (slides_from 0 plan.sidings)
    ++ filter (is_allowed plan s) (all_leaving plan))

rest_others : (plan : Plan) (s : State) → other_moves (rest_of plan s) ≡ rest_of plan s
unfolding rest_of
rest_others plan s =
    let q = is_allowed plan s in
    others_parts _ _ (chosen_passing q plan) (others_parts _ _ (chosen_slides q 0 plan.sidings) (chosen_leaving q plan))

entering_others : (n t w e : Bool) (rest : List Move) → other_moves rest ≡ rest →
    other_moves (cond n (Issue Next ∷ cond t (Issue Taken ∷ cond w (Issue Wait ∷ cond e (Emit ∷ []) []) (cond e (Emit ∷ []) []))
    (cond w (Issue Wait ∷ cond e (Emit ∷ []) []) (cond e (Emit ∷ []) []))) (cond t (Issue Taken
    ∷ cond w (Issue Wait ∷ cond e (Emit ∷ []) []) (cond e (Emit ∷ []) [])) (cond w (Issue Wait ∷ cond e (Emit ∷ []) []) (cond e (Emit ∷ []) []))) ++ rest)
    ≡ cond e (Emit ∷ []) [] ++ rest
entering_others n t w e rest is = by n t w e
  where
    by : (n t w e : Bool) → other_moves (cond n (Issue Next ∷ cond t (Issue Taken ∷ cond w (Issue Wait ∷ cond e (Emit ∷ []) []) (cond e (Emit ∷ []) []))
        (cond w (Issue Wait ∷ cond e (Emit ∷ []) []) (cond e (Emit ∷ []) []))) (cond t (Issue Taken
        ∷ cond w (Issue Wait ∷ cond e (Emit ∷ []) []) (cond e (Emit ∷ []) [])) (cond w (Issue Wait ∷ cond e (Emit ∷ []) []) (cond e (Emit ∷ []) []))) ++ rest)
        ≡ cond e (Emit ∷ []) [] ++ rest
    by true true true true = rw is refl
    by true true true false = is
    by true true false true = rw is refl
    by true true false false = is
    by true false true true = rw is refl
    by true false true false = is
    by true false false true = rw is refl
    by true false false false = is
    by false true true true = rw is refl
    by false true true false = is
    by false true false true = rw is refl
    by false true false false = is
    by false false true true = rw is refl
    by false false true false = is
    by false false false true = rw is refl
    by false false false false = is

in_parts : (plan : Plan) (s : State) → candidates plan s ≡ filter (is_allowed plan s) all_entering ++ rest_of plan s
unfolding rest_of
in_parts plan s =
    let q = is_allowed plan s in
    sym (all_chosen plan s (filter q all_entering) (filter q (all_passing plan)) (filter q (slides_from 0 plan.sidings))
    (filter q (all_leaving plan)) refl refl refl refl)

pub others_are : (plan : Plan) (s : State) → other_moves (candidates plan s) ≡ allowed_others plan s
unfolding rest_of
others_are plan s =
    let q = is_allowed plan s in
    ap other_moves (in_parts plan s) ∙ entering_others (q (Issue Next)) (q (Issue Taken)) (q (Issue Wait)) (q Emit) (rest_of plan s) (rest_others plan s)

-- the candidates are the Issues and the others
pub candidates_parts : (plan : Plan) (s : State) → candidates plan s ≡ allowed_issues plan s ++ allowed_others plan s
unfolding rest_of
candidates_parts plan s =
    let q = is_allowed plan s in
    in_parts plan s
    ∙ ap (λ (xs : List Move). xs ++ rest_of plan s) (filter-append q (Issue Next ∷ Issue Taken ∷ Issue Wait ∷ []) (Emit ∷ []))
    ∙ append_assoc (allowed_issues plan s) (filter q (Emit ∷ [])) (rest_of plan s)

-- a guess rule leaves the same others
pub guided_others : (r : GuessRule) (plan : Plan) (s : State) → other_moves (guided r plan s) ≡ allowed_others plan s
unfolding guided
guided_others r plan s = same-others (keeps_move r plan s) (candidates plan s) (keeps-others r plan s) ∙ others_are plan s

others_kept : (r : GuessRule) (plan : Plan) (s : State) → filter (keeps_move r plan s) (allowed_others plan s) ≡ allowed_others plan s
others_kept r plan s =
    let e = others_are plan s in
    ap (filter (keeps_move r plan s)) (sym e) ∙ kept-others (keeps_move r plan s) (candidates plan s) (keeps-others r plan s) ∙ e

pub guided_parts : (r : GuessRule) (plan : Plan) (s : State) → guided r plan s ≡ kept_issues r plan s ++ allowed_others plan s
unfolding guided
guided_parts r plan s =
    let k = keeps_move r plan s in
    ap (filter k) (candidates_parts plan s) ∙ filter-append k (allowed_issues plan s) (allowed_others plan s)
    ∙ ap (λ (xs : List Move). kept_issues r plan s ++ xs) (others_kept r plan s)

-- what is filled in, by its parts; and by the rule that keeps every guess, all candidates
pub guided_chosen : (r : GuessRule) (plan : Plan) (s : State) (es ps ss ls : List Move) →
    es ≡ filter (keeps_move r plan s) (filter (is_allowed plan s) all_entering) → ps ≡ filter (is_allowed plan s) (all_passing plan) →
    ss ≡ filter (is_allowed plan s) (slides_from 0 plan.sidings) → ls ≡ filter (is_allowed plan s) (all_leaving plan) →
    es ++ (ps ++ (ss ++ ls)) ≡ guided r plan s
unfolding guided rest_of
guided_chosen r plan s es ps ss ls enter pass slide leave =
    let k = keeps_move r plan s in
    let free : filter k (rest_of plan s) ≡ rest_of plan s = ap (filter k) (sym (rest_others plan s))
    ∙ kept-others k (rest_of plan s) (keeps-others r plan s) ∙ rest_others plan s in
    rw (enter, pass, slide, leave) (sym (ap (filter k) (in_parts plan s) ∙ filter-append k (filter (is_allowed plan s) all_entering) (rest_of plan s)
    ∙ ap (λ (xs : List Move). filter k (filter (is_allowed plan s) all_entering) ++ xs) free))

any_kept : (xs : List Move) (plan : Plan) (s : State) → filter (keeps_move rules.Any plan s) xs ≡ xs
any_kept [] plan s = refl
any_kept (Issue g ∷ xs) plan s = ap (λ (l : List Move). Issue g ∷ l) (any_kept xs plan s)
any_kept (x ∷ xs) plan s = ap (λ (l : List Move). x ∷ l) (any_kept xs plan s)

pub any_guided : (plan : Plan) (s : State) → guided rules.Any plan s ≡ candidates plan s
unfolding guided
any_guided plan s = any_kept (candidates plan s) plan s

-- the first of the candidates, with Issue held back
held_first : (xs : List Move) (m : Move) → Some m ≡ slice_get (other_moves xs) 0 → Some m ≡ slice_get (held_back xs) 0
unfolding held_back
held_first xs m e =
    let w = slice_get_within (other_moves xs) 0 m (sym e) in
    let some : nat_lt 0 (length (other_moves xs)) ≡ true = grind (arith, nat_tests) in
    rw some e

pub first_held : (r : GuessRule) (plan : Plan) (s : State) (held : Bool) (o : Option Move) → held ≡ true → o ≡ slice_get (allowed_others plan s) 0 →
    IfSome o (λ next. Some next ≡ slice_get (withheld held (guided r plan s)) 0)
first_held r plan s held None e first = tt
first_held r plan s held (Some m) e first = rw e (held_first (guided r plan s) m (first ∙ ap (λ (l : List Move). slice_get l 0) (sym (guided_others r plan s))))

-- and of all of them
in_first : (xs ys : List Move) (m : Move) → Some m ≡ slice_get xs 0 → Some m ≡ slice_get (xs ++ ys) 0
in_first [] ys m e = absurd (cc)
in_first (x ∷ xs) ys m e = e

in_second : (xs ys : List Move) → slice_get xs 0 ≡ None → slice_get ys 0 ≡ slice_get (xs ++ ys) 0
in_second [] ys e = refl
in_second (x ∷ xs) ys e = absurd (cc)

pub first_issue : (r : GuessRule) (plan : Plan) (s : State) (held : Bool) (m : Move) (o : Option Move) → held ≡ false →
    o ≡ slice_get (kept_issues r plan s) 0 → o ≡ Some m → Some m ≡ slice_get (withheld held (guided r plan s)) 0
first_issue r plan s held m o e first is = rw (e, guided_parts r plan s) (in_first (kept_issues r plan s) (allowed_others plan s) m (sym is ∙ first))

pub first_free : (r : GuessRule) (plan : Plan) (s : State) (held : Bool) (i o : Option Move) → held ≡ false → i ≡ slice_get (kept_issues r plan s) 0 →
    i ≡ None → o ≡ slice_get (allowed_others plan s) 0 → IfSome o (λ next. Some next ≡ slice_get (withheld held (guided r plan s)) 0)
first_free r plan s held i None e none is first = tt
first_free r plan s held i (Some m) e none is first =
    rw (e, guided_parts r plan s) (first ∙ in_second (kept_issues r plan s) (allowed_others plan s) (sym none ∙ is))

-- After a move --

-- after an Issue the first of all comes next, unless it is an Issue itself
pub after_issue : (xs : List Move) (last m : Move) → Some m ≡ slice_get xs 0 → stands_after last m ≡ true → Some m ≡ slice_get xs (first_after (Some last) xs)
after_issue [] last m e after = absurd (cc)
after_issue (x ∷ xs) last m e after = found_after last (x ∷ xs) m (let is : x ≡ m = cc in rw (is, after) refl)

other_kind : (m : Move) → is_issue m ≡ false → 0 < kind_place m
other_kind (Issue g) e = absurd (cc)
other_kind Emit e = omega arith
other_kind (Climb i) e = omega arith
other_kind (Fall i) e = omega arith
other_kind (Meet i) e = omega arith
other_kind (Execute i) e = omega arith
other_kind (Send i) e = omega arith
other_kind (Launch i) e = omega arith
other_kind (Slide k c) e = omega arith
other_kind Access e = omega arith
other_kind (Recover i) e = omega arith
other_kind Leave e = omega arith
other_kind Exit e = omega arith
other_kind Serve e = omega arith

pub unissued : (xs : List Move) (last : Move) (o : Option Move) → kind_place last ≡ 0 → IfSome o (λ next. Some next ≡ slice_get xs 0) →
    IfSome o (λ next. is_issue next ≡ false) → IfSome o (λ next. Some next ≡ slice_get xs (first_after (Some last) xs))
unissued xs last None issue first other = tt
unissued xs last (Some m) issue first other = after_issue xs last m first (later last m (let after = other_kind m other in omega (arith, issue, after)))

-- if none comes after, it is the first of all
past_end : {X : Type 0} (xs : List X) (k : ℕ) → slice_get xs k ≡ None → length xs ≤ k
past_end [] k e = omega arith
past_end (x ∷ xs) zero e = absurd (cc)
past_end (x ∷ xs) (suc k) e = let h = past_end xs k e in omega arith

none_after : (last : Move) (xs : List Move) → find (stands_after last) xs ≡ None → first_after (Some last) xs ≡ 0
unfolding first_after
none_after last xs e =
    let p = stands_after last in
    let far = past_end xs (position_or_len p xs) (sym (find_at p xs) ∙ e) in
    let t : nat_lt (position_or_len p xs) (length xs) ≡ false = grind (arith, nat_tests) in
    rw t refl

none_step : (p : Move → Bool) (b c : Bool) (x : Move) (xs rest : List Move) → p x ≡ b → cond b (Some x) (find p xs) ≡ None →
    (find p xs ≡ None → find p rest ≡ None) → find p (cond c (x ∷ rest) rest) ≡ None
none_step p true c x xs rest f e more = absurd (cc)
none_step p false true x xs rest f e more = rw f (more e)
none_step p false false x xs rest f e more = more e

none_chosen : (p q : Move → Bool) (xs : List Move) → find p xs ≡ None → find p (filter q xs) ≡ None
none_chosen p q [] e = refl
none_chosen p q (x ∷ xs) e = none_step p (p x) (q x) x xs (filter q xs) refl e (none_chosen p q xs)

none_withheld : (p : Move → Bool) (held : Bool) (xs : List Move) → find p xs ≡ None → find p (withheld held xs) ≡ None
unfolding held_back
none_withheld p false xs e = e
none_withheld p true xs e = by (nat_lt 0 (length (other_moves xs)))
  where
    by : (b : Bool) → find p (cond b (other_moves xs) xs) ≡ None
    by true = none_chosen p (λ mv. not (is_issue mv)) xs e
    by false = e

pub wrapped : (r : GuessRule) (plan : Plan) (s : State) (last : Move) (held : Bool) (o n : Option Move) → 1 ≤ kind_place last →
    o ≡ find (stands_after last) (filter (is_allowed plan s) (all_passing plan) ++ (filter (is_allowed plan s) (slides_from 0 plan.sidings)
    ++ filter (is_allowed plan s) (all_leaving plan))) → o ≡ None →
    IfSome n (λ next. Some next ≡ slice_get (withheld held (guided r plan s)) 0) → IfSome n (λ next. Some next
    ≡ slice_get (withheld held (guided r plan s)) (first_after (Some last) (withheld held (guided r plan s))))
unfolding rest_of guided
wrapped r plan s last held o n after e none first =
    let p = stands_after last in
    let nowhere : find p (candidates plan s) ≡ None = ap (find p) (in_parts plan s) ∙ found_second p (filter (is_allowed plan s) all_entering) (rest_of plan s)
    (entering_none last (is_allowed plan s) after) ∙ (sym e ∙ none) in
    let unguided : find p (guided r plan s) ≡ None = none_chosen p (keeps_move r plan s) (candidates plan s) nowhere in
    let zero_is = none_after last (withheld held (guided r plan s)) (none_withheld p held (guided r plan s) unguided) in
    rw zero_is first

pub found_soon : (r : GuessRule) (plan : Plan) (s : State) (last m : Move) (held : Bool) (o : Option Move) → 1 ≤ kind_place last →
    o ≡ find (stands_after last) (filter (is_allowed plan s) (all_passing plan) ++ (filter (is_allowed plan s) (slides_from 0 plan.sidings)
    ++ filter (is_allowed plan s) (all_leaving plan))) → o ≡ Some m →
    Some m ≡ slice_get (withheld held (guided r plan s)) (first_after (Some last) (withheld held (guided r plan s)))
unfolding guided
found_soon r plan s last m held o after e is = of held
  where
    there : find (stands_after last) (guided r plan s) ≡ Some m
    there = found-kept (stands_after last) (keeps_move r plan s) (candidates plan s) m (λ mv f. keeps-others r plan s mv (no_issue last mv after f))
        (found_candidate plan s last m after (sym e ∙ is))

    of : (b : Bool) → Some m ≡ slice_get (withheld b (guided r plan s)) (first_after (Some last) (withheld b (guided r plan s)))
    of true = found_after last (held_back (guided r plan s)) m
        (found_held (stands_after last) (guided r plan s) m (λ mv f. no_issue last mv after f) there)
    of false = found_after last (guided r plan s) m there

pub ruleset firsts = (first_held, first_issue, first_free)
