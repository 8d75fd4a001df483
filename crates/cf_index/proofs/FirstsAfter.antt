-- The first move of a list that comes after another.
use Rattle.std.proofs.Common.{◌≡◌, ◌∙◌, sym, refl, ap, ℕ, ◌^◌, ◌<◌, ◌≤◌, List, [], ◌∷◌, ◌++◌, length, Bool, true, false, cond, nat_lt, Option, Some, None, arith}
use Rattle.std.specs.Prelude.{filter, find, not, slice_get}
use Rattle.std.specs.List.{position_or_len}
use Rattle.std.specs.Int.{trailing_zeros}
use Rattle.std.proofs.lemmas.Bool.Decides.{nat_tests}
use Rattle.std.proofs.lemmas.List.Folds.{find_at}
use Rattle.std.proofs.lemmas.Option.{slice_get_within}
use mir.Syntax.{w64}
use Rattle.cf_layout.specs.Layout.{Plan}
use Rattle.cf_bind.specs.declared.moves.Move.{Move}
use Rattle.cf_bind.specs.declared.moves.Move.TheVariants.{Issue, Emit}
use Rattle.cf_bind.specs.declared.passenger.Guess.{Guess}
use Rattle.cf_bind.specs.declared.passenger.Guess.TheVariants.{Next, Taken, Wait}
use Rattle.cf_semantics.specs.moves.Candidates.{candidates, held_back, other_moves, slides_from}
use Rattle.cf_semantics.specs.state.State.{State}
use Rattle.cf_semantics.specs.claims.Weight.{is_issue}
use Rattle.cf_index.specs.Allowed.{all_entering, all_leaving, all_passing, is_allowed}
use Rattle.cf_index.specs.Order.{first_after, kind_place, stands_after}
use Rattle.cf_index.specs.Places.{set_places}
use Rattle.cf_index.proofs.Filled.{all_chosen}
use Rattle.cf_index.proofs.Passed.{earlier}
use Rattle.cf_index.proofs.Places.{lowest, places_zero}

-- the lowest number of a word
pub lowest_place : (w : ℕ) → w < 2 ^ 32 → 0 < w → Some (trailing_zeros w64 w) ≡ slice_get (set_places 64 w) 0
lowest_place w small some = sym (lowest w some (omega arith))

pub no_place : (w : ℕ) → w ≡ 0 → None ≡ slice_get (set_places 64 w) 0
no_place w none = rw (none, places_zero 64) refl

-- what is found in a part is found in the whole, if the part before it has none
first_choice : (b : Bool) (x m : Move) (o q : Option Move) → (o ≡ Some m → q ≡ Some m) → cond b (Some x) o ≡ Some m → cond b (Some x) q ≡ Some m
first_choice true x m o q more at = at
first_choice false x m o q more at = more at

pub found_first : (p : Move → Bool) (xs ys : List Move) (m : Move) → find p xs ≡ Some m → find p (xs ++ ys) ≡ Some m
found_first p [] ys m e = absurd (cc)
found_first p (x ∷ xs) ys m e = first_choice (p x) x m (find p xs) (find p (xs ++ ys)) (λ f. found_first p xs ys m f) e

second_choice : (b : Bool) (x : Move) (o q r : Option Move) → (o ≡ None → q ≡ r) → cond b (Some x) o ≡ None → cond b (Some x) q ≡ r
second_choice true x o q r more at = absurd (cc)
second_choice false x o q r more at = more at

pub found_second : (p : Move → Bool) (xs ys : List Move) → find p xs ≡ None → find p (xs ++ ys) ≡ find p ys
found_second p [] ys e = refl
found_second p (x ∷ xs) ys e = second_choice (p x) x (find p xs) (find p (xs ++ ys)) (find p ys) (λ f. found_second p xs ys f) e

-- the allowed moves that do not enter
abbrev pub others_allowed : Plan → State → List Move
others_allowed plan s = filter (is_allowed plan s) (all_passing plan) ++ (filter (is_allowed plan s) (slides_from 0 plan.sidings)
    ++ filter (is_allowed plan s) (all_leaving plan))

-- no move that enters comes after Emit or after a move of a later kind
step_none : (p : Move → Bool) (b : Bool) (x : Move) (xs : List Move) → p x ≡ false → find p xs ≡ None → find p (cond b (x ∷ xs) xs) ≡ None
step_none p true x xs off rest = rw off rest
step_none p false x xs off rest = rest

not_emit : (last : Move) → 1 ≤ kind_place last → stands_after last Emit ≡ false
not_emit last after = grind (arith, nat_tests)

pub entering_none : (last : Move) (q : Move → Bool) → 1 ≤ kind_place last → find (stands_after last) (filter q all_entering) ≡ None
entering_none last q after =
    step_none (stands_after last) (q (Issue Next)) (Issue Next) _ (earlier last (Issue Next) (omega arith)) (
    step_none (stands_after last) (q (Issue Taken)) (Issue Taken) _ (earlier last (Issue Taken) (omega arith)) (
    step_none (stands_after last) (q (Issue Wait)) (Issue Wait) _ (earlier last (Issue Wait) (omega arith)) (
    step_none (stands_after last) (q Emit) Emit [] (not_emit last after) refl)))

pub found_candidate : (plan : Plan) (s : State) (last m : Move) → 1 ≤ kind_place last → find (stands_after last) (others_allowed plan s) ≡ Some m →
    find (stands_after last) (candidates plan s) ≡ Some m
found_candidate plan s last m after found =
    let q = is_allowed plan s in
    let parts = all_chosen plan s (filter q all_entering) (filter q (all_passing plan)) (filter q (slides_from 0 plan.sidings))
    (filter q (all_leaving plan)) refl refl refl refl in
    let whole : find (stands_after last) (filter q all_entering ++ (filter q (all_passing plan)
    ++ (filter q (slides_from 0 plan.sidings) ++ filter q (all_leaving plan)))) ≡ Some m =
    found_second (stands_after last) (filter q all_entering) _ (entering_none last q after) ∙ found in
    ap (find (stands_after last)) (sym parts) ∙ whole

-- and with Issue held back it is the first too, if it is not an Issue
others_choice : (p : Move → Bool) (x : Move) (xs rest : List Move) (m : Move) (b i : Bool) → p x ≡ b → (b ≡ true → i ≡ false) →
    (find p xs ≡ Some m → find p rest ≡ Some m) → cond b (Some x) (find p xs) ≡ Some m → find p (cond (not i) (x ∷ rest) rest) ≡ Some m
others_choice p x xs rest m true false e other more at = rw e at
others_choice p x xs rest m true true e other more at = absurd (cc (other refl))
others_choice p x xs rest m false false e other more at = rw e (more at)
others_choice p x xs rest m false true e other more at = more at

found_other : (p : Move → Bool) (xs : List Move) (m : Move) → ((mv : Move) → p mv ≡ true → is_issue mv ≡ false) → find p xs ≡ Some m →
    find p (other_moves xs) ≡ Some m
found_other p [] m other e = absurd (cc)
found_other p (x ∷ xs) m other e = others_choice p x xs (other_moves xs) m (p x) (is_issue x) refl (other x) (λ f. found_other p xs m other f) e

found_there : (p : Move → Bool) (xs : List Move) (m : Move) → find p xs ≡ Some m → position_or_len p xs < length xs
found_there p xs m e = slice_get_within xs (position_or_len p xs) m (sym (find_at p xs) ∙ e)

pub found_held : (p : Move → Bool) (xs : List Move) (m : Move) → ((mv : Move) → p mv ≡ true → is_issue mv ≡ false) → find p xs ≡ Some m →
    find p (held_back xs) ≡ Some m
unfolding held_back
found_held p xs m other e =
    let f = found_other p xs m other e in
    let w = found_there p (other_moves xs) m f in
    let some : nat_lt 0 (length (other_moves xs)) ≡ true = grind (arith, nat_tests) in
    rw some f

-- the move that is found is at the index of the first move after the last one
pub found_after : (last : Move) (xs : List Move) (m : Move) → find (stands_after last) xs ≡ Some m → Some m ≡ slice_get xs (first_after (Some last) xs)
unfolding first_after
found_after last xs m e =
    let p = stands_after last in
    let at = sym (find_at p xs) ∙ e in
    let w = slice_get_within xs (position_or_len p xs) m at in
    let t : nat_lt (position_or_len p xs) (length xs) ≡ true = grind (arith, nat_tests) in
    rw t (sym at)

pub no_issue : (last mv : Move) → 1 ≤ kind_place last → stands_after last mv ≡ true → is_issue mv ≡ false
no_issue last (Issue g) after e = let off = earlier last (Issue g) (omega arith) in absurd (cc)
no_issue last mv after e = refl

pub no_issue_first : (last : Move) → ((g : Guess) → last ≡ Issue g → ⊥) → 1 ≤ kind_place last
no_issue_first (Issue g) other = absurd (other g refl)
no_issue_first last other = omega arith
