-- How many candidates come before the first one after another move.
use Rattle.std.proofs.Common.{◌≡◌, ◌∙◌, refl, ap, ℕ, ◌+◌, ◌<◌, ◌++◌, List, [], ◌∷◌, length, None, true, nat_lt, arith}
use Rattle.std.proofs.lemmas.Bool.Decides.{nat_tests}
use Rattle.cf_bind.specs.declared.moves.Move.{Move}
use Rattle.cf_index.specs.declared.entering.Entering.{Entering}
use Rattle.cf_index.specs.declared.passing.Passing.{Passing}
use Rattle.cf_index.specs.declared.leaving.Leaving.{Leaving}
use Rattle.cf_index.specs.Places.{set_places}
use Rattle.cf_index.specs.Listed.{entering_moves, passing_moves, slides_of, leaving_moves}
use Rattle.cf_index.specs.Order.{kind_place, passed_moves, first_after}
use Rattle.cf_index.proofs.Parts.{length-slides_of}
use Rattle.cf_index.proofs.Passed.{passed_all, passed_part, both_none}
use Rattle.cf_index.proofs.PassedStages.{passing_none, passing_all}
use Rattle.cf_index.proofs.PassedEnds.{entering_all, slides_none, slides_all, leaving_none}

-- the candidates by their parts
abbrev whole : Entering → Passing → ℕ → Leaving → List Move
whole e p w l = entering_moves e ++ (passing_moves p ++ (slides_of w ++ leaving_moves l))

-- after a move that enters
pub passed_entering : (e : Entering) (p : Passing) (w : ℕ) (l : Leaving) (last : Move) → kind_place last < 2 →
    passed_moves last (whole e p w l) ≡ passed_moves last (entering_moves e)
passed_entering e p w l last before =
    passed_part last (entering_moves e) _ (
    both_none last _ _ (passing_none p last before) (
    both_none last _ _ (slides_none w last (omega arith)) (leaving_none l last (omega arith))))

-- after a move in the stages
pub passed_passing : (e : Entering) (p : Passing) (w : ℕ) (l : Leaving) (last : Move) → 1 < kind_place last → kind_place last < 8 →
    passed_moves last (whole e p w l) ≡ length (entering_moves e) + passed_moves last (passing_moves p)
passed_passing e p w l last after before =
    passed_all last (entering_moves e) _ (entering_all e last (omega arith)) ∙ ap (λ n. length (entering_moves e) + n) (
    passed_part last (passing_moves p) _ (both_none last _ _ (slides_none w last before) (leaving_none l last (omega arith))))

-- after a move within the sidings
pub passed_sliding : (e : Entering) (p : Passing) (w : ℕ) (l : Leaving) (last : Move) → 7 < kind_place last → kind_place last < 9 →
    passed_moves last (whole e p w l) ≡ length (entering_moves e) + (length (passing_moves p) + passed_moves last (slides_of w))
passed_sliding e p w l last after before =
    passed_all last (entering_moves e) _ (entering_all e last (omega arith)) ∙ ap (λ n. length (entering_moves e) + n) (
    passed_all last (passing_moves p) _ (passing_all p last after) ∙ ap (λ n. length (passing_moves p) + n) (
    passed_part last (slides_of w) _ (leaving_none l last before)))

-- after a move that leaves
pub passed_leaving : (e : Entering) (p : Passing) (w : ℕ) (l : Leaving) (last : Move) → 8 < kind_place last →
    passed_moves last (whole e p w l) ≡ length (entering_moves e) + (length (passing_moves p) +
    (length (set_places 64 w) + passed_moves last (leaving_moves l)))
passed_leaving e p w l last after =
    passed_all last (entering_moves e) _ (entering_all e last (omega arith)) ∙ ap (λ n. length (entering_moves e) + n) (
    passed_all last (passing_moves p) _ (passing_all p last (omega arith)) ∙ ap (λ n. length (passing_moves p) + n) (
    passed_all last (slides_of w) _ (slides_all w last after) ∙ rw (length-slides_of w) refl))

-- if there is no last move, the first one comes next
pub no_last : (moves : List Move) → 0 ≡ first_after None moves
unfolding first_after
no_last [] = refl
no_last (mv ∷ moves) = let e : nat_lt 0 (length (mv ∷ moves)) ≡ true = grind (arith, nat_tests) in rw e refl
