-- How many of the moves that enter, of those within the sidings and of those that leave come before the first one after
-- another move.
use Rattle.std.proofs.Common.{◌≡◌, ◌∙◌, sym, refl, ap, ℕ, ◌+◌, ◌*◌, ◌/◌, ◌%◌, ◌<◌, ◌≤◌, ◌++◌, List, length, Bool, false, nat_lt, arith}
use Rattle.std.specs.Prelude.{filter, not, if◌then◌else◌}
use Rattle.std.proofs.lemmas.Bool.Decides.{nat_tests}
use mir.Val.{bool_byte}
use Rattle.cf_layout.specs.Words.{has_bit}
use Rattle.cf_bind.specs.declared.passenger.Guess.TheVariants.{Next, Taken, Wait}
use Rattle.cf_bind.specs.declared.moves.Move.{Move}
use Rattle.cf_bind.specs.declared.moves.Move.TheVariants.{Issue, Emit, Slide, Access, Recover, Leave, Exit, Serve}
use Rattle.cf_semantics.specs.moves.Candidates.{counted_from}
use Rattle.cf_index.specs.declared.entering.Entering.{Entering}
use Rattle.cf_index.specs.declared.leaving.Leaving.{Leaving}
use Rattle.cf_index.specs.Places.{set_places}
use Rattle.cf_index.specs.Listed.{flagged, slide_at, slides_of, entering_moves, leaving_moves}
use Rattle.cf_index.specs.Order.{kind_place, below_or, stands_after, passed_moves}
use Rattle.cf_index.proofs.Parts.{length_flag}
use Rattle.cf_index.proofs.Passed.{earlier, later, map_all, map_none, map_part, ascending, passed_all, passed_part, step_all, step_part, word_all, word_none, flag_all, flag_none, both_none, both_all, up_to}

-- Emit does not come after itself, nor after a move of a later kind
not_emit : (last : Move) → 1 ≤ kind_place last → stands_after last Emit ≡ false
not_emit last after = grind (arith, nat_tests)

-- after Emit or a move of a later kind all that enter are passed
pub entering_all : (e : Entering) (last : Move) → 1 ≤ kind_place last → passed_moves last (entering_moves e) ≡ length (entering_moves e)
unfolding entering_moves
entering_all e last after =
    both_all last _ _ (flag_all last e.next (Issue Next) (earlier last (Issue Next) (omega arith))) (
    both_all last _ _ (flag_all last e.taken (Issue Taken) (earlier last (Issue Taken) (omega arith))) (
    both_all last _ _ (flag_all last e.wait (Issue Wait) (earlier last (Issue Wait) (omega arith))) (flag_all last e.emit Emit (not_emit last after))))

-- how many of a siding's 8 cells are passed after a move from cell c: those up to it
abbrev cells_up_to : ℕ → ℕ
cells_up_to c = if nat_lt c 7 then c + 1 else 8

within_up_to : (k c j : ℕ) → not (below_or k (j / 8) (nat_lt c (j % 8))) ≡ nat_lt j (8 * k + cells_up_to c)
within_up_to k c j = grind (arith, nat_tests)

-- the moves within the sidings, after one of them
pub passed_slides : (w k c : ℕ) → passed_moves (Slide k c) (slides_of w) ≡ length (filter (λ j. nat_lt j (8 * k + cells_up_to c)) (set_places 64 w))
unfolding slides_of set_places
passed_slides w k c = map_part (Slide k c) slide_at (8 * k + cells_up_to c) (filter (has_bit w) (counted_from 0 64)) (λ j. within_up_to k c j)
    ∙ ascending (has_bit w) (8 * k + cells_up_to c) 0 64

pub slides_none : (w : ℕ) (last : Move) → kind_place last < 8 → passed_moves last (slides_of w) ≡ 0
unfolding slides_of
slides_none w last before = map_none last slide_at (set_places 64 w) (λ j. later last (slide_at j) (omega arith))

pub slides_all : (w : ℕ) (last : Move) → 8 < kind_place last → passed_moves last (slides_of w) ≡ length (slides_of w)
unfolding slides_of
slides_all w last after = map_all last slide_at (set_places 64 w) (λ j. earlier last (slide_at j) (omega arith))

-- after a move of an earlier kind none of those that leave is passed
pub leaving_none : (l : Leaving) (last : Move) → kind_place last < 9 → passed_moves last (leaving_moves l) ≡ 0
unfolding leaving_moves
leaving_none l last before =
    both_none last _ _ (flag_none last l.access Access (later last Access (omega arith))) (
    both_none last _ _ (word_none last Recover l.recover (λ k. later last (Recover k) (omega arith))) (
    both_none last _ _ (flag_none last l.leave Leave (later last Leave (omega arith))) (
    both_none last _ _ (flag_none last l.exit Exit (later last Exit (omega arith))) (flag_none last l.serve Serve (later last Serve (omega arith))))))

-- such a move is of any kind but those that leave
pub enters_or_passes : (last : Move) → (last ≡ Access → ⊥) → ((i : ℕ) → last ≡ Recover i → ⊥) → (last ≡ Leave → ⊥) → (last ≡ Exit → ⊥) → (last ≡ Serve → ⊥) →
    kind_place last < 9
enters_or_passes Access access recover leave exit serve = absurd (access refl)
enters_or_passes (Recover i) access recover leave exit serve = absurd (recover i refl)
enters_or_passes Leave access recover leave exit serve = absurd (leave refl)
enters_or_passes Exit access recover leave exit serve = absurd (exit refl)
enters_or_passes Serve access recover leave exit serve = absurd (serve refl)
enters_or_passes last access recover leave exit serve = omega arith

-- the move of a flag is passed, before others
flag_step : (last : Move) (b : Bool) (mv : Move) (ys : List Move) → stands_after last mv ≡ false →
    passed_moves last (flagged b mv ++ ys) ≡ bool_byte b + passed_moves last ys
flag_step last b mv ys before = passed_all last (flagged b mv) ys (flag_all last b mv before) ∙ rw (length_flag b mv) refl

-- the same before others of which none is passed
flag_last : (last : Move) (b : Bool) (mv : Move) (ys : List Move) → stands_after last mv ≡ false → passed_moves last ys ≡ 0 →
    passed_moves last (flagged b mv ++ ys) ≡ bool_byte b
flag_last last b mv ys before none = passed_part last (flagged b mv) ys none ∙ flag_all last b mv before ∙ sym (length_flag b mv)

pub passed_access : (l : Leaving) → passed_moves Access (leaving_moves l) ≡ bool_byte l.access
unfolding leaving_moves
passed_access l =
    flag_last Access l.access Access _ refl (
    both_none Access _ _ (word_none Access Recover l.recover (λ k. refl)) (
    both_none Access _ _ (flag_none Access l.leave Leave refl) (
    both_none Access _ _ (flag_none Access l.exit Exit refl) (flag_none Access l.serve Serve refl))))

pub passed_recover : (l : Leaving) (i : ℕ) → passed_moves (Recover i) (leaving_moves l) ≡ bool_byte l.access + length
    (filter (λ k. nat_lt k i) (set_places 64 l.recover))
unfolding leaving_moves
passed_recover l i =
    flag_step (Recover i) l.access Access _ refl ∙ ap (λ n. bool_byte l.access + n) (
    step_part (Recover i) Recover i l.recover _ (λ k. up_to i k) (
    both_none (Recover i) _ _ (flag_none (Recover i) l.leave Leave refl) (
    both_none (Recover i) _ _ (flag_none (Recover i) l.exit Exit refl) (flag_none (Recover i) l.serve Serve refl))))

pub passed_leave : (l : Leaving) → passed_moves Leave (leaving_moves l) ≡ bool_byte l.access + (length (set_places 64 l.recover) + bool_byte l.leave)
unfolding leaving_moves
passed_leave l =
    flag_step Leave l.access Access _ refl ∙ ap (λ n. bool_byte l.access + n) (
    step_all Leave Recover l.recover _ (λ k. refl) ∙ ap (λ n. length (set_places 64 l.recover) + n) (
    flag_last Leave l.leave Leave _ refl (
    both_none Leave _ _ (flag_none Leave l.exit Exit refl) (flag_none Leave l.serve Serve refl))))

pub passed_exit : (l : Leaving) → passed_moves Exit (leaving_moves l) ≡ bool_byte l.access +
    (length (set_places 64 l.recover) + (bool_byte l.leave + bool_byte l.exit))
unfolding leaving_moves
passed_exit l =
    flag_step Exit l.access Access _ refl ∙ ap (λ n. bool_byte l.access + n) (
    step_all Exit Recover l.recover _ (λ k. refl) ∙ ap (λ n. length (set_places 64 l.recover) + n) (
    flag_step Exit l.leave Leave _ refl ∙ ap (λ n. bool_byte l.leave + n) (
    flag_last Exit l.exit Exit _ refl (flag_none Exit l.serve Serve refl))))

pub passed_serve : (l : Leaving) → passed_moves Serve (leaving_moves l) ≡ length (leaving_moves l)
unfolding leaving_moves
passed_serve l =
    both_all Serve _ _ (flag_all Serve l.access Access refl) (
    both_all Serve _ _ (word_all Serve Recover l.recover (λ k. refl)) (
    both_all Serve _ _ (flag_all Serve l.leave Leave refl) (
    both_all Serve _ _ (flag_all Serve l.exit Exit refl) (flag_all Serve l.serve Serve refl))))

pub ruleset leaving = (passed_access, passed_recover, passed_leave, passed_exit, passed_serve)
