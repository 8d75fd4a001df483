-- What holds of a processor, and of its words, after results have fallen in turn.
use Rattle.std.proofs.Common.{◌≡◌, ◌∙◌, ℕ, ◌-◌, ◌<◌, List, [], ◌∷◌, Option, Some, None, true, false, IsTrue, refl, sym, ap, subst, arith}
use Rattle.std.specs.Prelude.{IsSome, not}
use Rattle.cf_bind.specs.declared.cell.Cell.{Cell}
use Rattle.cf_bind.specs.declared.moves.Bar.{Bar}
use Rattle.cf_bind.specs.declared.moves.Bar.TheVariants.{NoSuchSite}
use Rattle.cf_bind.specs.declared.moves.Move.TheVariants.{Fall, Launch}
use Rattle.cf_layout.specs.Layout.{Plan}
use Rattle.cf_semantics.specs.moves.Bars.{fall_bar, row_bar}
use Rattle.cf_semantics.specs.moves.Moves.{moved, without_packet}
use Rattle.cf_semantics.specs.moves.Moves.{fallen as stage_fallen}
use Rattle.cf_semantics.specs.state.Options.{is_some, on}
use Rattle.cf_semantics.specs.state.State.{State, cell_at, put_cell}
use Rattle.cf_stages.specs.Changes.{can_fall, cells_fallen, falls, with_new_packet}
use Rattle.cf_stages.specs.Falling.{FallInTurn, FallsOn, all_fallen, last_of}
use Rattle.cf_stages.proofs.InTurn.{fallen-off}
use Rattle.cf_stages.proofs.Neighbours.{falls-result}
use Rattle.cf_core.specs.Falling.{BarNoLaunch, FallsTo, fallen}
use Rattle.cf_core.specs.Marks.{keeps_marks, mark_at, marks_of, row_allows}
use Rattle.cf_core.specs.Places.{with_cells}
use Rattle.cf_core.specs.Processors.{IsProcessor, Processor, after_move, in_state}
use Rattle.cf_core.specs.declared.marks.Marks.{Marks}
use Rattle.cf_core.specs.declared.marks.StageMark.{StageMark}
use Rattle.cf_core.proofs.KeptMarks.{marks-same}
use Rattle.cf_core.proofs.SameStages.{Same}
use Rattle.cf_core.proofs.StillMarks.{moved-same}
use Rattle.cf_core.proofs.moves.KeptStages.{fall-kept}

-- the state with other contents of the stages
abbrev with_stages : State → List Cell → State
with_stages s cells = record s { cells = cells }

-- One Fall --

pub moved-fall : (plan : Plan) (s : State) (k : ℕ) → moved plan s (Fall k) ≡ with_stages s (cells_fallen s.cells k)
unfolding moved cells_fallen
moved-fall plan s k = by (cell_at s.cells k) (cell_at s.cells (k - 1))
  where
    by : (o a : Option Cell) → on o s (λ c. on a s (stage_fallen s k c))
        ≡ with_stages s (on o s.cells (λ c. on a s.cells (λ d. put_cell (put_cell s.cells k (without_packet c)) (k - 1) (with_new_packet c.packet d))))
    by None a = refl
    by (Some c) None = refl
    by (Some c) (Some d) = refl

-- no test in its row holds if and only if the result can fall
pub falls-row : (plan : Plan) (s : State) (k : ℕ) → not (is_some (row_bar plan s (Fall k))) ≡ falls s.cells k
unfolding falls
falls-row plan s k = by (cell_at s.cells k) (cell_at s.cells (k - 1))
  where
    by : (o a : Option Cell) → not (is_some (on o (Some NoSuchSite) (λ c. fall_bar c a))) ≡ on o false (λ c. can_fall c a)
    by None a = refl
    by (Some c) None = refl
    by (Some c) (Some d) = grind arith

no_bar : (o : Option Bar) → not (is_some o) ≡ true → o ≡ None
no_bar None e = refl
no_bar (Some b) e = absurd (cc)

pub falls-free : (plan : Plan) (s : State) (k : ℕ) → IsTrue (falls s.cells k) → row_bar plan s (Fall k) ≡ None
falls-free plan s k free = no_bar (row_bar plan s (Fall k)) (falls-row plan s k ∙ free)

-- Falls in turn --

-- the processor is the one with the stages after them
pub fallen-cells : (p : Processor) (stages : List ℕ) → fallen p stages ≡ with_cells p (all_fallen p.state.cells stages)
unfolding fallen all_fallen
fallen-cells p [] = refl
fallen-cells p (i ∷ stages) =
    ap (λ (x : Processor). after_move x (Fall i)) (fallen-cells p stages)
    ∙ ap (in_state p) (moved-fall p.plan (with_stages p.state (all_fallen p.state.cells stages)) i)

-- stages above the last are as they were
pub above-last : (cells : List Cell) (a k : ℕ) (stages : List ℕ) → FallInTurn cells a stages → last_of a stages < k →
    cell_at (all_fallen cells stages) k ≡ cell_at cells k
unfolding FallInTurn all_fallen
above-last cells a k [] turns above = refl
above-last cells a k (i ∷ stages) turns above =
    let next = turns.1.above in
    fallen-off (all_fallen cells stages) i k (λ g. absurd (omega (arith, above, g))) (λ g. absurd (omega (arith, above, g)))
    ∙ above-last cells a k stages turns.0 (omega (arith, above, next))

-- what holds of every processor is kept
kept_along : (plan : Plan) (s : State) (stages : List ℕ) → IsProcessor plan s → IsProcessor plan (with_stages s (all_fallen s.cells stages))
unfolding all_fallen
kept_along plan s [] h = h
kept_along plan s (i ∷ stages) h =
    let t = with_stages s (all_fallen s.cells stages) in
    subst (λ (u : State). IsProcessor plan u) (moved-fall plan t i) (fall-kept plan t i (kept_along plan s stages h))

-- the same holds of each stage
launch_mark : (plan : Plan) (s : State) (k : ℕ) → (mark_at plan s k).launch ≡ row_allows plan s (Launch k)
unfolding mark_at
launch_mark plan s k = refl

keeps_fall : (plan : Plan) (s : State) (i : ℕ) → row_allows plan s (Launch (i - 1)) ≡ false → keeps_marks plan s (Fall i) ≡ true
unfolding keeps_marks
keeps_fall plan s i e = rw e refl

same_along : (plan : Plan) (s : State) (a : ℕ) (stages : List ℕ) → FallInTurn s.cells a stages → BarNoLaunch plan s →
    Same plan s (with_stages s (all_fallen s.cells stages))
unfolding FallInTurn all_fallen BarNoLaunch
same_along plan s a [] turns quiet k = refl
same_along plan s a (i ∷ stages) turns quiet k =
    let t = with_stages s (all_fallen s.cells stages) in
    let so_far = same_along plan s a stages turns.0 quiet in
    let there = subst (λ (o : Option Cell). IsSome (on o None (λ c. c.packet))) (above-last s.cells a i stages turns.0 turns.1.above)
    (falls-result t.cells i turns.1.free) in
    let barred = sym (launch_mark plan t (i - 1)) ∙ ap (λ (m : StageMark). m.launch) (so_far (i - 1)) ∙ launch_mark plan s (i - 1) ∙ quiet i there in
    let one = moved-same plan t (Fall i) (falls-free plan t i turns.1.free) (keeps_fall plan t i barred) in
    ap (λ (u : State). mark_at plan u k) (sym (moved-fall plan t i)) ∙ one k ∙ so_far k

-- what holds of the processor then
pub fallen-facts : (p new : Processor) (w count last : ℕ) → IsProcessor p.plan p.state → FallsOn p.state.cells w new.state.cells count last →
    new ≡ with_cells p new.state.cells → IsProcessor new.plan new.state
fallen-facts p new w count last h falls is =
    let there = is ∙ ap (with_cells p) falls.new_is in
    rw there (kept_along p.plan p.state falls.stages h)

pub fallen-marks : (p new : Processor) (marks : Marks) (w count last : ℕ) → BarNoLaunch p.plan p.state →
    FallsOn p.state.cells w new.state.cells count last → new ≡ with_cells p new.state.cells → marks ≡ marks_of p.plan p.state →
    marks ≡ marks_of new.plan new.state
fallen-marks p new marks w count last quiet falls is kept =
    let there = is ∙ ap (with_cells p) falls.new_is in
    kept ∙ marks-same p.plan p.state _ (same_along p.plan p.state falls.start falls.stages falls.in_turn quiet)
    ∙ ap (λ (q : Processor). marks_of q.plan q.state) (sym there)

pub falls-to : (p new : Processor) (w count last : ℕ) → FallsOn p.state.cells w new.state.cells count last → new ≡ with_cells p new.state.cells →
    FallsTo p new w count last
falls-to p new w count last falls is =
    record { falls = falls; is = is ∙ ap (with_cells p) falls.new_is ∙ sym (fallen-cells p falls.stages) }
