-- A move that can be made uses stages and cells of sidings that the layout has.
use Rattle.std.proofs.Common.{◌≡◌, ℕ, zero, suc, ◌+◌, ◌-◌, ◌<◌, ◌≤◌, Bool, true, false, List, [], ◌∷◌, length, map, Option, Some, None, refl, arith}
use Rattle.std.specs.Prelude.{slice_get, unwrap_or, filter, ◌==◌, not, if◌then◌else◌}
use Rattle.std.specs.List.{AllByRecursion}
use Rattle.std.proofs.lemmas.Option.{slice_get_within}
use Rattle.cf_layout.specs.Accepted.{IsAccepted}
use Rattle.cf_layout.specs.Layout.{Plan, SidingPlan, no_siding, launch_stage, recover_stage, cells_of}
use Rattle.cf_bind.specs.declared.cell.Cell.{Cell}
use Rattle.cf_bind.specs.declared.cell.Op.{Op}
use Rattle.cf_bind.specs.declared.moves.Bar.{Bar}
use Rattle.cf_bind.specs.declared.moves.Bar.TheVariants.{NoSuchSite, OpNotThere, Occupied}
use Rattle.cf_bind.specs.declared.moves.Move.{Move}
use Rattle.cf_bind.specs.declared.moves.Move.TheVariants.{Issue, Emit, Climb, Fall, Meet, Execute, Send, Launch, Slide, Access, Recover, Leave, Exit, Serve}
use Rattle.cf_semantics.specs.moves.Bars.{bar, row_bar, last_op, access_bar, slide_bar, climb_bar, fall_bar, first_bar_of, cell_is_taken}
use Rattle.cf_semantics.specs.moves.Candidates.{counted_from}
use Rattle.cf_semantics.specs.state.Layouts.{port}
use Rattle.cf_semantics.specs.state.Options.{on, is_some}
use Rattle.cf_semantics.specs.moves.Sites.{Site}
use Rattle.cf_semantics.specs.state.State.{State, cell_at, siding_at}
use Rattle.theory_refinement.proofs.moves.Rows.{bar_row}
use Rattle.cf_index.specs.Sites.{HasSites, LayoutHasSite, way_in, way_out, ways_in, ways_out}
use Rattle.cf_index.proofs.SiteWords.{siding_within}
use Rattle.cf_core.specs.Processors.{IsProcessor}
use Rattle.cf_index.specs.Alone.{HasSidings}

-- the stage that a row tests exists
record IsFound (cell : Option Cell) (onward : Cell → Option Bar) : Type 0 where
  here : Cell
  is : cell ≡ Some here
  rest : onward here ≡ None

found_at : (cell : Option Cell) (onward : Cell → Option Bar) → on cell (Some NoSuchSite) onward ≡ None → IsFound cell onward
found_at None onward e = absurd (cc)
found_at (Some c) onward e = record { here = c; is = refl; rest = e }

cell_there : (cells : List Cell) (i n : ℕ) (c : Cell) → length cells ≡ n → cell_at cells i ≡ Some c → (1 ≤ i) × (i ≤ n)
cell_there cells zero n c size e = absurd (cc)
cell_there cells (suc i) n c size e = (omega arith, omega (arith, slice_get_within cells i c e))

at_stage : (s : State) (i n : ℕ) (onward : Cell → Option Bar) → length s.cells ≡ n → on (cell_at s.cells i) (Some NoSuchSite) onward ≡ None → (1 ≤ i) × (i ≤ n)
at_stage s i n onward size e = let f = found_at (cell_at s.cells i) onward e in cell_there s.cells i n f.here size f.is

-- the cells at the ends of the sidings that pass a test exist
all_where : (plan : Plan) (f : ℕ → Site) (test : ℕ → Bool) (first n : ℕ) → ((k : ℕ) → k < first + n → LayoutHasSite plan (f k)) →
    AllByRecursion (LayoutHasSite plan) (map f (filter test (counted_from first n)))
all_where plan f test first zero h = tt
all_where plan f test first (suc n) h = by (test first) (all_where plan f test (suc first) n (λ k within. h k (omega (arith, within))))
  where
    by : (b : Bool) → AllByRecursion (LayoutHasSite plan) (map f (filter test (counted_from (suc first) n)))
        → AllByRecursion (LayoutHasSite plan) (map f (if b then first ∷ filter test (counted_from (suc first) n) else filter test (counted_from (suc first) n)))
    by true rest = (h first (omega arith), rest)
    by false rest = rest

first_cells : (plan : Plan) (i : ℕ) → IsAccepted plan → AllByRecursion (LayoutHasSite plan) (ways_in plan i)
unfolding ways_in
first_cells plan i accepted = all_where plan way_in (λ k. launch_stage plan k == i) 0 (length plan.sidings) (λ k within. here k (omega (arith, within)))
  where
    here : (k : ℕ) → k < length plan.sidings → LayoutHasSite plan (way_in k)
    here k within = (within, omega (arith, (siding_within plan k accepted within).0))

last_place : (plan : Plan) (k : ℕ) → IsAccepted plan → k < length plan.sidings → LayoutHasSite plan (way_out plan k)
last_place plan k accepted within = (within, omega (arith, (siding_within plan k accepted within).0))

last_cells : (plan : Plan) (i : ℕ) → IsAccepted plan → AllByRecursion (LayoutHasSite plan) (ways_out plan i)
unfolding ways_out
last_cells plan i accepted = all_where plan (way_out plan) (λ k. recover_stage plan k == i) 0 (length plan.sidings)
    (λ k within. last_place plan k accepted (omega (arith, within)))

-- a siding with a cell is one of the layout's
past : (plans : List SidingPlan) (k : ℕ) → 0 < (unwrap_or (slice_get plans k) no_siding).cells → k < length plans
past [] k h = absurd (omega arith)
past (plan ∷ plans) zero h = omega arith
past (plan ∷ plans) (suc k) h = omega (arith, past plans k h)

with_cell : (plan : Plan) (k : ℕ) → 0 < cells_of plan k → k < length plan.sidings
unfolding cells_of
with_cell plan k h = past plan.sidings k h

last_some : (ops : List (Option Op)) → access_bar (last_op ops) ≡ None → 0 < length ops
last_some [] e = absurd (cc)
last_some (o ∷ ops) e = omega arith

slid_within : (ops : List (Option Op)) (c : ℕ) → slide_bar ops c ≡ None → c + 1 < length ops
slid_within ops c e = go (slice_get ops (c + 1)) refl e
  where
    go : (cell : Option (Option Op)) → slice_get ops (c + 1) ≡ cell → on cell (Some NoSuchSite)
        (λ o. first_bar_of ((not (cell_is_taken (slice_get ops c)), OpNotThere) ∷ (is_some o, Occupied) ∷ []) None) ≡ None → c + 1 < length ops
    go None is f = absurd (cc)
    go (Some o) is f = slice_get_within ops (c + 1) o is

pub there : (plan : Plan) (s : State) (mv : Move) → IsAccepted plan → length s.cells ≡ plan.stages → HasSidings plan s → bar plan s mv ≡ None → HasSites plan mv
there plan s mv accepted size sidings free = row mv (bar_row plan s mv free)
  where
    top : (1 ≤ plan.stages) × (plan.stages ≤ plan.stages)
    top = (omega (arith, accepted.stages.0), omega arith)

    bottom : (1 ≤ 1) × (1 ≤ plan.stages)
    bottom = (omega arith, omega (arith, accepted.stages.0))

    row : (mv : Move) → row_bar plan s mv ≡ None → HasSites plan mv
    row (Issue g) e = (bottom, (tt, (tt, (tt, tt))))
    row Emit e = (top, (tt, tt))
    row (Climb i) e =
        let f = found_at (cell_at s.cells i) (λ c. climb_bar plan c i (cell_at s.cells (i + 1))) e in
        (cell_there s.cells i plan.stages f.here size f.is, (at_stage s (i + 1) plan.stages _ size f.rest, tt))
    row (Fall i) e =
        let f = found_at (cell_at s.cells i) (λ c. fall_bar c (cell_at s.cells (i - 1))) e in
        (cell_there s.cells i plan.stages f.here size f.is, (at_stage s (i - 1) plan.stages _ size f.rest, tt))
    row (Meet i) e = (at_stage s i plan.stages _ size e, tt)
    row (Execute i) e = (at_stage s i plan.stages _ size e, tt)
    row (Send i) e = (at_stage s i plan.stages _ size e, tt)
    row (Launch i) e = (at_stage s i plan.stages _ size e, first_cells plan i accepted)
    row (Slide k c) e =
        let within : c + 1 < length (siding_at s k) = slid_within (siding_at s k) c e in
        let cells : c + 1 < cells_of plan k = omega (arith, within, sidings k) in
        let siding : k < length plan.sidings = with_cell plan k (omega (arith, cells)) in
        ((siding, omega (arith, cells)), ((siding, cells), tt))
    row Access e =
        let some : 0 < length (siding_at s (port plan)) = last_some (siding_at s (port plan)) e in
        let siding : port plan < length plan.sidings = with_cell plan (port plan) (omega (arith, some, sidings (port plan))) in
        (last_place plan (port plan) accepted siding, (tt, tt))
    row (Recover i) e = (at_stage s i plan.stages _ size e, last_cells plan i accepted)
    row Leave e = (top, tt)
    row Exit e = (bottom, (tt, tt))
    row Serve e = (top, (tt, (tt, tt)))

-- every processor has the cells of its layout
same_cells : (sidings : List (List (Option Op))) (plans : List SidingPlan) (k : ℕ) → map length sidings ≡ map (λ siding. siding.cells) plans
    → length (on (slice_get sidings k) [] (λ ops. ops)) ≡ (unwrap_or (slice_get plans k) no_siding).cells
same_cells [] [] k e = refl
same_cells [] (plan ∷ plans) k e = absurd (cc)
same_cells (ops ∷ sidings) [] k e = absurd (cc)
same_cells (ops ∷ sidings) (plan ∷ plans) zero e = cc
same_cells (ops ∷ sidings) (plan ∷ plans) (suc k) e =
    let rest : map length sidings ≡ map (λ siding. siding.cells) plans = cc in
    same_cells sidings plans k rest

pub has_sidings : (plan : Plan) (s : State) → IsProcessor plan s → HasSidings plan s
unfolding cells_of
has_sidings plan s p k = same_cells s.sidings plan.sidings k p.sidings

-- a move that a processor can make uses only what its layout has
pub there_allowed : (plan : Plan) (s : State) (mv : Move) → IsProcessor plan s → bar plan s mv ≡ None → HasSites plan mv
there_allowed plan s mv p free = there plan s mv p.accepted p.stages (has_sidings plan s p) free
