-- When output and memory are level with the retired count: in a drained state; the output also when an instruction has
-- just retired.
use Rattle.std.proofs.Common.{◌≡◌, ℕ, zero, suc, ◌<◌, List, [], ◌∷◌, Option, Some, None, Bool, true, false, ◌&&◌, ◌||◌, not, refl, ap, arith}
use Rattle.std.specs.Prelude.{slice_get, slice_set}
use Rattle.std.specs.List.{list_any}
use Rattle.cf_layout.specs.Layout.{Plan}
use Rattle.cf_bind.specs.declared.cell.Cell.{Cell}
use Rattle.cf_bind.specs.declared.moves.Move.{Move}
use Rattle.cf_bind.specs.declared.moves.Move.TheVariants.{Issue, Emit, Climb, Fall, Meet, Execute, Send, Launch, Slide, Access, Recover, Leave, Exit, Serve}
use Rattle.cf_bind.specs.declared.passenger.Passenger.{Passenger}
use Rattle.cf_semantics.specs.claims.Ahead.{counted, has_served, one, ported_count, served_count, uncounted}
use Rattle.cf_semantics.specs.moves.Bars.{bar}
use Rattle.cf_semantics.specs.state.Column.{Item, column, column_from, items}
use Rattle.cf_semantics.specs.state.Drained.{is_drained, is_empty, is_occupied}
use Rattle.cf_semantics.specs.moves.Moves.{moved, next, without_passenger}
use Rattle.cf_semantics.specs.state.Options.{is_some, on}
use Rattle.cf_semantics.specs.state.State.{Moment, State, cell_at, put_cell}
use Rattle.cf_semantics.specs.claims.Walks.{walk}
use Rattle.theory_refinement.proofs.moves.Rows.{bar_row}
use Rattle.theory_refinement.proofs.moves.Leave.{Leaves, leave_ready, left_cells, next_leave}
use Rattle.theory_refinement.proofs.claims.Runs as runs
use Rattle.std.proofs.lemmas.Bool.{or_parts}

-- nothing is in the pipes
vacant : (i : ℕ) (c : Cell) → is_occupied c ≡ false → items i c ≡ []
vacant i c e = grind arith

vacant_column : (i : ℕ) (cells : List Cell) → list_any is_occupied cells ≡ false → column_from i cells ≡ []
vacant_column i [] e = refl
vacant_column i (c ∷ cells) e =
    let z = or_parts (is_occupied c) (list_any is_occupied cells) e in
    rw (vacant_column (suc i) cells z.1) (vacant i c z.0)

vacant_cells : (s : State) → is_drained s ≡ true → list_any is_occupied s.cells ≡ false
unfolding is_drained
vacant_cells s d = first (list_any is_occupied s.cells) (is_empty s.lane) (not (list_any (list_any is_some) s.sidings)) d
  where
    first : (a b c : Bool) → (not a && b && c) ≡ true → a ≡ false
    first false b c e = refl
    first true b c e = absurd (cc)

pub empty_column : (s : State) → is_drained s ≡ true → column s ≡ []
empty_column s d = vacant_column 1 s.cells (vacant_cells s d)

-- so no call that was served is in the highest stage
unserved : (o : Option Cell) → on o false is_occupied ≡ false → on o 0 (λ c. on c.passenger 0 (λ p. one (has_served p))) ≡ 0
unserved None e = refl
unserved (Some c) e = nobody c.passenger (is_some c.packet) e
  where
    nobody : (o : Option Passenger) (b : Bool) → (is_some o || b) ≡ false → on o 0 (λ p. one (has_served p)) ≡ 0
    nobody None b e = refl
    nobody (Some p) b e = absurd (cc)

vacant_stage : (cells : List Cell) (n : ℕ) → list_any is_occupied cells ≡ false → on (cell_at cells n) false is_occupied ≡ false
vacant_stage cells zero e = refl
vacant_stage cells (suc k) e = go cells k e
  where
    go : (cells : List Cell) (k : ℕ) → list_any is_occupied cells ≡ false → on (slice_get cells k) false is_occupied ≡ false
    go [] k e = refl
    go (c ∷ cells) zero e = (or_parts (is_occupied c) (list_any is_occupied cells) e).0
    go (c ∷ cells) (suc k) e = go cells k (or_parts (is_occupied c) (list_any is_occupied cells) e).1

-- a drained state is level: no call was served, and nothing has passed the port
pub drained_level : (plan : Plan) (s : State) → is_drained s ≡ true → (served_count plan s ≡ 0) × (ported_count plan s ≡ 0)
drained_level plan s d = (
  unserved (cell_at s.cells plan.stages) (vacant_stage s.cells plan.stages (vacant_cells s d)),
  ap (λ (q : List Item). (walk counted q (uncounted plan s)).ported) (empty_column s d),
)

-- Leave empties the highest stage
left_unserved : (cells : List Cell) (n : ℕ) (c : Cell) → on (cell_at (put_cell cells n (without_passenger c)) n) 0
    (λ d. on d.passenger 0 (λ p. one (has_served p))) ≡ 0
left_unserved cells zero c = refl
left_unserved cells (suc k) c = go cells k
  where
    go : (cells : List Cell) (k : ℕ) → on (slice_get (slice_set cells k (without_passenger c)) k) 0 (λ d. on d.passenger 0 (λ p. one (has_served p))) ≡ 0
    go [] k = refl
    go (d ∷ cells) zero = refl
    go (d ∷ cells) (suc k) = go cells k

leave_unserved : (plan : Plan) (s : State) → bar plan s Leave ≡ None → served_count plan (moved plan s Leave) ≡ 0
leave_unserved plan s free =
    let r : Leaves plan s = leave_ready plan s (bar_row plan s Leave free) in
    rw (next_leave plan s r.here r.who r.at_here r.sits, left_cells s plan.stages r.here r.who) (left_unserved s.cells plan.stages r.here)

-- if an instruction has just retired, no call was served, so the output is level: for instance when a run stops at its
-- limit
pub retired_unserved : (plan : Plan) (m : Moment) (mv : Move) → bar plan m.state mv ≡ None → m.state.retired < (next plan m mv).state.retired →
    served_count plan (next plan m mv).state ≡ 0
unfolding next
retired_unserved plan m mv free rises = go mv free rises
  where
    -- any other move leaves the count
    still : (n : ℕ) (t : State) → t.retired ≡ m.state.retired → m.state.retired < t.retired → n ≡ 0
    still n t e r = absurd (omega (arith, e, r))

    go : (mv : Move) → bar plan m.state mv ≡ None → m.state.retired < (next plan m mv).state.retired → served_count plan (next plan m mv).state ≡ 0
    go Leave free r = leave_unserved plan m.state free
    go (Issue g) free r = still _ (moved plan m.state (Issue g)) (runs.issue_counts plan m.state g).retired r
    go Emit free r = still _ (moved plan m.state Emit) (runs.emit_counts plan m.state).retired r
    go (Climb i) free r = still _ (moved plan m.state (Climb i)) (runs.climb_counts plan m.state i).retired r
    go (Fall i) free r = still _ (moved plan m.state (Fall i)) (runs.fall_counts plan m.state i).retired r
    go (Meet i) free r = still _ (moved plan m.state (Meet i)) (runs.meet_counts plan m.state i).retired r
    go (Execute i) free r = still _ (moved plan m.state (Execute i)) (runs.execute_counts plan m.state i).retired r
    go (Send i) free r = still _ (moved plan m.state (Send i)) (runs.send_counts plan m.state i).retired r
    go (Launch i) free r = still _ (moved plan m.state (Launch i)) (runs.launch_counts plan m.state i).retired r
    go (Slide k c) free r = still _ (moved plan m.state (Slide k c)) (runs.slide_counts plan m.state k c).retired r
    go Access free r = still _ (moved plan m.state Access) (runs.access_counts plan m.state).retired r
    go (Recover i) free r = still _ (moved plan m.state (Recover i)) (runs.recover_counts plan m.state i).retired r
    go Exit free r = still _ (moved plan m.state Exit) (runs.exit_counts plan m.state).retired r
    go Serve free r = still _ (next plan m Serve).state (runs.serve_counts plan m).retired r
