-- The first cell of a siding that an operation may enter exists and is empty.
use Rattle.std.proofs.Common.{◌≡◌, ℕ, ◌<◌, List, [], ◌∷◌, Option, Some, None, false, length, arith, refl}
use Rattle.std.specs.Prelude.{slice_get}
use Rattle.cf_bind.specs.declared.cell.Cell.{Cell}
use Rattle.cf_bind.specs.declared.cell.Op.{Op}
use Rattle.cf_bind.specs.declared.moves.Bar.{Bar}
use Rattle.cf_bind.specs.declared.moves.Bar.TheVariants.{SourceMissing}
use Rattle.cf_bind.specs.declared.moves.Move.TheVariants.{Launch}
use Rattle.cf_bind.specs.declared.passenger.Passenger.{Passenger}
use Rattle.cf_layout.specs.Layout.{Plan, siding_of}
use Rattle.cf_semantics.specs.moves.Bars.{entry_bar, cell_is_taken, launch_bar, row_bar, source_bar}
use Rattle.cf_semantics.specs.state.Options.{on}
use Rattle.cf_semantics.specs.state.Passengers.{kind, missing}
use Rattle.cf_semantics.specs.state.State.{State, cell_at, siding_at}
use Rattle.cf_sidings.specs.Sidings.{cells_in}
use Rattle.cf_stages.specs.Changes.{passenger_at}
use Rattle.cf_core.specs.Processors.{IsProcessor}
use Rattle.cf_core.proofs.Ported.{siding-cells}
use Rattle.cf_core.proofs.Rides.{here-by}

-- if nothing in the row bars the move, the last test does not
source_free : (p : Passenger) (rest : Option Bar) → source_bar p rest ≡ None → rest ≡ None
source_free p rest = by (missing p.src1) (missing p.src2)
  where
    by : (a b : Option ℕ) → on a (on b rest (λ r. Some (SourceMissing r))) (λ r. Some (SourceMissing r)) ≡ None → rest ≡ None
    by None None e = e
    by None (Some r) e = absurd (cc)
    by (Some r) b e = absurd (cc)

entry_free : (plan : Plan) (s : State) (p : Passenger) (k : ℕ) → entry_bar plan s p ≡ None → siding_of plan (kind p) ≡ Some k →
    cell_is_taken (slice_get (siding_at s k) 0) ≡ false
entry_free plan s p k e at = grind arith

launch_free : (plan : Plan) (s : State) (c : Cell) (i : ℕ) (p : Passenger) → launch_bar plan s c i ≡ None → c.passenger ≡ Some p → entry_bar plan s p ≡ None
launch_free plan s c i p e at = source_free p (entry_bar plan s p) (grind arith)

empty : (cells : List (Option Op)) → 0 < length cells → cell_is_taken (slice_get cells 0) ≡ false → slice_get cells 0 ≡ Some None
empty [] h e = absurd (omega arith)
empty (None ∷ cells) h e = refl
empty (Some op ∷ cells) h e = absurd (cc)

pub first-empty : (plan : Plan) (s : State) (i : ℕ) (p : Passenger) (k : ℕ) (sidings : List (List (Option Op))) → IsProcessor plan s →
    row_bar plan s (Launch i) ≡ None → passenger_at s.cells i ≡ Some p → siding_of plan (kind p) ≡ Some k → sidings ≡ s.sidings →
    slice_get (cells_in sidings k) 0 ≡ Some None
first-empty plan s i p k sidings h e there home same =
    let c = here-by (cell_at s.cells i) p there in
    let f : launch_bar plan s c.0 i ≡ None = rw c.1 at e in
    let free = entry_free plan s p k (launch_free plan s c.0 i p f c.2) home in
    rw same (empty (siding_at s k) (siding-cells plan s (kind p) k h home) free)

pub ruleset entering = (first-empty)
