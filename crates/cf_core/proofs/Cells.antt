-- A stage after it was changed.
use Rattle.std.proofs.Common.{◌≡◌, ℕ, zero, suc, List, Some, sym, subst}
use Rattle.std.specs.Prelude.{slice_get, slice_set, All}
use Rattle.std.proofs.lemmas.Option.{slice_get_within, get_or_from_slice_get}
use Rattle.circular_buffer.proofs.Places.{slice_get-set_same}
use Rattle.rv_inst.specs.declared.isa.Isa.{Isa}
use Rattle.cf_bind.specs.declared.cell.Cell.{Cell}
use Rattle.cf_semantics.specs.state.State.{cell_at, put_cell}
use Rattle.cf_core.specs.Processors.{IsCellOfSet}

get-set : (cells : List Cell) (k : ℕ) (c d : Cell) → slice_get cells k ≡ Some c → slice_get (slice_set cells k d) k ≡ Some d
get-set cells k c d e = slice_get-set_same cells k d (slice_get_within cells k c e)

-- what was put into a stage that exists is there
pub cell-put : (cells : List Cell) (i : ℕ) (c d : Cell) → cell_at cells i ≡ Some c → cell_at (put_cell cells i d) i ≡ Some d
cell-put cells zero c d e = absurd (cc)
cell-put cells (suc k) c d e = get-set cells k c d e

-- what holds of each stage holds of one
pub cell-stage : (isa : Isa) (cells : List Cell) (i : ℕ) (c : Cell) → All (IsCellOfSet isa) cells → Some c ≡ cell_at cells i → IsCellOfSet isa c
cell-stage isa cells zero c all e = absurd (cc)
cell-stage isa cells (suc k) c all e =
    let here : slice_get cells k ≡ Some c = sym e in
    subst (IsCellOfSet isa) (get_or_from_slice_get cells k c c here) (all k c (slice_get_within cells k c here))

pub ruleset changing = (cell-put)

pub ruleset reading = (cell-stage)
