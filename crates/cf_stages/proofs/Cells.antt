-- What holds of each stage still holds after a change of one; and the number of stages.
use Rattle.std.proofs.Common.{◌≡◌, ℕ, zero, suc, List, Some, length, refl, subst}
use Rattle.std.specs.Prelude.{slice_set, All}
use Rattle.std.proofs.lemmas.List.{length-set}
use Rattle.std.proofs.lemmas.Option.{slice_get_within, get_or_from_slice_get}
use Rattle.std.proofs.lemmas.List.Elements.{All-set}
use Rattle.cf_bind.specs.declared.cell.Cell.{Cell}
use Rattle.cf_semantics.specs.state.State.{cell_at, put_cell}
use Rattle.cf_stages.specs.Changes.{IsCell}

-- a stage is changed to a possible one
cells_set : (cells : List Cell) (i : ℕ) (c : Cell) → IsCell c → All IsCell cells → All IsCell (slice_set cells i c)
cells_set cells i c h all = All-set IsCell cells i c h all

pub cells-put : (cells : List Cell) (i : ℕ) (c : Cell) → IsCell c → All IsCell cells → All IsCell (put_cell cells i c)
cells-put cells zero c h all = all
cells-put cells (suc k) c h all = cells_set cells k c h all

pub length-put : (cells : List Cell) (i : ℕ) (c : Cell) → length (put_cell cells i c) ≡ length cells
length-put cells zero c = refl
length-put cells (suc k) c = length-set cells k c

-- what holds of each stage holds of one
pub cell-in : (cells : List Cell) (i : ℕ) (c : Cell) → All IsCell cells → cell_at cells i ≡ Some c → IsCell c
cell-in cells zero c all e = absurd (cc)
cell-in cells (suc k) c all e = subst IsCell (get_or_from_slice_get cells k c c e) (all k c (slice_get_within cells k c e))
