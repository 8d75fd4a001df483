-- A stage that is changed twice: its instruction has sent what it owed, and the result is beside it.
use Rattle.std.proofs.Common.{◌≡◌, ℕ, zero, suc, ◌≤◌, List, Some, length, refl, arith}
use Rattle.std.proofs.lemmas.List.{set-set}
use Rattle.std.proofs.lemmas.Option.{slice_get_within}
use Rattle.cf_bind.specs.declared.cell.Cell.{Cell}
use Rattle.cf_semantics.specs.state.State.{cell_at, put_cell}
use Rattle.cf_core.proofs.Cells.{cell-put}

-- the second change replaces the first
pub put-twice : (cells : List Cell) (i : ℕ) (c d : Cell) → put_cell (put_cell cells i c) i d ≡ put_cell cells i d
put-twice cells zero c d = refl
put-twice cells (suc k) c d = set-set cells k c d

-- the number of a stage that exists is within the number of stages
pub cell-within : (cells : List Cell) (i : ℕ) (c : Cell) → cell_at cells i ≡ Some c → i ≤ length cells
cell-within cells zero c e = omega arith
cell-within cells (suc k) c e = let w = slice_get_within cells k c e in omega arith

pub ruleset sending = (put-twice, cell-put, cell-within)
