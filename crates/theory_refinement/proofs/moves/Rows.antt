-- The start of each move's proof: the row of an allowed move bars nothing, and new contents of a stage leave the number
-- of stages unchanged.
use Rattle.std.proofs.Common.{◌≡◌, ℕ, zero, suc, List, None, refl, arith, length, length-set}
use Rattle.cf_bind.specs.declared.cell.Cell.{Cell}
use Rattle.cf_bind.specs.declared.moves.Move.{Move}
use Rattle.cf_layout.specs.Layout.{Plan}
use Rattle.cf_semantics.specs.moves.Bars.{bar, row_bar}
use Rattle.cf_semantics.specs.state.State.{State, put_cell}

pub bar_row : (l : Plan) (s : State) (m : Move) → bar l s m ≡ None → row_bar l s m ≡ None
unfolding bar
bar_row l s m e = grind arith

pub put_size : (cells : List Cell) (i : ℕ) (c : Cell) → length (put_cell cells i c) ≡ length cells
put_size cells zero c = refl
put_size cells (suc i) c = length-set cells i c
