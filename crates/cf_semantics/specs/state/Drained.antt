-- Drained: nothing is in the pipes or beside them.
use Rattle.std.specs.Prelude.{◌≡◌, ◌≢◌, ℕ, List, [], None, Bool, true, false, ◌&&◌, ◌||◌, not}
use Rattle.std.specs.List.{list_any}
use Rattle.cf_layout.specs.Layout.{Plan}
use Rattle.cf_bind.specs.declared.cell.Cell.{Cell}
use Rattle.cf_bind.specs.declared.moves.Move.{Move}
use Rattle.cf_semantics.specs.state.Options.{is_some}
use Rattle.cf_semantics.specs.state.State.{State}
use Rattle.cf_semantics.specs.moves.Bars.{bar}
use Rattle.cf_semantics.specs.claims.Weight.{is_issue}

abbrev pub is_empty : List ℕ → Bool
is_empty [] = true
is_empty _ = false

-- an instruction or a result is in the stage
abbrev pub is_occupied : Cell → Bool
is_occupied c = is_some c.passenger || is_some c.packet

-- no instruction, result, request or operation is anywhere
unfoldable pub is_drained : State → Bool
is_drained s = not (list_any is_occupied s.cells) && is_empty s.lane && not (list_any (list_any is_some) s.sidings)

-- no move but Issue is allowed
abbrev pub IsStuck : Plan → State → Type 0
IsStuck plan s = (mv : Move) → is_issue mv ≡ false → bar plan s mv ≢ None
