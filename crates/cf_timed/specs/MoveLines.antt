-- The lines of the moves of a timed run (a format of this project).
use Rattle.std.specs.Prelude.{ℕ, ◌+◌, ◌-◌, List, [], ◌∷◌, ◌++◌, codes, decimal}
use Rattle.texts.specs.Lines.{line}
use Rattle.cf_layout.specs.Layout.{Plan}
use Rattle.cf_bind.specs.MoveTexts.{move_line}
use Rattle.cf_run.specs.Made.{Made}
use Rattle.cf_timed.specs.declared.timed_move.TimedMove.{TimedMove}
use Rattle.cf_timed.specs.DelayedRuns.{DelayRule, delayed_at}
use Rattle.cf_timed.specs.Earliest.{TimedTurn, after_turn}
use Rattle.cf_timed.specs.Times.{done_after}

-- the number of the move, when it starts, and when it finishes
unfoldable pub place_text : ℕ → TimedMove → List ℕ
place_text number done =
    codes "move " ++ decimal number ++ codes " from " ++ decimal (done.time - done.delay) ++ codes " to " ++ decimal done.time ++ codes " "

-- the line of the move of this number
unfoldable pub timed_line : ℕ → TimedMove → List ℕ
timed_line number done = place_text number done ++ line (move_line done.mv)

-- the lines of the moves of a run from this state, the first of which has this number
unfoldable pub timed_move_lines : ℕ → Plan → DelayRule → TimedTurn → List Made → List ℕ
timed_move_lines number plan rule t [] = []
timed_move_lines number plan rule t (made ∷ trace) =
    timed_line number (done_after plan t.earlier (delayed_at rule t.state t.earlier made.move)) ++ timed_move_lines (number + 1) plan rule
    (after_turn plan rule t made) trace
