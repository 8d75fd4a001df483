-- What a watcher notes and writes when it is shown each move of a timed run.
use Rattle.std.specs.Prelude.{ℕ, List, [], ◌∷◌, ◌++◌}
use Rattle.cf_layout.specs.Layout.{Plan}
use Rattle.cf_run.specs.Made.{Made}
use Rattle.cf_timed.specs.declared.timed_move.TimedMove.{TimedMove}
use Rattle.cf_timed.specs.DelayedRuns.{DelayRule, delayed_at}
use Rattle.cf_timed.specs.Earliest.{TimedTurn, after_turn}
use Rattle.cf_timed.specs.Times.{done_after}

-- the watcher after the moves of a run from this state, given how it notes a move
unfoldable pub watched : {W : Type 0} → (noted : W → Made → TimedMove → W) → Plan → DelayRule → TimedTurn → W → List Made → W
watched noted plan rule t w [] = w
watched noted plan rule t w (made ∷ trace) =
    watched noted plan rule (after_turn plan rule t made) (noted w made (done_after plan t.earlier (delayed_at rule t.state t.earlier made.move))) trace

-- what it writes about them, given how it notes a move and what it writes about it
unfoldable pub watched_text : {W : Type 0} → (noted : W → Made → TimedMove → W) → (text : W → Made → TimedMove → List ℕ) →
    Plan → DelayRule → TimedTurn → W → List Made → List ℕ
watched_text noted text plan rule t w [] = []
watched_text noted text plan rule t w (made ∷ trace) =
    text w made (done_after plan t.earlier (delayed_at rule t.state t.earlier made.move))
    ++ watched_text noted text plan rule (after_turn plan rule t made)
    (noted w made (done_after plan t.earlier (delayed_at rule t.state t.earlier made.move))) trace
