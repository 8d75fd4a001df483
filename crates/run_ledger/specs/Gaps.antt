-- How long a stage waits and how long it is empty: the time of a run in which no move uses the stage.
use Rattle.std.specs.Prelude.{ℕ, ◌+◌, ◌-◌, List, [], ◌∷◌, filter, Bool, false, not, ◌||◌}
use Rattle.cf_layout.specs.Layout.{Plan}
use Rattle.cf_semantics.specs.state.Options.{is_some, on}
use Rattle.cf_semantics.specs.state.State.{State, cell_at}
use Rattle.run_ledger.specs.SeenMoves.{SeenMove, move_start, time_of}
use Rattle.run_ledger.specs.Using.{uses_stage}

-- no move uses the stage from one time to another; and whether an instruction or a result is in it meanwhile
pub record Gap : Type 0 where
  pub begin : ℕ
  pub end : ℕ
  pub is_held : Bool

-- the gap from one time to another
abbrev pub gap : ℕ → ℕ → Bool → Gap
gap begin end held = record { begin = begin; end = end; is_held = held }

-- an instruction or a result is in the stage
unfoldable pub holds_any : State → ℕ → Bool
holds_any s i = on (cell_at s.cells i) false (λ c. is_some c.passenger || is_some c.packet)

-- the moves that use the stage, in their order
abbrev pub users : Plan → ℕ → List SeenMove → List SeenMove
users plan i moves = filter (λ m. uses_stage plan i m.done.mv) moves

-- the gap before each of some moves that use the stage, and the gap after the last of them up to an end; the first gap
-- begins at a time. In each gap the stage holds what the move before it has left there
abbrev pub gaps_from : ℕ → ℕ → Bool → List SeenMove → ℕ → List Gap
gaps_from i begin held [] end = gap begin end held ∷ []
gaps_from i begin held (m ∷ moves) end = gap begin (move_start m.done) held ∷ gaps_from i m.done.time (holds_any m.state i) moves end

-- the gaps of a run, at whose start the stage is empty
unfoldable pub gaps : Plan → ℕ → List SeenMove → List Gap
gaps plan i moves = gaps_from i 0 false (users plan i moves) (time_of plan moves)

-- the total length of some gaps
abbrev pub gap_total : List Gap → ℕ
gap_total [] = 0
gap_total (g ∷ more) = g.end - g.begin + gap_total more

-- how long the stage holds an instruction or a result that no move uses
unfoldable pub waiting : Plan → List SeenMove → ℕ → ℕ
waiting plan moves i = gap_total (filter (λ g. g.is_held) (gaps plan i moves))

-- how long it holds nothing, and no move uses it
unfoldable pub empty_time : Plan → List SeenMove → ℕ → ℕ
empty_time plan moves i = gap_total (filter (λ g. not g.is_held) (gaps plan i moves))
