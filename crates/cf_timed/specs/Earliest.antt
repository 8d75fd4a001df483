-- What a timed run picks: of the offered moves, the first of those that finish earliest.
use Rattle.std.specs.Prelude.{◌≡◌, ℕ, List, [], ◌∷◌, nat_le}
use Rattle.std.specs.List.{list_all, position_or_len}
use Rattle.run_options.specs.declared.guess_rule.GuessRule.{GuessRule}
use Rattle.cf_layout.specs.Layout.{Plan}
use Rattle.cf_bind.specs.declared.moves.Move.{Move}
use Rattle.cf_semantics.specs.moves.Holding.{paced}
use Rattle.cf_semantics.specs.state.Drained.{is_drained}
use Rattle.cf_semantics.specs.state.State.{State}
use Rattle.cf_sched.specs.Paces.{offered_by}
use Rattle.cf_run.specs.Made.{Made}
use Rattle.cf_timed.specs.declared.timed_move.TimedMove.{TimedMove}
use Rattle.cf_timed.specs.DelayedRuns.{DelayRule, delayed_at}
use Rattle.cf_timed.specs.Times.{done_after, finish_after}

-- the index of the first move whose time is at most that of every other
unfoldable pub first_least : (Move → ℕ) → List Move → ℕ
first_least time moves = position_or_len (λ mv. list_all (λ other. nat_le (time mv) (time other)) moves) moves

-- when a move that is made in a state, after earlier ones, finishes
abbrev pub time_in : Plan → DelayRule → State → List TimedMove → Move → ℕ
time_in plan rule s earlier mv = finish_after plan earlier (delayed_at rule s earlier mv)

-- the state of a run: how many Issue moves the hold rule has counted, the state of the processor, and the earlier
-- moves, beginning with the last
pub record TimedTurn : Type 0 where
  pub count : ℕ
  pub state : State
  pub earlier : List TimedMove

-- the index, among the offered moves, of the first that finishes earliest
unfoldable pub earliest : GuessRule → Plan → DelayRule → TimedTurn → ℕ
earliest r plan rule t = first_least (time_in plan rule t.state t.earlier) (offered_by r plan t.count t.state)

-- the same after one more move
abbrev pub after_turn : Plan → DelayRule → TimedTurn → Made → TimedTurn
after_turn plan rule t made = record {
  count = paced t.count made.move made.event (is_drained made.state);
  state = made.state;
  earlier = done_after plan t.earlier (delayed_at rule t.state t.earlier made.move) ∷ t.earlier;
}

-- no further move was picked, or one that finishes earliest
abbrev pub IsLastEarliest : GuessRule → Plan → DelayRule → TimedTurn → List ℕ → Type 0
IsLastEarliest r plan rule t [] = Unit {0}
IsLastEarliest r plan rule t (place ∷ []) = place ≡ earliest r plan rule t
IsLastEarliest r plan rule t (place ∷ next ∷ places) = ⊥

-- each pick, by its index among the offered moves, is the first that finishes earliest there; the moves are those that
-- were made, and if one more was picked, it stopped the run
unfoldable pub AreEarliest : GuessRule → Plan → DelayRule → TimedTurn → List ℕ → List Made → Type 0
AreEarliest r plan rule t places [] = IsLastEarliest r plan rule t places
AreEarliest r plan rule t [] (made ∷ trace) = ⊥
AreEarliest r plan rule t (place ∷ places) (made ∷ trace) =
    (place ≡ earliest r plan rule t) × AreEarliest r plan rule (after_turn plan rule t made) places trace
