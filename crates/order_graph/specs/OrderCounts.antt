-- The counts of a list of moves that the report of a run contains: meetings, results that were killed, and live
-- instructions that died.
use Rattle.std.specs.Prelude.{ℕ, ◌+◌, List, [], ◌∷◌, Bool, true, false, ◌&&◌, not, Option, if◌then◌else◌}
use Rattle.cf_layout.specs.Layout.{Plan}
use Rattle.cf_bind.specs.declared.moves.Move.{Move}
use Rattle.cf_bind.specs.declared.moves.Move.TheVariants.{Meet}
use Rattle.cf_bind.specs.declared.passenger.Passenger.{Passenger}
use Rattle.cf_bind.specs.Meeting.{Met}
use Rattle.cf_semantics.specs.state.Options.{on, is_some}
use Rattle.cf_semantics.specs.state.State.{State, Moment, cell_at}
use Rattle.order_rules.specs.declared.rule.Rule.{Rule}
use Rattle.order_model.specs.RuleMoves.{meeting_without, next_without}

-- the move is a meeting
abbrev pub is_meeting : Move → Bool
is_meeting (Meet i) = true
is_meeting mv = false

-- the move is a meeting, and the test holds for its instruction before it and for what it leaves
abbrev pub is_meeting_that : (Passenger → Met → Bool) → Option Rule → State → Move → Bool
is_meeting_that test away s (Meet i) = on (cell_at s.cells i) false (λ c. on c.passenger false (λ p. on c.packet false
    (λ k. test p (meeting_without away p k))))
is_meeting_that test away s mv = false

-- the move kills a result; a live instruction dies in it
abbrev pub is_kill : Option Rule → State → Move → Bool
is_kill away s mv = is_meeting_that (λ p met. not (is_some met.packet)) away s mv

abbrev pub is_death : Option Rule → State → Move → Bool
is_death away s mv = is_meeting_that (λ p met. not p.dead && met.passenger.dead) away s mv

-- how many of the moves, made one after another, pass the test in the state in which they are made
unfoldable pub count_made : (State → Move → Bool) → Option Rule → Plan → Moment → List Move → ℕ
count_made test away plan m [] = 0
count_made test away plan m (mv ∷ moves) =
    (if test m.state mv then 1 else 0) + count_made test away plan (next_without away plan m mv) moves
