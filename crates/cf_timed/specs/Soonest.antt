-- The move that finishes earliest, if the Issues are searched after the other moves.
use Rattle.std.specs.Prelude.{◌≡◌, ℕ, ◌<◌, ◌≤◌, All, List, Some, slice_get, true}
use Rattle.cf_layout.specs.Layout.{Plan}
use Rattle.cf_bind.specs.declared.moves.Move.{Move}
use Rattle.cf_bind.specs.declared.moves.Move.TheVariants.{Issue}
use Rattle.cf_bind.specs.declared.passenger.Guess.{Guess}
use Rattle.cf_index.specs.Allowed.{is_allowed}
use Rattle.cf_timed.specs.declared.soonest.Due.{Due}
use Rattle.cf_timed.specs.Clocks.{ClockedState, begin_time, capped, delay_by}
use Rattle.cf_timed.specs.DueMoves.{KeptMoves}
use Rattle.cf_timed.specs.Earliest.{first_least}

-- how long it takes if it is made now, and when it finishes
pub record IsTimed (c : ClockedState) (due : Due) : Type 0 where
  pub delay : due.delay ≡ delay_by c due.mv
  pub time : due.time ≡ capped c due.mv

-- it is the first of the moves that finish earliest, with its delay and its time
pub record IsSoonest (c : ClockedState) (moves : List Move) (due : Due) : Type 0 where
  pub mv : Some due.mv ≡ slice_get moves (first_least (capped c) moves)
  pub timed : IsTimed c due

-- it is the first of the Issues, and finishes by this time
pub record IsIssueBy (c : ClockedState) (issues : List Move) (by : ℕ) (due : Due) : Type 0 where
  pub mv : Some due.mv ≡ slice_get issues 0
  pub timed : IsTimed c due
  pub soon : due.time ≤ by

-- it is the first of the kept moves, which is still due, with its delay and their time
pub record IsFirstDue (c : ClockedState) (kept : KeptMoves) (due : Due) : Type 0 where
  pub mv : Some due.mv ≡ slice_get kept.moves 0
  pub begins : begin_time c.clock due.mv < kept.time
  pub delay : due.delay ≡ delay_by c due.mv
  pub time : due.time ≡ kept.time

-- each of the moves finishes later
abbrev pub AreLater : ClockedState → List Move → ℕ → Type 0
AreLater c moves by = All (λ mv. by < capped c mv) moves

-- no allowed Issue finishes by this time, whatever it guesses
abbrev pub NoIssueBy : Plan → ClockedState → ℕ → Type 0
NoIssueBy plan c by = (guess : Guess) → is_allowed plan c.state (Issue guess) ≡ true → by < capped c (Issue guess)
