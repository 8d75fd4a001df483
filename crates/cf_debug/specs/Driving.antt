-- Moves in turn: the debugger picks them as a run under the policy Round does, until enough are made, the run is over,
-- or an instruction at the break address is issued.
use Rattle.std.specs.Prelude.{◌≡◌, ◌⊎◌, ℕ, ◌<◌, ◌≤◌, ◌==◌, ◌&&◌, List, [], ◌∷◌, ◌++◌, length, Option, Some, None, Bool, true, false}
use Rattle.run_options.specs.declared.guess_rule.GuessRule.TheVariants as rules
use Rattle.cf_bind.specs.declared.moves.Move.{Move}
use Rattle.cf_bind.specs.declared.moves.Move.TheVariants.{Serve}
use Rattle.cf_bind.specs.declared.packet.Fetch.{Fetch}
use Rattle.cf_bind.specs.declared.packet.Fetch.TheVariants.{Running, Waiting}
use Rattle.cf_semantics.specs.state.State.{State}
use Rattle.cf_semantics.specs.claims.Weight.{is_issue}
use Rattle.cf_sched.specs.Policies.{round_pick, round_on}
use Rattle.cf_run.specs.Made.{Made, retirement}
use Rattle.cf_run.specs.Policies.{Chooser, fresh_chooser, choice, after_choice}
use Rattle.cf_run.specs.Reaching.{GoesOn}
use Rattle.cf_debug.specs.Limits.{most_retired}
use Rattle.cf_debug.specs.Making.{ProcessorState, MakesAndKeeps, FailsOne}

-- fetch runs at the address
abbrev pub fetch_runs_at : ℕ → Fetch → Bool
fetch_runs_at address (Running pc) = pc == address
fetch_runs_at address Waiting = false

-- the move issues an instruction at the break address, if there is one, with any guess
abbrev pub meets_break : Option ℕ → State → Move → Bool
meets_break None s mv = false
meets_break (Some address) s mv = is_issue mv && fetch_runs_at address s.fetch

-- the last move that Round picked, and the Issue moves that the hold rule has counted
abbrev pub Turn : Type 0
Turn = Chooser (Option Move)

-- before the first pick
abbrev pub first_auto_turn : Turn
first_auto_turn = fresh_chooser rules.Any None

-- the move that is picked in the state
abbrev pub pick : Turn → ProcessorState → Option Move
pick at now = choice round_pick now.core.plan at now.core.state

-- the turn after a move that was made
abbrev pub next_turn : Turn → ProcessorState → Made → Turn
next_turn at now made = after_choice round_on now.core.plan at now.core.state made

-- the run goes on, and the move that is picked was made
pub record DriveTakes (at : Turn) (made : Made) (now new : ProcessorState) : Type 0 where
  pub goes : GoesOn most_retired now.core.state
  pub pick_is : pick at now ≡ Some made.move
  pub makes : MakesAndKeeps made.move made.event now new
  pub state : made.state ≡ new.core.state

-- the moves were made one after another, and none issued an instruction at the break address
unfoldable pub Passes : Option ℕ → Turn → ProcessorState → List Made → Turn → ProcessorState → Type 0
Passes stop at now [] last new = (last ≡ at) × (new ≡ now)
Passes stop at now (made ∷ trace) last new =
    (next : ProcessorState) × DriveTakes at made now next × (meets_break stop now.core.state made.move ≡ false)
    × Passes stop (next_turn at now made) next trace last new

-- the lines of the instructions that retired
unfoldable pub retirements : List Made → List ℕ
retirements [] = []
retirements (made ∷ trace) = retirement made.state.retired made.event ++ retirements trace

-- after this many of n moves: enough are made, or the run is over; or the next one issues an instruction at the break
-- address, and is the last
abbrev pub Pauses : ℕ → Option ℕ → ℕ → Turn → (now new : ProcessorState) → List Made → Type 0
Pauses n stop count at now new [] = (new ≡ now) × ((count ≡ n) ⊎ (GoesOn most_retired now.core.state → ⊥))
Pauses n stop count at now new (made ∷ []) =
    (count < n) × DriveTakes at made now new × (meets_break stop now.core.state made.move ≡ true)
Pauses n stop count at now new (made ∷ other ∷ more) = ⊥

-- at most n moves were made, `count` of them, with these lines of the instructions that retired
pub record Drives (n : ℕ) (stop : Option ℕ) (start new : ProcessorState) (count : ℕ) (lines : List ℕ) : Type 0 where
  pub trace : List Made
  pub at : Turn
  pub now : ProcessorState
  pub passes : Passes stop first_auto_turn start trace at now
  pub within : length trace ≤ n
  pub last : List Made
  pub pauses : Pauses n stop (length trace) at now new last
  pub count_is : count ≡ length (trace ++ last)
  pub lines_are : lines ≡ retirements (trace ++ last)

-- fewer than n moves were made, and one more, with these lines
pub record DrivesOn (n : ℕ) (stop : Option ℕ) (start new : ProcessorState) (lines : List ℕ) : Type 0 where
  pub trace : List Made
  pub at : Turn
  pub now : ProcessorState
  pub passes : Passes stop first_auto_turn start trace at now
  pub below : length trace < n
  pub made : Made
  pub takes : DriveTakes at made now new
  pub lines_are : lines ≡ retirements (trace ++ made ∷ [])

-- fewer than n moves were made, with these lines, and the output fails the call of the next
pub record DrivesAground (n : ℕ) (stop : Option ℕ) (start new : ProcessorState) (lines : List ℕ) : Type 0 where
  pub trace : List Made
  pub at : Turn
  pub now : ProcessorState
  pub passes : Passes stop first_auto_turn start trace at now
  pub below : length trace < n
  pub goes : GoesOn most_retired now.core.state
  pub pick_is : pick at now ≡ Some Serve
  pub fails : FailsOne Serve now new
  pub lines_are : lines ≡ retirements trace
