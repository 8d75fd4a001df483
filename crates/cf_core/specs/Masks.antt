-- Words of what is at each stage and of what can be done there: bit i - 1 is for stage i ("Counterflow Pipeline
-- Processor Architecture", 1994: each stage decides by itself).
use Rattle.std.specs.Prelude.{ℕ, Bool, false, not}
use Rattle.cf_layout.specs.Layout.{Plan}
use Rattle.cf_bind.specs.declared.passenger.Passenger.{Passenger}
use Rattle.cf_bind.specs.declared.moves.Move.{Move}
use Rattle.cf_bind.specs.declared.moves.Move.TheVariants.{Execute, Launch, Recover}
use Rattle.cf_semantics.specs.state.Options.{on, is_some}
use Rattle.cf_semantics.specs.state.State.{State, cell_at}
use Rattle.cf_semantics.specs.moves.Bars.{bar, stops_at}
use Rattle.cf_stages.specs.Words.{met_word, packet_word, passenger_word, word_of}
use Rattle.cf_core.specs.declared.masks.Masks.{Masks}

-- an instruction is in the stage, and the test holds of it
abbrev pub rides : State → ℕ → (Passenger → Bool) → Bool
rides s i test = on (cell_at s.cells i) false (λ c. on c.passenger false test)

-- it owes a result
abbrev pub owes_at : State → ℕ → Bool
owes_at s i = rides s i (λ p. is_some p.owes)

-- it stops there
abbrev pub stops_there : Plan → State → ℕ → Bool
stops_there plan s i = rides s i (λ p. stops_at plan p i)

-- nothing bars the move
abbrev pub is_allowed : Plan → State → Move → Bool
is_allowed plan s mv = not (is_some (bar plan s mv))

-- the words of a state: where an instruction is, where a result is, and where the two have met; where an instruction
-- owes a result, and where it stops; and where Execute, Launch and Recover are allowed
unfoldable pub masks_of : Plan → State → Masks
masks_of plan s = record {
  passengers = passenger_word s.cells;
  packets = packet_word s.cells;
  met = met_word s.cells;
  owes = word_of (owes_at s) plan.stages;
  stops = word_of (stops_there plan s) plan.stages;
  execute = word_of (λ i. is_allowed plan s (Execute i)) plan.stages;
  launch = word_of (λ i. is_allowed plan s (Launch i)) plan.stages;
  recover = word_of (λ i. is_allowed plan s (Recover i)) plan.stages;
}
