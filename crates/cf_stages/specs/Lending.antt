-- The stages after an instruction that was borrowed for writing has been returned.
use Rattle.std.specs.Prelude.{ℕ, List}
use Rattle.std.specs.Borrow.{Lends, MutBor, Fml}
use Rattle.cf_bind.specs.declared.cell.Cell.{Cell}
use Rattle.cf_bind.specs.declared.passenger.Passenger.{Passenger}
use Rattle.cf_bind.specs.contracts.passenger.Passenger.{the_row as passenger_row}
use Rattle.cf_semantics.specs.moves.Moves.{with_passenger}
use Rattle.cf_stages.specs.Changes.{changed}
use Rattle.cf_stages.specs.contracts.stages.Stages.{the_row as stages_row}

-- the stages are returned with the instruction in the stage of this number
abbrev pub LendsPassenger : MutBor (List Cell) → ℕ → MutBor Passenger → Fml
LendsPassenger s i r = Lends stages_row passenger_row s r (λ p. changed s.now i (λ c. with_passenger c p))
