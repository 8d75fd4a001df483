-- What the stages of a move must hold for the move to be allowed. It follows from the rows of the table, and is weaker.
use Rattle.std.specs.Prelude.{ℕ, ◌+◌, ◌-◌, ◌==◌, Option, None, Bool, true, false, ◌&&◌, not, length, slice_get}
use Rattle.cf_layout.specs.Layout.{Plan, unit_at}
use Rattle.cf_bind.specs.declared.cell.Cell.{Cell}
use Rattle.cf_bind.specs.declared.moves.Move.{Move}
use Rattle.cf_bind.specs.declared.moves.Move.TheVariants.{Issue, Emit, Climb, Fall, Meet, Execute, Send, Launch, Slide, Access, Recover, Leave, Exit, Serve}
use Rattle.cf_bind.specs.declared.passenger.Passenger.{Passenger}
use Rattle.cf_semantics.specs.moves.Bars.{cell_is_taken}
use Rattle.cf_semantics.specs.state.Layouts.{launches}
use Rattle.cf_semantics.specs.state.Options.{on, is_some}
use Rattle.cf_semantics.specs.state.Passengers.{kind}
use Rattle.cf_semantics.specs.state.State.{State, cell_at, siding_at}
use Rattle.order_graph.specs.CountsMade.{has_packet}

-- the instruction in a stage
abbrev pub passenger_in_stage : State → ℕ → Option Passenger
passenger_in_stage s i = on (cell_at s.cells i) None (λ c. c.passenger)

-- the stage has an instruction and a result that have not met
abbrev pub meets_in_stage : Option Cell → Bool
meets_in_stage cell = on cell false (λ c. is_some c.passenger && is_some c.packet && not c.met)

-- there is an instruction that is still to be executed, and a unit of the stage can execute it
abbrev pub is_computed : Plan → Option Passenger → ℕ → Bool
is_computed plan passenger i = on passenger false (λ p. not p.done && unit_at plan (kind p) i)

-- there is one that owes a result
abbrev pub is_owing : Option Passenger → Bool
is_owing passenger = on passenger false (λ p. is_some p.owes)

-- there is one that is still to be sent to a siding, and this is done at this stage
abbrev pub is_launched : Plan → Option Passenger → ℕ → Bool
is_launched plan passenger i = on passenger false (λ p. not p.done && not p.launched && launches plan (kind p) i)

-- there is one that is still to come back from a siding
abbrev pub is_returned : Option Passenger → Bool
is_returned passenger = on passenger false (λ p. p.launched && not p.recovered)

-- there is one that is not done
abbrev pub is_undone : Option Passenger → Bool
is_undone passenger = on passenger false (λ p. not p.done)

-- the stages hold what the move needs; nothing is tested of Access
abbrev pub is_ready : Plan → State → Move → Bool
is_ready plan s (Issue g) = not (is_some (passenger_in_stage s 1))
is_ready plan s Emit = not (length s.lane == 0)
is_ready plan s (Climb i) = is_some (passenger_in_stage s i) && not (is_some (passenger_in_stage s (i + 1)))
is_ready plan s (Fall i) = has_packet (cell_at s.cells i) && not (has_packet (cell_at s.cells (i - 1)))
is_ready plan s (Meet i) = meets_in_stage (cell_at s.cells i)
is_ready plan s (Execute i) = is_computed plan (passenger_in_stage s i) i
is_ready plan s (Send i) = is_owing (passenger_in_stage s i)
is_ready plan s (Launch i) = is_launched plan (passenger_in_stage s i) i
is_ready plan s (Slide k c) = cell_is_taken (slice_get (siding_at s k) c)
is_ready plan s Access = true
is_ready plan s (Recover i) = is_returned (passenger_in_stage s i)
is_ready plan s Leave = is_some (passenger_in_stage s plan.stages)
is_ready plan s Exit = has_packet (cell_at s.cells 1)
is_ready plan s Serve = is_undone (passenger_in_stage s plan.stages)
