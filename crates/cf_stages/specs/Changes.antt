-- The contents of the stages after a single change; the stages are listed from the lowest up ("Counterflow Pipeline
-- Processor Architecture", 1994).
use Rattle.std.specs.Prelude.{ℕ, List, Option, Some, None, Bool, false, not, ◌&&◌, ◌+◌, ◌-◌, IsTrue}
use Rattle.cf_bind.specs.declared.cell.Cell.{Cell}
use Rattle.cf_bind.specs.declared.packet.Packet.{Packet}
use Rattle.cf_bind.specs.declared.passenger.Passenger.{Passenger}
use Rattle.cf_semantics.specs.state.Options.{on, is_some}
use Rattle.cf_semantics.specs.state.State.{cell_at, put_cell}
use Rattle.cf_semantics.specs.moves.Bars.{is_full}
use Rattle.cf_bind.specs.Meeting.{meeting}
use Rattle.cf_semantics.specs.moves.Moves.{with_passenger, without_passenger, without_packet, cell_met}

-- an instruction and a result have met only if both are there
abbrev pub IsCell : Cell → Type 0
IsCell c = IsTrue c.met → IsTrue (is_some c.passenger && is_some c.packet)

-- the instruction in the stage of this number, and the result there
abbrev pub passenger_at : List Cell → ℕ → Option Passenger
passenger_at cells i = on (cell_at cells i) None (λ c. c.passenger)

abbrev pub packet_at : List Cell → ℕ → Option Packet
packet_at cells i = on (cell_at cells i) None (λ c. c.packet)

-- the two have met
abbrev pub has_met_at : List Cell → ℕ → Bool
has_met_at cells i = on (cell_at cells i) false (λ c. c.met)

-- both are there, and have not met
abbrev pub is_full_at : List Cell → ℕ → Bool
is_full_at cells i = on (cell_at cells i) false is_full

-- there is a second stage, and the instruction of the first can move into it
abbrev pub can_climb : Cell → Option Cell → Bool
can_climb c above = on above false (λ d. is_some c.passenger && not (is_full c) && not (is_some d.passenger))

-- there is a second stage, and the result of the first can move into it
abbrev pub can_fall : Cell → Option Cell → Bool
can_fall c below = on below false (λ d. is_some c.packet && not (is_full c) && not (is_some d.packet))

-- the instruction of the stage can move into the one above
unfoldable pub climbs : List Cell → ℕ → Bool
climbs cells i = on (cell_at cells i) false (λ c. can_climb c (cell_at cells (i + 1)))

-- the result of the stage can move into the one below
unfoldable pub falls : List Cell → ℕ → Bool
falls cells i = on (cell_at cells i) false (λ c. can_fall c (cell_at cells (i - 1)))

-- the stages with a change of one of them
abbrev pub changed : List Cell → ℕ → (Cell → Cell) → List Cell
changed cells i change = on (cell_at cells i) cells (λ c. put_cell cells i (change c))

-- a stage that gets an instruction, or a result, which has met nothing yet
abbrev pub with_new_passenger : Option Passenger → Cell → Cell
with_new_passenger p c = record c { passenger = p; met = false }

abbrev pub with_new_packet : Option Packet → Cell → Cell
with_new_packet k c = record c { packet = k; met = false }

-- the instruction of stage i is now in stage j, and has met nothing there
unfoldable pub cells_lifted : List Cell → ℕ → ℕ → List Cell
cells_lifted cells i j =
    on (cell_at cells i) cells (λ c.
    on (cell_at cells j) cells (λ d.
    put_cell (put_cell cells i (without_passenger c)) j (with_new_passenger c.passenger d)))

-- the instruction of the stage is now in the one above
abbrev pub cells_climbed : List Cell → ℕ → List Cell
cells_climbed cells i = cells_lifted cells i (i + 1)

-- the result of the stage is now in the one below, and has met nothing there
unfoldable pub cells_fallen : List Cell → ℕ → List Cell
cells_fallen cells i =
    on (cell_at cells i) cells (λ c.
    on (cell_at cells (i - 1)) cells (λ d.
    put_cell (put_cell cells i (without_packet c)) (i - 1) (with_new_packet c.packet d)))

-- a stage whose instruction has met a result; the result itself is unchanged
abbrev pub rider_met : Packet → Cell → Cell
rider_met k c = on c.passenger c (λ p. with_passenger c (meeting p k).passenger)

-- a stage after its instruction and its result have met
abbrev pub met_in : Cell → Cell
met_in c = on c.passenger c (λ p. on c.packet c (λ k. cell_met c p k))

-- a stage with a result, which has met the instruction there or has not
abbrev pub with_packet : Packet → Bool → Cell → Cell
with_packet k met c = record c { packet = Some k; met = met }
