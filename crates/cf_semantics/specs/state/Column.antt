-- The column: all that is in the pipes, as one list from the top down. No move up or down changes it.
use Rattle.std.specs.Prelude.{ℕ, suc, List, [], ◌∷◌, ◌++◌, Option, Some, None, Bool, true, false}
use Rattle.cf_bind.specs.declared.cell.Cell.{Cell}
use Rattle.cf_bind.specs.declared.packet.Packet.{Packet}
use Rattle.cf_bind.specs.declared.passenger.Passenger.{Passenger}
use Rattle.cf_semantics.specs.state.State.{State}

-- an instruction on its way up, or a result on its way down, with the stage where it is
pub data Item : Type 0 where
  Up : ℕ → Passenger → Item
  Down : ℕ → Packet → Item

abbrev pub passenger_in : ℕ → Option Passenger → List Item
passenger_in i None = []
passenger_in i (Some p) = Up i p ∷ []

abbrev pub packet_in : ℕ → Option Packet → List Item
packet_in i None = []
packet_in i (Some k) = Down i k ∷ []

-- before they have met, the result is above the instruction; afterwards it is below
abbrev pub in_order : Bool → List Item → List Item → List Item
in_order true passengers packets = passengers ++ packets
in_order false passengers packets = packets ++ passengers

-- what is in one stage, from the top
abbrev pub items : ℕ → Cell → List Item
items i c = in_order c.met (passenger_in i c.passenger) (packet_in i c.packet)

-- what is in the stages from number i on, from the highest down
abbrev pub column_from : ℕ → List Cell → List Item
column_from i [] = []
column_from i (c ∷ cs) = column_from (suc i) cs ++ items i c

abbrev pub column : State → List Item
column s = column_from 1 s.cells
