-- The stages as two pipes side by side, with bit words that say where instructions and results are.
use Rattle.std.specs.Prelude.{◌≡◌, ◌≤◌, ℕ, suc, Bool, List, [], ◌∷◌, Option, All, length}
use Rattle.std.specs.Bool.{then_some}
use Rattle.cf_bind.specs.declared.cell.Cell.{Cell}
use Rattle.cf_bind.specs.declared.packet.Packet.{Packet}
use Rattle.cf_bind.specs.declared.passenger.Passenger.{Passenger}
use Rattle.cf_layout.specs.Words.{has_bit}
use Rattle.cf_stages.specs.Changes.{IsCell}
use Rattle.cf_stages.specs.Words.{passenger_word, packet_word, met_word}

-- the contents of the stages from a given one on: the instruction and the result of each, which have met if the bit is
-- set
unfoldable pub cells_from : ℕ → List (Option Passenger) → List (Option Packet) → ℕ → List Cell
cells_from k [] packets met = []
cells_from k (p ∷ passengers) [] met = []
cells_from k (p ∷ passengers) (q ∷ packets) met =
    record { passenger = p; packet = q; met = has_bit met k } ∷ cells_from (suc k) passengers packets met

-- the contents of all stages
abbrev pub all_cells : List (Option Passenger) → List (Option Packet) → ℕ → List Cell
all_cells passengers packets met = cells_from 0 passengers packets met

-- two pipes of 2 to 32 stages, and the bit words that record where an instruction is, where a result is, and where the
-- two have met
pub record AreParts (passengers : List (Option Passenger)) (packets : List (Option Packet)) (riding flying met : ℕ) : Type 0 where
  pub pipes : length packets ≡ length passengers
  pub least : 2 ≤ length passengers
  pub most : length passengers ≤ 32
  pub cells : All IsCell (all_cells passengers packets met)
  pub passenger_bits : riding ≡ passenger_word (all_cells passengers packets met)
  pub packet_bits : flying ≡ packet_word (all_cells passengers packets met)
  pub met_bits : met ≡ met_word (all_cells passengers packets met)

-- what the entries of a pipe from a given stage on hold: an entry means nothing if the bit of its stage is not set
unfoldable pub held_from : {X : Type 0} → ℕ → ℕ → List X → List (Option X)
held_from k word [] = []
held_from k word (x ∷ entries) = then_some (has_bit word k) x ∷ held_from (suc k) word entries

-- the same of a whole pipe
abbrev pub held : {X : Type 0} → ℕ → List X → List (Option X)
held word entries = held_from 0 word entries

-- the contents of the stages by the entries of the two pipes and the bit words
abbrev pub stages_of : List Passenger → List Packet → ℕ → ℕ → ℕ → List Cell
stages_of passengers packets riding flying met = all_cells (held riding passengers) (held flying packets) met

-- the pipes and the bit words are those of 2 to 32 stages
abbrev pub AreStages : List Passenger → List Packet → ℕ → ℕ → ℕ → Type 0
AreStages passengers packets riding flying met = AreParts (held riding passengers) (held flying packets) riding flying met

-- a stage with this for its result, which has met the instruction there or has not
abbrev pub with_place : Option Packet → Bool → Cell → Cell
with_place q met c = record c { packet = q; met = met }
