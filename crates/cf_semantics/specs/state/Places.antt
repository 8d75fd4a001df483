-- Positions in the column: an item, with what is above it and below it.
use Rattle.std.specs.Prelude.{◌≡◌, ℕ, zero, suc, List, [], ◌∷◌, ◌++◌, false, if◌then◌else◌, Some}
use Rattle.rv_inst.specs.declared.isa.Isa.{Isa}
use Rattle.rv_machine.specs.Machine.{Machine}
use Rattle.cf_bind.specs.declared.packet.Packet.{Packet}
use Rattle.cf_bind.specs.declared.passenger.Passenger.{Passenger}
use Rattle.cf_semantics.specs.state.State.{State}
use Rattle.cf_semantics.specs.state.Column.{Item, Up, Down, column}
use Rattle.cf_semantics.specs.claims.Walks.{walk}
use Rattle.cf_semantics.specs.claims.Path.{Walk, past, top, turns, is_sure}

-- an instruction of the column: its stage, and the items above and below it
pub record Standing (s : State) : Type 0 where
  pub above : List Item
  pub stage : ℕ
  pub who : Passenger
  pub below : List Item
  pub split : column s ≡ above ++ (Up stage who ∷ below)

-- a result of the column
pub record Lying (s : State) : Type 0 where
  pub above : List Item
  pub stage : ℕ
  pub what : Packet
  pub below : List Item
  pub split : column s ≡ above ++ (Down stage what ∷ below)

-- what is known below these items, where x is the sequential machine after the instructions that have retired
abbrev pub known : Isa → State → Machine → List Item → Walk
known isa s x above = walk (past isa) above (top s x)

-- neither an instruction nor a barrier is among the items
abbrev pub IsHarmless : List Item → Type 0
IsHarmless [] = Unit {0}
IsHarmless (Up i p ∷ xs) = ⊥
IsHarmless (Down i k ∷ xs) = (turns (Some k) ≡ false) × IsHarmless xs

-- the machine after the first n sure instructions of the items, or after all of them if there are fewer
abbrev pub machine_after : Isa → ℕ → List Item → Walk → Machine
machine_after isa zero xs w = w.machine
machine_after isa (suc n) [] w = w.machine
machine_after isa (suc n) (Up i p ∷ xs) w =
    if is_sure p w then machine_after isa n xs (past isa (Up i p) w) else machine_after isa (suc n) xs (past isa (Up i p) w)
machine_after isa (suc n) (Down i k ∷ xs) w = machine_after isa (suc n) xs (past isa (Down i k) w)
