-- Which sources an instruction waits for ("Counterflow Pipeline Processor Architecture", 1994: garnering).
use Rattle.std.specs.Prelude.{ℕ, List, [], ◌∷◌, ◌++◌, Option, Some, None}
use Rattle.cf_bind.specs.declared.passenger.Passenger.{Passenger}
use Rattle.cf_semantics.specs.state.Options.{on}
use Rattle.cf_semantics.specs.state.Passengers.{missing}
use Rattle.cf_passengers.specs.declared.asking.RequestedSources.{RequestedSources}

-- the register of the first source without a value
abbrev pub first_unknown : Passenger → Option ℕ
first_unknown p = on (missing p.src1) (missing p.src2) Some

-- the value as a list, which is empty if there is none
abbrev pub listed_one : Option ℕ → List ℕ
listed_one None = []
listed_one (Some r) = r ∷ []

-- the registers that are requested, in order
abbrev pub listed : RequestedSources → List ℕ
listed asked = listed_one asked.first ++ listed_one asked.second
