-- What can be said of an instruction in a stage ("Counterflow Pipeline Processor Architecture", 1994).
use Rattle.std.specs.Prelude.{◌≡◌, ℕ, ◌<◌, ◌≤◌, Bool, false, ◌&&◌, ◌||◌, ◌==◌, not, Option, Some, None, length}
use Rattle.rv_inst.specs.declared.classes.Class.{Class}
use Rattle.cf_layout.specs.Layout.{Plan, siding_of}
use Rattle.cf_bind.specs.declared.binding.Binding.{Binding}
use Rattle.cf_bind.specs.declared.packet.Packet.{Packet}
use Rattle.cf_bind.specs.declared.packet.Packet.TheVariants.{Value, Turn, Halt}
use Rattle.cf_bind.specs.declared.passenger.Passenger.{Passenger}
use Rattle.cf_semantics.specs.state.Options.{is_some}
use Rattle.cf_semantics.specs.state.Passengers.{kind}
use Rattle.cf_semantics.specs.state.State.{State}
use Rattle.cf_stages.specs.Changes.{passenger_at}
use Rattle.cf_passengers.specs.Waiting.{first_unknown}

-- the instruction, of this class, is in the stage of this number; the siding of its class is this one
abbrev pub StandsBeside : Plan → State → Passenger → Class → ℕ → ℕ → Type 0
StandsBeside plan s p class k i =
    (0 < i) × (i ≤ plan.stages) × (passenger_at s.cells i ≡ Some p)
    × (class ≡ kind p) × (siding_of plan (kind p) ≡ Some k) × (k < length plan.sidings)

-- it is live and was not executed
abbrev pub is_undone : Passenger → Bool
is_undone p = not p.dead && not p.done

-- its operation was launched and has not come back
abbrev pub is_out : Passenger → Bool
is_out p = p.launched && not p.recovered

-- no unit and no siding has anything left to do with it
abbrev pub is_idle : Passenger → Bool
is_idle p = not (is_undone p) && not (is_out p)

-- it owes nothing either: it has nothing left to do but to climb and to leave
abbrev pub is_spent : Passenger → Bool
is_spent p = is_idle p && not (is_some p.owes)

-- it owes nothing, and has launched nothing
abbrev pub is_new : Passenger → Bool
is_new p = not (is_some p.owes) && not p.launched

-- it has the values of its sources
abbrev pub has_sources : Passenger → Bool
has_sources p = not (is_some (first_unknown p))

-- the source is this register, and has no value yet
abbrev pub awaits : ℕ → Option Binding → Bool
awaits r None = false
awaits r (Some b) = not (is_some b.value) && b.reg == r

-- the result is a value that it does not wait for
abbrev pub is_passed_by : Passenger → Packet → Bool
is_passed_by p (Value r v) = not (awaits r p.src1) && not (awaits r p.src2)
is_passed_by p (Turn pc) = false
is_passed_by p Halt = false

-- the source has no value yet, and is another register
abbrev pub lacks : ℕ → Option Binding → Bool
lacks r None = false
lacks r (Some b) = not (is_some b.value) && not (b.reg == r)

-- the result is a value, after which it still waits for that of a source
abbrev pub is_left_waiting : Passenger → Packet → Bool
is_left_waiting p (Value r v) = lacks r p.src1 || lacks r p.src2
is_left_waiting p (Turn pc) = false
is_left_waiting p Halt = false
