-- A meeting of an instruction and a result in one stage ("Counterflow Pipeline Processor Architecture", 1994:
-- garnering, killing and updating).
use Rattle.std.specs.Prelude.{ℕ, Option, Some, None, true, ◌==◌, if◌then◌else◌}
use Rattle.cf_bind.specs.declared.binding.Binding.{Binding}
use Rattle.cf_bind.specs.declared.packet.Packet.{Packet}
use Rattle.cf_bind.specs.declared.packet.Packet.TheVariants.{Value, Turn, Halt}
use Rattle.cf_bind.specs.declared.passenger.Passenger.{Passenger}

-- what a meeting leaves: the instruction, and the result unless it was killed
pub record Met : Type 0 where
  pub passenger : Passenger
  pub packet : Option Packet

-- a value that was not known becomes v
abbrev pub or_value : Option ℕ → ℕ → Option ℕ
or_value None v = Some v
or_value (Some w) v = Some w

-- garnering: a source of register r that has no value gets v
abbrev pub garnered : ℕ → ℕ → Option Binding → Option Binding
garnered r v None = None
garnered r v (Some b) = Some (record b { value = if b.reg == r then or_value b.value v else b.value })

-- a value of r after it has met an instruction that writes r: killed while the new value is unknown, updated to it once
-- it is known
abbrev pub replaced : ℕ → Option ℕ → Option Packet
replaced r None = None
replaced r (Some w) = Some (Value r w)

-- a value v of r after it has met an instruction with this destination
abbrev pub passed : ℕ → ℕ → Option Binding → Option Packet
passed r v None = Some (Value r v)
passed r v (Some b) = if b.reg == r then replaced r b.value else Some (Value r v)

-- the instruction should not have been fetched: it is dead and no longer owes anything
abbrev pub cancelled : Passenger → Passenger
cancelled p = record p { dead = true; owes = None }

-- what a live instruction becomes
abbrev pub passenger_met : Packet → Passenger → Passenger
passenger_met (Value r v) p = record p { src1 = garnered r v p.src1; src2 = garnered r v p.src2 }
passenger_met (Turn pc) p = cancelled p
passenger_met Halt p = cancelled p

-- what a result becomes when it meets a live instruction
abbrev pub packet_met : Packet → Passenger → Option Packet
packet_met (Value r v) p = passed r v p.dst
packet_met (Turn pc) p = Some (Turn pc)
packet_met Halt p = Some Halt

-- the two meet; a dead instruction changes nothing, and is not changed
unfoldable pub meeting : Passenger → Packet → Met
meeting p k = if p.dead
    then record { passenger = p; packet = Some k }
    else record { passenger = passenger_met k p; packet = packet_met k p }
