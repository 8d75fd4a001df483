-- What is seen from outside of a meeting, by whether its instruction dies and by what is left of its result.
use Rattle.std.specs.Prelude.{ℕ, List, Option, Bool, false, not, ◌&&◌, if◌then◌else◌}
use Rattle.cf_bind.specs.Meeting.{meeting}
use Rattle.cf_bind.specs.declared.cell.Cell.{Cell}
use Rattle.cf_bind.specs.declared.packet.Packet.{Packet}
use Rattle.cf_bind.specs.declared.passenger.Passenger.{Passenger}
use Rattle.cf_semantics.specs.declared.event.Event.{Event}
use Rattle.cf_semantics.specs.declared.event.Event.TheVariants as event
use Rattle.cf_semantics.specs.state.Options.{on, is_some}
use Rattle.cf_stages.specs.Changes.{packet_at, passenger_at}

-- the instruction is live and the result makes it dead
abbrev pub is_fatal : Passenger → Packet → Bool
is_fatal p k = not p.dead && (meeting p k).passenger.dead

-- those of the stage
abbrev pub dies_at : List Cell → ℕ → Bool
dies_at cells i = on (passenger_at cells i) false (λ p. on (packet_at cells i) false (is_fatal p))

-- the result is gone, or the instruction died, or nothing is seen
unfoldable pub event_seen : Bool → Option Packet → Event
event_seen dies left = if not (is_some left) then event.Killed else if dies then event.Died else event.Plain
