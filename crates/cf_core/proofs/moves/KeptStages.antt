-- What holds of every processor is kept by the moves within the two pipes.
use Rattle.std.proofs.Common.{◌≡◌, ℕ, ◌+◌, ◌-◌, Option, Some, None, false, arith}
use Rattle.std.specs.Prelude.{IfSome, IsTrue, ◌&&◌}
use Rattle.rv_inst.specs.declared.isa.Isa.{Isa}
use Rattle.cf_bind.specs.declared.cell.Cell.{Cell}
use Rattle.cf_bind.specs.declared.moves.Move.TheVariants.{Climb, Fall, Meet, Execute, Send}
use Rattle.cf_bind.specs.declared.packet.Packet.{Packet}
use Rattle.cf_bind.specs.declared.passenger.Passenger.{Passenger}
use Rattle.cf_layout.specs.Layout.{Plan}
use Rattle.cf_semantics.specs.moves.Bars.{row_bar, send_bar}
use Rattle.cf_semantics.specs.state.Layouts.{isa_of}
use Rattle.cf_semantics.specs.moves.Moves.{moved, cell_met, climbed, fallen, sent, with_passenger, without_packet, without_passenger}
use Rattle.cf_semantics.specs.state.Options.{is_some, on}
use Rattle.cf_semantics.specs.state.Passengers.{finish}
use Rattle.cf_semantics.specs.state.State.{State, cell_at, with_cell}
use Rattle.cf_passengers.specs.Facts.{IsPacket, IsPassenger}
use Rattle.cf_passengers.proofs.Kept.{finish-passenger, meeting-packet, meeting-passenger, sent-passenger}
use Rattle.cf_core.specs.Processors.{IsProcessor, IsCellOfSet}
use Rattle.cf_core.proofs.KeptParts.{cell-kept, kept-where, stage-at}

-- What a stage holds --

-- the instruction of a stage, and its result
pub passenger-in : (isa : Isa) (c : Cell) (p : Passenger) → IsCellOfSet isa c → c.passenger ≡ Some p → IsPassenger isa p
passenger-in isa c p h e = let f = h.passenger in rw e at f

pub packet-in : (isa : Isa) (c : Cell) (k : Packet) → IsCellOfSet isa c → c.packet ≡ Some k → IsPacket k
packet-in isa c k h e = let f = h.packet in rw e at f

-- a stage that has lost its instruction or its result, or has got one that has met nothing
pub passenger-gone : (isa : Isa) (c : Cell) → IsCellOfSet isa c → IsCellOfSet isa (without_passenger c)
passenger-gone isa c h = record { passenger = tt; packet = h.packet; met = λ f. absurd (cc) }

pub packet-gone : (isa : Isa) (c : Cell) → IsCellOfSet isa c → IsCellOfSet isa (without_packet c)
packet-gone isa c h = record { passenger = h.passenger; packet = tt; met = λ f. absurd (cc) }

pub passenger-new : (isa : Isa) (c : Cell) (o : Option Passenger) → IsCellOfSet isa c → IfSome o (IsPassenger isa) →
    IsCellOfSet isa (record c { passenger = o; met = false })
passenger-new isa c o h p = record { passenger = p; packet = h.packet; met = λ f. absurd (cc) }

pub packet-new : (isa : Isa) (c : Cell) (o : Option Packet) → IsCellOfSet isa c → IfSome o IsPacket → IsCellOfSet isa (record c { packet = o; met = false })
packet-new isa c o h k = record { passenger = h.passenger; packet = k; met = λ f. absurd (cc) }

-- another instruction is in its place
pub passenger-changed : (isa : Isa) (c : Cell) (p : Passenger) → IsCellOfSet isa c → IsPassenger isa p → IsCellOfSet isa (with_passenger c p)
passenger-changed isa c p h q = record { passenger = q; packet = h.packet; met = λ f. packet_there c (h.met f) }
  where
    packet_there : (c : Cell) → IsTrue (is_some c.passenger && is_some c.packet) → IsTrue (is_some c.packet)
    packet_there c f = grind arith

-- the two have met
pub both-met : (isa : Isa) (c : Cell) (p : Passenger) (k : Packet) → IsPassenger isa p → IsPacket k → IsCellOfSet isa (cell_met c p k)
both-met isa c p k h g = record { passenger = meeting-passenger isa p k h; packet = meeting-packet p k g; met = λ f. f }

-- what the instruction owed is beside it
pub packet-sent : (isa : Isa) (p : Passenger) → IsPassenger isa p → IsTrue (is_some p.owes) → IsCellOfSet isa (sent p)
packet-sent isa p h e = record { passenger = sent-passenger isa p h; packet = h.owes; met = λ f. e }

-- The moves --

pub climb-kept : (plan : Plan) (s : State) (i : ℕ) → IsProcessor plan s → IsProcessor plan (moved plan s (Climb i))
unfolding moved
climb-kept plan s i h =
    kept-where plan s (cell_at s.cells i) _ h (λ c e. kept-where plan s (cell_at s.cells (i + 1)) (climbed s i c) h (λ d f.
    let low = stage-at plan s i c h e in
    let high = stage-at plan s (i + 1) d h f in
    cell-kept plan (with_cell s i (without_passenger c)) (i + 1) (record d { passenger = c.passenger; met = false })
    (cell-kept plan s i (without_passenger c) h (passenger-gone (isa_of plan) c low))
    (passenger-new (isa_of plan) d c.passenger high low.passenger)))

pub fall-kept : (plan : Plan) (s : State) (i : ℕ) → IsProcessor plan s → IsProcessor plan (moved plan s (Fall i))
unfolding moved
fall-kept plan s i h =
    kept-where plan s (cell_at s.cells i) _ h (λ c e. kept-where plan s (cell_at s.cells (i - 1)) (fallen s i c) h (λ d f.
    let high = stage-at plan s i c h e in
    let low = stage-at plan s (i - 1) d h f in
    cell-kept plan (with_cell s i (without_packet c)) (i - 1) (record d { packet = c.packet; met = false })
    (cell-kept plan s i (without_packet c) h (packet-gone (isa_of plan) c high))
    (packet-new (isa_of plan) d c.packet low high.packet)))

-- a stage in which only the instruction changes
pub change-kept : (plan : Plan) (s : State) (i : ℕ) (f : Cell → Passenger → State) → IsProcessor plan s →
    ((c : Cell) (p : Passenger) → IsCellOfSet (isa_of plan) c → c.passenger ≡ Some p → IsPassenger (isa_of plan) p → IsProcessor plan (f c p)) →
    IsProcessor plan (on (cell_at s.cells i) s (λ c. on c.passenger s (f c)))
change-kept plan s i f h g =
    kept-where plan s (cell_at s.cells i) _ h (λ c e. kept-where plan s c.passenger (f c) h (λ p there.
    let stage = stage-at plan s i c h e in
    g c p stage there (passenger-in (isa_of plan) c p stage there)))

pub meet-kept : (plan : Plan) (s : State) (i : ℕ) → IsProcessor plan s → IsProcessor plan (moved plan s (Meet i))
unfolding moved
meet-kept plan s i h =
    change-kept plan s i _ h (λ c p stage there rider. kept-where plan s c.packet (λ k. with_cell s i (cell_met c p k)) h (λ k e.
    cell-kept plan s i (cell_met c p k) h (both-met (isa_of plan) c p k rider (packet-in (isa_of plan) c k stage e))))

pub execute-kept : (plan : Plan) (s : State) (i : ℕ) → IsProcessor plan s → IsProcessor plan (moved plan s (Execute i))
unfolding moved
execute-kept plan s i h =
    change-kept plan s i _ h (λ c p stage there rider.
    cell-kept plan s i (with_passenger c (finish p None)) h (passenger-changed (isa_of plan) c (finish p None) stage
    (finish-passenger (isa_of plan) p None rider)))

-- an instruction that owes nothing sends nothing
send_owes : (c : Cell) (p : Passenger) → c.passenger ≡ Some p → send_bar c ≡ None → IsTrue (is_some p.owes)
send_owes c p e f = grind arith

pub send-kept : (plan : Plan) (s : State) (i : ℕ) → IsProcessor plan s → row_bar plan s (Send i) ≡ None → IsProcessor plan (moved plan s (Send i))
unfolding moved
send-kept plan s i h free =
    kept-where plan s (cell_at s.cells i) _ h (λ c e. kept-where plan s c.passenger (λ p. with_cell s i (sent p)) h (λ p there.
    let stage = stage-at plan s i c h e in
    let owes = send_owes c p there (rw e at free) in
    cell-kept plan s i (sent p) h (packet-sent (isa_of plan) p (passenger-in (isa_of plan) c p stage there) owes)))
