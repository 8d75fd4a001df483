-- The event of an allowed move: what it shows from outside.
use Rattle.std.specs.Prelude.{◌≡◌, ℕ, ◌<◌, ◌^◌, Option, Some, None, true, false, ◌&&◌, not, if◌then◌else◌}
use Rattle.rv_inst.specs.Encoding.{Encodes}
use Rattle.rv_machine.specs.declared.outcome.Retired.{Retired}
use Rattle.cf_layout.specs.Layout.{Plan}
use Rattle.cf_bind.specs.declared.binding.Binding.{Binding}
use Rattle.cf_bind.specs.declared.cell.Cell.{Cell}
use Rattle.cf_bind.specs.declared.packet.Packet.{Packet}
use Rattle.cf_bind.specs.declared.passenger.Passenger.{Passenger}
use Rattle.cf_bind.specs.declared.moves.Move.{Move}
use Rattle.cf_bind.specs.declared.moves.Move.TheVariants.{Meet, Leave}
use Rattle.cf_bind.specs.Meeting.{meeting}
use Rattle.cf_semantics.specs.declared.event.Event.{Event}
use Rattle.cf_semantics.specs.declared.event.Event.TheVariants as event
use Rattle.cf_semantics.specs.state.Options.{on, is_some}
use Rattle.cf_semantics.specs.state.State.{State, cell_at}
use Rattle.cf_semantics.specs.state.Passengers.{instruction, value_in}
use Rattle.cf_semantics.specs.runs.Lines.{Line}

-- the register of a binding, or 0 if there is no binding
abbrev pub register_in : Option Binding → ℕ
register_in None = 0
register_in (Some b) = b.reg

-- the reported retirement is the line: its word encodes the instruction
pub record Shows (line : Line) (shown : Retired) : Type 0 where
  pub pc : shown.pc ≡ line.pc
  pub word : Encodes shown.word line.what
  pub is_word : shown.word < 2 ^ 32
  pub register : shown.reg ≡ register_in line.wrote
  pub value : shown.value ≡ value_in line.wrote

-- a meeting kills the result, or makes a live instruction dead, or is not seen
abbrev pub meeting_event : Passenger → Packet → Event
meeting_event p k =
    if not (is_some (meeting p k).packet) then event.Killed else
    if not p.dead && (meeting p k).passenger.dead then event.Died else event.Plain

-- a live instruction that leaves retires or ends the program; a dead instruction is not seen
abbrev pub IsLeaving : Passenger → Event → Type 0
IsLeaving p (event.Retired shown) = (p.dead ≡ false) × (p.ending ≡ None) × Shows (record { pc = p.pc; what = instruction p; wrote = p.dst }) shown
IsLeaving p (event.Ended e) = (p.dead ≡ false) × (p.ending ≡ Some e)
IsLeaving p event.Plain = p.dead ≡ true
IsLeaving p event.Killed = ⊥
IsLeaving p event.Died = ⊥

-- this is the event of the move
abbrev pub IsEvent : Plan → State → Move → Event → Type 0
IsEvent plan s (Meet i) e = e ≡ on (cell_at s.cells i) event.Plain (λ c. on c.passenger event.Plain (λ p. on c.packet event.Plain (meeting_event p)))
IsEvent plan s Leave e = (c : Cell) (p : Passenger) → cell_at s.cells plan.stages ≡ Some c → c.passenger ≡ Some p → IsLeaving p e
IsEvent plan s mv e = e ≡ event.Plain
