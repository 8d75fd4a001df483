-- The path of the program through the column. An instruction is sure if it is live and no barrier is above it: nothing
-- can cancel it any more. The machine after the sure instructions is the sequential machine once it has executed them.
use Rattle.std.specs.Prelude.{ℕ, List, [], ◌∷◌, Option, Some, None, Bool, true, false, ◌&&◌, ◌||◌, not, ◌==◌}
use Rattle.rv_inst.specs.declared.isa.Isa.{Isa}
use Rattle.rv_machine.specs.Machine.{Machine}
use Rattle.cf_bind.specs.declared.binding.Binding.{Binding}
use Rattle.cf_bind.specs.declared.packet.Packet.{Packet}
use Rattle.cf_bind.specs.declared.packet.Packet.TheVariants.{Value, Turn, Halt}
use Rattle.cf_bind.specs.declared.passenger.Passenger.{Passenger}
use Rattle.cf_bind.specs.declared.passenger.End.{End}
use Rattle.cf_bind.specs.declared.passenger.End.TheVariants.{Trap, Exit}
use Rattle.cf_semantics.specs.state.Options.{is_some}
use Rattle.cf_semantics.specs.moves.Instructions.{step_at, after_step}
use Rattle.cf_semantics.specs.state.State.{State}
use Rattle.cf_semantics.specs.state.Column.{Item, Up, Down}
use Rattle.cf_semantics.specs.state.Passengers.{goto}

-- what is known on the way down: the machine after the sure instructions so far; whether a barrier was passed; where
-- the program goes after the last of them, if anywhere; whether that one is executed without ending the program (or
-- none was passed yet); whether it traps; and for which registers a sure instruction further down may wait
pub record Walk : Type 0 where
  pub machine : Machine
  pub barred : Bool
  pub goto : Option ℕ
  pub settled : Bool
  pub trapped : Bool
  pub coming : ℕ → Bool

-- the ending is a trap
abbrev pub is_trap : Option End → Bool
is_trap None = false
is_trap (Some (Exit status)) = false
is_trap (Some (Trap cause pc detail)) = true

-- a barrier: a turn or a halt, which cancels what is below it
abbrev pub turns : Option Packet → Bool
turns None = false
turns (Some (Value r v)) = false
turns (Some (Turn pc)) = true
turns (Some Halt) = true

-- the binding is of this register
abbrev pub has_reg : Option Binding → ℕ → Bool
has_reg None r = false
has_reg (Some b) r = b.reg == r

-- a sure instruction below may wait for r, which is the destination of this one: this one is not executed yet or owes
-- the value; or it owes a turn or a halt, or ends the program, and then no instruction below it is sure
abbrev pub brings : Passenger → ℕ → Bool
brings p r = has_reg p.dst r && (not p.done || is_some p.owes || is_some p.ending)

-- live, with no barrier above it
abbrev pub is_sure : Passenger → Walk → Bool
is_sure p w = not p.dead && not w.barred

-- after an instruction: if it is sure, the machine has made its step
abbrev pub past_passenger : Isa → Bool → Passenger → Walk → Walk
past_passenger isa true p w = record {
  machine = after_step (step_at isa w.machine p.pc) w.machine;
  barred = turns p.owes;
  goto = goto p;
  settled = p.done && not (is_some p.ending);
  trapped = is_trap p.ending;
  coming = λ r. brings p r || w.coming r;
}
past_passenger isa false p w = w

abbrev pub past_packet : Packet → Walk → Walk
past_packet (Value r v) w = record w { coming = λ s. (s == r) || w.coming s }
past_packet (Turn pc) w = record w { barred = true }
past_packet Halt w = record w { barred = true }

-- one item further down
unfoldable pub past : Isa → Item → Walk → Walk
past isa (Up i p) w = past_passenger isa (is_sure p w) p w
past isa (Down i k) w = past_packet k w

-- the register is among these
abbrev pub among : ℕ → List ℕ → Bool
among r [] = false
among r (x ∷ xs) = (r == x) || among r xs

-- at the top: the sequential machine after the instructions that have retired so far
abbrev pub top : State → Machine → Walk
top s x = record { machine = x; barred = false; goto = Some x.hart.pc; settled = true; trapped = false; coming = λ r. among r s.lane }
