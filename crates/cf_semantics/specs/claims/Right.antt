-- How many sure instructions are on the sequential path: the address of each is the machine's once those above it are
-- executed.
use Rattle.std.specs.Prelude.{ℕ, ◌+◌, Bool, true, false, ◌&&◌, ◌==◌, not, ◌||◌}
use Rattle.rv_inst.specs.declared.isa.Isa.{Isa}
use Rattle.rv_machine.specs.Machine.{Machine}
use Rattle.cf_bind.specs.declared.passenger.Passenger.{Passenger}
use Rattle.cf_semantics.specs.moves.Instructions.{StepResult, Goes, Stops, step_at}
use Rattle.cf_semantics.specs.state.State.{State}
use Rattle.cf_semantics.specs.state.Column.{Item, Up, Down, column}
use Rattle.cf_semantics.specs.claims.Walks.{walk}
use Rattle.cf_semantics.specs.claims.Path as path
use Rattle.cf_semantics.specs.claims.Ahead.{one}

-- the path so far; whether all sure instructions so far are on it and go on; how many they are; and whether the first
-- instruction that does not go on ends the program there
pub record Way : Type 0 where
  pub path : path.Walk
  pub on : Bool
  pub count : ℕ
  pub stop : Bool

abbrev pub goes : StepResult → Bool
goes (Goes m) = true
goes (Stops e) = false

-- its address is the machine's, and the step goes on
unfoldable pub follows : Isa → Passenger → Machine → Bool
follows isa p x = (p.pc == x.hart.pc) && goes (step_at isa x p.pc)

-- its address is the machine's, and the step ends the program
unfoldable pub stops : Isa → Passenger → Machine → Bool
stops isa p x = (p.pc == x.hart.pc) && not (goes (step_at isa x p.pc))

abbrev pub past_passenger : Isa → Bool → Passenger → path.Walk → Way → Way
past_passenger isa true p q w = record {
  path = q;
  on = follows isa p w.path.machine;
  count = w.count + one (follows isa p w.path.machine);
  stop = w.stop || stops isa p w.path.machine;
}
past_passenger isa false p q w = record w { path = q }

unfoldable pub past : Isa → Item → Way → Way
past isa (Up i p) w = past_passenger isa (path.is_sure p w.path && w.on) p (path.past isa (Up i p) w.path) w
past isa (Down i k) w = record w { path = path.past isa (Down i k) w.path }

abbrev pub begin : State → Machine → Way
begin s x = record { path = path.top s x; on = true; count = 0; stop = false }

-- below all items
abbrev pub way : Isa → State → Machine → Way
way isa s x = walk (past isa) (column s) (begin s x)

-- how many sure instructions are on the path and go on
abbrev pub right : Isa → State → Machine → ℕ
right isa s x = (way isa s x).count
