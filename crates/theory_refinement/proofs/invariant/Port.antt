-- The order of memory operations, and what has become of memory, input and output.
use Rattle.std.specs.Prelude.{◌≡◌, ℕ, List, Option, Some, None, Bool, true, false, ◌||◌, if◌then◌else◌}
use Rattle.mem_regions.specs.Memory.{Memory}
use Rattle.mem_regions.specs.Access.{bounds_of}
use Rattle.rv_inst.specs.declared.isa.Isa.{Isa}
use Rattle.rv_machine.specs.Machine.{Machine}
use Rattle.cf_layout.specs.Layout.{Plan}
use Rattle.cf_bind.specs.declared.passenger.Passenger.{Passenger}
use Rattle.cf_semantics.specs.moves.Instructions.{is_memory, step_at, after_step, access_trap}
use Rattle.cf_semantics.specs.state.State.{State}
use Rattle.cf_semantics.specs.state.Column.{Item, Up, Down}
use Rattle.cf_semantics.specs.state.Passengers.{instruction, kind, value_in}
use Rattle.cf_semantics.specs.claims.Ahead.{has_served, flies, has_ported, answer_there}
use Rattle.cf_semantics.specs.claims.Path as path
use Rattle.cf_semantics.specs.moves.Fetches.{Text, code_of}
use Rattle.cf_semantics.specs.claims.Soundness.{IsAnswer, may_turn}

-- what is known on the way down, besides the path: whether memory may not be touched further down; what has become of
-- memory, code, input and output; and the answer at the end of Memory's siding until its own instruction is passed
pub record Dock : Type 0 where
  pub path : path.Walk
  pub risky : Bool
  pub mem : Memory
  pub code : List Text
  pub rest : List ℕ
  pub out : List ℕ
  pub answer : Option ℕ

-- what holds of an instruction at the memory port
pub record IsDocked (isa : Isa) (p : Passenger) (x : Machine) (risky : Bool) (answer : Option ℕ) : Type 0 where
  pub live : is_memory (kind p) ≡ true → (p.launched || p.recovered) ≡ true → p.dead ≡ false
  pub order : is_memory (kind p) ≡ true → (p.launched || p.recovered) ≡ true → risky ≡ false
  pub served : has_served p ≡ true → risky ≡ false
  pub permitted : is_memory (kind p) ≡ true → (p.launched || p.recovered) ≡ true → access_trap (instruction p) p.pc (value_in p.src1) (bounds_of x.hart.mem)
      ≡ None
  pub answered : flies p ≡ true → (a : ℕ) → answer ≡ Some a → IsAnswer p.dst (after_step (step_at isa x p.pc) x).hart.regs a

unfoldable pub DockedAt : Isa → Passenger → Dock → Type 0
DockedAt isa p w = IsDocked isa p w.path.machine w.risky w.answer

-- an item, with what is known above it
unfoldable pub Fits : Isa → Item → Dock → Type 0
Fits isa (Up i p) w = DockedAt isa p w
Fits isa (Down i k) w = Unit {0}

abbrev pub past_passenger : Isa → ℕ → Passenger → path.Walk → Dock → Dock
past_passenger isa i p q w = let y = after_step (step_at isa w.path.machine p.pc) w.path.machine in record {
  path = q;
  risky = w.risky || may_turn (Up i p);
  mem = if has_ported p w.answer then y.hart.mem else w.mem;
  code = if has_served p then code_of y.hart.mem else w.code;
  rest = if has_served p then y.rest else w.rest;
  out = if has_served p then y.output else w.out;
  answer = if flies p then None else w.answer;
}

-- one item further down
unfoldable pub past : Isa → Item → Dock → Dock
past isa (Up i p) w = past_passenger isa i p (path.past isa (Up i p) w.path) w
past isa (Down i k) w = record w { path = path.past isa (Down i k) w.path; risky = w.risky || may_turn (Down i k) }

-- at the top
abbrev pub top : Plan → State → Machine → Dock
top plan s x = record {
  path = path.top s x;
  risky = false;
  mem = x.hart.mem;
  code = code_of x.hart.mem;
  rest = x.rest;
  out = x.output;
  answer = answer_there plan s;
}

-- below all: memory, code, input and output are these
pub record Ends (w : Dock) (mem : Memory) (rest out : List ℕ) : Type 0 where
  pub is_mem : mem ≡ w.mem
  pub is_code : code_of mem ≡ w.code
  pub is_rest : rest ≡ w.rest
  pub is_out : out ≡ w.out
