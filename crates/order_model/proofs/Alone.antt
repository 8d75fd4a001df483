-- The answer of the environment when nothing is left of the input.
use Rattle.std.proofs.Common.{◌≡◌, ℕ, ◌≤◌, List, [], Some, None, refl, arith}
use Rattle.cf_io.specs.Causes.{HasCause, Rose}
use Rattle.mem_regions.specs.Memory.{Memory}
use Rattle.rv_machine.specs.Acts.{Serves}
use Rattle.rv_machine.specs.Call.{Called, call}
use Rattle.rv_machine.specs.Call as called
use Rattle.rv_machine.specs.Faults.{input_served, output_served}
use Rattle.rv_machine.specs.Streams.{Streams}
use Rattle.rv_machine.specs.declared.outcome.Served.{Served}
use Rattle.rv_machine.specs.declared.outcome.Served.TheVariants as answer
use Rattle.cf_layout.specs.Layout.{Plan}
use Rattle.cf_bind.specs.declared.cell.Cell.{Cell}
use Rattle.cf_bind.specs.declared.moves.Move.TheVariants.{Serve}
use Rattle.cf_bind.specs.declared.passenger.Passenger.{Passenger}
use Rattle.cf_semantics.specs.state.State.{State, Moment, cell_at, with_cell}
use Rattle.cf_semantics.specs.state.Passengers.{instruction}
use Rattle.cf_semantics.specs.moves.Instructions.{serve_of}
use Rattle.cf_semantics.specs.moves.Moves.{next, served, with_passenger}
use Rattle.order_model.specs.ServeEffects.{told, memory_served, passenger_served}
use Rattle.order_model.specs.Situations.{lone_moment, in_memory}

-- the memory and the answer of a call
record Leaves (c : Called) (mem new : Memory) (s : Served) : Type 0 where
  pub memory : new ≡ memory_served c mem
  pub answer : s ≡ told c

leaves : (regs : List ℕ) (mem new : Memory) (before after : Streams) (s : Served) → before.input ≡ Some [] →
    Serves regs mem new before after s → HasCause 0 0 (input_served s) → HasCause 0 0 (output_served s) → Leaves (call regs mem []) mem new s
unfolding Serves
leaves regs mem new before after (answer.Value v) b r i o =
    let e : r.rest ≡ [] = rw b at r.told in
    let f : call regs mem [] ≡ called.Value (record { value = v; mem = new; rest = r.later; output = r.added }) = rw e at r.is in
    record { memory = rw f refl; answer = rw f refl }
leaves regs mem new before after (answer.Exit status) b r i o =
    let e : r.rest ≡ [] = rw b at r.told in
    let f : call regs mem [] ≡ called.Exit status = rw e at r.is in
    record { memory = rw f r.memory; answer = rw f refl }
leaves regs mem new before after answer.ReadFault b r i o = absurd (let h : Rose 0 0 = i.rose in omega arith)
leaves regs mem new before after answer.WriteFault b r i o = absurd (let h : Rose 0 0 = o.rose in omega arith)

pub call_memory : (regs : List ℕ) (mem new : Memory) (before after : Streams) (s : Served) → before.input ≡ Some [] →
    Serves regs mem new before after s → HasCause 0 0 (input_served s) → HasCause 0 0 (output_served s) → new ≡ memory_served (call regs mem []) mem
call_memory regs mem new before after s b r i o = (leaves regs mem new before after s b r i o).memory

pub call_answer : (regs : List ℕ) (mem new : Memory) (before after : Streams) (s : Served) → before.input ≡ Some [] →
    Serves regs mem new before after s → HasCause 0 0 (input_served s) → HasCause 0 0 (output_served s) → s ≡ told (call regs mem [])
call_answer regs mem new before after s b r i o = (leaves regs mem new before after s b r i o).answer

pub ruleset calling = (call_memory, call_answer)

-- an answer is that of one call
pub answers_value : (c : Called) (v : ℕ) (p : Passenger) → answer.Value v ≡ told c →
    passenger_served c p ≡ passenger_served (called.Value (record { value = v; mem = record { areas = []; program_break = 0 }; rest = []; output = [] })) p
answers_value (called.Value a) v p e = cc
answers_value (called.Exit status) v p e = absurd (cc)

pub answers_exit : (c : Called) (status : ℕ) (p : Passenger) → answer.Exit status ≡ told c → passenger_served c p ≡ passenger_served (called.Exit status) p
answers_exit (called.Value a) status p e = absurd (cc)
answers_exit (called.Exit s) status p e = cc

pub no_read_fault : (c : Called) → answer.ReadFault ≡ told c → ⊥
no_read_fault (called.Value a) e = cc
no_read_fault (called.Exit status) e = cc

pub no_write_fault : (c : Called) → answer.WriteFault ≡ told c → ⊥
no_write_fault (called.Value a) e = cc
no_write_fault (called.Exit status) e = cc

pub ruleset answering = (answers_value, answers_exit, no_read_fault, no_write_fault)

-- Serve leaves the answered instruction and the memory of the call
served_state : (m : Moment) (n : ℕ) (c : Cell) (p : Passenger) (o : Called) →
    (served m n c p o).state ≡ record (with_cell m.state n (with_passenger c (passenger_served o p))) { mem = memory_served o m.state.mem }
served_state m n c p (called.Value a) = refl
served_state m n c p (called.Exit status) = refl

pub serve_here : (plan : Plan) (s : State) (mem : Memory) (c : Cell) (p : Passenger) → cell_at s.cells plan.stages ≡ Some c → c.passenger ≡ Some p →
    (next plan (lone_moment (in_memory s mem)) Serve).state
    ≡ in_memory (with_cell s plan.stages (with_passenger c (passenger_served (serve_of (instruction p) s.regs mem []) p)))
    (memory_served (serve_of (instruction p) s.regs mem []) mem)
unfolding next
serve_here plan s mem c p e f = rw (e, f) (served_state (lone_moment (in_memory s mem)) plan.stages c p (serve_of (instruction p) s.regs mem []))

pub serve_no_cell : (plan : Plan) (s : State) → cell_at s.cells plan.stages ≡ None → (next plan (lone_moment s) Serve).state ≡ s
unfolding next
serve_no_cell plan s e = rw e refl

pub serve_no_passenger : (plan : Plan) (s : State) (c : Cell) → cell_at s.cells plan.stages ≡ Some c → c.passenger ≡ None →
    (next plan (lone_moment s) Serve).state ≡ s
unfolding next
serve_no_passenger plan s c e f = rw (e, f) refl

pub ruleset serving = (serve_here, serve_no_cell, serve_no_passenger)
