-- The table of moves, second half: what each allowed move does. What a row does not name is unchanged. Nothing is
-- claimed of a barred move: if a cell, an instruction or a result is missing, the state is unchanged.
use Rattle.std.specs.Prelude.{ℕ, ◌+◌, ◌-◌, List, [], ◌∷◌, ◌++◌, Option, Some, None, Bool, true, false, if◌then◌else◌, slice_get, slice_index, slice_set}
use Rattle.mem_regions.specs.Access.{bounds_of}
use Rattle.rv_machine.specs.Call.{Called}
use Rattle.rv_machine.specs.Call as called
use Rattle.cf_layout.specs.Layout.{Plan, siding_of}
use Rattle.cf_bind.specs.declared.binding.Binding.{Binding}
use Rattle.cf_bind.specs.declared.cell.Cell.{Cell}
use Rattle.cf_bind.specs.declared.cell.Op.{Op}
use Rattle.cf_bind.specs.declared.packet.Packet.{Packet}
use Rattle.cf_bind.specs.declared.packet.Packet.TheVariants.{Value, Turn, Halt}
use Rattle.cf_bind.specs.declared.packet.Fetch.{Fetch}
use Rattle.cf_bind.specs.declared.packet.Fetch.TheVariants.{Running, Waiting}
use Rattle.cf_bind.specs.declared.passenger.Passenger.{Passenger}
use Rattle.cf_bind.specs.declared.passenger.Guess.{Guess}
use Rattle.cf_bind.specs.declared.passenger.End.{End}
use Rattle.cf_bind.specs.declared.passenger.End.TheVariants as ending
use Rattle.cf_bind.specs.declared.moves.Move.{Move}
use Rattle.cf_bind.specs.declared.moves.Move.TheVariants.{Issue, Emit, Climb, Fall, Meet, Execute, Send, Launch, Slide, Access, Recover, Leave, Exit, Serve}
use Rattle.cf_bind.specs.Meeting.{meeting}
use Rattle.cf_semantics.specs.state.Options.{on, is_some}
use Rattle.cf_semantics.specs.moves.Instructions.{is_memory, word_after, fetched, access_trap, mem_after, answer_of, serve_of}
use Rattle.cf_semantics.specs.state.State.{State, Moment, cell_at, siding_at, with_cell, with_siding}
use Rattle.cf_semantics.specs.state.Passengers.{instruction, kind, value_in, reg_in, with_value, trapped, finish, forgets, cleared, fresh, goto, requests}
use Rattle.cf_semantics.specs.state.Layouts.{isa_of, port}
use Rattle.cf_semantics.specs.moves.Bars.{last_op, running}

-- fetch runs at the address, or waits if none is given
abbrev pub fetch_from : Option ℕ → Fetch
fetch_from (Some pc) = Running pc
fetch_from None = Waiting

-- a siding with other contents in its last cell
abbrev pub set_last : List (Option Op) → Option Op → List (Option Op)
set_last [] q = []
set_last (o ∷ []) q = q ∷ []
set_last (o ∷ p ∷ ops) q = o ∷ set_last (p ∷ ops) q

-- f applied to stage i; if there is no such stage, the state is unchanged
abbrev pub on_cell : State → ℕ → (Cell → State) → State
on_cell s i f = on (cell_at s.cells i) s f

-- f applied to stage i and its instruction; if either is missing, the state is unchanged
abbrev pub on_passenger : State → ℕ → (Cell → Passenger → State) → State
on_passenger s i f = on_cell s i (λ c. on c.passenger s (f c))

-- a stage without its instruction; without its result; with another instruction
abbrev pub without_passenger : Cell → Cell
without_passenger c = record c { passenger = None; met = false }

abbrev pub without_packet : Cell → Cell
without_packet c = record c { packet = None; met = false }

abbrev pub with_passenger : Cell → Passenger → Cell
with_passenger c p = record c { passenger = Some p }

-- Issue: a new instruction is in stage 1, its missing sources are requested, the cache forgets its destination, and
-- fetch goes on after it
abbrev pub issued : Plan → State → Guess → Cell → ℕ → State
issued plan s g c pc =
    let p = fresh s.cache (fetched (isa_of plan) s.mem pc) pc g in
    record (with_cell s 1 (record c { passenger = Some p; met = false })) {
      lane = s.lane ++ requests p;
      fetch = fetch_from (goto p);
      cache = forgets (reg_in p.dst) s.cache;
    }

-- Emit: the first request leaves the lane, and the register's value is in the highest stage
abbrev pub emitted : State → ℕ → List ℕ → Cell → State
emitted s n [] c = s
emitted s n (r ∷ lane) c =
    record (with_cell s n (record c { packet = Some (Value r (slice_index s.regs r)); met = false })) { lane = lane }

-- Climb: the instruction of stage i is in the stage above, not met
abbrev pub climbed : State → ℕ → Cell → Cell → State
climbed s i c d = with_cell (with_cell s i (without_passenger c)) (i + 1) (record d { passenger = c.passenger; met = false })

-- Fall: the result of stage i is in the stage below, not met
abbrev pub fallen : State → ℕ → Cell → Cell → State
fallen s i c d = with_cell (with_cell s i (without_packet c)) (i - 1) (record d { packet = c.packet; met = false })

-- Meet: the stage has what the meeting leaves, and has met, or has lost its result
abbrev pub cell_met : Cell → Passenger → Packet → Cell
cell_met c p k = let m = meeting p k in record { passenger = Some m.passenger; packet = m.packet; met = is_some m.packet }

-- Send: what the instruction owes is beside it, met; the move is allowed only if no result is there
abbrev pub sent : Passenger → Cell
sent p = record { passenger = Some (record p { owes = None }); packet = p.owes; met = true }

-- the operation of an instruction; Launch is allowed only if both its sources have values
abbrev pub operation : Passenger → Op
operation p = record { pc = p.pc; instr = instruction p; a = value_in p.src1; b = value_in p.src2; answer = None }

-- the trap of a load or a store that memory does not permit
abbrev pub launch_trap : State → Passenger → Option End
launch_trap s p = if is_memory (kind p) then access_trap (instruction p) p.pc (value_in p.src1) (bounds_of s.mem) else None

-- Launch: the operation enters the siding, or the instruction traps
abbrev pub launched : Plan → State → ℕ → Cell → Passenger → State
launched plan s i c p = on (launch_trap s p)
    (on (siding_of plan (kind p)) s (λ k.
    with_siding (with_cell s i (with_passenger c (record p { launched = true }))) k (slice_set (siding_at s k) 0 (Some (operation p)))))
    (λ e. with_cell s i (with_passenger c (trapped p e)))

-- Slide: the operation is in the next cell
abbrev pub slid : State → ℕ → ℕ → State
slid s k c = on (slice_get (siding_at s k) c) s (λ o. with_siding s k (slice_set (slice_set (siding_at s k) c None) (c + 1) o))

-- Access: the load or store at the end of Memory's siding is carried out and answered
abbrev pub accessed : Plan → State → Op → State
accessed plan s op =
    record (with_siding s (port plan) (set_last (siding_at s (port plan)) (Some (record op { answer = Some (answer_of op.instr op.a op.b s.mem) })))) {
      mem = mem_after op.instr op.a op.b s.mem;
    }

-- an instruction takes its operation back: a live one finishes. Right only in reached states: there what it launched
-- has its source values, and is not done
abbrev pub back_in : Passenger → Option ℕ → Passenger
back_in p answer = if p.dead then record p { recovered = true } else finish (record p { recovered = true }) answer

-- Recover: the operation at the end of the siding is taken out. Right only in reached states, in which it is the
-- instruction's own (`exit_op_bar`)
abbrev pub recovered : Plan → State → ℕ → Cell → Passenger → State
recovered plan s i c p = on (siding_of plan (kind p)) s (λ k. on (last_op (siding_at s k)) s (λ op.
    with_siding (with_cell s i (with_passenger c (back_in p op.answer))) k (set_last (siding_at s k) None)))

-- the registers with a destination's value written. Right only in reached states: there a live instruction that is done
-- and does not end the program has this value
abbrev pub written : List ℕ → Option Binding → List ℕ
written regs None = regs
written regs (Some b) = slice_set regs b.reg (value_in (Some b))

-- a live instruction that leaves ends the program, or it retires
abbrev pub left_live : State → Passenger → State
left_live s p = on p.ending (record s { regs = written s.regs p.dst; retired = s.retired + 1 }) (λ e. record s { ending = Some e })

-- Leave: the instruction of the highest stage is gone; a dead instruction leaves no trace
abbrev pub left : State → ℕ → Cell → Passenger → State
left s n c p =
    let t = with_cell s n (without_passenger c) in
    if p.dead then t else left_live t p

-- where fetch goes on when a result leaves at the bottom
abbrev pub turned : Fetch → Packet → Fetch
turned f (Value r v) = f
turned f (Turn pc) = Running pc
turned f Halt = Waiting

-- the cache at the bottom when a result leaves there: it holds a value, if the layout has the cache; it is empty once
-- fetch is turned or halted
abbrev pub keeps : Bool → List (Option ℕ) → Packet → List (Option ℕ)
keeps true cache (Value r v) = slice_set cache r (Some v)
keeps false cache (Value r v) = cache
keeps b cache (Turn pc) = cleared cache
keeps b cache Halt = cleared cache

-- Exit: the result of the lowest stage is gone
abbrev pub exited : Plan → State → Cell → State
exited plan s c = on c.packet s (λ k.
    record (with_cell s 1 (without_packet c)) { fetch = turned s.fetch k; cache = keeps plan.cache s.cache k })

-- the state after an allowed move other than Serve, which calls the environment
unfoldable pub moved : Plan → State → Move → State
moved plan s (Issue g) = on_cell s 1 (λ c. on (running s.fetch) s (issued plan s g c))
moved plan s Emit = on_cell s plan.stages (emitted s plan.stages s.lane)
moved plan s (Climb i) = on_cell s i (λ c. on_cell s (i + 1) (climbed s i c))
moved plan s (Fall i) = on_cell s i (λ c. on_cell s (i - 1) (fallen s i c))
moved plan s (Meet i) = on_passenger s i (λ c p. on c.packet s (λ k. with_cell s i (cell_met c p k)))
moved plan s (Execute i) = on_passenger s i (λ c p. with_cell s i (with_passenger c (finish p None)))
moved plan s (Send i) = on_passenger s i (λ c p. with_cell s i (sent p))
moved plan s (Launch i) = on_passenger s i (launched plan s i)
moved plan s (Slide k c) = slid s k c
moved plan s Access = on (last_op (siding_at s (port plan))) s (accessed plan s)
moved plan s (Recover i) = on_passenger s i (recovered plan s i)
moved plan s Leave = on_passenger s plan.stages (left s plan.stages)
moved plan s Exit = on_cell s 1 (exited plan s)
moved plan s Serve = s

-- the environment has answered an instruction: all that was fetched after it must be fetched again. Right only in
-- reached states: there an instruction that is not done owes nothing that would be lost
abbrev pub answered : Passenger → ℕ → Passenger
answered p v = record p { done = true; dst = with_value v p.dst; next = Some (word_after p.pc); owes = Some (Turn (word_after p.pc)) }

-- Serve: the call is answered, or it ends the program once the instruction leaves
abbrev pub served : Moment → ℕ → Cell → Passenger → Called → Moment
served m n c p (called.Value a) = record {
  state = record (with_cell m.state n (with_passenger c (answered p a.value))) { mem = a.mem };
  rest = a.rest;
  output = m.output ++ a.output;
}
served m n c p (called.Exit status) =
    record m { state = with_cell m.state n (with_passenger c (record p { done = true; ending = Some (ending.Exit status) })) }

-- the instruction in the highest stage calls the environment
abbrev pub asked : Moment → ℕ → Cell → Passenger → Moment
asked m n c p = served m n c p (serve_of (instruction p) m.state.regs m.state.mem m.rest)

-- the moment after an allowed move
unfoldable pub next : Plan → Moment → Move → Moment
next plan m Serve = on (cell_at m.state.cells plan.stages) m (λ c. on c.passenger m (asked m plan.stages c))
next plan m mv = record m { state = moved plan m.state mv }
