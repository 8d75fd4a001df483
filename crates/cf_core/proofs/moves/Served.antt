-- What the environment answers to the instruction in the highest stage is what Serve makes of it.
use Rattle.std.proofs.Common.{◌≡◌, ◌≢◌, ℕ, List, [], Option, Some, None, true, refl, sym, ap, subst, ◌∙◌, arith}
use Rattle.std.specs.Prelude.{Result, Ok}
use Rattle.mem_regions.specs.Memory.{Memory}
use Rattle.mem_regions.specs.Fetching.{synced}
use Rattle.rv_inst.specs.declared.instruction.Instr.{Instr}
use Rattle.rv_inst.specs.declared.instruction.Instr.TheVariants.{Ecall, Ebreak, FenceI}
use Rattle.rv_inst.specs.declared.classes.Class.TheVariants.{Free}
use Rattle.rv_inst.specs.Operands.{class_of}
use Rattle.rv_machine.specs.Acts.{Returns, Quits, Serves}
use Rattle.rv_machine.specs.declared.outcome.Served.{Served}
use Rattle.rv_machine.specs.declared.outcome.Served.TheVariants as answer
use Rattle.rv_machine.specs.Call.{Called, call}
use Rattle.rv_machine.specs.Call as called
use Rattle.rv_machine.specs.Streams.{Streams}
use Rattle.cf_layout.specs.Layout.{Plan}
use Rattle.cf_bind.specs.declared.cell.Cell.{Cell}
use Rattle.cf_bind.specs.declared.moves.Move.TheVariants.{Serve}
use Rattle.cf_bind.specs.declared.passenger.Passenger.{Passenger}
use Rattle.cf_bind.specs.declared.passenger.End.TheVariants as ending
use Rattle.cf_semantics.specs.state.Options.{on, Where}
use Rattle.cf_semantics.specs.state.State.{State, Moment, cell_at, put_cell, with_cell}
use Rattle.cf_semantics.specs.moves.Instructions.{serve_of, is_serial, kind_of}
use Rattle.cf_semantics.specs.state.Passengers.{instruction, kind}
use Rattle.cf_semantics.specs.moves.Moves.{next, asked, served, answered, with_passenger}
use Rattle.cf_stages.specs.Changes.{changed, passenger_at}
use Rattle.cf_core.specs.Processors.{Processor, in_state}
use Rattle.cf_core.proofs.moves.Exits.{exit-any_rest}
use Rattle.cf_core.proofs.Quiet.{with_rest, still-makes}
use Rattle.cf_core.specs.declared.fault.Fault.{Fault}
use Rattle.cf_core.specs.Places.{with_memory}
use Rattle.cf_core.specs.Stepping.{Makes, CallsAtTop, ServesOrFails, taken, told_of, synchronized}

-- the instruction is in this stage
record Place (s : State) (i : ℕ) (p : Passenger) : Type 0 where
  pub cell : Cell
  pub here : cell_at s.cells i ≡ Some cell
  pub rides : cell.passenger ≡ Some p

place_in : (s : State) (i : ℕ) (p : Passenger) (o : Option Cell) → cell_at s.cells i ≡ o → on o None (λ c. c.passenger) ≡ Some p → Place s i p
place_in s i p None e f = absurd (cc)
place_in s i p (Some c) e f = record { cell = c; here = e; rides = f }

place : (s : State) (i : ℕ) (p : Passenger) → passenger_at s.cells i ≡ Some p → Place s i p
place s i p f = place_in s i p (cell_at s.cells i) refl f

pub calls_here : (old : Processor) (p : Passenger) → passenger_at old.state.cells old.plan.stages ≡ Some p → instruction p ≡ Ecall → CallsAtTop old
calls_here old p e f = subst (λ o. Where o ⊥ (λ q. instruction q ≡ Ecall)) (sym e) f

-- the instruction that is answered
next_asked : (plan : Plan) (m : Moment) (p : Passenger) (h : Place m.state plan.stages p) → next plan m Serve ≡ asked m plan.stages h.cell p
unfolding next
next_asked plan m p h = rw (h.here, h.rides) refl

call_asked : (p : Passenger) (regs : List ℕ) (mem : Memory) (rest : List ℕ) → instruction p ≡ Ecall →
    serve_of (instruction p) regs mem rest ≡ call regs mem rest
unfolding serve_of
call_asked p regs mem rest e = rw e refl

-- a stage with another instruction
changed_here : (cells : List Cell) (i : ℕ) (c : Cell) (f : Cell → Cell) → cell_at cells i ≡ Some c → put_cell cells i (f c) ≡ changed cells i f
changed_here cells i c f e = rw e refl

-- a call that is answered, and one that ends the program once the instruction leaves
answer_makes : (old : Processor) (p : Passenger) (mem : Memory) (v : ℕ) (before after : Streams) → passenger_at old.state.cells old.plan.stages ≡ Some p →
    instruction p ≡ Ecall → Returns (call old.state.regs old.state.mem) mem before after v →
    Makes old (in_state old (taken (with_memory old mem) p (answer.Value v))) Serve before after
answer_makes old p mem v before after e f r =
    let h = place old.state old.plan.stages p e in
    let m : Moment = record { state = old.state; rest = r.rest; output = [] } in
    record {
      rest = r.rest;
      told = r.told;
      later = r.later;
      added = r.added;
      is = next_asked old.plan m p h ∙ ap (served m old.plan.stages h.cell p) (call_asked p old.state.regs old.state.mem r.rest f ∙ r.is)
          ∙ ap (λ (z : List Cell). record { state = record old.state { cells = z; mem = mem }; rest = r.later; output = r.added })
          (changed_here old.state.cells old.plan.stages h.cell (λ c. with_passenger c (answered p v)) h.here);
      plan = refl;
      leaves = r.leaves;
      spent = r.spent;
    }

exit_asked : (m : Moment) (n : ℕ) (c : Cell) (p : Passenger) (o : Called) (status : ℕ) → o ≡ called.Exit status →
    served m n c p o ≡ record m { state = with_cell m.state n (with_passenger c (record p { done = true; ending = Some (ending.Exit status) })) }
exit_asked m n c p o status e = rw e refl

exit_makes : (old : Processor) (p : Passenger) (status : ℕ) (rest : List ℕ) (streams : Streams) → passenger_at old.state.cells old.plan.stages ≡ Some p →
    instruction p ≡ Ecall → call old.state.regs old.state.mem rest ≡ called.Exit status → Makes old
    (in_state old (taken old p (answer.Exit status))) Serve streams streams
exit_makes old p status rest streams e f r = still-makes old (in_state old (taken old p (answer.Exit status))) Serve streams by refl
  where
    h : Place old.state old.plan.stages p
    h = place old.state old.plan.stages p e

    by : (other : List ℕ) → next old.plan (with_rest old other) Serve ≡ with_rest (in_state old (taken old p (answer.Exit status))) other
    by other =
        next_asked old.plan (with_rest old other) p h
        ∙ exit_asked (with_rest old other) old.plan.stages h.cell p _ status (call_asked p old.state.regs old.state.mem other f
        ∙ exit-any_rest old.state.regs old.state.mem rest other status r)
        ∙ ap (λ (z : List Cell). with_rest (in_state old (record old.state { cells = z })) other)
        (changed_here old.state.cells old.plan.stages h.cell (λ c. with_passenger c (record p { done = true; ending = Some (ending.Exit status) })) h.here)

-- FENCE.I asks nothing of the outside
fence_asked : (p : Passenger) (rd rs1 imm : ℕ) (regs : List ℕ) (mem : Memory) (rest : List ℕ) → instruction p ≡ FenceI rd rs1 imm →
    serve_of (instruction p) regs mem rest ≡ called.Value (record { value = 0; mem = synced mem; rest = rest; output = [] })
unfolding serve_of
fence_asked p rd rs1 imm regs mem rest e = rw e refl

fence-serves : (old : Processor) (p : Passenger) (rd rs1 imm : ℕ) (streams : Streams) → passenger_at old.state.cells old.plan.stages ≡ Some p →
    instruction p ≡ FenceI rd rs1 imm → Makes old (synchronized old p) Serve streams streams
fence-serves old p rd rs1 imm streams e f = still-makes old after Serve streams by refl
  where
    after : Processor
    after = synchronized old p

    h : Place old.state old.plan.stages p
    h = place old.state old.plan.stages p e

    by : (other : List ℕ) → next old.plan (with_rest old other) Serve ≡ with_rest after other
    by other =
        next_asked old.plan (with_rest old other) p h
        ∙ ap (served (with_rest old other) old.plan.stages h.cell p) (fence_asked p rd rs1 imm old.state.regs old.state.mem other f)
        ∙ ap (λ (z : List Cell). with_rest (in_state old (record old.state { cells = z; mem = synced old.state.mem })) other)
        (changed_here old.state.cells old.plan.stages h.cell (λ c. with_passenger c (answered p 0)) h.here)

exit_serves : (old : Processor) (p : Passenger) (status : ℕ) (mem : Memory) (before after : Streams) → passenger_at old.state.cells old.plan.stages ≡ Some p →
    instruction p ≡ Ecall → Quits (call old.state.regs old.state.mem) status old.state.mem mem before after →
    Makes old (in_state old (taken (with_memory old mem) p (answer.Exit status))) Serve before after
exit_serves old p status mem before after e f r =
    let P : Memory → Streams → Type 0 = λ m s. Makes old (in_state old (taken (with_memory old m) p (answer.Exit status))) Serve before s in
    let h : P old.state.mem before = exit_makes old p status r.rest before e f r.is in
    subst (λ m. P m after) (sym r.memory) (subst (P old.state.mem) (sym r.streams) h)

-- the outcome of the call is what Serve makes of it
call-serves : (old : Processor) (p : Passenger) (mem : Memory) (before after : Streams) (s : Served) → passenger_at old.state.cells old.plan.stages ≡ Some p →
    instruction p ≡ Ecall → Serves old.state.regs old.state.mem mem before after s → ServesOrFails old
    (in_state old (taken (with_memory old mem) p s)) before after (told_of s)
unfolding Serves
call-serves old p mem before after (answer.Value v) e f r = answer_makes old p mem v before after e f r
call-serves old p mem before after (answer.Exit status) e f r = exit_serves old p status mem before after e f r
call-serves old p mem before after answer.ReadFault e f r = record { calls = calls_here old p e f; fails = r; processor = refl }
call-serves old p mem before after answer.WriteFault e f r =
    record { calls = calls_here old p e f; fails = r.0; processor = ap (λ (z : Memory). in_state old (record old.state { mem = z; failed = true })) r.1 }

-- the same for a processor whose memory is as the call left it
pub call-takes : (old mid new : Processor) (p : Passenger) (mem : Memory) (before after : Streams) (s : Served) (r : Result (Unit {0}) Fault) →
    passenger_at old.state.cells old.plan.stages ≡ Some p → instruction p ≡ Ecall → Serves old.state.regs old.state.mem mem before after s →
    mid ≡ with_memory old mem → new ≡ in_state mid (taken mid p s) → r ≡ told_of s → ServesOrFails old new before after r
call-takes old mid new p mem before after s r e f h m n t =
    let is : new ≡ in_state old (taken (with_memory old mem) p s) = n ∙ ap (λ (q : Processor). in_state q (taken q p s)) m in
    rw (is, t) (call-serves old p mem before after s e f h)

-- the class Serial has ECALL and FENCE.I
serial_is : (i : Instr) → is_serial (class_of i) ≡ true → ((rd rs1 imm : ℕ) → i ≢ FenceI rd rs1 imm) → i ≡ Ecall
serial_is Ecall e f = refl
serial_is (FenceI rd rs1 imm) e f = absurd (f rd rs1 imm refl)
serial_is i e f = grind arith

serial_what : (o : Option Instr) → is_serial (on o Free kind_of) ≡ true → ((rd rs1 imm : ℕ) → on o Ebreak (λ i. i) ≢ FenceI rd rs1 imm) →
    on o Ebreak (λ i. i) ≡ Ecall
unfolding kind_of
serial_what None e f = absurd (cc)
serial_what (Some i) e f = serial_is i e f

pub serial-calls : (p : Passenger) → is_serial (kind p) ≡ true → ((rd rs1 imm : ℕ) → instruction p ≢ FenceI rd rs1 imm) → instruction p ≡ Ecall
serial-calls p e f = serial_what p.what e f

pub fence-takes : (old new : Processor) (p : Passenger) (rd rs1 imm : ℕ) (streams : Streams) (r : Result (Unit {0}) Fault) →
    passenger_at old.state.cells old.plan.stages ≡ Some p → instruction p ≡ FenceI rd rs1 imm → new ≡ synchronized old p → r ≡ Ok tt →
    ServesOrFails old new streams streams r
fence-takes old new p rd rs1 imm streams r e f n t = rw (n, t) (fence-serves old p rd rs1 imm streams e f)

pub ruleset serving = (fence-takes, serial-calls)
