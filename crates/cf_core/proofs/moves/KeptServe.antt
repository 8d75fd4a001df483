-- What holds of every processor is kept by Serve, whether it is made or fails.
use Rattle.std.proofs.Common.{◌≡◌, ℕ, List, [], Option, Some, None, true, refl, sym, ap, subst, ◌∙◌, arith}
use Rattle.std.specs.Prelude.{Result, Ok, Err}
use Rattle.mem_regions.specs.Memory.{Memory}
use Rattle.mem_regions.specs.Access.{bounds_of}
use Rattle.mem_regions.proofs.Kept.{bounds-memory_with, bounds-synced}
use Rattle.rv_inst.specs.declared.instruction.Instr.{Instr}
use Rattle.rv_machine.specs.Call.{Called, Value, Exit, second_argument, third_argument}
use Rattle.rv_machine.specs.Step.{synchronizes}
use Rattle.rv_machine.specs.Streams.{Streams}
use Rattle.cf_layout.specs.Layout.{Plan}
use Rattle.cf_bind.specs.declared.cell.Cell.{Cell}
use Rattle.cf_bind.specs.declared.moves.Move.{Move}
use Rattle.cf_bind.specs.declared.moves.Move.TheVariants.{Serve}
use Rattle.cf_semantics.specs.moves.Bars.{bar, row_bar}
use Rattle.cf_semantics.specs.state.Options.{on}
use Rattle.cf_bind.specs.declared.passenger.Passenger.{Passenger}
use Rattle.cf_bind.specs.declared.passenger.End.TheVariants as ending
use Rattle.cf_semantics.specs.moves.Instructions.{serve_of}
use Rattle.cf_semantics.specs.state.Layouts.{isa_of}
use Rattle.cf_semantics.specs.moves.Moves.{next, asked, served, with_passenger}
use Rattle.cf_semantics.specs.moves.Moves as moves
use Rattle.cf_semantics.specs.state.Passengers.{instruction}
use Rattle.cf_semantics.specs.state.State.{State, Moment, cell_at, with_cell}
use Rattle.cf_passengers.specs.Facts.{IsPassenger}
use Rattle.cf_passengers.proofs.Kept.{answered-passenger, quitting-passenger}
use Rattle.cf_core.specs.Processors.{Processor, IsProcessor, IsCellOfSet}
use Rattle.cf_core.specs.Stepping.{Makes, FailsToRead, FailsToWrite, MakesOrFails}
use Rattle.cf_core.specs.declared.fault.Fault.{Fault}
use Rattle.cf_core.specs.declared.fault.Fault.TheVariants as fault
use Rattle.cf_semantics.specs.declared.event.Event.{Event}
use Rattle.cf_core.proofs.moves.KeptMoves.{kept_moved}
use Rattle.cf_core.proofs.moves.KeptCalls.{Keeps, IsLasting, call-keeps, either-keeps}
use Rattle.cf_core.proofs.KeptParts.{cell-kept, kept_bounds, stage-at}
use Rattle.cf_core.proofs.moves.KeptStages.{passenger-changed, passenger-in}
use Rattle.cf_core.proofs.Steps.{next_moved}

bounds-lasting : IsLasting bounds_of
unfolding bounds_of
bounds-lasting = record { writes = bounds-memory_with; break = λ m addr. refl }

-- an answer leaves the regions' bounds and flags as they were
serve_keeps : (i : Instr) (regs : List ℕ) (mem : Memory) (rest : List ℕ) → Keeps bounds_of mem (serve_of i regs mem rest)
unfolding serve_of
serve_keeps i regs mem rest = either-keeps bounds_of mem (synchronizes i) _ _ (bounds-synced mem) (call-keeps bounds_of bounds-lasting regs mem rest)

-- a processor whose input or output has failed
failed_kept : (plan : Plan) (s : State) → IsProcessor plan s → IsProcessor plan (record s { failed = true })
failed_kept plan s h = record { accepted = h.accepted; stages = h.stages; sidings = h.sidings; cells = h.cells; ops = h.ops; lane = h.lane }

-- the instruction in the highest stage has its answer, or it will end the program
served_kept : (plan : Plan) (m : Moment) (n : ℕ) (c : Cell) (p : Passenger) (o : Called) → IsProcessor plan m.state → IsCellOfSet (isa_of plan) c →
    IsPassenger (isa_of plan) p → Keeps bounds_of m.state.mem o → IsProcessor plan (served m n c p o).state
served_kept plan m n c p (Value a) h stage rider keeps =
    kept_bounds plan (with_cell m.state n (with_passenger c (moves.answered p a.value))) a.mem
    (cell-kept plan m.state n (with_passenger c (moves.answered p a.value)) h (passenger-changed (isa_of plan) c (moves.answered p a.value) stage
    (answered-passenger (isa_of plan) p a.value rider))) keeps
served_kept plan m n c p (Exit status) h stage rider keeps =
    let q = record p { done = true; ending = Some (ending.Exit status) } in
    cell-kept plan m.state n (with_passenger c q) h (passenger-changed (isa_of plan) c q stage (quitting-passenger (isa_of plan) p status rider))

moment_kept : {A : Type 0} (plan : Plan) (o : Option A) (m : Moment) (f : A → Moment) → IsProcessor plan m.state →
    ((a : A) → o ≡ Some a → IsProcessor plan (f a).state) → IsProcessor plan (on o m f).state
moment_kept plan None m f g h = g
moment_kept plan (Some a) m f g h = h a refl

pub serve-kept : (plan : Plan) (m : Moment) → IsProcessor plan m.state → IsProcessor plan (next plan m Serve).state
unfolding next
serve-kept plan m h =
    moment_kept plan (cell_at m.state.cells plan.stages) m _ h (λ c here.
    let stage = stage-at plan m.state plan.stages c h here in
    moment_kept plan c.passenger m _ h (λ p rides.
    served_kept plan m plan.stages c p (serve_of (instruction p) m.state.regs m.state.mem m.rest) h stage (passenger-in (isa_of plan) c p stage rides)
    (serve_keeps (instruction p) m.state.regs m.state.mem m.rest)))

-- a move that is made
next_kept : (plan : Plan) (m : Moment) (mv : Move) → row_bar plan m.state mv ≡ None → IsProcessor plan m.state → IsProcessor plan (next plan m mv).state
next_kept plan m Serve free h = serve-kept plan m h
next_kept plan m mv free h = subst (λ (q : Moment). IsProcessor plan q.state) (sym (next_moved plan m mv (λ e. absurd (cc))))
    (kept_moved plan m.state mv h free)

makes_kept : (old new : Processor) (mv : Move) (before after : Streams) → row_bar old.plan old.state mv ≡ None → Makes old new mv before after →
    IsProcessor old.plan old.state → IsProcessor new.plan new.state
makes_kept old new mv before after free h k =
    subst (λ (l : Plan). IsProcessor l new.state) (sym h.plan)
    (subst (λ (m : Moment). IsProcessor old.plan m.state) h.is (next_kept old.plan (record { state = old.state; rest = h.rest; output = [] }) mv free k))

-- a move that fails
read_kept : (old new : Processor) (before after : Streams) → FailsToRead old new before after → IsProcessor old.plan old.state → IsProcessor new.plan new.state
read_kept old new before after h k =
    subst (λ (p : Processor). IsProcessor p.plan p.state) (sym h.processor)
    (failed_kept old.plan (record old.state { mem = new.state.mem }) (kept_bounds old.plan old.state new.state.mem k (ap bounds_of h.fails.takes.memory
    ∙ bounds-memory_with old.state.mem (second_argument old.state.regs) (third_argument old.state.regs) h.fails.taken)))

write_kept : (old new : Processor) (before after : Streams) → FailsToWrite old new before after → IsProcessor old.plan old.state →
    IsProcessor new.plan new.state
write_kept old new before after h k = subst (λ (p : Processor). IsProcessor p.plan p.state) (sym h.processor) (failed_kept old.plan old.state k)

-- the row of an allowed move bars nothing
pub unbarred : (plan : Plan) (s : State) (mv : Move) → bar plan s mv ≡ None → row_bar plan s mv ≡ None
unfolding bar
unbarred plan s mv e = grind arith

pub made-kept : (old new : Processor) (mv : Move) (before after : Streams) (r : Result Event Fault) → bar old.plan old.state mv ≡ None →
    MakesOrFails old new mv before after r → IsProcessor old.plan old.state → IsProcessor new.plan new.state
unfolding MakesOrFails
made-kept old new mv before after (Ok e) free h k = makes_kept old new mv before after (unbarred old.plan old.state mv free) h.0 k
made-kept old new mv before after (Err fault.Read) free h k = read_kept old new before after h.1 k
made-kept old new mv before after (Err fault.Write) free h k = write_kept old new before after h.1 k

pub ruleset making = (made-kept)
