-- The table of moves, first half: what bars each move. The tests of a row are made in their order, and the comment
-- above a row lists its bars in that order, each after its condition. Before a row's own bars come two that every move
-- has: the program has ended (Halted), and the input or the output has failed (Failed).
use Rattle.std.specs.Prelude.{ℕ, ◌+◌, ◌-◌, List, [], ◌∷◌, Option, Some, None, Bool, true, false, ◌&&◌, ◌||◌, not, slice_get, length, nat_lt}
use Rattle.cf_layout.specs.Layout.{Plan, siding_of, unit_at}
use Rattle.cf_bind.specs.declared.cell.Cell.{Cell}
use Rattle.cf_bind.specs.declared.cell.Op.{Op}
use Rattle.cf_bind.specs.declared.packet.Fetch.{Fetch}
use Rattle.cf_bind.specs.declared.packet.Fetch.TheVariants.{Running, Waiting}
use Rattle.cf_bind.specs.declared.passenger.Passenger.{Passenger}
use Rattle.cf_bind.specs.declared.passenger.Guess.{Guess}
use Rattle.cf_bind.specs.declared.passenger.Guess.TheVariants.{Next, Taken, Wait, To}
use Rattle.cf_bind.specs.declared.moves.Move.{Move}
use Rattle.cf_bind.specs.declared.moves.Move.TheVariants.{Issue, Emit, Climb, Fall, Meet, Execute, Send, Launch, Slide, Access, Recover, Leave, Exit, Serve}
use Rattle.cf_bind.specs.declared.moves.Bar.{Bar}
use Rattle.cf_bind.specs.declared.moves.Bar.TheVariants.{Halted, Failed, NoSuchSite, NoPassenger, NoPacket, Occupied, NotMet, AlreadyMet, SourceMissing, NoUnit, NotDone, Owes, OwesNothing, OpNotThere, LaneFull, LaneEmpty, FetchWaiting, BadGuess, Dead, AlreadyDone}
use Rattle.cf_semantics.specs.state.Options.{on, is_some}
use Rattle.cf_layout.specs.Accepted.{is_control}
use Rattle.cf_semantics.specs.moves.Instructions.{is_memory, is_serial, is_indirect, fetched}
use Rattle.cf_semantics.specs.state.State.{State, cell_at, siding_at}
use Rattle.cf_semantics.specs.state.Passengers.{instruction, kind, missing, requests, fresh}
use Rattle.cf_semantics.specs.state.Layouts.{isa_of, port, launches, recovers, ends_units}

-- a test with its bar, before the rest of its row
abbrev pub first : Bool → Bar → Option Bar → Option Bar
first true bar rest = Some bar
first false bar rest = rest

-- the bar of the first test that holds; if no test holds, what the rest says
abbrev pub first_bar_of : List (Bool × Bar) → Option Bar → Option Bar
first_bar_of [] rest = rest
first_bar_of (row ∷ rows) rest = first row.0 row.1 (first_bar_of rows rest)

-- what bars a move at a stage: there is no stage of this number (NoSuchSite), otherwise as f says
abbrev pub at : List Cell → ℕ → (Cell → Option Bar) → Option Bar
at cells i f = on (cell_at cells i) (Some NoSuchSite) f

-- what bars a move of the instruction in a stage: there is no instruction (NoPassenger), otherwise as f says
abbrev pub of_passenger : Cell → (Passenger → Option Bar) → Option Bar
of_passenger c f = on c.passenger (Some NoPassenger) f

-- both are there, and have not met
abbrev pub is_full : Cell → Bool
is_full c = is_some c.passenger && is_some c.packet && not c.met

-- an instruction must not climb out of the stage: its launched operation is recovered here, or it is live, neither
-- executed nor launched, and this is the last stage that can execute it or launch its operation
abbrev pub stops_at : Plan → Passenger → ℕ → Bool
stops_at plan p i =
    (p.launched && not p.recovered && recovers plan (kind p) i)
    || (not p.dead && not p.done && not p.launched && (ends_units plan (kind p) i || launches plan (kind p) i))

-- the operation at the end of a siding
abbrev pub last_op : List (Option Op) → Option Op
last_op [] = None
last_op (o ∷ []) = o
last_op (o ∷ p ∷ ops) = last_op (p ∷ ops)

-- there is such a cell, and it holds an operation
abbrev pub cell_is_taken : Option (Option Op) → Bool
cell_is_taken cell = on cell false is_some

-- the address where fetch runs
abbrev pub running : Fetch → Option ℕ
running (Running pc) = Some pc
running Waiting = None

-- the first source has no value, or otherwise the second (SourceMissing, with its register); otherwise as the rest says
abbrev pub source_bar : Passenger → Option Bar → Option Bar
source_bar p rest = on (missing p.src1) (on (missing p.src2) rest (λ r. Some (SourceMissing r))) (λ r. Some (SourceMissing r))

-- only branches and jumps may be issued with a guess other than Next: JALR with an address, the others with their
-- target
abbrev pub may_guess : Guess → Passenger → Bool
may_guess Next p = true
may_guess Wait p = is_control (kind p)
may_guess Taken p = is_control (kind p) && not (is_indirect (instruction p))
may_guess (To t) p = is_control (kind p) && is_indirect (instruction p)

-- Issue: there is no stage 1 (NoSuchSite); fetch waits (FetchWaiting); stage 1 has an instruction (Occupied); this
-- instruction cannot be issued with the guess (BadGuess); the lane has no room for all that it requests (LaneFull)
abbrev pub issue_bar : Plan → State → Guess → Cell → Option Bar
issue_bar plan s g c = on (running s.fetch) (Some FetchWaiting) (λ pc.
    let p = fresh s.cache (fetched (isa_of plan) s.mem pc) pc g in
    first_bar_of (
    (is_some c.passenger, Occupied) ∷
    (not (may_guess g p), BadGuess) ∷
    (nat_lt plan.lane (length s.lane + length (requests p)), LaneFull) ∷ []) None)

-- Emit: there is no stage N (NoSuchSite); nothing is requested (LaneEmpty); stage N has a result (Occupied)
abbrev pub emit_bar : List ℕ → Cell → Option Bar
emit_bar [] c = Some LaneEmpty
emit_bar (r ∷ lane) c = first_bar_of ((is_some c.packet, Occupied) ∷ []) None

-- Climb: there is no stage i, or none above it (NoSuchSite); there is no instruction (NoPassenger); it has not met the
-- result of the stage (NotMet); it owes a result (Owes); it must be executed, launched or recovered here (NotDone); the
-- stage above has an instruction (Occupied)
abbrev pub climb_bar : Plan → Cell → ℕ → Option Cell → Option Bar
climb_bar plan c i above = on above (Some NoSuchSite) (λ d. of_passenger c (λ p. first_bar_of (
    (is_full c, NotMet) ∷
    (is_some p.owes, Owes) ∷
    (stops_at plan p i, NotDone) ∷
    (is_some d.passenger, Occupied) ∷ []) None))

-- Fall: there is no stage i, or none below it (NoSuchSite); no result is there (NoPacket); it has not met the
-- instruction of the stage (NotMet); the stage below has a result (Occupied)
abbrev pub fall_bar : Cell → Option Cell → Option Bar
fall_bar c below = on below (Some NoSuchSite) (λ d. first_bar_of (
    (not (is_some c.packet), NoPacket) ∷
    (is_full c, NotMet) ∷
    (is_some d.packet, Occupied) ∷ []) None)

-- Meet: there is no stage i (NoSuchSite); there is no instruction (NoPassenger); no result is there (NoPacket); they
-- have met (AlreadyMet)
abbrev pub meet_bar : Cell → Option Bar
meet_bar c = of_passenger c (λ p. first_bar_of (
    (not (is_some c.packet), NoPacket) ∷
    (c.met, AlreadyMet) ∷ []) None)

-- Execute: there is no stage i (NoSuchSite); there is no instruction (NoPassenger); the instruction is dead (Dead); it
-- is done (AlreadyDone); no unit for its class is here (NoUnit); a source has no value (SourceMissing)
abbrev pub execute_bar : Plan → Cell → ℕ → Option Bar
execute_bar plan c i = of_passenger c (λ p. first_bar_of (
    (p.dead, Dead) ∷
    (p.done, AlreadyDone) ∷
    (not (unit_at plan (kind p) i), NoUnit) ∷ []) (source_bar p None))

-- Send: there is no stage i (NoSuchSite); there is no instruction (NoPassenger); the instruction owes no result
-- (OwesNothing); the stage has a result (Occupied)
abbrev pub send_bar : Cell → Option Bar
send_bar c = of_passenger c (λ p. first_bar_of (
    (not (is_some p.owes), OwesNothing) ∷
    (is_some c.packet, Occupied) ∷ []) None)

-- what bars entry to the class's siding: its first cell is taken (Occupied); a class without a siding has no bar here,
-- since NoUnit has barred Launch before
abbrev pub entry_bar : Plan → State → Passenger → Option Bar
entry_bar plan s p = on (siding_of plan (kind p)) None (λ k. first_bar_of ((cell_is_taken (slice_get (siding_at s k) 0), Occupied) ∷ []) None)

-- Launch: there is no stage i (NoSuchSite); there is no instruction (NoPassenger); the instruction is dead (Dead); it
-- is done or launched (AlreadyDone); no siding for its class is entered from here (NoUnit); it is a load or a store and
-- has not met the result of the stage (NotMet); a source has no value (SourceMissing); the first cell of the siding is
-- taken (Occupied)
abbrev pub launch_bar : Plan → State → Cell → ℕ → Option Bar
launch_bar plan s c i = of_passenger c (λ p. first_bar_of (
    (p.dead, Dead) ∷
    (p.done || p.launched, AlreadyDone) ∷
    (not (launches plan (kind p) i), NoUnit) ∷
    (is_memory (kind p) && is_full c, NotMet) ∷ []) (source_bar p (entry_bar plan s p)))

-- Slide: there is no such siding, or no cell after this one (NoSuchSite); no operation is in this cell (OpNotThere);
-- one is in the next (Occupied)
abbrev pub slide_bar : List (Option Op) → ℕ → Option Bar
slide_bar ops c = on (slice_get ops (c + 1)) (Some NoSuchSite) (λ o. first_bar_of (
    (not (cell_is_taken (slice_get ops c)), OpNotThere) ∷
    (is_some o, Occupied) ∷ []) None)

-- Access: no operation is at the end of Memory's siding (OpNotThere); it is answered (AlreadyDone)
abbrev pub access_bar : Option Op → Option Bar
access_bar o = on o (Some OpNotThere) (λ op. first_bar_of ((is_some op.answer, AlreadyDone) ∷ []) None)

-- what bars taking from the end of the class's siding: the class has no siding (NoUnit); no operation is there
-- (OpNotThere); it is a load or a store without an answer (NotDone). Right only in reached states: nothing here tests
-- whose operation this is. There it is the instruction's own, since a siding holds operations in the order of their
-- instructions, and none of these climbs past the stage where it is to recover its own.
abbrev pub exit_op_bar : Plan → State → Passenger → Option Bar
exit_op_bar plan s p = on (siding_of plan (kind p)) (Some NoUnit) (λ k.
    on (last_op (siding_at s k)) (Some OpNotThere) (λ op. first_bar_of ((is_memory (kind p) && not (is_some op.answer), NotDone) ∷ []) None))

-- Recover: there is no stage i (NoSuchSite); there is no instruction (NoPassenger); no siding of its class is recovered
-- here (NoUnit); the instruction has not launched, or has recovered (AlreadyDone); no operation is at the siding's end
-- (OpNotThere); it is a load or a store without an answer (NotDone)
abbrev pub recover_bar : Plan → State → Cell → ℕ → Option Bar
recover_bar plan s c i = of_passenger c (λ p. first_bar_of (
    (not (recovers plan (kind p) i), NoUnit) ∷
    (not p.launched || p.recovered, AlreadyDone) ∷ []) (exit_op_bar plan s p))

-- Leave: there is no stage N (NoSuchSite); there is no instruction (NoPassenger); it has not met the result of the
-- stage (NotMet); it owes a result (Owes); it is live and not done, or what it launched is not back (NotDone)
abbrev pub leave_bar : Cell → Option Bar
leave_bar c = of_passenger c (λ p. first_bar_of (
    (is_full c, NotMet) ∷
    (is_some p.owes, Owes) ∷
    ((not p.dead && not p.done) || (p.launched && not p.recovered), NotDone) ∷ []) None)

-- Exit: there is no stage 1 (NoSuchSite); no result is there (NoPacket); it has not met the instruction of the stage
-- (NotMet)
abbrev pub exit_bar : Cell → Option Bar
exit_bar c = first_bar_of (
    (not (is_some c.packet), NoPacket) ∷
    (is_full c, NotMet) ∷ []) None

-- Serve: there is no stage N (NoSuchSite); there is no instruction (NoPassenger); the instruction is dead (Dead); it is
-- done (AlreadyDone); it is neither ECALL nor FENCE.I (NoUnit); it has not met the result of the stage (NotMet)
abbrev pub serve_bar : Cell → Option Bar
serve_bar c = of_passenger c (λ p. first_bar_of (
    (p.dead, Dead) ∷
    (p.done, AlreadyDone) ∷
    (not (is_serial (kind p)), NoUnit) ∷
    (is_full c, NotMet) ∷ []) None)

-- the row of a move: `at` gives the first of its bars, that there is no such stage
abbrev pub row_bar : Plan → State → Move → Option Bar
row_bar plan s (Issue g) = at s.cells 1 (issue_bar plan s g)
row_bar plan s Emit = at s.cells plan.stages (emit_bar s.lane)
row_bar plan s (Climb i) = at s.cells i (λ c. climb_bar plan c i (cell_at s.cells (i + 1)))
row_bar plan s (Fall i) = at s.cells i (λ c. fall_bar c (cell_at s.cells (i - 1)))
row_bar plan s (Meet i) = at s.cells i meet_bar
row_bar plan s (Execute i) = at s.cells i (λ c. execute_bar plan c i)
row_bar plan s (Send i) = at s.cells i send_bar
row_bar plan s (Launch i) = at s.cells i (λ c. launch_bar plan s c i)
row_bar plan s (Slide k c) = slide_bar (siding_at s k) c
row_bar plan s Access = access_bar (last_op (siding_at s (port plan)))
row_bar plan s (Recover i) = at s.cells i (λ c. recover_bar plan s c i)
row_bar plan s Leave = at s.cells plan.stages leave_bar
row_bar plan s Exit = at s.cells 1 exit_bar
row_bar plan s Serve = at s.cells plan.stages serve_bar

-- the first bar of a move, or none if it is allowed; nothing is allowed once the program has ended, or the input or the
-- output has failed
unfoldable pub bar : Plan → State → Move → Option Bar
bar plan s m = first_bar_of ((is_some s.ending, Halted) ∷ (s.failed, Failed) ∷ []) (row_bar plan s m)
