-- The marks of the lowest stage once an instruction has been issued.
use Rattle.std.proofs.Common.{◌≡◌, ◌≢◌, ◌∙◌, ℕ, ◌-◌, List, Option, Some, None, Bool, true, false, refl, sym, ap, arith}
use Rattle.std.specs.Prelude.{◌&&◌, ◌||◌, ◌==◌, not}
use Rattle.rv_inst.specs.declared.classes.Class.{Class}
use Rattle.rv_inst.specs.declared.instruction.Instr.{Instr}
use Rattle.cf_bind.specs.declared.cell.Cell.{Cell}
use Rattle.cf_bind.specs.declared.moves.Bar.TheVariants.{NoSuchSite}
use Rattle.cf_bind.specs.declared.moves.Move.TheVariants.{Execute, Issue}
use Rattle.cf_bind.specs.declared.passenger.Guess.{Guess}
use Rattle.cf_bind.specs.declared.passenger.Passenger.{Passenger}
use Rattle.cf_layout.specs.Accepted.{IsAccepted}
use Rattle.cf_layout.specs.Layout.{Plan, launch_stage, recover_stage, siding_of}
use Rattle.cf_semantics.specs.moves.Bars.{issue_bar, row_bar, running}
use Rattle.cf_semantics.specs.moves.Instructions.{Fetched, Got, Bad, fetched, kind_of}
use Rattle.cf_semantics.specs.moves.Moves.{issued, moved}
use Rattle.cf_semantics.specs.state.Layouts.{isa_of}
use Rattle.cf_semantics.specs.state.Options.{on, is_some}
use Rattle.cf_semantics.specs.state.Passengers.{fresh, fresh_as, kind}
use Rattle.cf_semantics.specs.state.State.{State, cell_at, put_cell}
use Rattle.cf_stages.specs.Changes.{passenger_at}
use Rattle.cf_stages.specs.Words.{with_bit}
use Rattle.cf_stages.proofs.Parts.{cell-put, stage-high, stage-low}
use Rattle.cf_core.specs.Marks.{mark_at, marked, marks_of, no_mark, resting, row_allows, touched}
use Rattle.cf_core.specs.Masks.{owes_at, rides, stops_there}
use Rattle.cf_core.specs.Processors.{IsProcessor, Processor, after_move}
use Rattle.cf_core.specs.Riders.{is_new, is_out, is_undone}
use Rattle.cf_core.specs.Stations.{station_of}
use Rattle.cf_core.specs.declared.marks.Marks.{Marks}
use Rattle.cf_core.specs.declared.stations.Station.{Station}
use Rattle.cf_core.proofs.FieldMarks.{marked-kept, marks-one}
use Rattle.cf_core.proofs.MoveMarks.{idle-rests, mark-resting, unit-left}
use Rattle.cf_core.proofs.Rides.{here-by, launch-none, mark-none, owes-here, recover-none, stops-by-siding, stops-units}
use Rattle.cf_core.proofs.SameMarks.{elsewhere}
use Rattle.cf_core.proofs.Tabled.{station-last}
use Rattle.cf_core.proofs.Touched.{moved-but}

new_parts : (owes launched : Bool) → (not owes && not launched) ≡ true → (owes ≡ false) × (launched ≡ false)
new_parts false false e = (refl, refl)
new_parts true launched e = absurd (cc)
new_parts false true e = absurd (cc)

pub new-there : (s : State) (p : Passenger) → passenger_at s.cells 1 ≡ Some p → rides s 1 is_new ≡ true → is_new p ≡ true
new-there s p e new = let h = here-by (cell_at s.cells 1) p e in rw (h.1, h.2) at new

-- a stage that rests, whose instruction owes nothing, has no mark
unmarked_rest : (plan : Plan) (s : State) (p : Passenger) → passenger_at s.cells 1 ≡ Some p → is_some p.owes ≡ false → mark_at plan s 1 ≡ resting s 1 →
    mark_at plan s 1 ≡ no_mark
unmarked_rest plan s p e owes rests = rests ∙ ap (λ (b : Bool). record no_mark { owes = b }) (owes-here s 1 p e ∙ owes)

as_before : (plan : Plan) (s : State) (marks : Marks) → marked marks 1 no_mark ≡ marks → mark_at plan s 1 ≡ no_mark → marks ≡ marked marks 1 (mark_at plan s 1)
as_before plan s marks unmarked none = sym (ap (marked marks 1) none ∙ unmarked)

-- of a class with units
pub issued-units : (plan : Plan) (s : State) (marks : Marks) (p : Passenger) (station : Station) (stopped executed : ℕ) (executes : Bool) →
    passenger_at s.cells 1 ≡ Some p → station ≡ station_of plan (kind p) → siding_of plan (kind p) ≡ None → is_undone p ≡ true → is_new p ≡ true →
    marked marks 1 no_mark ≡ marks → executes ≡ row_allows plan s (Execute 1) → stopped ≡ with_bit marks.stops (1 - 1) (station.last == 1) →
    executed ≡ with_bit marks.execute (1 - 1) executes → record marks { stops = stopped; execute = executed } ≡ marked marks 1 (mark_at plan s 1)
unfolding mark_at
issued-units plan s marks p station stopped executed executes here table home undone new unmarked execute stop exec =
    let parts = new_parts (is_some p.owes) p.launched new in
    let last = station-last plan (kind p) station table in
    let stops : stops_there plan s 1 ≡ (station.last == 1) = stops-units plan s 1 p here home ∙ rw (undone, parts.1, last) refl in
    let owe = owes-here s 1 p here ∙ parts.0 in
    let launch = launch-none plan s 1 p here home in
    let recover = recover-none plan s 1 p here home in
    let owes : marks.owes ≡ with_bit marks.owes 0 (owes_at s 1) = sym (ap (λ (m : Marks). m.owes) unmarked) ∙ ap (with_bit marks.owes 0) (sym owe) in
    let launches = sym (ap (λ (m : Marks). m.launch) unmarked) ∙ ap (with_bit marks.launch 0) launch in
    let recovers = sym (ap (λ (m : Marks). m.recover) unmarked) ∙ ap (with_bit marks.recover 0) recover in
    let stopping = stop ∙ ap (with_bit marks.stops 0) (sym stops) in
    let executing = exec ∙ ap (with_bit marks.execute 0) execute in
    λ x. record { owes = owes x; stops = stopping x; execute = executing x; launch = launches x; recover = recovers x }

pub ruleset issued_units = (issued-units)

-- of a class with a siding that launches from a higher stage
still_passing : (out back undone launched site : Bool) → out ≡ false → site ≡ false → ((out && back) || (undone && (not launched && site))) ≡ false
still_passing false back true true false e f = refl
still_passing false back true false false e f = refl
still_passing false back false launched false e f = refl
still_passing true back undone launched site e f = absurd (cc)
still_passing false back undone launched true e f = absurd (cc)

pub issued-passing : (plan : Plan) (s : State) (marks : Marks) (p : Passenger) (k launch : ℕ) → IsAccepted plan → passenger_at s.cells 1 ≡ Some p →
    siding_of plan (kind p) ≡ Some k → launch ≡ launch_stage plan k → launch ≢ 1 → is_new p ≡ true → marked marks 1 no_mark ≡ marks →
    marks ≡ marked marks 1 (mark_at plan s 1)
issued-passing plan s marks p k launch a here home from higher new unmarked =
    let site : (launch_stage plan k == 1) ≡ false = elsewhere (launch_stage plan k) 1 (λ e. higher (from ∙ sym e)) in
    let parts = new_parts (is_some p.owes) p.launched new in
    let out : is_out p ≡ false = rw parts.1 refl in
    let stays = stops-by-siding plan 1 k p home
    ∙ still_passing (is_out p) (recover_stage plan k == 1) (is_undone p) p.launched (launch_stage plan k == 1) out site in
    as_before plan s marks unmarked (unmarked_rest plan s p here parts.0 (mark-resting plan s 1 p here stays (unit-left plan p 1 k a home)))

-- one that ends the program, or has nothing to do
idle_new : (undone launched recovered : Bool) → undone ≡ false → launched ≡ false → (not undone && not (launched && not recovered)) ≡ true
idle_new false false recovered e f = refl
idle_new true launched recovered e f = absurd (cc)
idle_new false true recovered e f = absurd (cc)

pub issued-idle : (plan : Plan) (s : State) (marks : Marks) (p : Passenger) → passenger_at s.cells 1 ≡ Some p → is_undone p ≡ false →
    rides s 1 is_new ≡ true → marked marks 1 no_mark ≡ marks → marks ≡ marked marks 1 (mark_at plan s 1)
issued-idle plan s marks p here undone new unmarked =
    let parts = new_parts (is_some p.owes) p.launched (new-there s p here new) in
    let idle = idle_new (is_undone p) p.launched p.recovered undone parts.1 in
    as_before plan s marks unmarked (unmarked_rest plan s p here parts.0 (idle-rests plan s 1 p here idle))

pub ruleset new_idle = (issued-idle, new-there)

-- The instruction that an Issue brings --

ended_new : (cache : List (Option ℕ)) (c : Class) (i : Instr) (pc : ℕ) (g : Guess) → is_new (fresh_as c cache i pc g) ≡ true
ended_new cache c i pc g = grind arith

fresh_new : (cache : List (Option ℕ)) (q : Fetched) (pc : ℕ) (g : Guess) → is_new (fresh cache q pc g) ≡ true
unfolding fresh
fresh_new cache (Bad e) pc g = refl
fresh_new cache (Got i) pc g = ended_new cache (kind_of i) i pc g

pub issue-new : (old new : Processor) (g : Guess) → IsProcessor old.plan old.state → row_bar old.plan old.state (Issue g) ≡ None →
    new ≡ after_move old (Issue g) → rides new.state 1 is_new ≡ true
unfolding moved
issue-new old new g h free made = rw made (by_cell (cell_at old.state.cells 1) refl free)
  where
    s : State
    s = old.state

    entered : (c : Cell) (q : Passenger) → cell_at s.cells 1 ≡ Some c → is_new q ≡ true →
        on (cell_at (put_cell s.cells 1 (record c { passenger = Some q; met = false })) 1) false (λ d. on d.passenger false is_new) ≡ true
    entered c q here new = rw (cell-put s.cells 1 (record c { passenger = Some q; met = false }) (stage-low s.cells 1 c here) (stage-high s.cells 1 c here)) new

    by_fetch : (c : Cell) (o : Option ℕ) → cell_at s.cells 1 ≡ Some c → running s.fetch ≡ o → issue_bar old.plan s g c ≡ None →
        rides (on o s (issued old.plan s g c)) 1 is_new ≡ true
    by_fetch c None here runs row = absurd (grind arith)
    by_fetch c (Some pc) here runs row =
        entered c (fresh s.cache (fetched (isa_of old.plan) s.mem pc) pc g) here (fresh_new s.cache (fetched (isa_of old.plan) s.mem pc) pc g)

    by_cell : (o : Option Cell) → cell_at s.cells 1 ≡ o → on o (Some NoSuchSite) (issue_bar old.plan s g) ≡ None →
        rides (on o s (λ c. on (running s.fetch) s (issued old.plan s g c))) 1 is_new ≡ true
    by_cell None here row = absurd (cc)
    by_cell (Some c) here row = by_fetch c (running s.fetch) here refl row

-- nothing was in the lowest stage
unoccupied : (plan : Plan) (s : State) (g : Guess) (c : Cell) (o : Option ℕ) → running s.fetch ≡ o → issue_bar plan s g c ≡ None → c.passenger ≡ None
unoccupied plan s g c None runs row = absurd (grind arith)
unoccupied plan s g c (Some pc) runs row = grind arith

vacant : (plan : Plan) (s : State) (g : Guess) → row_bar plan s (Issue g) ≡ None → passenger_at s.cells 1 ≡ None
vacant plan s g free = by_cell (cell_at s.cells 1) free
  where
    by_cell : (o : Option Cell) → on o (Some NoSuchSite) (issue_bar plan s g) ≡ None → on o None (λ c. c.passenger) ≡ None
    by_cell None row = refl
    by_cell (Some c) row = unoccupied plan s g c (running s.fetch) refl row

pub issue-unmarked : (plan : Plan) (s : State) (marks : Marks) (g : Guess) → IsProcessor plan s → row_bar plan s (Issue g) ≡ None → marks ≡ marks_of plan s →
    marked marks 1 no_mark ≡ marks
issue-unmarked plan s marks g h free is =
    let few = h.accepted.stages in
    rw is (marked-kept plan s 1 no_mark few.1 (omega arith) (omega (arith, few.0)) (sym (mark-none plan s 1 (vacant plan s g free))))

pub issue-marks : (old new : Processor) (marks : Marks) (g : Guess) → IsProcessor old.plan old.state → row_bar old.plan old.state (Issue g) ≡ None →
    new ≡ after_move old (Issue g) → marks ≡ marks_of old.plan old.state → marked marks 1 (mark_at new.plan new.state 1) ≡ marks_of new.plan new.state
unfolding touched
issue-marks old new marks g h free made is =
    let few = h.accepted.stages in
    rw (made, is) (marks-one old.plan old.state (moved old.plan old.state (Issue g)) 1 few.1 (omega arith) (omega (arith, few.0))
    (moved-but old.plan old.state (Issue g) free))
