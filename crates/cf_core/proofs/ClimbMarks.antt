-- What changes in the words when an instruction that owes nothing has climbed.
use Rattle.std.proofs.Common.{◌≡◌, ◌∙◌, ℕ, ◌-◌, ◌<◌, ◌≤◌, Option, Some, None, Bool, true, false, refl, sym, ap, arith}
use Rattle.std.specs.Prelude.{◌&&◌, ◌||◌, IsNone, IsSome, not}
use Rattle.rv_inst.specs.declared.classes.Class.{Class}
use Rattle.cf_bind.specs.declared.cell.Cell.{Cell}
use Rattle.cf_bind.specs.declared.moves.Bar.{Bar}
use Rattle.cf_bind.specs.declared.moves.Bar.TheVariants.{AlreadyDone, NoUnit}
use Rattle.cf_bind.specs.declared.moves.Move.TheVariants.{Climb, Execute, Launch, Recover}
use Rattle.cf_bind.specs.declared.passenger.Passenger.{Passenger}
use Rattle.cf_layout.specs.Layout.{Plan}
use Rattle.cf_semantics.specs.moves.Bars.{bar, exit_op_bar, first, is_full, stops_at}
use Rattle.cf_semantics.specs.state.Layouts.{ends_units, launches, recovers}
use Rattle.cf_semantics.specs.state.Options.{is_some, on}
use Rattle.cf_semantics.specs.state.Passengers.{kind}
use Rattle.cf_semantics.specs.state.State.{State, cell_at}
use Rattle.cf_stages.specs.Changes.{cells_lifted, passenger_at}
use Rattle.cf_stages.specs.Words.{with_bit}
use Rattle.cf_core.specs.Climbing.{HasClimbed, work_of}
use Rattle.cf_core.specs.Marks.{mark_at, marked, marks_of, no_mark, remarked, row_allows}
use Rattle.cf_core.specs.Masks.{rides, stops_there}
use Rattle.cf_core.specs.Places.{with_cells}
use Rattle.cf_core.specs.Processors.{IsProcessor, Processor}
use Rattle.cf_core.specs.Riders.{is_spent}
use Rattle.cf_core.specs.declared.marks.Marks.{Marks}
use Rattle.cf_core.specs.declared.marks.StageMark.{StageMark}
use Rattle.cf_core.proofs.Bits.{clears-commute}
use Rattle.cf_core.proofs.Blocks.{no-work, work-class}
use Rattle.cf_core.proofs.FieldMarks.{marked-kept}
use Rattle.cf_core.proofs.LiftedMarks.{ends, no-passenger}
use Rattle.cf_core.proofs.Lifts.{at-bottom, at-top, climb-stage, rider}
use Rattle.cf_core.proofs.Rides.{here-by, mark-none, owes-here}
use Rattle.cf_core.proofs.StillMarks.{rider-unlaunched}

-- A stage at which the instruction does not stop --

pub stops_here : (plan : Plan) (s : State) (i : ℕ) (p : Passenger) → passenger_at s.cells i ≡ Some p → stops_there plan s i ≡ stops_at plan p i
stops_here plan s i p e = let h = here-by (cell_at s.cells i) p e in rw (h.1, h.2) refl

pub unlaunched-there : (plan : Plan) (s : State) (i : ℕ) (p : Passenger) → passenger_at s.cells i ≡ Some p → stops_there plan s i ≡ false →
    row_allows plan s (Launch i) ≡ false
unlaunched-there plan s i p e stays =
    let h = here-by (cell_at s.cells i) p e in
    rw (h.1, h.2) (rider-unlaunched plan s i p (is_full (record h.0 { passenger = Some p })) (sym (stops_here plan s i p e) ∙ stays))

not_returned : (launched recovered site other : Bool) (rest : Option Bar) → ((launched && not recovered && site) || other) ≡ false →
    not (is_some (first (not site) NoUnit (first (not launched || recovered) AlreadyDone rest))) ≡ false
not_returned launched recovered false other rest e = refl
not_returned false recovered true other rest e = refl
not_returned true true true other rest e = refl
not_returned true false true other rest e = absurd (cc)

pub unrecovered-there : (plan : Plan) (s : State) (i : ℕ) (p : Passenger) → passenger_at s.cells i ≡ Some p → stops_there plan s i ≡ false →
    row_allows plan s (Recover i) ≡ false
unrecovered-there plan s i p e stays =
    let h = here-by (cell_at s.cells i) p e in
    rw (h.1, h.2) (not_returned p.launched p.recovered (recovers plan (kind p) i)
    (not p.dead && not p.done && not p.launched && (ends_units plan (kind p) i || launches plan (kind p) i)) (exit_op_bar plan s p)
    (sym (stops_here plan s i p e) ∙ stays))

-- The words after it has climbed --

climbed_at : (plan : Plan) (s : State) (marks : Marks) (i j : ℕ) (low high : StageMark) → marked marks i low ≡ marks → marked marks j no_mark ≡ marks →
    low.owes ≡ false → low.stops ≡ false → low.launch ≡ false → low.recover ≡ false → high.owes ≡ false → high.launch ≡ false → high.recover ≡ false →
    record marks {
      stops = with_bit marks.stops (j - 1) high.stops;
      execute = with_bit (with_bit marks.execute (i - 1) false) (j - 1) high.execute;
    } ≡ marked (marked marks i no_mark) j high
climbed_at plan s marks i j low high left free lo ls ll lr ho hl hr =
    let o = rw lo at (ap (λ (m : Marks). m.owes) left) in
    let st = rw ls at (ap (λ (m : Marks). m.stops) left) in
    let l = rw ll at (ap (λ (m : Marks). m.launch) left) in
    let r = rw lr at (ap (λ (m : Marks). m.recover) left) in
    let owes : marks.owes ≡ with_bit (with_bit marks.owes (i - 1) false) (j - 1) high.owes = rw (o, ho) (sym (ap (λ (m : Marks). m.owes) free)) in
    let stops : with_bit marks.stops (j - 1) high.stops ≡ with_bit (with_bit marks.stops (i - 1) false) (j - 1) high.stops = rw st refl in
    let launch : marks.launch ≡ with_bit (with_bit marks.launch (i - 1) false) (j - 1) high.launch = rw (l, hl) (sym (ap (λ (m : Marks). m.launch) free)) in
    let recover : marks.recover ≡ with_bit (with_bit marks.recover (i - 1) false) (j - 1) high.recover = rw (r, hr)
    (sym (ap (λ (m : Marks). m.recover) free)) in
    λ x. record {
      owes = owes x;
      stops = stops x;
      execute = with_bit (with_bit marks.execute (i - 1) false) (j - 1) high.execute;
      launch = launch x;
      recover = recover x;
    }

pub climbed-marks : (plan : Plan) (s : State) (marks : Marks) (i j stopped executed : ℕ) (stops executes : Bool) → HasClimbed plan s marks i j →
    stops ≡ stops_there plan s j → executes ≡ row_allows plan s (Execute j) → row_allows plan s (Launch j) ≡ false → row_allows plan s (Recover j) ≡ false →
    stopped ≡ with_bit marks.stops (j - 1) stops → executed ≡ with_bit (with_bit marks.execute (i - 1) false) (j - 1) executes →
    record marks { stops = stopped; execute = executed } ≡ remarked plan s marks (record { low = i; high = j })
unfolding mark_at
climbed-marks plan s marks i j stopped executed stops executes h stop execute launch recover is was =
    let low : StageMark = record no_mark { execute = h.could } in
    let gone = mark-none plan s i (no-passenger (passenger_at s.cells i) h.gone) in
    rw (is, was, stop, execute) (climbed_at plan s marks i j low (mark_at plan s j) h.left h.free refl refl refl refl h.owes launch recover
    ∙ ap (λ (m : StageMark). marked (marked marks i m) j (mark_at plan s j)) gone)

-- what is cleared for one stage is still clear for the other
still_clear : (marks : Marks) (i j : ℕ) → marked marks j no_mark ≡ marks →
    with_bit marks.execute (i - 1) false ≡ with_bit (with_bit marks.execute (i - 1) false) (j - 1) false
still_clear marks i j free =
    let clear = ap (λ (m : Marks). m.execute) free in
    sym (clears-commute marks.execute (i - 1) (j - 1) ∙ ap (λ (w : ℕ). with_bit w (i - 1) false) clear)

-- where its operation is to be launched or recovered
stopped_at : (marks : Marks) (i j : ℕ) (low high : StageMark) → marked marks i low ≡ marks → marked marks j no_mark ≡ marks →
    low.owes ≡ false → low.stops ≡ false → low.launch ≡ false → low.recover ≡ false → high.owes ≡ false →
    record marks {
      stops = with_bit marks.stops (j - 1) high.stops;
      execute = with_bit (with_bit marks.execute (i - 1) false) (j - 1) high.execute;
      launch = with_bit marks.launch (j - 1) high.launch;
      recover = with_bit marks.recover (j - 1) high.recover;
    } ≡ marked (marked marks i no_mark) j high
stopped_at marks i j low high left free lo ls ll lr ho =
    let o = rw lo at (ap (λ (m : Marks). m.owes) left) in
    let st = rw ls at (ap (λ (m : Marks). m.stops) left) in
    let l = rw ll at (ap (λ (m : Marks). m.launch) left) in
    let r = rw lr at (ap (λ (m : Marks). m.recover) left) in
    let owes : marks.owes ≡ with_bit (with_bit marks.owes (i - 1) false) (j - 1) high.owes = rw (o, ho) (sym (ap (λ (m : Marks). m.owes) free)) in
    let stops : with_bit marks.stops (j - 1) high.stops ≡ with_bit (with_bit marks.stops (i - 1) false) (j - 1) high.stops = rw st refl in
    let launch : with_bit marks.launch (j - 1) high.launch ≡ with_bit (with_bit marks.launch (i - 1) false) (j - 1) high.launch = rw l refl in
    let recover : with_bit marks.recover (j - 1) high.recover ≡ with_bit (with_bit marks.recover (i - 1) false) (j - 1) high.recover = rw r refl in
    λ x. record {
      owes = owes x;
      stops = stops x;
      execute = with_bit (with_bit marks.execute (i - 1) false) (j - 1) high.execute;
      launch = launch x;
      recover = recover x;
    }

pub stopped-marks : (plan : Plan) (s : State) (marks : Marks) (i j stopped executed launched recovered : ℕ) (launch recover : Bool) →
    HasClimbed plan s marks i j → stops_there plan s j ≡ true → false ≡ row_allows plan s (Execute j) → launch ≡ row_allows plan s (Launch j) →
    recover ≡ row_allows plan s (Recover j) → stopped ≡ with_bit marks.stops (j - 1) true →
    executed ≡ with_bit marks.execute (i - 1) false → launched ≡ with_bit marks.launch (j - 1) launch → recovered ≡ with_bit marks.recover (j - 1) recover →
    record marks { stops = stopped; execute = executed; launch = launched; recover = recovered } ≡ remarked plan s marks (record { low = i; high = j })
unfolding mark_at
stopped-marks plan s marks i j stopped executed launched recovered launch recover h stops execute entry return one two three four =
    let gone = mark-none plan s i (no-passenger (passenger_at s.cells i) h.gone) in
    let a = one ∙ ap (with_bit marks.stops (j - 1)) (sym stops) in
    let b = two ∙ still_clear marks i j h.free ∙ ap (with_bit (with_bit marks.execute (i - 1) false) (j - 1)) execute in
    let c = three ∙ ap (with_bit marks.launch (j - 1)) entry in
    let d = four ∙ ap (with_bit marks.recover (j - 1)) return in
    (λ x. record marks { stops = a x; execute = b x; launch = c x; recover = d x })
    ∙ stopped_at marks i j (record no_mark { execute = h.could }) (mark_at plan s j) h.left h.free refl refl refl refl h.owes
    ∙ ap (λ (m : StageMark). marked (marked marks i m) j (mark_at plan s j)) gone

-- where it neither stops nor can be executed, nothing is marked any more
pub passed-marks : (plan : Plan) (s : State) (marks : Marks) (p : Passenger) (i j left : ℕ) → HasClimbed plan s marks i j →
    passenger_at s.cells j ≡ Some p → stops_there plan s j ≡ false → false ≡ row_allows plan s (Execute j) →
    left ≡ with_bit marks.execute (i - 1) false → record marks { execute = left } ≡ remarked plan s marks (record { low = i; high = j })
passed-marks plan s marks p i j left h here stops execute off =
    let launch = unlaunched-there plan s j p here stops in
    let recover = unrecovered-there plan s j p here stops in
    let stop = sym (ap (λ (m : Marks). m.stops) h.free) in
    let still = still_clear marks i j h.free in
    rw off (λ x. record marks { stops = stop x; execute = still x })
    ∙ climbed-marks plan s marks i j (with_bit marks.stops (j - 1) false) (with_bit (with_bit marks.execute (i - 1) false) (j - 1) false) false false h
    (sym stops) execute launch recover refl refl

-- Before and after --

-- an instruction that can climb could at most be executed
mark_before : (plan : Plan) (s : State) (i : ℕ) (q : Passenger) → passenger_at s.cells i ≡ Some q → is_some q.owes ≡ false → stops_at plan q i ≡ false →
    mark_at plan s i ≡ record no_mark { execute = row_allows plan s (Execute i) }
unfolding mark_at
mark_before plan s i q e owes stays =
    let stop = stops_here plan s i q e ∙ stays in
    let owe = owes-here s i q e ∙ owes in
    let launch = unlaunched-there plan s i q e stop in
    let recover = unrecovered-there plan s i q e stop in
    λ x. record { owes = owe x; stops = stop x; execute = row_allows plan s (Execute i); launch = launch x; recover = recover x }

pub some_rider : (o : Option Passenger) → IsSome o → (q : Passenger) × (o ≡ Some q)
some_rider None h = absurd (cc)
some_rider (Some q) h = (q, refl)

pub has-climbed : (p new : Processor) (marks : Marks) (i j : ℕ) → IsProcessor p.plan p.state → bar p.plan p.state (Climb i) ≡ None → i < j →
    j ≤ p.plan.stages → IsNone (passenger_at p.state.cells j) → new ≡ with_cells p (cells_lifted p.state.cells i j) → marks ≡ marks_of p.plan p.state →
    HasClimbed new.plan new.state marks i j
has-climbed p new marks i j h free up within room is kept =
    let stage = climb-stage p i h free in
    let q = some_rider (passenger_at p.state.cells i) stage.2 in
    let r = rider p i q.0 h free q.1 in
    let e = ends p i j h stage.0 up within in
    let few = h.accepted.stages.1 in
    let same : e.from.passenger ≡ Some q.0 = sym (ap (λ (o : Option Cell). on o None (λ c. c.passenger)) e.here) ∙ q.1 in
    let top = at-top p.state.cells i j e.from e.to e.here e.there in
    let left = at-bottom p.state.cells i j e.from e.to (λ g. absurd (omega (arith, up, g))) e.here e.there in
    rw (is, kept) (record {
      low = stage.0;
      higher = up;
      within = within;
      gone = rw left refl;
      here = rw (top, same) refl;
      owes = rw (top, same) r.owes;
      could = row_allows p.plan p.state (Execute i);
      left = marked-kept p.plan p.state i _ few stage.0 (omega (arith, stage.1)) (mark_before p.plan p.state i q.0 q.1 r.owes r.stays);
      free = marked-kept p.plan p.state j no_mark few (omega (arith, up)) within
          (sym (mark-none p.plan p.state j (no-passenger (passenger_at p.state.cells j) room)));
    })

pub ruleset climbing = (climbed-marks)

-- an instruction that can climb and has no work is spent
pub spent-there : (p : Processor) (i : ℕ) → IsProcessor p.plan p.state → bar p.plan p.state (Climb i) ≡ None →
    None ≡ on (passenger_at p.state.cells i) None work_of → rides p.state i is_spent ≡ true
spent-there p i h free none =
    let q = some_rider (passenger_at p.state.cells i) (climb-stage p i h free).2 in
    let r = rider p i q.0 h free q.1 in
    let idle = no-work q.0 (none ∙ ap (λ (o : Option Passenger). on o None work_of) q.1) in
    rw (r.here, r.rides, idle, r.owes) refl

-- one that has is of this class
pub class-there : (p new : Processor) (i j : ℕ) (k : Class) → IsProcessor p.plan p.state → bar p.plan p.state (Climb i) ≡ None → i < j → j ≤ p.plan.stages →
    new ≡ with_cells p (cells_lifted p.state.cells i j) → Some k ≡ on (passenger_at p.state.cells i) None work_of →
    on (passenger_at new.state.cells j) None (λ q. Some (kind q)) ≡ Some k
class-there p new i j k h free up within is some =
    let stage = climb-stage p i h free in
    let q = some_rider (passenger_at p.state.cells i) stage.2 in
    let r = rider p i q.0 h free q.1 in
    let e = ends p i j h stage.0 up within in
    let top = at-top p.state.cells i j e.from e.to e.here e.there in
    let same : e.from.passenger ≡ Some q.0 = sym (ap (λ (o : Option Cell). on o None (λ c. c.passenger)) e.here) ∙ q.1 in
    let class = work-class q.0 k (some ∙ ap (λ (o : Option Passenger). on o None work_of) q.1) in
    rw (is, top, same, class) refl
