-- What holds of a stage, by what is there: no instruction, or one of a class with units or with a siding.
use Rattle.std.proofs.Common.{◌≡◌, ◌∙◌, ℕ, Option, Some, None, Bool, true, false, refl, sym, ap}
use Rattle.std.specs.Prelude.{◌==◌, ◌&&◌, ◌||◌, not}
use Rattle.cf_bind.specs.declared.cell.Cell.{Cell}
use Rattle.cf_bind.specs.declared.moves.Bar.{Bar}
use Rattle.cf_bind.specs.declared.moves.Bar.TheVariants.{Dead, AlreadyDone, NoPassenger, NoSuchSite, NoUnit, NotMet, SourceMissing}
use Rattle.cf_bind.specs.declared.moves.Move.TheVariants.{Execute, Launch, Recover}
use Rattle.cf_bind.specs.declared.passenger.Passenger.{Passenger}
use Rattle.cf_layout.specs.Layout.{Plan, last_stage, launch_stage, recover_stage, siding_of, unit_at}
use Rattle.cf_semantics.specs.moves.Bars.{entry_bar, execute_bar, exit_op_bar, first, is_full, launch_bar, recover_bar, source_bar, stops_at}
use Rattle.cf_semantics.specs.moves.Instructions.{is_memory}
use Rattle.cf_semantics.specs.state.Layouts.{launches, recovers}
use Rattle.cf_semantics.specs.state.Options.{on, is_some}
use Rattle.cf_semantics.specs.state.Passengers.{kind, missing}
use Rattle.cf_semantics.specs.state.State.{State, cell_at}
use Rattle.cf_stages.specs.Changes.{is_full_at, passenger_at}
use Rattle.cf_core.specs.Marks.{row_allows, mark_at, no_mark}
use Rattle.cf_core.specs.Masks.{owes_at, stops_there}
use Rattle.cf_core.specs.Riders.{has_sources, is_idle, is_out, is_undone}

-- the stage of an instruction exists
pub here-by : (o : Option Cell) (p : Passenger) → on o None (λ c. c.passenger) ≡ Some p → (c : Cell) × (o ≡ Some c) × (c.passenger ≡ Some p)
here-by None p e = absurd (cc)
here-by (Some c) p e = (c, refl, e)

-- no bar in a row applies if each of its tests fails and no bar in the rest of it applies
sources_row : (p : Passenger) (rest : Option Bar) → not (is_some (source_bar p rest)) ≡ (has_sources p && not (is_some rest))
sources_row p rest = by (missing p.src1) (missing p.src2)
  where
    by : (a b : Option ℕ) → not (is_some (on a (on b rest (λ r. Some (SourceMissing r))) (λ r. Some (SourceMissing r))))
        ≡ (not (is_some (on a b Some)) && not (is_some rest))
    by None None = refl
    by None (Some r) = refl
    by (Some r) b = refl

execute_row : (dead done unit : Bool) (rest : Option Bar) (known : Bool) → not (is_some rest) ≡ known →
    not (is_some (first dead Dead (first done AlreadyDone (first (not unit) NoUnit rest)))) ≡ ((not dead && not done) && (unit && known))
execute_row true done unit rest known e = refl
execute_row false true unit rest known e = refl
execute_row false false false rest known e = refl
execute_row false false true rest known e = e

launch_row : (dead done launched site full : Bool) (rest : Option Bar) (free : Bool) → not (is_some rest) ≡ free →
    not (is_some (first dead Dead (first (done || launched) AlreadyDone (first (not site) NoUnit (first full NotMet rest)))))
    ≡ (((not dead && not done) && (not launched && site)) && (not full && free))
launch_row true done launched site full rest free e = refl
launch_row false true launched site full rest free e = refl
launch_row false false true site full rest free e = refl
launch_row false false false false full rest free e = refl
launch_row false false false true true rest free e = refl
launch_row false false false true false rest free e = e

recover_row : (site launched recovered : Bool) (rest : Option Bar) →
    not (is_some (first (not site) NoUnit (first (not launched || recovered) AlreadyDone rest))) ≡ (((launched && not recovered) && site) && not (is_some rest))
recover_row false false recovered rest = refl
recover_row false true false rest = refl
recover_row false true true rest = refl
recover_row true false recovered rest = refl
recover_row true true true rest = refl
recover_row true true false rest = refl

always : (b : Bool) → b ≡ (b && true)
always true = refl
always false = refl

pub execute-free : (plan : Plan) (s : State) (i : ℕ) (p : Passenger) → passenger_at s.cells i ≡ Some p →
    row_allows plan s (Execute i) ≡ (is_undone p && (unit_at plan (kind p) i && has_sources p))
execute-free plan s i p e =
    let h = here-by (cell_at s.cells i) p e in
    rw (h.1, h.2) (execute_row p.dead p.done (unit_at plan (kind p) i) (source_bar p None) (has_sources p) (sources_row p None ∙ sym (always (has_sources p))))

pub launch-free : (plan : Plan) (s : State) (i k : ℕ) (p : Passenger) → passenger_at s.cells i ≡ Some p → siding_of plan (kind p) ≡ Some k →
    row_allows plan s (Launch i) ≡ ((is_undone p && (not p.launched && (launch_stage plan k == i)))
    && (not (is_memory (kind p) && is_full_at s.cells i) && (has_sources p && not (is_some (entry_bar plan s p)))))
launch-free plan s i k p e at =
    let h = here-by (cell_at s.cells i) p e in
    let site : launches plan (kind p) i ≡ (launch_stage plan k == i) = rw at refl in
    rw (h.1, h.2, site) (launch_row p.dead p.done p.launched (launch_stage plan k == i) (is_memory (kind p) && is_full (record h.0 { passenger = Some p }))
    (source_bar p (entry_bar plan s p)) (has_sources p && not (is_some (entry_bar plan s p))) (sources_row p (entry_bar plan s p)))

pub recover-free : (plan : Plan) (s : State) (i k : ℕ) (p : Passenger) → passenger_at s.cells i ≡ Some p → siding_of plan (kind p) ≡ Some k →
    row_allows plan s (Recover i) ≡ ((is_out p && (recover_stage plan k == i)) && not (is_some (exit_op_bar plan s p)))
recover-free plan s i k p e at =
    let h = here-by (cell_at s.cells i) p e in
    let site : recovers plan (kind p) i ≡ (recover_stage plan k == i) = rw at refl in
    rw (h.1, h.2, site) (recover_row (recover_stage plan k == i) p.launched p.recovered (exit_op_bar plan s p))

-- the stage at which it stops
in_turn : (a b c : Bool) → (a && b && c) ≡ (a && (b && c))
in_turn true b c = refl
in_turn false b c = refl

pub stops-by-siding : (plan : Plan) (i k : ℕ) (p : Passenger) → siding_of plan (kind p) ≡ Some k →
    stops_at plan p i ≡ ((is_out p && (recover_stage plan k == i)) || (is_undone p && (not p.launched && (launch_stage plan k == i))))
stops-by-siding plan i k p at =
    rw at (ap (λ (b : Bool). (is_out p && (recover_stage plan k == i)) || b) (in_turn (is_undone p) (not p.launched) (launch_stage plan k == i)))

pub stops-siding : (plan : Plan) (s : State) (i k : ℕ) (p : Passenger) → passenger_at s.cells i ≡ Some p → siding_of plan (kind p) ≡ Some k →
    stops_there plan s i ≡ ((is_out p && (recover_stage plan k == i)) || (is_undone p && (not p.launched && (launch_stage plan k == i))))
stops-siding plan s i k p e at =
    let h = here-by (cell_at s.cells i) p e in
    rw (h.1, h.2) (stops-by-siding plan i k p at)

by_units : (launched back undone ends : Bool) → ((launched && back && false) || (undone && not launched && (ends || false)))
    ≡ (undone && (not launched && ends))
by_units false back false ends = refl
by_units false back true true = refl
by_units false back true false = refl
by_units true true false ends = refl
by_units true true true ends = refl
by_units true false false ends = refl
by_units true false true ends = refl

pub stops-by-units : (plan : Plan) (i : ℕ) (p : Passenger) → siding_of plan (kind p) ≡ None →
    stops_at plan p i ≡ (is_undone p && (not p.launched && (last_stage plan (kind p) == i)))
stops-by-units plan i p at = rw at (by_units p.launched (not p.recovered) (is_undone p) (last_stage plan (kind p) == i))

pub stops-units : (plan : Plan) (s : State) (i : ℕ) (p : Passenger) → passenger_at s.cells i ≡ Some p → siding_of plan (kind p) ≡ None →
    stops_there plan s i ≡ (is_undone p && (not p.launched && (last_stage plan (kind p) == i)))
stops-units plan s i p e at =
    let h = here-by (cell_at s.cells i) p e in
    rw (h.1, h.2) (stops-by-units plan i p at)

-- without a siding nothing is launched, and nothing comes back
no_launch : (dead done launched full : Bool) (rest : Option Bar) →
    not (is_some (first dead Dead (first (done || launched) AlreadyDone (first true NoUnit (first full NotMet rest))))) ≡ false
no_launch true done launched full rest = refl
no_launch false true launched full rest = refl
no_launch false false true full rest = refl
no_launch false false false full rest = refl

pub launch-none : (plan : Plan) (s : State) (i : ℕ) (p : Passenger) → passenger_at s.cells i ≡ Some p → siding_of plan (kind p) ≡ None →
    false ≡ row_allows plan s (Launch i)
launch-none plan s i p e at =
    let h = here-by (cell_at s.cells i) p e in
    let site : launches plan (kind p) i ≡ false = rw at refl in
    rw (h.1, h.2, site) (sym (no_launch p.dead p.done p.launched (is_memory (kind p) && is_full (record h.0 { passenger = Some p }))
    (source_bar p (entry_bar plan s p))))

pub recover-none : (plan : Plan) (s : State) (i : ℕ) (p : Passenger) → passenger_at s.cells i ≡ Some p → siding_of plan (kind p) ≡ None →
    false ≡ row_allows plan s (Recover i)
recover-none plan s i p e at =
    let h = here-by (cell_at s.cells i) p e in
    let site : recovers plan (kind p) i ≡ false = rw at refl in
    rw (h.1, h.2, site) refl

pub owes-here : (s : State) (i : ℕ) (p : Passenger) → passenger_at s.cells i ≡ Some p → owes_at s i ≡ is_some p.owes
owes-here s i p e = let h = here-by (cell_at s.cells i) p e in rw (h.1, h.2) refl

-- and of a stage without an instruction
none_row : (o : Option Cell) (row : Cell → Option Bar) → ((c : Cell) → c.passenger ≡ None → row c ≡ Some NoPassenger) → on o None (λ c. c.passenger) ≡ None →
    false ≡ not (is_some (on o (Some NoSuchSite) row))
none_row None row bars e = refl
none_row (Some c) row bars e = rw (bars c e) refl

none_rides : (o : Option Cell) (f : Passenger → Bool) → on o None (λ c. c.passenger) ≡ None → false ≡ on o false (λ c. on c.passenger false f)
none_rides None f e = refl
none_rides (Some c) f e = rw e refl

pub launch-nowhere : (plan : Plan) (s : State) (i : ℕ) → passenger_at s.cells i ≡ None → false ≡ row_allows plan s (Launch i)
launch-nowhere plan s i e = none_row (cell_at s.cells i) (λ c. launch_bar plan s c i) (λ c none. rw none refl) e

pub recover-nowhere : (plan : Plan) (s : State) (i : ℕ) → passenger_at s.cells i ≡ None → false ≡ row_allows plan s (Recover i)
recover-nowhere plan s i e = none_row (cell_at s.cells i) (λ c. recover_bar plan s c i) (λ c none. rw none refl) e

pub mark-none : (plan : Plan) (s : State) (i : ℕ) → passenger_at s.cells i ≡ None → no_mark ≡ mark_at plan s i
unfolding mark_at
mark-none plan s i e =
    let o = cell_at s.cells i in
    let owes = none_rides o (λ p. is_some p.owes) e in
    let stops = none_rides o (λ p. stops_at plan p i) e in
    let execute = none_row o (λ c. execute_bar plan c i) (λ c none. rw none refl) e in
    let launch = launch-nowhere plan s i e in
    let recover = recover-nowhere plan s i e in
    λ x. record { owes = owes x; stops = stops x; execute = execute x; launch = launch x; recover = recover x }

-- and of an instruction with which no unit and no siding has anything left to do
idle_parts : (dead done launched recovered : Bool) → (not (not dead && not done) && not (launched && not recovered)) ≡ true →
    ((not dead && not done) ≡ false) × ((launched && not recovered) ≡ false)
idle_parts false false launched recovered e = absurd (cc)
idle_parts true done true false e = absurd (cc)
idle_parts false true true false e = absurd (cc)
idle_parts true done false recovered e = (refl, refl)
idle_parts false true false recovered e = (refl, refl)
idle_parts true done true true e = (refl, refl)
idle_parts false true true true e = (refl, refl)

no_unit : (dead done unit : Bool) (rest : Option Bar) → (not dead && not done) ≡ false → false
    ≡ not (is_some (first dead Dead (first done AlreadyDone (first (not unit) NoUnit rest))))
no_unit true done unit rest e = refl
no_unit false true unit rest e = refl
no_unit false false unit rest e = absurd (cc)

no_entry : (dead done launched site full : Bool) (rest : Option Bar) → (not dead && not done) ≡ false →
    false ≡ not (is_some (first dead Dead (first (done || launched) AlreadyDone (first (not site) NoUnit (first full NotMet rest)))))
no_entry true done launched site full rest e = refl
no_entry false true launched site full rest e = refl
no_entry false false launched site full rest e = absurd (cc)

no_exit : (site launched recovered : Bool) (rest : Option Bar) → (launched && not recovered) ≡ false →
    false ≡ not (is_some (first (not site) NoUnit (first (not launched || recovered) AlreadyDone rest)))
no_exit site launched recovered rest e = rw (recover_row site launched recovered rest, e) refl

no_stop : (out back undone launched site : Bool) → out ≡ false → undone ≡ false → false ≡ ((out && back) || (undone && not launched && site))
no_stop out back undone launched site e f = rw (e, f) refl

pub stops-idle : (plan : Plan) (i : ℕ) (p : Passenger) → is_idle p ≡ true → stops_at plan p i ≡ false
stops-idle plan i p idle =
    let parts = idle_parts p.dead p.done p.launched p.recovered idle in
    sym (no_stop (is_out p) (recovers plan (kind p) i) (is_undone p) p.launched _ parts.1 parts.0)

pub mark-idle : (plan : Plan) (s : State) (i : ℕ) (p : Passenger) → passenger_at s.cells i ≡ Some p → is_idle p ≡ true →
    record no_mark { owes = is_some p.owes } ≡ mark_at plan s i
unfolding mark_at
mark-idle plan s i p e idle =
    let h = here-by (cell_at s.cells i) p e in
    let parts = idle_parts p.dead p.done p.launched p.recovered idle in
    let owes = owes-here s i p e in
    let stops : false ≡ stops_there plan s i = rw (h.1, h.2) (sym (stops-idle plan i p idle)) in
    let execute : false ≡ row_allows plan s (Execute i) = rw (h.1, h.2) (no_unit p.dead p.done (unit_at plan (kind p) i) (source_bar p None) parts.0) in
    let launch : false ≡ row_allows plan s (Launch i) = rw (h.1, h.2) (no_entry p.dead p.done p.launched (launches plan (kind p) i) (is_memory (kind p)
    && is_full (record h.0 { passenger = Some p })) (source_bar p (entry_bar plan s p)) parts.0) in
    let recover : false ≡ row_allows plan s (Recover i) = rw (h.1, h.2)
    (no_exit (recovers plan (kind p) i) p.launched p.recovered (exit_op_bar plan s p) parts.1)
    in
    λ x. record { owes = (sym owes) x; stops = stops x; execute = execute x; launch = launch x; recover = recover x }

pub ruleset execute_free = (execute-free)

pub ruleset launch_free = (launch-free)

pub ruleset recover_free = (recover-free)

pub ruleset stops_siding = (stops-siding)

pub ruleset stops_units = (stops-units)

pub ruleset mark_none = (mark-none)

pub ruleset owed = (owes-here)

pub ruleset units = (owes-here, launch-none, recover-none)

pub ruleset idle = (mark-idle)

pub ruleset no_launches = (launch-none, launch-nowhere)

pub ruleset no_recovers = (recover-none, recover-nowhere)
