-- What holds of a stage after a move of its instruction, and which of the words the move changes.
use Rattle.std.proofs.Common.{◌≡◌, ◌∙◌, ℕ, Option, Some, None, Bool, true, false, refl, sym, ap, arith}
use Rattle.std.specs.Prelude.{◌&&◌, ◌||◌, not}
use Rattle.std.proofs.lemmas.Bool.Decides.{nat_tests}
use Rattle.rv_inst.specs.declared.classes.Class.{Class}
use Rattle.cf_bind.specs.declared.cell.Cell.{Cell}
use Rattle.cf_bind.specs.declared.moves.Bar.{Bar}
use Rattle.cf_bind.specs.declared.moves.Bar.TheVariants.{AlreadyDone, Dead, NoSuchSite, NoUnit, Occupied, OwesNothing}
use Rattle.cf_bind.specs.declared.moves.Move.TheVariants.{Execute, Send}
use Rattle.cf_bind.specs.declared.passenger.End.{End}
use Rattle.cf_bind.specs.declared.passenger.Passenger.{Passenger}
use Rattle.cf_layout.specs.Accepted.{IsAccepted}
use Rattle.cf_layout.specs.Layout.{Plan, launch_stage, siding_of, unit_at}
use Rattle.cf_layout.proofs.Facts.{launches_low, unsided}
use Rattle.cf_semantics.specs.moves.Bars.{execute_bar, first, is_full, launch_bar, row_bar, send_bar, source_bar, stops_at}
use Rattle.cf_semantics.specs.moves.Moves.{back_in, launched, moved, sent, with_passenger}
use Rattle.cf_semantics.specs.state.Layouts.{ends_units, launches, recovers}
use Rattle.cf_semantics.specs.state.Options.{on, is_some}
use Rattle.cf_semantics.specs.state.Passengers.{finish, kind, trapped}
use Rattle.cf_semantics.specs.state.State.{State, cell_at, with_cell}
use Rattle.cf_stages.specs.Changes.{passenger_at}
use Rattle.cf_stages.proofs.Parts.{cell-put, stage-high, stage-low}
use Rattle.cf_core.specs.Marks.{mark_at, no_mark, resting}
use Rattle.cf_core.specs.Masks.{owes_at}
use Rattle.cf_core.specs.Riders.{has_sources, is_idle, is_out, is_undone}
use Rattle.cf_core.specs.declared.marks.StageMark.{StageMark}
use Rattle.cf_core.proofs.ClimbMarks.{stops_here, unlaunched-there, unrecovered-there}
use Rattle.cf_core.proofs.Rides.{execute-free, mark-idle, owes-here}
use Rattle.cf_core.proofs.SameMarks.{mark_by, mark_is}
use Rattle.cf_core.proofs.SameStages.{mark_put}
use Rattle.cf_core.proofs.StillMarks.{entry_row}
use Rattle.theory_refinement.proofs.walks.Finishing.{finish_done, finish_kind}

pub no-more : (undone unit known : Bool) → (undone && unit) ≡ false → (undone && (unit && known)) ≡ false
no-more true false known e = refl
no-more false unit known e = refl
no-more true true known e = absurd (cc)

-- no unit is left to wait for in a class with a siding
pub unit-left : (plan : Plan) (p : Passenger) (i k : ℕ) → IsAccepted plan → siding_of plan (kind p) ≡ Some k →
    (is_undone p && unit_at plan (kind p) i) ≡ false
unit-left plan p i k a home = by_unit (is_undone p) (unit_at plan (kind p) i) refl
  where
    by_unit : (undone unit : Bool) → unit_at plan (kind p) i ≡ unit → (undone && unit) ≡ false
    by_unit undone true at = let none = unsided plan a (kind p) i at in absurd (cc)
    by_unit true false at = refl
    by_unit false false at = refl

-- so it is where the instruction does not stop, and has no unit left to wait for
pub mark-resting : (plan : Plan) (s : State) (i : ℕ) (q : Passenger) → passenger_at s.cells i ≡ Some q → stops_at plan q i ≡ false →
    (is_undone q && unit_at plan (kind q) i) ≡ false → mark_at plan s i ≡ resting s i
unfolding mark_at
mark-resting plan s i q e stays units =
    let stop = stops_here plan s i q e ∙ stays in
    let execute = execute-free plan s i q e ∙ no-more (is_undone q) (unit_at plan (kind q) i) (has_sources q) units in
    let launch = unlaunched-there plan s i q e stop in
    let recover = unrecovered-there plan s i q e stop in
    λ x. record { owes = owes_at s i; stops = stop x; execute = execute x; launch = launch x; recover = recover x }

-- After Send the instruction owes nothing --

sent_full : (c : Cell) (p : Passenger) → is_some c.packet ≡ false → is_full (sent p) ≡ (is_some c.packet && not c.met)
sent_full c p e = grind arith

sent_mark : (plan : Plan) (s : State) (i : ℕ) (c : Cell) (p : Passenger) → c.passenger ≡ Some p → is_some c.packet ≡ false →
    mark_by plan s i (Some (sent p)) ≡ record (mark_by plan s i (Some c)) { owes = false }
unfolding mark_by
sent_mark plan s i c p rides free =
    let m = mark_by plan s i (Some (sent p)) in
    let launch = ap (λ (b : Bool). not (is_some (entry_row plan s b i p))) (sent_full c p free) in
    rw rides (λ x. record { owes = false; stops = m.stops; execute = m.execute; launch = launch x; recover = m.recover })

send_tests : (c : Cell) (p : Passenger) → c.passenger ≡ Some p → send_bar c ≡ None → is_some c.packet ≡ false
send_tests c p rides free = tests (is_some p.owes) (is_some c.packet) (rw rides at free)
  where
    tests : (owes full : Bool) → first (not owes) OwesNothing (first full Occupied None) ≡ None → full ≡ false
    tests false full e = absurd (cc)
    tests true true e = absurd (cc)
    tests true false e = refl

pub send-mark : (plan : Plan) (s : State) (i : ℕ) → row_bar plan s (Send i) ≡ None →
    mark_at plan (moved plan s (Send i)) i ≡ record (mark_at plan s i) { owes = false }
unfolding moved
send-mark plan s i free = by_cell (cell_at s.cells i) refl free
  where
    by_rider : (c : Cell) (o : Option Passenger) → cell_at s.cells i ≡ Some c → c.passenger ≡ o → send_bar c ≡ None →
        mark_at plan (on o s (λ p. with_cell s i (sent p))) i ≡ record (mark_at plan s i) { owes = false }
    by_rider c None e rides row = absurd (grind arith)
    by_rider c (Some p) e rides row =
        mark_put plan s i c (sent p) e
        ∙ sent_mark plan s i c p rides (send_tests c p rides row)
        ∙ ap (λ (m : StageMark). record m { owes = false }) (sym (mark_is plan s i ∙ ap (mark_by plan s i) e))

    by_cell : (o : Option Cell) → cell_at s.cells i ≡ o → on o (Some NoSuchSite) send_bar ≡ None →
        mark_at plan (on o s (λ c. on c.passenger s (λ p. with_cell s i (sent p)))) i ≡ record (mark_at plan s i) { owes = false }
    by_cell None e row = absurd (cc)
    by_cell (Some c) e row = by_rider c c.passenger e refl row

-- After Execute, Recover and Launch it rests --

-- the instruction of a stage with other contents
pub rider_put : (s : State) (i : ℕ) (b c : Cell) (q : Passenger) → cell_at s.cells i ≡ Some b →
    passenger_at (with_cell s i (with_passenger c q)).cells i ≡ Some q
rider_put s i b c q here = ap (λ (o : Option Cell). on o None (λ d. d.passenger))
    (cell-put s.cells i (with_passenger c q) (stage-low s.cells i b here) (stage-high s.cells i b here))

undone_done : (dead done unit : Bool) → done ≡ true → ((not dead && not done) && unit) ≡ false
undone_done true true unit e = refl
undone_done false true unit e = refl
undone_done dead false unit e = absurd (cc)

unstopped_done : (out back dead done launched site : Bool) → done ≡ true → back ≡ false →
    ((out && back) || (not dead && not done && not launched && site)) ≡ false
unstopped_done true false true true launched site e f = refl
unstopped_done true false false true launched site e f = refl
unstopped_done false false true true launched site e f = refl
unstopped_done false false false true launched site e f = refl
unstopped_done out true dead done launched site e f = absurd (cc)
unstopped_done out false dead false launched site e f = absurd (cc)

execute_unit : (plan : Plan) (c : Cell) (i : ℕ) (p : Passenger) → c.passenger ≡ Some p → execute_bar plan c i ≡ None → unit_at plan (kind p) i ≡ true
execute_unit plan c i p rides free = tests p.dead p.done (unit_at plan (kind p) i) (source_bar p None) (rw rides at free)
  where
    tests : (dead done unit : Bool) (rest : Option Bar) → first dead Dead (first done AlreadyDone (first (not unit) NoUnit rest)) ≡ None → unit ≡ true
    tests true done unit rest e = absurd (cc)
    tests false true unit rest e = absurd (cc)
    tests false false false rest e = absurd (cc)
    tests false false true rest e = refl

-- an instruction of a class with units that is done
done_rests : (plan : Plan) (s : State) (i : ℕ) (q : Passenger) → passenger_at s.cells i ≡ Some q → siding_of plan (kind q) ≡ None → q.done ≡ true →
    mark_at plan s i ≡ resting s i
done_rests plan s i q e home done =
    let back : recovers plan (kind q) i ≡ false = rw home refl in
    mark-resting plan s i q e (unstopped_done (is_out q) (recovers plan (kind q) i) q.dead q.done q.launched
    (ends_units plan (kind q) i || launches plan (kind q) i) done back) (undone_done q.dead q.done (unit_at plan (kind q) i) done)

pub execute-mark : (plan : Plan) (s : State) (i : ℕ) → IsAccepted plan → row_bar plan s (Execute i) ≡ None →
    mark_at plan (moved plan s (Execute i)) i ≡ resting (moved plan s (Execute i)) i
unfolding moved
execute-mark plan s i a free = by_cell (cell_at s.cells i) refl free
  where
    by_rider : (c : Cell) (o : Option Passenger) → cell_at s.cells i ≡ Some c → c.passenger ≡ o → execute_bar plan c i ≡ None →
        mark_at plan (on o s (λ p. with_cell s i (with_passenger c (finish p None)))) i
        ≡ resting (on o s (λ p. with_cell s i (with_passenger c (finish p None)))) i
    by_rider c None e rides row = absurd (grind arith)
    by_rider c (Some p) e rides row =
        let home : siding_of plan (kind (finish p None)) ≡ None = rw (finish_kind p None) (unsided plan a (kind p) i (execute_unit plan c i p rides row)) in
        done_rests plan (with_cell s i (with_passenger c (finish p None))) i (finish p None) (rider_put s i c c (finish p None) e) home (finish_done p None)

    by_cell : (o : Option Cell) → cell_at s.cells i ≡ o → on o (Some NoSuchSite) (λ c. execute_bar plan c i) ≡ None →
        mark_at plan (on o s (λ c. on c.passenger s (λ p. with_cell s i (with_passenger c (finish p None))))) i
        ≡ resting (on o s (λ c. on c.passenger s (λ p. with_cell s i (with_passenger c (finish p None))))) i
    by_cell None e row = absurd (cc)
    by_cell (Some c) e row = by_rider c c.passenger e refl row

-- an instruction with which no unit and no siding has anything left to do
pub idle-rests : (plan : Plan) (s : State) (i : ℕ) (q : Passenger) → passenger_at s.cells i ≡ Some q → is_idle q ≡ true → mark_at plan s i ≡ resting s i
idle-rests plan s i q e idle = sym (mark-idle plan s i q e idle) ∙ ap (λ (b : Bool). record no_mark { owes = b }) (sym (owes-here s i q e))

-- so is one that has taken its operation back
back_idle : (p : Passenger) (answer : Option ℕ) → is_idle (back_in p answer) ≡ true
unfolding finish
back_idle p answer = grind arith

pub back-rests : (plan : Plan) (s : State) (i : ℕ) (p : Passenger) (answer : Option ℕ) → passenger_at s.cells i ≡ Some (back_in p answer) →
    mark_at plan s i ≡ resting s i
back-rests plan s i p answer e = idle-rests plan s i (back_in p answer) e (back_idle p answer)

-- one that has launched its operation rests where it launched it
pub launch_tests : (plan : Plan) (s : State) (i : ℕ) (c : Cell) (p : Passenger) → c.passenger ≡ Some p → launch_bar plan s c i ≡ None →
    (launches plan (kind p) i ≡ true) × (p.launched ≡ false)
launch_tests plan s i c p rides free =
    tests p.dead p.done p.launched (launches plan (kind p) i) _ (rw rides at free)
  where
    tests : (dead done launched site : Bool) (rest : Option Bar) →
        first dead Dead (first (done || launched) AlreadyDone (first (not site) NoUnit rest)) ≡ None → (site ≡ true) × (launched ≡ false)
    tests true done launched site rest e = absurd (cc)
    tests false true launched site rest e = absurd (cc)
    tests false false true site rest e = absurd (cc)
    tests false false false false rest e = absurd (cc)
    tests false false false true rest e = (refl, refl)

no_return_here : (plan : Plan) (c : Class) (i k : ℕ) → IsAccepted plan → siding_of plan c ≡ Some k → launch_stage plan k ≡ i → recovers plan c i ≡ false
no_return_here plan c i k a home site =
    let order = (launches_low plan a c k home).1 in
    rw (home, ← site) (grind (arith, nat_tests))

stays_out : (recovered back undone site : Bool) → back ≡ false → ((true && not recovered && back) || (undone && not true && site)) ≡ false
stays_out true back true site e = refl
stays_out true back false site e = refl
stays_out false true undone site e = absurd (cc)
stays_out false false true site e = refl
stays_out false false false site e = refl

pub launched-rests : (plan : Plan) (s : State) (i k : ℕ) (p : Passenger) → IsAccepted plan → passenger_at s.cells i ≡ Some (record p { launched = true }) →
    siding_of plan (kind p) ≡ Some k → launch_stage plan k ≡ i → mark_at plan s i ≡ resting s i
launched-rests plan s i k p a e home site =
    mark-resting plan s i (record p { launched = true }) e
    (stays_out p.recovered (recovers plan (kind p) i) (is_undone p) (ends_units plan (kind p) i || launches plan (kind p) i)
    (no_return_here plan (kind p) i k a home site)) (unit-left plan p i k a home)

-- and one that has trapped there
trapped_idle : (p : Passenger) (end : End) → p.launched ≡ false → is_idle (trapped p end) ≡ true
trapped_idle p end e = grind arith

pub trapped-rests : (plan : Plan) (s : State) (i : ℕ) (p : Passenger) (end : End) → p.launched ≡ false → passenger_at s.cells i ≡ Some (trapped p end) →
    mark_at plan s i ≡ resting s i
trapped-rests plan s i p end never e = idle-rests plan s i (trapped p end) e (trapped_idle p end never)
