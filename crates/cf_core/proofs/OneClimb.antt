-- One Climb is a lift into the stage above, and changes of the words what such a lift changes.
use Rattle.std.proofs.Common.{◌≡◌, ◌∙◌, ℕ, ◌+◌, ◌≤◌, Some, None, refl, ap, arith}
use Rattle.std.specs.Prelude.{IsNone}
use Rattle.rv_inst.specs.declared.classes.Class.{Class}
use Rattle.cf_bind.specs.declared.moves.Move.TheVariants.{Climb}
use Rattle.cf_semantics.specs.moves.Bars.{bar}
use Rattle.cf_semantics.specs.state.Options.{on}
use Rattle.cf_semantics.specs.state.Passengers.{kind}
use Rattle.cf_stages.specs.Changes.{cells_lifted, passenger_at}
use Rattle.cf_core.specs.Climbing.{HasClimbed, work_of}
use Rattle.cf_core.specs.Marks.{keeps_marks, marks_of, remarked, touched}
use Rattle.cf_core.specs.Places.{with_cells}
use Rattle.cf_core.specs.Processors.{IsProcessor, Processor, after_move, in_state}
use Rattle.cf_core.specs.declared.marks.Marks.{Marks}
use Rattle.cf_core.proofs.ClimbMarks.{class-there, has-climbed, some_rider, spent-there}
use Rattle.cf_core.proofs.Lifts.{climb-stage, moved-climb, rider}
use Rattle.cf_core.proofs.Made.{marks-after, marks-stay}
use Rattle.cf_core.proofs.moves.KeptServe.{unbarred}

room : (p : Processor) (i : ℕ) → IsProcessor p.plan p.state → bar p.plan p.state (Climb i) ≡ None → IsNone (passenger_at p.state.cells (i + 1))
room p i h free =
    let q = some_rider (passenger_at p.state.cells i) (climb-stage p i h free).2 in
    let r = rider p i q.0 h free q.1 in
    rw r.room refl

cells_after : (p new : Processor) (i : ℕ) → new ≡ after_move p (Climb i) → new ≡ with_cells p (cells_lifted p.state.cells i (i + 1))
cells_after p new i made = made ∙ ap (in_state p) (moved-climb p.plan p.state i)

above_in : (p : Processor) (i : ℕ) → IsProcessor p.plan p.state → bar p.plan p.state (Climb i) ≡ None → i + 1 ≤ p.plan.stages
above_in p i h free = let below = (climb-stage p i h free).1 in omega (arith, below)

pub climbed-one : (p new : Processor) (marks : Marks) (i : ℕ) → IsProcessor p.plan p.state → bar p.plan p.state (Climb i) ≡ None →
    new ≡ after_move p (Climb i) → marks ≡ marks_of p.plan p.state → HasClimbed new.plan new.state marks i (i + 1)
climbed-one p new marks i h free made is =
    has-climbed p new marks i (i + 1) h free (omega arith) (above_in p i h free) (room p i h free) (cells_after p new i made) is

-- it is of the class that it was of
pub class-one : (p new : Processor) (i : ℕ) (k : Class) → IsProcessor p.plan p.state → bar p.plan p.state (Climb i) ≡ None → new ≡ after_move p (Climb i) →
    Some k ≡ on (passenger_at p.state.cells i) None work_of → on (passenger_at new.state.cells (i + 1)) None (λ q. Some (kind q)) ≡ Some k
class-one p new i k h free made some = class-there p new i (i + 1) k h free (omega arith) (above_in p i h free) (cells_after p new i made) some

-- the words of an instruction that still has work to do
pub climb-marks : (p new : Processor) (marks : Marks) (i : ℕ) → IsProcessor p.plan p.state → bar p.plan p.state (Climb i) ≡ None →
    new ≡ after_move p (Climb i) → marks ≡ marks_of p.plan p.state →
    remarked new.plan new.state marks (record { low = i; high = i + 1 }) ≡ marks_of new.plan new.state
unfolding touched
climb-marks p new marks i h free made is =
    marks-after p new marks (Climb i) (record { low = i; high = i + 1 }) h (unbarred p.plan p.state (Climb i) free) made is refl

-- and of one that has none
pub climb-stays : (p new : Processor) (marks : Marks) (i : ℕ) → IsProcessor p.plan p.state → bar p.plan p.state (Climb i) ≡ None →
    None ≡ on (passenger_at p.state.cells i) None work_of → new ≡ after_move p (Climb i) → marks ≡ marks_of p.plan p.state → marks ≡ marks_of new.plan new.state
unfolding keeps_marks
climb-stays p new marks i h free none made is =
    marks-stay p new marks (Climb i) (unbarred p.plan p.state (Climb i) free) made is (spent-there p i h free none)
