-- The marks after a meeting: an instruction that is not killed can at most be executed or launched otherwise than before.
use Rattle.std.proofs.Common.{◌≡◌, ◌∙◌, ℕ, ◌-◌, ◌<◌, ◌≤◌, Option, Some, None, Bool, true, false, refl, sym, ap, subst, arith}
use Rattle.std.specs.Prelude.{IsSome, if◌then◌else◌}
use Rattle.cf_bind.specs.declared.binding.Binding.{Binding}
use Rattle.cf_bind.specs.declared.cell.Cell.{Cell}
use Rattle.cf_bind.specs.declared.moves.Bar.TheVariants.{NoSuchSite}
use Rattle.cf_bind.specs.declared.moves.Move.TheVariants.{Execute, Launch, Meet}
use Rattle.cf_bind.specs.declared.packet.Packet.{Packet}
use Rattle.cf_bind.specs.declared.packet.Packet.TheVariants.{Value, Turn, Halt}
use Rattle.cf_bind.specs.declared.passenger.Passenger.{Passenger}
use Rattle.cf_bind.specs.Meeting.{Met, garnered, meeting, packet_met, passenger_met}
use Rattle.cf_layout.specs.Layout.{Plan, siding_of, unit_at}
use Rattle.cf_layout.specs.Accepted.{IsAccepted}
use Rattle.cf_semantics.specs.moves.Bars.{meet_bar, row_bar}
use Rattle.cf_semantics.specs.moves.Moves.{cell_met, moved}
use Rattle.cf_semantics.specs.state.Options.{on, is_some}
use Rattle.cf_semantics.specs.state.Passengers.{kind}
use Rattle.cf_semantics.specs.state.State.{State, cell_at, with_cell}
use Rattle.cf_stages.specs.Changes.{passenger_at}
use Rattle.cf_stages.specs.Words.{with_bit}
use Rattle.cf_stages.proofs.Parts.{cell-put, stage-high, stage-low}
use Rattle.cf_core.specs.Marks.{mark_at, marked, marks_of, met_marks, readied, row_allows}
use Rattle.cf_core.specs.Masks.{rides}
use Rattle.cf_core.specs.Processors.{IsProcessor, Processor, after_move}
use Rattle.cf_core.specs.Riders.{has_sources, is_undone}
use Rattle.cf_core.specs.declared.marks.Marks.{Marks}
use Rattle.cf_core.specs.declared.marks.StageMark.{StageMark}
use Rattle.cf_core.proofs.FieldMarks.{marks-one, ready-only}
use Rattle.cf_core.proofs.MoveMarks.{no-more, unit-left}
use Rattle.cf_core.proofs.Rides.{execute-free, here-by}
use Rattle.cf_core.proofs.SameMarks.{cell-but, mark_by, mark_is}
use Rattle.cf_core.proofs.SameStages.{mark_put}
use Rattle.cf_core.proofs.Sites.{meet-high, meet-low}

-- an instruction of a class with a siding is executed by no unit
pub execute-none : (plan : Plan) (s : State) (i k : ℕ) (p : Passenger) → IsAccepted plan → passenger_at s.cells i ≡ Some p → siding_of plan (kind p) ≡ Some k →
    false ≡ row_allows plan s (Execute i)
execute-none plan s i k p a e home =
    sym (execute-free plan s i p e ∙ no-more (is_undone p) (unit_at plan (kind p) i) (has_sources p) (unit-left plan p i k a home))

pub readied-by : (plan : Plan) (s : State) (marks : Marks) (i executed launched : ℕ) (executes launches : Bool) → executes ≡ row_allows plan s (Execute i) →
    launches ≡ row_allows plan s (Launch i) → executed ≡ with_bit marks.execute (i - 1) executes → launched ≡ with_bit marks.launch (i - 1) launches →
    record marks { execute = executed; launch = launched } ≡ readied plan s marks i
readied-by plan s marks i executed launched executes launches execute launch one two =
    let first = one ∙ ap (with_bit marks.execute (i - 1)) execute in
    let second = two ∙ ap (with_bit marks.launch (i - 1)) launch in
    λ x. record marks { execute = first x; launch = second x }

-- a meeting that does not kill gives at most sources their values
sources_only : (plan : Plan) (s : State) (i : ℕ) (c : Cell) (p : Passenger) (a b : Option Binding) (q : Option Packet) (met : Bool) → c.passenger ≡ Some p →
    let d : Cell = record { passenger = Some (record p { src1 = a; src2 = b }); packet = q; met = met } in
    let m = mark_by plan s i (Some d) in
    m ≡ record (mark_by plan s i (Some c)) { execute = m.execute; launch = m.launch }
unfolding mark_by
sources_only plan s i c p a b q met rides = rw rides refl

abbrev IsLiveMet : Passenger → Met → Type 0
IsLiveMet p m = m.passenger.dead ≡ false → (a : Option Binding) × (b : Option Binding) × (m.passenger ≡ record p { src1 = a; src2 = b })

live_met : (p : Passenger) (k : Packet) → IsLiveMet p (meeting p k)
unfolding meeting
live_met p k = by_dead p.dead
  where
    by_packet : (k : Packet) → IsLiveMet p (record { passenger = passenger_met k p; packet = packet_met k p })
    by_packet (Value r v) live = (garnered r v p.src1, garnered r v p.src2, refl)
    by_packet (Turn pc) live = absurd (cc)
    by_packet Halt live = absurd (cc)

    by_dead : (dead : Bool) → IsLiveMet p (if dead then record { passenger = p; packet = Some k } else
        record { passenger = passenger_met k p; packet = packet_met k p })
    by_dead true = λ live. (p.src1, p.src2, refl)
    by_dead false = by_packet k

met_stage : (plan : Plan) (s : State) (i : ℕ) (c : Cell) (p q : Passenger) (k : Option Packet) (met : Bool) (a b : Option Binding) →
    cell_at s.cells i ≡ Some c → c.passenger ≡ Some p → q ≡ record p { src1 = a; src2 = b } →
    let t = with_cell s i (record { passenger = Some q; packet = k; met = met }) in
    mark_at plan t i ≡ record (mark_at plan s i) { execute = row_allows plan t (Execute i); launch = row_allows plan t (Launch i) }
unfolding mark_at
met_stage plan s i c p q k met a b here stands is =
    let d : Cell = record { passenger = Some q; packet = k; met = met } in
    let put = mark_put plan s i c d here in
    let execute = sym (ap (λ (m : StageMark). m.execute) put) in
    let launch = sym (ap (λ (m : StageMark). m.launch) put) in
    let before = sym (mark_is plan s i ∙ ap (mark_by plan s i) here) in
    let only = λ (r : Passenger). let m = mark_by plan s i (Some (record { passenger = Some r; packet = k; met = met })) in
    m ≡ record (mark_by plan s i (Some c)) { execute = m.execute; launch = m.launch } in
    put ∙ subst only (sym is) (sources_only plan s i c p a b k met stands) ∙ (λ x. record (before x) { execute = execute x; launch = launch x })

met_cell : (plan : Plan) (s : State) (i : ℕ) (c : Cell) (p : Passenger) (k : Packet) (dead : Bool) → plan.stages ≤ 32 → 0 < i → i ≤ plan.stages →
    cell_at s.cells i ≡ Some c → c.passenger ≡ Some p → (meeting p k).passenger.dead ≡ dead →
    let t = with_cell s i (cell_met c p k) in
    (if dead then marked (marks_of plan s) i (mark_at plan t i) else readied plan t (marks_of plan s) i) ≡ marks_of plan t
met_cell plan s i c p k true few low within here stands e =
    marks-one plan s (with_cell s i (cell_met c p k)) i few low within (cell-but plan s i i (cell_met c p k))
met_cell plan s i c p k false few low within here stands e =
    let m = meeting p k in
    let live = live_met p k e in
    ready-only plan s (with_cell s i (cell_met c p k)) i few low within (cell-but plan s i i (cell_met c p k))
    (met_stage plan s i c p m.passenger m.packet (is_some m.packet) live.0 live.1 here stands live.2)

there_now : (s : State) (i : ℕ) (c : Cell) (p : Passenger) (k : Packet) → cell_at s.cells i ≡ Some c →
    passenger_at (with_cell s i (cell_met c p k)).cells i ≡ Some (meeting p k).passenger
there_now s i c p k here = ap (λ (o : Option Cell). on o None (λ d. d.passenger))
    (cell-put s.cells i (cell_met c p k) (stage-low s.cells i c here) (stage-high s.cells i c here))

meet_marks : (plan : Plan) (s : State) (i : ℕ) (c : Cell) (p : Passenger) (k : Packet) → plan.stages ≤ 32 → 0 < i → i ≤ plan.stages →
    cell_at s.cells i ≡ Some c → c.passenger ≡ Some p →
    let t = with_cell s i (cell_met c p k) in
    met_marks plan t (marks_of plan s) i ≡ marks_of plan t
meet_marks plan s i c p k few low within here stands =
    let t = with_cell s i (cell_met c p k) in
    let h = here-by (cell_at t.cells i) (meeting p k).passenger (there_now s i c p k here) in
    let dead : rides t i (λ p. p.dead) ≡ (meeting p k).passenger.dead = rw (h.1, h.2) refl in
    ap (λ (b : Bool). if b then marked (marks_of plan s) i (mark_at plan t i) else readied plan t (marks_of plan s) i) dead
    ∙ met_cell plan s i c p k (meeting p k).passenger.dead few low within here stands refl

pub meet-marks : (old new : Processor) (marks : Marks) (i : ℕ) → IsProcessor old.plan old.state → row_bar old.plan old.state (Meet i) ≡ None →
    new ≡ after_move old (Meet i) → marks ≡ marks_of old.plan old.state → met_marks new.plan new.state marks i ≡ marks_of new.plan new.state
unfolding moved
meet-marks old new marks i h free made is = rw (made, is) (by_cell (cell_at old.state.cells i) refl free)
  where
    plan : Plan
    plan = old.plan

    s : State
    s = old.state

    low : 0 < i
    low = meet-low plan s i h free

    within : i ≤ plan.stages
    within = meet-high plan s i h free

    by_packet : (c : Cell) (p : Passenger) (o : Option Packet) → cell_at s.cells i ≡ Some c → c.passenger ≡ Some p → c.packet ≡ o → meet_bar c ≡ None →
        let t = on o s (λ k. with_cell s i (cell_met c p k)) in
        met_marks plan t (marks_of plan s) i ≡ marks_of plan t
    by_packet c p None here stands falls row = absurd (grind arith)
    by_packet c p (Some k) here stands falls row = meet_marks plan s i c p k h.accepted.stages.1 low within here stands

    by_rider : (c : Cell) (o : Option Passenger) → cell_at s.cells i ≡ Some c → c.passenger ≡ o → meet_bar c ≡ None →
        let t = on o s (λ p. on c.packet s (λ k. with_cell s i (cell_met c p k))) in
        met_marks plan t (marks_of plan s) i ≡ marks_of plan t
    by_rider c None here stands row = absurd (grind arith)
    by_rider c (Some p) here stands row = by_packet c p c.packet here stands refl row

    by_cell : (o : Option Cell) → cell_at s.cells i ≡ o → on o (Some NoSuchSite) meet_bar ≡ None →
        let t = on o s (λ c. on c.passenger s (λ p. on c.packet s (λ k. with_cell s i (cell_met c p k)))) in
        met_marks plan t (marks_of plan s) i ≡ marks_of plan t
    by_cell None here row = absurd (cc)
    by_cell (Some c) here row = by_rider c c.passenger here refl row

-- and the instruction is still there
pub meet-there : (old new : Processor) (i : ℕ) → row_bar old.plan old.state (Meet i) ≡ None → new ≡ after_move old (Meet i) →
    IsSome (passenger_at new.state.cells i)
unfolding moved
meet-there old new i free made = rw made (by_cell (cell_at old.state.cells i) refl free)
  where
    s : State
    s = old.state

    by_packet : (c : Cell) (p : Passenger) (o : Option Packet) → cell_at s.cells i ≡ Some c → c.passenger ≡ Some p →
        IsSome (passenger_at (on o s (λ k. with_cell s i (cell_met c p k))).cells i)
    by_packet c p None here stands = rw (here, stands) refl
    by_packet c p (Some k) here stands = rw (there_now s i c p k here) refl

    by_rider : (c : Cell) (o : Option Passenger) → cell_at s.cells i ≡ Some c → c.passenger ≡ o → meet_bar c ≡ None →
        IsSome (passenger_at (on o s (λ p. on c.packet s (λ k. with_cell s i (cell_met c p k)))).cells i)
    by_rider c None here stands row = absurd (grind arith)
    by_rider c (Some p) here stands row = by_packet c p c.packet here stands

    by_cell : (o : Option Cell) → cell_at s.cells i ≡ o → on o (Some NoSuchSite) meet_bar ≡ None →
        IsSome (passenger_at (on o s (λ c. on c.passenger s (λ p. on c.packet s (λ k. with_cell s i (cell_met c p k))))).cells i)
    by_cell None here row = absurd (cc)
    by_cell (Some c) here row = by_rider c c.passenger here refl row
