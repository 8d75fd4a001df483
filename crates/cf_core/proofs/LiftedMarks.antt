-- What holds of a processor, and of its words, after an instruction has climbed on.
use Rattle.std.proofs.Common.{◌≡◌, ◌∙◌, ℕ, zero, suc, ◌+◌, ◌<◌, ◌≤◌, Option, Some, None, true, false, refl, sym, ap, arith}
use Rattle.std.specs.Prelude.{IsNone}
use Rattle.cf_bind.specs.declared.cell.Cell.{Cell}
use Rattle.cf_bind.specs.declared.passenger.Passenger.{Passenger}
use Rattle.cf_semantics.specs.moves.Moves.{without_passenger}
use Rattle.cf_semantics.specs.state.Options.{on}
use Rattle.cf_semantics.specs.state.State.{cell_at, put_cell}
use Rattle.cf_stages.specs.Changes.{cells_lifted, passenger_at, with_new_passenger}
use Rattle.cf_stages.proofs.Neighbours.{lifted-there}
use Rattle.cf_stages.proofs.Parts.{stood}
use Rattle.cf_core.specs.Climbing.{ClimbsTo, climbed}
use Rattle.cf_core.specs.Marks.{marks_of, remarked}
use Rattle.cf_core.specs.Masks.{rides}
use Rattle.cf_core.specs.Places.{with_cells}
use Rattle.cf_core.specs.Processors.{IsProcessor, Processor}
use Rattle.cf_core.specs.Riders.{is_spent}
use Rattle.cf_core.specs.declared.marks.Marks.{Marks}
use Rattle.cf_core.proofs.Bits.{marks-two}
use Rattle.cf_core.proofs.KeptMarks.{marks-same}
use Rattle.cf_core.proofs.SameStages.{Same}
use Rattle.cf_core.proofs.StillMarks.{lift-keeps}
use Rattle.cf_core.proofs.Touched.{two-but}
use Rattle.cf_core.proofs.moves.KeptStages.{climb-kept}

-- what holds of every processor is kept by each Climb
kept_along : (p : Processor) (i n : ℕ) → IsProcessor p.plan p.state → IsProcessor (climbed p i n).plan (climbed p i n).state
unfolding climbed
kept_along p i zero h = h
kept_along p i (suc n) h = climb-kept (climbed p i n).plan (climbed p i n).state (i + n) (kept_along p i n h)

pub climbed-facts : (p new : Processor) (i n : ℕ) → IsProcessor p.plan p.state → new ≡ climbed p i n → IsProcessor new.plan new.state
climbed-facts p new i n h is = rw is (kept_along p i n h)

-- the two stages of a lift
pub record Ends (p : Processor) (i j : ℕ) : Type 0 where
  pub from : Cell
  pub to : Cell
  pub here : cell_at p.state.cells i ≡ Some from
  pub there : cell_at p.state.cells j ≡ Some to
  pub is : cells_lifted p.state.cells i j ≡ put_cell (put_cell p.state.cells i (without_passenger from)) j (with_new_passenger from.passenger to)

pub ends : (p : Processor) (i j : ℕ) → IsProcessor p.plan p.state → 0 < i → i < j → j ≤ p.plan.stages → Ends p i j
ends p i j h low up within =
    let n = h.stages in
    let c = stood p.state.cells i low (omega arith) in
    let d = stood p.state.cells j (omega arith) (omega arith) in
    record { from = c.0; to = d.0; here = c.1; there = d.1; is = lifted-there p.state.cells i j c.0 d.0 c.1 d.1 }

-- the words with those of the two stages brought up to date
pub lifted-marks : (p new : Processor) (marks : Marks) (i j : ℕ) → IsProcessor p.plan p.state → 0 < i → ClimbsTo p i j → j ≤ p.plan.stages →
    new ≡ with_cells p (cells_lifted p.state.cells i j) → marks ≡ marks_of p.plan p.state →
    remarked new.plan new.state marks (record { low = i; high = j }) ≡ marks_of new.plan new.state
lifted-marks p new marks i j h low climbs within is kept =
    let e = ends p i j h low climbs.higher within in
    let up = climbs.higher in
    let but = two-but p.plan p.state i j (without_passenger e.from) (with_new_passenger e.from.passenger e.to) in
    rw (is, kept, e.is) (sym (marks-two p.plan p.state (with_cells p (put_cell (put_cell p.state.cells i (without_passenger e.from)) j
    (with_new_passenger e.from.passenger e.to))).state i j h.accepted.stages.1 low (omega arith) (omega arith) within but))

-- those of an instruction that is spent are as they were
pub no-passenger : (o : Option Passenger) → IsNone o → o ≡ None
no-passenger None g = refl
no-passenger (Some p) g = absurd (cc)

pub lifted-same : (p new : Processor) (marks : Marks) (i j : ℕ) → IsProcessor p.plan p.state → 0 < i → ClimbsTo p i j → j ≤ p.plan.stages →
    IsNone (passenger_at p.state.cells j) → new ≡ with_cells p (cells_lifted p.state.cells i j) → rides p.state i is_spent ≡ true →
    marks ≡ marks_of p.plan p.state → marks ≡ marks_of new.plan new.state
lifted-same p new marks i j h low climbs within room is spent kept =
    let e = ends p i j h low climbs.higher within in
    let free : e.to.passenger ≡ None = sym (ap (λ (o : Option Cell). on o None (λ c. c.passenger)) e.there)
    ∙ no-passenger (passenger_at p.state.cells j) room in
    let still = sym (ap (λ (o : Option Cell). on o false (λ c. on c.passenger false is_spent)) e.here) ∙ spent in
    rw (is, kept, e.is) (marks-same p.plan p.state _ (by_rider e free e.from.passenger refl still))
  where
    by_rider : (e : Ends p i j) → e.to.passenger ≡ None → (o : Option Passenger) → e.from.passenger ≡ o → on o false is_spent ≡ true →
        Same p.plan p.state (with_cells p (put_cell (put_cell p.state.cells i (without_passenger e.from)) j
        (with_new_passenger e.from.passenger e.to))).state
    by_rider e free None rider spent = absurd (cc)
    by_rider e free (Some q) rider spent =
        let up = climbs.higher in
        lift-keeps p.plan p.state i j e.from e.to q (λ g. absurd (omega (arith, up, g))) e.here e.there rider free spent
