-- The stages that an allowed move touches are stages of the pipeline.
use Rattle.std.proofs.Common.{◌≡◌, ℕ, ◌+◌, ◌-◌, ◌<◌, ◌≤◌, List, Option, Some, None, Bool, true, false, length, refl, sym, subst, arith}
use Rattle.std.specs.Prelude.{All, nat_lt, slice_get, unwrap_or}
use Rattle.std.proofs.lemmas.Option.{slice_get_within, unwrap_or-slice_get}
use Rattle.std.proofs.lemmas.Bool.Decides.{nat_tests}
use Rattle.rv_inst.specs.declared.classes.Class.{Class}
use Rattle.rv_inst.specs.declared.classes.Class.TheVariants.{Memory as MemoryClass}
use Rattle.cf_bind.specs.declared.cell.Cell.{Cell}
use Rattle.cf_bind.specs.declared.cell.Op.{Op}
use Rattle.cf_bind.specs.declared.moves.Bar.{Bar}
use Rattle.cf_bind.specs.declared.moves.Bar.TheVariants.{NoSuchSite}
use Rattle.cf_bind.specs.declared.moves.Move.{Move}
use Rattle.cf_bind.specs.declared.moves.Move.TheVariants.{Issue, Emit, Climb, Fall, Meet, Execute, Send, Launch, Slide, Access, Recover, Leave, Exit, Serve}
use Rattle.cf_bind.specs.declared.passenger.Passenger.{Passenger}
use Rattle.cf_layout.specs.Accepted.{IsAccepted, IsSiding}
use Rattle.cf_layout.specs.Layout.{Plan, SidingPlan, launch_stage, no_siding, recover_stage, siding_of}
use Rattle.cf_layout.specs.Layout as layout
use Rattle.cf_layout.proofs.Facts.{siding_found}
use Rattle.cf_semantics.specs.moves.Bars.{row_bar, slide_bar}
use Rattle.cf_semantics.specs.state.Layouts.{port}
use Rattle.cf_semantics.specs.state.Options.{on}
use Rattle.cf_semantics.specs.state.Passengers.{kind}
use Rattle.cf_semantics.specs.state.State.{State, cell_at, siding_at}
use Rattle.cf_stages.specs.Changes.{passenger_at}
use Rattle.cf_stages.proofs.Parts.{stage-high, stage-low}
use Rattle.cf_core.specs.Marks.{Within, one_stage, home_at, sites, touched}
use Rattle.cf_core.specs.Processors.{IsProcessor}
use Rattle.cf_core.specs.Stations.{station_of}
use Rattle.cf_core.specs.declared.stations.SidingStages.{SidingStages}
use Rattle.cf_core.specs.declared.stations.Station.{Station}
use Rattle.cf_core.proofs.Tabled.{found-none, found-site}
use Rattle.cf_core.proofs.Berths.{cells-none, length-siding}
use Rattle.cf_core.proofs.Ported.{memory-port}

one_within : (plan : Plan) (i : ℕ) → 0 < i → i ≤ plan.stages → Within plan (one_stage i)
one_within plan i low high = record { low = low; low_in = high; high = low; high_in = high }

-- a stage that exists
there : (plan : Plan) (s : State) (i : ℕ) (c : Cell) → IsProcessor plan s → cell_at s.cells i ≡ Some c → (0 < i) × (i ≤ plan.stages)
there plan s i c h e = let a = stage-low s.cells i c e in let b = stage-high s.cells i c e in let n = h.stages in (a, omega arith)

-- if nothing bars a row that names a stage, the stage exists
cell_in : (cells : List Cell) (i : ℕ) (f : Cell → Option Bar) (o : Option Cell) → cell_at cells i ≡ o → on o (Some NoSuchSite) f ≡ None →
    (c : Cell) × (cell_at cells i ≡ Some c) × (f c ≡ None)
cell_in cells i f None e free = absurd (cc)
cell_in cells i f (Some c) e free = (c, e, free)

at_stage : (plan : Plan) (s : State) (i : ℕ) (f : Cell → Option Bar) → IsProcessor plan s → on (cell_at s.cells i) (Some NoSuchSite) f ≡ None →
    Within plan (one_stage i)
at_stage plan s i f h free =
    let c = cell_in s.cells i f (cell_at s.cells i) refl free in
    let t = there plan s i c.0 h c.1 in
    one_within plan i t.0 t.1

-- the stages of a siding that exists are stages of the pipeline
pub siding_within : (plan : Plan) (k : ℕ) → IsAccepted plan → k < length plan.sidings → Within plan (sites plan k)
unfolding launch_stage recover_stage
siding_within plan k a within =
    let rules : IsSiding plan (layout.siding_plan_at plan k) = of_plan plan.sidings k within a.sidings in
    record { low = omega (arith, rules.launches.0); low_in = rules.launches.1; high = omega (arith, rules.recovers.0); high_in = rules.recovers.1 }
  where
    of_plan : (sidings : List SidingPlan) (k : ℕ) → k < length sidings → All (IsSiding plan) sidings → IsSiding plan (unwrap_or (slice_get sidings k) no_siding)
    of_plan sidings k within all = subst (IsSiding plan) (sym (unwrap_or-slice_get sidings k no_siding)) (all k no_siding within)

home_number : (plan : Plan) (o : Option Passenger) (k : ℕ) → on o None (λ p. siding_of plan (kind p)) ≡ Some k → k < length plan.sidings
home_number plan None k e = absurd (cc)
home_number plan (Some p) k e = (siding_found plan (kind p) k e).0

home_within : (plan : Plan) (s : State) (i : ℕ) (f : Cell → Option Bar) (o : Option ℕ) → IsProcessor plan s → home_at plan s i ≡ o →
    on (cell_at s.cells i) (Some NoSuchSite) f ≡ None → Within plan (on o (one_stage i) (sites plan))
home_within plan s i f None h e free = at_stage plan s i f h free
home_within plan s i f (Some k) h e free = siding_within plan k h.accepted (home_number plan (passenger_at s.cells i) k e)

-- the stages of the siding in the table are those of the instruction's siding
pub home-site : (plan : Plan) (s : State) (i : ℕ) (p : Passenger) (c : Class) (station : Station) (site : SidingStages) → passenger_at s.cells i ≡ Some p →
    c ≡ kind p → station ≡ station_of plan c → station.siding ≡ Some site →
    record { low = site.launch; high = site.recover } ≡ on (home_at plan s i) (one_stage i) (sites plan)
home-site plan s i p c station site here class is home =
    let at = found-site plan c station site is home in
    rw (here, ← class, at.siding, at.launch, at.recover) refl

pub home-none : (plan : Plan) (s : State) (i : ℕ) (p : Passenger) (c : Class) (station : Station) → passenger_at s.cells i ≡ Some p →
    c ≡ kind p → station ≡ station_of plan c → station.siding ≡ None → one_stage i ≡ on (home_at plan s i) (one_stage i) (sites plan)
home-none plan s i p c station here class is home = rw (here, ← class, found-none plan c station is home) refl

-- a siding with a cell exists
cell_there : (ops : List (Option Op)) (c : ℕ) (o : Option (Option Op)) → slice_get ops (c + 1) ≡ o → slide_bar ops c ≡ None → 0 < length ops
cell_there ops c None e free = absurd (grind arith)
cell_there ops c (Some op) e free = let w = slice_get_within ops (c + 1) op e in omega arith

number_within : (plan : Plan) (s : State) (k : ℕ) (b : Bool) → nat_lt k (length plan.sidings) ≡ b → IsProcessor plan s → 0 < length (siding_at s k) →
    k < length plan.sidings
number_within plan s k true e h some = grind (arith, nat_tests)
number_within plan s k false e h some =
    let far : length plan.sidings ≤ k = grind (arith, nat_tests) in
    let n = length-siding plan s k h in
    let none = cells-none plan k far in
    absurd (omega arith)

pub slide-number : (plan : Plan) (s : State) (k c : ℕ) → IsProcessor plan s → row_bar plan s (Slide k c) ≡ None → k < length plan.sidings
slide-number plan s k c h free = number_within plan s k (nat_lt k (length plan.sidings)) refl h
    (cell_there (siding_at s k) c (slice_get (siding_at s k) (c + 1)) refl free)

pub port-number : (plan : Plan) (s : State) → IsProcessor plan s → port plan < length plan.sidings
port-number plan s h = (siding_found plan MemoryClass (port plan) (memory-port plan h.accepted)).0

-- the stage above, and the one below
next_within : (plan : Plan) (s : State) (j : ℕ) (f : Cell → Option Bar) → IsProcessor plan s → on (cell_at s.cells j) (Some NoSuchSite) f ≡ None →
    (0 < j) × (j ≤ plan.stages)
next_within plan s j f h free = let w = at_stage plan s j f h free in (w.low, w.low_in)

climb_within : (plan : Plan) (s : State) (i : ℕ) → IsProcessor plan s → row_bar plan s (Climb i) ≡ None → Within plan (record { low = i; high = i + 1 })
climb_within plan s i h free =
    let low = at_stage plan s i _ h free in
    let c = cell_in s.cells i _ (cell_at s.cells i) refl free in
    let high = next_within plan s (i + 1) _ h c.2 in
    record { low = low.low; low_in = low.low_in; high = high.0; high_in = high.1 }

fall_within : (plan : Plan) (s : State) (i : ℕ) → IsProcessor plan s → row_bar plan s (Fall i) ≡ None → Within plan (record { low = i - 1; high = i })
fall_within plan s i h free =
    let high = at_stage plan s i _ h free in
    let c = cell_in s.cells i _ (cell_at s.cells i) refl free in
    let low = next_within plan s (i - 1) _ h c.2 in
    record { low = low.0; low_in = low.1; high = high.high; high_in = high.high_in }

pub touched-within : (plan : Plan) (s : State) (mv : Move) → IsProcessor plan s → row_bar plan s mv ≡ None → Within plan (touched plan s mv)
unfolding touched
touched-within plan s (Issue g) h free = at_stage plan s 1 _ h free
touched-within plan s Emit h free = at_stage plan s plan.stages _ h free
touched-within plan s (Climb i) h free = climb_within plan s i h free
touched-within plan s (Fall i) h free = fall_within plan s i h free
touched-within plan s (Meet i) h free = at_stage plan s i _ h free
touched-within plan s (Execute i) h free = at_stage plan s i _ h free
touched-within plan s (Send i) h free = at_stage plan s i _ h free
touched-within plan s (Launch i) h free = home_within plan s i _ (home_at plan s i) h refl free
touched-within plan s (Slide k c) h free = siding_within plan k h.accepted (slide-number plan s k c h free)
touched-within plan s Access h free = siding_within plan (port plan) h.accepted (port-number plan s h)
touched-within plan s (Recover i) h free = home_within plan s i _ (home_at plan s i) h refl free
touched-within plan s Leave h free = at_stage plan s plan.stages _ h free
touched-within plan s Exit h free = at_stage plan s 1 _ h free
touched-within plan s Serve h free = at_stage plan s plan.stages _ h free

-- so each number fits 32 bits
pub climb-fits : (plan : Plan) (s : State) (i : ℕ) → IsProcessor plan s → row_bar plan s (Climb i) ≡ None → i + 1 ≤ 32
climb-fits plan s i h free = let w = climb_within plan s i h free in omega (arith, w.high_in, h.accepted.stages.1)

pub fall-fits : (plan : Plan) (s : State) (i : ℕ) → IsProcessor plan s → row_bar plan s (Fall i) ≡ None → 1 ≤ i
fall-fits plan s i h free = let w = fall_within plan s i h free in omega (arith, w.high)

pub climb-low : (plan : Plan) (s : State) (i : ℕ) → IsProcessor plan s → row_bar plan s (Climb i) ≡ None → 0 < i
climb-low plan s i h free = (climb_within plan s i h free).low

pub climb-high : (plan : Plan) (s : State) (i : ℕ) → IsProcessor plan s → row_bar plan s (Climb i) ≡ None → i ≤ plan.stages
climb-high plan s i h free = (climb_within plan s i h free).low_in

pub fall-low : (plan : Plan) (s : State) (i : ℕ) → IsProcessor plan s → row_bar plan s (Fall i) ≡ None → 0 < i - 1
fall-low plan s i h free = (fall_within plan s i h free).low

pub fall-high : (plan : Plan) (s : State) (i : ℕ) → IsProcessor plan s → row_bar plan s (Fall i) ≡ None → i - 1 ≤ plan.stages
fall-high plan s i h free = (fall_within plan s i h free).low_in

pub meet-low : (plan : Plan) (s : State) (i : ℕ) → IsProcessor plan s → row_bar plan s (Meet i) ≡ None → 0 < i
meet-low plan s i h free = (at_stage plan s i _ h free).low

pub meet-high : (plan : Plan) (s : State) (i : ℕ) → IsProcessor plan s → row_bar plan s (Meet i) ≡ None → i ≤ plan.stages
meet-high plan s i h free = (at_stage plan s i _ h free).low_in

pub send-low : (plan : Plan) (s : State) (i : ℕ) → IsProcessor plan s → row_bar plan s (Send i) ≡ None → 0 < i
send-low plan s i h free = (at_stage plan s i _ h free).low

pub send-fits : (plan : Plan) (s : State) (i : ℕ) → IsProcessor plan s → row_bar plan s (Send i) ≡ None → i ≤ 32
send-fits plan s i h free = let w = at_stage plan s i _ h free in omega (arith, w.low_in, h.accepted.stages.1)

pub launch-low : (plan : Plan) (s : State) (i : ℕ) → IsProcessor plan s → row_bar plan s (Launch i) ≡ None → 0 < i
launch-low plan s i h free = (at_stage plan s i _ h free).low

pub launch-high : (plan : Plan) (s : State) (i : ℕ) → IsProcessor plan s → row_bar plan s (Launch i) ≡ None → i ≤ plan.stages
launch-high plan s i h free = (at_stage plan s i _ h free).low_in

pub recover-low : (plan : Plan) (s : State) (i : ℕ) → IsProcessor plan s → row_bar plan s (Recover i) ≡ None → 0 < i
recover-low plan s i h free = (at_stage plan s i _ h free).low

pub recover-high : (plan : Plan) (s : State) (i : ℕ) → IsProcessor plan s → row_bar plan s (Recover i) ≡ None → i ≤ plan.stages
recover-high plan s i h free = (at_stage plan s i _ h free).low_in

pub ruleset touching = (slide-number, port-number, climb-fits, fall-fits, launch-low, launch-high, recover-low, recover-high)

pub ruleset moving = (climb-low, climb-high, fall-fits, fall-low, fall-high, meet-low, meet-high)

pub ruleset sending = (send-low, send-fits)
