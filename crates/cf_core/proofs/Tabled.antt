-- The table of stations is what the layout has.
use Rattle.std.proofs.Common.{◌≡◌, ◌∙◌, ℕ, zero, suc, ◌+◌, ◌-◌, ◌*◌, ◌^◌, ◌<◌, ◌≤◌, Bool, true, false, List, Option, Some, None, length, refl, sym, ap, arith}
use Rattle.std.specs.Prelude.{slice_index_or}
use Rattle.rv_inst.specs.declared.classes.Class.{Class}
use Rattle.rv_inst.specs.declared.classes.Class.TheVariants.{Add, Logic, Shift, Compare, Branch, Jump, Memory, Serial, Free, Mul, Div}
use Rattle.cf_layout.specs.Layout.{Plan, last_stage, siding_of, unit_at}
use Rattle.cf_layout.specs.Words.{has_bit}
use Rattle.cf_layout.proofs.Facts.{siding_found}
use Rattle.cf_bind.specs.declared.passenger.Passenger.{Passenger}
use Rattle.cf_semantics.specs.state.Passengers.{kind}
use Rattle.cf_semantics.specs.state.State.{State}
use Rattle.cf_stages.specs.Changes.{passenger_at}
use Rattle.cf_stages.specs.Words.{flag, with_bit, word_of}
use Rattle.cf_stages.proofs.Bits.{word-bit, word-bit-above, word-small}
use Rattle.cf_stages.proofs.Carries.{bit-kept, set-adds}
use Rattle.cf_core.specs.Riders.{StandsBeside}
use Rattle.cf_core.specs.Stations.{AreSidingStages, home_site, index_of, site_of, station_of, stations_of}
use Rattle.cf_core.specs.declared.stations.SidingStages.{SidingStages}
use Rattle.cf_core.specs.declared.stations.Station.{Station}

-- a word for one stage more
word_next : (test : ℕ → Bool) (n : ℕ) (b : Bool) → n < 32 → with_bit (word_of test n) n b ≡ flag b * 2 ^ n + word_of test n
word_next test n true small = let e = set-adds (word_of test n) n (word-bit-above test n n (omega arith)) in omega arith
word_next test n false small =
    let e = bit-kept (word_of test n) n false small (word-small test n (omega arith)) (word-bit-above test n n (omega arith)) in omega arith

pub word-more : (test : ℕ → Bool) (n : ℕ) → n < 32 → with_bit (word_of test n) (n + 1 - 1) (test (n + 1)) ≡ word_of test (n + 1)
unfolding word_of
word-more test n small =
    let z : n + 1 - 1 ≡ n = omega arith in
    let s : n + 1 ≡ suc n = omega arith in
    rw (z, s) (word_next test n (test (suc n)) small)

pub ruleset filling = (word-more)

-- the bit of a stage in the word of a class
pub unit-bit : (plan : Plan) (c : Class) (i : ℕ) → 0 < i → i ≤ plan.stages → has_bit (word_of (unit_at plan c) plan.stages) (i - 1) ≡ unit_at plan c i
unit-bit plan c zero low within = absurd (omega arith)
unit-bit plan c (suc k) low within = let z : suc k - 1 ≡ k = omega arith in rw z (word-bit (unit_at plan c) plan.stages k (omega arith))

-- the entry of a class
entry : (plan : Plan) (c : Class) (d : Station) → slice_index_or (stations_of plan) (index_of c) d ≡ station_of plan c
unfolding stations_of
entry plan Add d = refl
entry plan Logic d = refl
entry plan Shift d = refl
entry plan Compare d = refl
entry plan Branch d = refl
entry plan Jump d = refl
entry plan Memory d = refl
entry plan Serial d = refl
entry plan Free d = refl
entry plan Mul d = refl
entry plan Div d = refl

pub station-read : (plan : Plan) (c : Class) (table : List Station) (k : ℕ) (d : Station) → table ≡ stations_of plan → k ≡ index_of c →
    slice_index_or table k d ≡ station_of plan c
station-read plan c table k d e at = rw (e, at) (entry plan c d)

pub station-length : (plan : Plan) → length (stations_of plan) ≡ 11
unfolding stations_of
station-length plan = refl

pub ruleset tabled = (station-length)

-- a siding in the table is that of the class
site_there : (plan : Plan) (c : Class) (site : SidingStages) (o : Option ℕ) → siding_of plan c ≡ o → home_site plan o ≡ Some site → AreSidingStages plan c site
site_there plan c site None e h = absurd (cc)
site_there plan c site (Some k) e h =
    let is : site_of plan k ≡ site = cc in
    rw (← is) (record { siding = e; inside = (siding_found plan c k e).0; launch = refl; recover = refl })

no_site : (plan : Plan) (c : Class) (o : Option ℕ) → siding_of plan c ≡ o → home_site plan o ≡ None → siding_of plan c ≡ None
no_site plan c None e h = e
no_site plan c (Some k) e h = absurd (cc)

pub site-there : (plan : Plan) (c : Class) (site : SidingStages) → (station_of plan c).siding ≡ Some site → AreSidingStages plan c site
unfolding station_of
site-there plan c site h = site_there plan c site (siding_of plan c) refl h

pub no-site : (plan : Plan) (c : Class) → (station_of plan c).siding ≡ None → siding_of plan c ≡ None
unfolding station_of
no-site plan c h = no_site plan c (siding_of plan c) refl h

-- the fields of an entry
pub station-units : (plan : Plan) (c : Class) (s : Station) → s ≡ station_of plan c → s.units ≡ word_of (unit_at plan c) plan.stages
unfolding station_of
station-units plan c s e = ap (λ (t : Station). t.units) e

pub station-last : (plan : Plan) (c : Class) (s : Station) → s ≡ station_of plan c → s.last ≡ last_stage plan c
unfolding station_of
station-last plan c s e = ap (λ (t : Station). t.last) e

pub found-site : (plan : Plan) (c : Class) (s : Station) (site : SidingStages) → s ≡ station_of plan c → s.siding ≡ Some site → AreSidingStages plan c site
found-site plan c s site e h = site-there plan c site (sym (ap (λ (t : Station). t.siding) e) ∙ h)

pub found-none : (plan : Plan) (c : Class) (s : Station) → s ≡ station_of plan c → s.siding ≡ None → siding_of plan c ≡ None
found-none plan c s e h = no-site plan c (sym (ap (λ (t : Station). t.siding) e) ∙ h)

-- an instruction whose class has a siding is beside it
pub stands-beside : (plan : Plan) (s : State) (p : Passenger) (c : Class) (station : Station) (site : SidingStages) (i : ℕ) → 0 < i → i ≤ plan.stages →
    passenger_at s.cells i ≡ Some p → c ≡ kind p → station ≡ station_of plan c → station.siding ≡ Some site → StandsBeside plan s p c site.number i
stands-beside plan s p c station site i low within here class is home =
    let at = found-site plan c station site is home in
    (low, within, here, class, rw (← class) at.siding, at.inside)

pub ruleset unit_bits = (unit-bit)

pub ruleset fields = (station-units, station-last)

pub ruleset sites = (found-site, found-none)
