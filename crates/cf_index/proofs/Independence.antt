-- Moves that have no place in common, and none of which is made alone, are independent.
use Rattle.std.proofs.Common.{◌≡◌, ℕ, zero, suc, ◌+◌, ◌-◌, ◌<◌, ◌≤◌, Bool, true, false, nat_eq, nat_lt, List, [], ◌∷◌, length, Option, None, inl, inr, refl, sym, ap, ◌∙◌, arith}
use Rattle.std.specs.Prelude.{◌⊎◌, ◌||◌, ◌&&◌, slice_get, unwrap_or}
use Rattle.std.proofs.lemmas.Bool.Decides.{nat_tests}
use Rattle.cf_layout.specs.Layout.{Plan, SidingPlan, no_siding, siding_plan_at as siding_plan, launch_stage, recover_stage, cells_of}
use Rattle.cf_bind.specs.declared.moves.Move.{Move}
use Rattle.cf_bind.specs.declared.moves.Move.TheVariants.{Issue, Emit, Climb, Fall, Meet, Execute, Send, Launch, Slide, Access, Recover, Leave, Exit, Serve}
use Rattle.cf_semantics.specs.moves.Bars.{bar, row_bar}
use Rattle.cf_semantics.specs.state.Layouts.{port}
use Rattle.cf_semantics.specs.moves.Sites.{Site, Stage, SidingCell, Lane, Fetching, Cache, Registers, Memory, Code, Input, Output, Count, Ended, Failure, AreIndependent, OfStage, among, content, ends_there, uses, reads, writes, only_reads, only_writes, is_way_in, is_way_out, last_number}
use Rattle.cf_semantics.specs.moves.Moves.{next}
use Rattle.cf_semantics.specs.state.State.{State, Moment, cell_at}
use Rattle.cf_bind.specs.declared.cell.Cell.{Cell}
use Rattle.theory_confluence.proofs.Laws.{move_local}
use Rattle.theory_confluence.proofs.sites.Independent.{bar_after}
use Rattle.theory_refinement.proofs.moves.Rows.{bar_row}
use Rattle.cf_index.specs.Sites.{shares, used, uses_place}
use Rattle.cf_index.proofs.SharedSites.{found, shared_at, shared_place}
use Rattle.cf_index.proofs.UsedCells.{among_ways_in, among_ways_out}
use Rattle.cf_index.specs.Alone.{HasSidings, stands_alone}

-- the place that guards a part of the state: moves that use the cache use the lowest stage, and moves that use the
-- registers or the count use the highest
abbrev seat : Plan → Site → Site
seat plan Cache = Stage 1
seat plan Registers = Stage plan.stages
seat plan Count = Stage plan.stages
seat plan x = x

-- what is only read by moves other than Serve and the Leave that ends the program
abbrev is_read_only : Site → Bool
is_read_only Code = true
is_read_only Ended = true
is_read_only Failure = true
is_read_only x = false

-- the move uses the place that guards this, and may write it
record IsSeated (plan : Plan) (mv : Move) (x : Site) : Type 0 where
  there : uses_place plan mv (seat plan x) ≡ true
  written : is_read_only x ≡ false

self : (n : ℕ) (b : Bool) → (nat_eq n n || b) ≡ true
self n b = grind (arith, nat_tests)

selves : (n k : ℕ) (b : Bool) → ((nat_eq n n && nat_eq k k) || b) ≡ true
selves n k b = grind (arith, nat_tests)

later : (a b : Bool) → b ≡ true → (a || b) ≡ true
later true b e = refl
later false b e = e

last_cell : (plan : Plan) (s : State) (k : ℕ) → HasSidings plan s → last_number s k ≡ cells_of plan k - 1
last_cell plan s k h = ap (λ (n : ℕ). n - 1) (h k)

-- there are no sidings past the last, and the entry there launches and recovers nowhere
past : (plans : List SidingPlan) (k : ℕ) → length plans ≤ k → unwrap_or (slice_get plans k) no_siding ≡ no_siding
past [] k h = refl
past (plan ∷ plans) zero h = absurd (omega arith)
past (plan ∷ plans) (suc k) h = past plans k (omega arith)

launches_within : (plan : Plan) (k i : ℕ) → 1 ≤ i → launch_stage plan k ≡ i → k < length plan.sidings
unfolding launch_stage
launches_within plan k i low e = go (nat_lt k (length plan.sidings)) refl
  where
    go : (b : Bool) → nat_lt k (length plan.sidings) ≡ b → k < length plan.sidings
    go true f = grind (arith, nat_tests)
    go false f =
        let high : length plan.sidings ≤ k = grind (arith, nat_tests) in
        let none : (siding_plan plan k).launch ≡ 0 = ap (λ (siding : SidingPlan). siding.launch) (past plan.sidings k high) in
        absurd (omega (arith, none, e))

recovers_within : (plan : Plan) (k i : ℕ) → 1 ≤ i → recover_stage plan k ≡ i → k < length plan.sidings
unfolding recover_stage
recovers_within plan k i low e = go (nat_lt k (length plan.sidings)) refl
  where
    go : (b : Bool) → nat_lt k (length plan.sidings) ≡ b → k < length plan.sidings
    go true f = grind (arith, nat_tests)
    go false f =
        let high : length plan.sidings ≤ k = grind (arith, nat_tests) in
        let none : (siding_plan plan k).recover ≡ 0 = ap (λ (siding : SidingPlan). siding.recover) (past plan.sidings k high) in
        absurd (omega (arith, none, e))

-- a stage at which a move can be made is the first or above it
launch_low : (plan : Plan) (s : State) (i : ℕ) → row_bar plan s (Launch i) ≡ None → 1 ≤ i
launch_low plan s zero e = absurd (cc)
launch_low plan s (suc i) e = omega arith

recover_low : (plan : Plan) (s : State) (i : ℕ) → row_bar plan s (Recover i) ≡ None → 1 ≤ i
recover_low plan s zero e = absurd (cc)
recover_low plan s (suc i) e = omega arith

-- the sidings of a stage
way_in_used : (plan : Plan) (i : ℕ) (x : Site) → 1 ≤ i → is_way_in plan i x ≡ true → IsSeated plan (Launch i) x
unfolding uses_place
way_in_used plan i (SidingCell k c) low e =
    let at : launch_stage plan k ≡ i = grind (arith, nat_tests) in
    let first : c ≡ 0 = grind (arith, nat_tests) in
    let within : k < length plan.sidings = launches_within plan k i low at in
    record { there = among_ways_in plan i k c ∙ grind (arith, nat_tests); written = refl }
way_in_used plan i (Stage j) low e = absurd (cc)
way_in_used plan i Lane low e = absurd (cc)
way_in_used plan i Fetching low e = absurd (cc)
way_in_used plan i Cache low e = absurd (cc)
way_in_used plan i Registers low e = absurd (cc)
way_in_used plan i Memory low e = absurd (cc)
way_in_used plan i Code low e = absurd (cc)
way_in_used plan i Input low e = absurd (cc)
way_in_used plan i Output low e = absurd (cc)
way_in_used plan i Count low e = absurd (cc)
way_in_used plan i Ended low e = absurd (cc)
way_in_used plan i Failure low e = absurd (cc)

way_out_used : (plan : Plan) (s : State) (i : ℕ) (x : Site) → HasSidings plan s → 1 ≤ i → is_way_out plan s i x ≡ true → IsSeated plan (Recover i) x
unfolding uses_place
way_out_used plan s i (SidingCell k c) h low e =
    let at : recover_stage plan k ≡ i = grind (arith, nat_tests) in
    let last : c ≡ cells_of plan k - 1 = grind (arith, nat_tests, last_cell plan s k h) in
    let within : k < length plan.sidings = recovers_within plan k i low at in
    record { there = among_ways_out plan i k c ∙ grind (arith, nat_tests); written = refl }
way_out_used plan s i (Stage j) h low e = absurd (cc)
way_out_used plan s i Lane h low e = absurd (cc)
way_out_used plan s i Fetching h low e = absurd (cc)
way_out_used plan s i Cache h low e = absurd (cc)
way_out_used plan s i Registers h low e = absurd (cc)
way_out_used plan s i Memory h low e = absurd (cc)
way_out_used plan s i Code h low e = absurd (cc)
way_out_used plan s i Input h low e = absurd (cc)
way_out_used plan s i Output h low e = absurd (cc)
way_out_used plan s i Count h low e = absurd (cc)
way_out_used plan s i Ended h low e = absurd (cc)
way_out_used plan s i Failure h low e = absurd (cc)

-- one of two tests holds
either : (a b : Bool) → (a || b) ≡ true → (a ≡ true) ⊎ (b ≡ true)
either true b e = inl refl
either false b e = inr e

-- the stage at which a move launches or recovers is the first or above it
abbrev pub HasStage : Move → Type 0
HasStage (Launch i) = 1 ≤ i
HasStage (Recover i) = 1 ≤ i
HasStage mv = Unit {0}

has_stage : (plan : Plan) (s : State) (mv : Move) → bar plan s mv ≡ None → HasStage mv
has_stage plan s (Issue g) free = tt
has_stage plan s Emit free = tt
has_stage plan s (Climb i) free = tt
has_stage plan s (Fall i) free = tt
has_stage plan s (Meet i) free = tt
has_stage plan s (Execute i) free = tt
has_stage plan s (Send i) free = tt
has_stage plan s (Launch i) free = launch_low plan s i (bar_row plan s (Launch i) free)
has_stage plan s (Slide k c) free = tt
has_stage plan s Access free = tt
has_stage plan s (Recover i) free = recover_low plan s i (bar_row plan s (Recover i) free)
has_stage plan s Leave free = tt
has_stage plan s Exit free = tt
has_stage plan s Serve free = tt

-- the guard of what a move uses is a place that the move uses
seated : (plan : Plan) (s : State) (mv : Move) (x : Site) → HasSidings plan s → HasStage mv → stands_alone plan s mv ≡ false → uses plan s mv x ≡ true →
    IsSeated plan mv x
unfolding uses_place
seated plan s (Issue g) x h free plain e =
    found (IsSeated plan (Issue g)) x (Stage 1 ∷ Lane ∷ Fetching ∷ Cache ∷ []) (
      record { there = refl; written = refl },
      (
        record { there = refl; written = refl },
        (
          record { there = refl; written = refl },
          (record { there = refl; written = refl }, tt),
        ),
      ),
    ) e
seated plan s Emit x h free plain e =
    found (IsSeated plan Emit) x (Stage plan.stages ∷ Lane ∷ [])
    (record { there = self plan.stages _; written = refl }, (record { there = refl; written = refl }, tt)) e
seated plan s (Climb i) x h free plain e =
    found (IsSeated plan (Climb i)) x (Stage i ∷ Stage (i + 1) ∷ [])
    (record { there = self i _; written = refl }, (record { there = later _ _ (self (i + 1) _); written = refl }, tt)) e
seated plan s (Fall i) x h free plain e =
    found (IsSeated plan (Fall i)) x (Stage i ∷ Stage (i - 1) ∷ [])
    (record { there = self i _; written = refl }, (record { there = later _ _ (self (i - 1) _); written = refl }, tt)) e
seated plan s (Meet i) x h free plain e = found (IsSeated plan (Meet i)) x (Stage i ∷ []) (record { there = self i _; written = refl }, tt) e
seated plan s (Execute i) x h free plain e = found (IsSeated plan (Execute i)) x (Stage i ∷ []) (record { there = self i _; written = refl }, tt) e
seated plan s (Send i) x h free plain e = found (IsSeated plan (Send i)) x (Stage i ∷ []) (record { there = self i _; written = refl }, tt) e
seated plan s (Launch i) x h free plain e = go (either (among x (Stage i ∷ [])) (is_way_in plan i x) e)
  where
    go : (among x (Stage i ∷ []) ≡ true) ⊎ (is_way_in plan i x ≡ true) → IsSeated plan (Launch i) x
    go (inl f) = found (IsSeated plan (Launch i)) x (Stage i ∷ []) (record { there = self i _; written = refl }, tt) f
    go (inr f) = way_in_used plan i x free f
seated plan s (Slide k c) x h free plain e =
    found (IsSeated plan (Slide k c)) x (SidingCell k c ∷ SidingCell k (c + 1) ∷ [])
    (record { there = selves k c _; written = refl }, (record { there = later _ _ (selves k (c + 1) _); written = refl }, tt)) e
seated plan s Access x h free plain e =
    let k : ℕ = port plan in
    let last : among (SidingCell k (last_number s k)) (used plan Access) ≡ true = rw (last_cell plan s k h) (selves k (cells_of plan k - 1) _) in
    found (IsSeated plan Access) x (SidingCell k (last_number s k) ∷ Memory ∷ [])
    (record { there = last; written = refl }, (record { there = refl; written = refl }, tt)) e
seated plan s (Recover i) x h free plain e = go (either (among x (Stage i ∷ [])) (is_way_out plan s i x) e)
  where
    go : (among x (Stage i ∷ []) ≡ true) ⊎ (is_way_out plan s i x ≡ true) → IsSeated plan (Recover i) x
    go (inl f) = found (IsSeated plan (Recover i)) x (Stage i ∷ []) (record { there = self i _; written = refl }, tt) f
    go (inr f) = way_out_used plan s i x h free f
seated plan s Leave x h free plain e =
    found (IsSeated plan Leave) x (Stage plan.stages ∷ Registers ∷ Count ∷ []) (
      record { there = self plan.stages _; written = refl },
      (
        record { there = self plan.stages _; written = refl },
        (record { there = self plan.stages _; written = refl }, tt),
      ),
    ) e
seated plan s Exit x h free plain e =
    found (IsSeated plan Exit) x (Stage 1 ∷ Fetching ∷ Cache ∷ [])
    (record { there = refl; written = refl }, (record { there = refl; written = refl }, (record { there = refl; written = refl }, tt))) e
seated plan s Serve x h free plain e = absurd (cc)

-- the same holds of what it reads in addition, unless that is only read
read_seated : (plan : Plan) (s : State) (mv : Move) (x : Site) → stands_alone plan s mv ≡ false → only_reads mv x ≡ true →
    (uses_place plan mv (seat plan x) ≡ true) ⊎ (is_read_only x ≡ true)
unfolding uses_place
read_seated plan s (Issue g) x plain e = found (λ (y : Site). (among (seat plan y) (used plan (Issue g)) ≡ true) ⊎ (is_read_only y ≡ true)) x (Code ∷ Ended
    ∷ Failure ∷ []) (inr refl, (inr refl, (inr refl, tt))) e
read_seated plan s Emit x plain e = found (λ (y : Site). (among (seat plan y) (used plan Emit) ≡ true) ⊎ (is_read_only y ≡ true)) x (Registers ∷ Ended ∷ Failure
    ∷ []) (inl (self plan.stages _), (inr refl, (inr refl, tt))) e
read_seated plan s (Climb i) x plain e = found (λ (y : Site). (among (seat plan y) (used plan (Climb i)) ≡ true) ⊎ (is_read_only y ≡ true)) x (Ended ∷ Failure
    ∷ []) (inr refl, (inr refl, tt)) e
read_seated plan s (Fall i) x plain e = found (λ (y : Site). (among (seat plan y) (used plan (Fall i)) ≡ true) ⊎ (is_read_only y ≡ true)) x (Ended ∷ Failure
    ∷ []) (inr refl, (inr refl, tt)) e
read_seated plan s (Meet i) x plain e = found (λ (y : Site). (among (seat plan y) (used plan (Meet i)) ≡ true) ⊎ (is_read_only y ≡ true)) x (Ended ∷ Failure
    ∷ []) (inr refl, (inr refl, tt)) e
read_seated plan s (Execute i) x plain e = found (λ (y : Site). (among (seat plan y) (used plan (Execute i)) ≡ true) ⊎ (is_read_only y ≡ true)) x (Ended
    ∷ Failure ∷ []) (inr refl, (inr refl, tt)) e
read_seated plan s (Send i) x plain e = found (λ (y : Site). (among (seat plan y) (used plan (Send i)) ≡ true) ⊎ (is_read_only y ≡ true)) x (Ended ∷ Failure
    ∷ []) (inr refl, (inr refl, tt)) e
read_seated plan s (Launch i) x plain e = found (λ (y : Site). (among (seat plan y) (used plan (Launch i)) ≡ true) ⊎ (is_read_only y ≡ true)) x (Ended ∷ Failure
    ∷ []) (inr refl, (inr refl, tt)) e
read_seated plan s (Slide k c) x plain e = found (λ (y : Site). (among (seat plan y) (used plan (Slide k c)) ≡ true) ⊎ (is_read_only y ≡ true)) x (Ended
    ∷ Failure ∷ []) (inr refl, (inr refl, tt)) e
read_seated plan s Access x plain e = found (λ (y : Site). (among (seat plan y) (used plan Access) ≡ true) ⊎ (is_read_only y ≡ true)) x (Ended ∷ Failure ∷ [])
    (inr refl, (inr refl, tt)) e
read_seated plan s (Recover i) x plain e = found (λ (y : Site). (among (seat plan y) (used plan (Recover i)) ≡ true) ⊎ (is_read_only y ≡ true)) x (Ended
    ∷ Failure ∷ []) (inr refl, (inr refl, tt)) e
read_seated plan s Leave x plain e = found (λ (y : Site). (among (seat plan y) (used plan Leave) ≡ true) ⊎ (is_read_only y ≡ true)) x (Ended ∷ Failure ∷ [])
    (inr refl, (inr refl, tt)) e
read_seated plan s Exit x plain e = found (λ (y : Site). (among (seat plan y) (used plan Exit) ≡ true) ⊎ (is_read_only y ≡ true)) x (Ended ∷ Failure ∷ [])
    (inr refl, (inr refl, tt)) e
read_seated plan s Serve x plain e = absurd (cc)

-- it writes nothing in addition
writes_no_more : (plan : Plan) (s : State) (mv : Move) (x : Site) → stands_alone plan s mv ≡ false → only_writes plan s mv x ≡ false
writes_no_more plan s (Issue g) x plain = refl
writes_no_more plan s Emit x plain = refl
writes_no_more plan s (Climb i) x plain = refl
writes_no_more plan s (Fall i) x plain = refl
writes_no_more plan s (Meet i) x plain = refl
writes_no_more plan s (Execute i) x plain = refl
writes_no_more plan s (Send i) x plain = refl
writes_no_more plan s (Launch i) x plain = refl
writes_no_more plan s (Slide k c) x plain = refl
writes_no_more plan s Access x plain = refl
writes_no_more plan s (Recover i) x plain = refl
writes_no_more plan s Leave x plain = rw plain refl
writes_no_more plan s Exit x plain = refl
writes_no_more plan s Serve x plain = absurd (cc)

-- a move that can be made in a state, and is not made alone
pub record IsPlain (plan : Plan) (s : State) (mv : Move) : Type 0 where
  pub allowed : bar plan s mv ≡ None
  pub plain : stands_alone plan s mv ≡ false

-- a move whose stage exists, and which is not made alone
record IsApart (plan : Plan) (s : State) (mv : Move) : Type 0 where
  staged : HasStage mv
  plain : stands_alone plan s mv ≡ false

-- the move uses the guard of what it writes
written_seated : (plan : Plan) (s : State) (mv : Move) (x : Site) → HasSidings plan s → IsApart plan s mv → writes plan s mv x ≡ true → IsSeated plan mv x
written_seated plan s mv x h p e = go (either (uses plan s mv x) (only_writes plan s mv x) e)
  where
    go : (uses plan s mv x ≡ true) ⊎ (only_writes plan s mv x ≡ true) → IsSeated plan mv x
    go (inl f) = seated plan s mv x h p.staged p.plain f
    go (inr f) = absurd (let none = writes_no_more plan s mv x p.plain in cc)

-- the move uses the guard of what it touches, or only reads that
touched_seated : (plan : Plan) (s : State) (mv : Move) (x : Site) → HasSidings plan s → IsApart plan s mv → (reads plan s mv x || writes plan s mv x) ≡ true →
    (uses_place plan mv (seat plan x) ≡ true) ⊎ (is_read_only x ≡ true)
touched_seated plan s mv x h p e = go (either (reads plan s mv x) (writes plan s mv x) e)
  where
    by_reads : (uses plan s mv x ≡ true) ⊎ (only_reads mv x ≡ true) → (uses_place plan mv (seat plan x) ≡ true) ⊎ (is_read_only x ≡ true)
    by_reads (inl f) = inl (seated plan s mv x h p.staged p.plain f).there
    by_reads (inr f) = read_seated plan s mv x p.plain f

    go : (reads plan s mv x ≡ true) ⊎ (writes plan s mv x ≡ true) → (uses_place plan mv (seat plan x) ≡ true) ⊎ (is_read_only x ≡ true)
    go (inl f) = by_reads (either (uses plan s mv x) (only_reads mv x) f)
    go (inr f) = inl (written_seated plan s mv x h p f).there

-- so neither touches what the other writes
untouched : (plan : Plan) (s : State) (a b : Move) (x : Site) → HasSidings plan s → IsApart plan s a → IsApart plan s b → shares plan a b ≡ false →
    writes plan s a x ≡ true → (reads plan s b x || writes plan s b x) ≡ false
untouched plan s a b x h p q apart e = go (reads plan s b x || writes plan s b x) refl
  where
    clash : (uses_place plan b (seat plan x) ≡ true) ⊎ (is_read_only x ≡ true) → ⊥
    clash (inl f) = absurd (let shared = shared_at plan a b (seat plan x) (written_seated plan s a x h p e).there f in cc)
    clash (inr f) = absurd (let written = (written_seated plan s a x h p e).written in cc)

    go : (t : Bool) → (reads plan s b x || writes plan s b x) ≡ t → (reads plan s b x || writes plan s b x) ≡ false
    go true f = absurd (clash (touched_seated plan s b x h q f))
    go false f = f

apart_independent : (plan : Plan) (s : State) (a b : Move) → HasSidings plan s → IsApart plan s a → IsApart plan s b → shares plan a b ≡ false →
    shares plan b a ≡ false → AreIndependent plan s a b
apart_independent plan s a b h p q apart back = record {
  first = λ x e. untouched plan s a b x h p q apart e;
  second = λ x e. untouched plan s b a x h q p back e;
}

is_apart : (plan : Plan) (s : State) (mv : Move) → IsPlain plan s mv → IsApart plan s mv
is_apart plan s mv p = record { staged = has_stage plan s mv p.allowed; plain = p.plain }

-- two such moves that have no place in common are independent
pub independent : (plan : Plan) (s : State) (a b : Move) → HasSidings plan s → IsPlain plan s a → IsPlain plan s b → shares plan a b ≡ false →
    shares plan b a ≡ false → AreIndependent plan s a b
independent plan s a b h p q apart back = apart_independent plan s a b h (is_apart plan s a p) (is_apart plan s b q) apart back

-- having a place in common is symmetric
pub unshared_back : (plan : Plan) (a b : Move) → shares plan a b ≡ false → shares plan b a ≡ false
unshared_back plan a b e = go (shares plan b a) refl
  where
    go : (t : Bool) → shares plan b a ≡ t → shares plan b a ≡ false
    go false f = f
    go true f =
        let place = shared_place plan b a f in
        absurd (let both : shares plan a b ≡ true = shared_at plan a b place.0 place.2 place.1 in cc)

-- a move that has no place in common with a Leave does not change whether that ends the program
leave_stays : (plan : Plan) (m : Moment) (a : Move) → HasSidings plan m.state → bar plan m.state a ≡ None → stands_alone plan m.state a ≡ false →
    shares plan a Leave ≡ false → ends_there plan (next plan m a).state ≡ ends_there plan m.state
unfolding uses_place
leave_stays plan m a h free plain apart = go (writes plan m.state a (Stage plan.stages)) refl
  where
    top : uses_place plan Leave (Stage plan.stages) ≡ true
    top = self plan.stages _

    of_stage : (c d : Option Cell) → OfStage c ≡ OfStage d → c ≡ d
    of_stage c d e = cc

    go : (t : Bool) → writes plan m.state a (Stage plan.stages) ≡ t → ends_there plan (next plan m a).state ≡ ends_there plan m.state
    go true f = absurd (let shared = shared_at plan a Leave (Stage plan.stages) (written_seated plan m.state a (Stage plan.stages) h
        (record { staged = has_stage plan m.state a free; plain = plain }) f).there top in cc)
    go false f =
        let same : content (next plan m a) (Stage plan.stages) ≡ content m (Stage plan.stages) = (move_local plan m a).leaves free (Stage plan.stages) f in
        let cells : cell_at (next plan m a).state.cells plan.stages ≡ cell_at m.state.cells plan.stages =
        of_stage (cell_at (next plan m a).state.cells plan.stages) (cell_at m.state.cells plan.stages) same in
        rw cells refl

plain_before : (plan : Plan) (m : Moment) (a b : Move) → HasSidings plan m.state → bar plan m.state a ≡ None → stands_alone plan m.state a ≡ false →
    shares plan a b ≡ false → stands_alone plan (next plan m a).state b ≡ false → stands_alone plan m.state b ≡ false
plain_before plan m a (Issue g) h free plain apart e = refl
plain_before plan m a Emit h free plain apart e = refl
plain_before plan m a (Climb j) h free plain apart e = refl
plain_before plan m a (Fall j) h free plain apart e = refl
plain_before plan m a (Meet j) h free plain apart e = refl
plain_before plan m a (Execute j) h free plain apart e = refl
plain_before plan m a (Send j) h free plain apart e = refl
plain_before plan m a (Launch j) h free plain apart e = refl
plain_before plan m a (Slide k c) h free plain apart e = refl
plain_before plan m a Access h free plain apart e = refl
plain_before plan m a (Recover j) h free plain apart e = refl
plain_before plan m a Leave h free plain apart e = sym (leave_stays plan m a h free plain apart) ∙ e
plain_before plan m a Exit h free plain apart e = refl
plain_before plan m a Serve h free plain apart e = absurd (cc)

-- two neighbouring moves of a run that have no place in common, neither of which is made alone, are independent when
-- the first is made
pub apart_neighbours : (plan : Plan) (m : Moment) (a b : Move) → HasSidings plan m.state → bar plan m.state a ≡ None → bar plan (next plan m a).state b ≡ None →
    stands_alone plan m.state a ≡ false → stands_alone plan (next plan m a).state b ≡ false → shares plan a b ≡ false → AreIndependent plan m.state a b
apart_neighbours plan m a b h free after first second apart =
    apart_independent plan m.state a b h
    (record { staged = has_stage plan m.state a free; plain = first })
    (record { staged = has_stage plan (next plan m a).state b after; plain = plain_before plan m a b h free first apart second })
    apart (unshared_back plan a b apart)

-- what bars a move stays the same, if a move is made that has no place in common with it, and neither is made alone
pub bar_kept : (plan : Plan) (m : Moment) (a b : Move) → HasSidings plan m.state → bar plan m.state a ≡ None → HasStage b →
    stands_alone plan m.state a ≡ false → stands_alone plan m.state b ≡ false → shares plan a b ≡ false → bar plan (next plan m a).state b ≡ bar plan m.state b
bar_kept plan m a b h free staged first second apart =
    sym (bar_after plan m a b (apart_independent plan m.state a b h
    (record { staged = has_stage plan m.state a free; plain = first })
    (record { staged = staged; plain = second })
    apart (unshared_back plan a b apart)) free)
