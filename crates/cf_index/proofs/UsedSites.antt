-- Which places a move uses, by the kinds of places.
use Rattle.std.proofs.Common.{◌≡◌, refl, ℕ, ◌+◌, ◌-◌, List, [], ◌∷◌, map, Bool, true, false, nat_eq, arith}
use Rattle.std.specs.Prelude.{◌||◌, ◌==◌}
use Rattle.cf_layout.specs.Layout.{Plan, cells_of, launch_stage, recover_stage}
use Rattle.cf_bind.specs.declared.moves.Move.{Move}
use Rattle.cf_bind.specs.declared.moves.Move.TheVariants.{Issue, Emit, Climb, Fall, Meet, Execute, Send, Launch, Slide, Access, Recover, Leave, Exit, Serve}
use Rattle.cf_semantics.specs.moves.Sites.{Site, Stage, SidingCell, Lane, Fetching, Memory, Code, among, same_site}
use Rattle.cf_index.specs.Sites.{sidings_where, uses_place, way_in, way_out, ways_in, ways_out}

-- a place that is not one of these
pub none_among : (x : Site) (f : ℕ → Site) (ks : List ℕ) → ((k : ℕ) → same_site x (f k) ≡ false) → among x (map f ks) ≡ false
none_among x f [] none = refl
none_among x f (k ∷ ks) none = let h = none k in let r = none_among x f ks none in rw (h, r) refl

-- the moves that use the lane, what fetch does, the memory and the code
abbrev pub at_lane : Move → Bool
at_lane (Issue g) = true
at_lane Emit = true
at_lane _ = false

abbrev pub at_fetch : Move → Bool
at_fetch (Issue g) = true
at_fetch Exit = true
at_fetch _ = false

abbrev pub at_memory : Move → Bool
at_memory Access = true
at_memory Serve = true
at_memory _ = false

abbrev pub at_code : Move → Bool
at_code (Issue g) = true
at_code Serve = true
at_code _ = false

-- the stages that a move uses
abbrev pub at_stage : Plan → Move → ℕ → Bool
at_stage plan (Issue g) i = nat_eq i 1
at_stage plan Emit i = nat_eq i plan.stages
at_stage plan (Climb j) i = nat_eq i j || nat_eq i (j + 1)
at_stage plan (Fall j) i = nat_eq i j || nat_eq i (j - 1)
at_stage plan (Meet j) i = nat_eq i j
at_stage plan (Execute j) i = nat_eq i j
at_stage plan (Send j) i = nat_eq i j
at_stage plan (Launch j) i = nat_eq i j
at_stage plan (Slide k c) i = false
at_stage plan Access i = false
at_stage plan (Recover j) i = nat_eq i j
at_stage plan Leave i = nat_eq i plan.stages
at_stage plan Exit i = nat_eq i 1
at_stage plan Serve i = nat_eq i plan.stages

-- a place that is not a cell of a siding is not among the first and last cells of sidings
off_ways_in : (plan : Plan) (i : ℕ) (x : Site) → ((k c : ℕ) → same_site x (SidingCell k c) ≡ false) → among x (ways_in plan i) ≡ false
unfolding ways_in
off_ways_in plan i x off = none_among x way_in (sidings_where plan (λ k. launch_stage plan k == i)) (λ k. off k 0)

off_ways_out : (plan : Plan) (i : ℕ) (x : Site) → ((k c : ℕ) → same_site x (SidingCell k c) ≡ false) → among x (ways_out plan i) ≡ false
unfolding ways_out
off_ways_out plan i x off = none_among x (way_out plan) (sidings_where plan (λ k. recover_stage plan k == i)) (λ k. off k (cells_of plan k - 1))

pub lane_used : (plan : Plan) (mv : Move) → uses_place plan mv Lane ≡ at_lane mv
unfolding uses_place
lane_used plan (Issue g) = refl
lane_used plan Emit = refl
lane_used plan (Climb i) = refl
lane_used plan (Fall i) = refl
lane_used plan (Meet i) = refl
lane_used plan (Execute i) = refl
lane_used plan (Send i) = refl
lane_used plan (Launch i) = off_ways_in plan i Lane (λ k c. refl)
lane_used plan (Slide k c) = refl
lane_used plan Access = refl
lane_used plan (Recover i) = off_ways_out plan i Lane (λ k c. refl)
lane_used plan Leave = refl
lane_used plan Exit = refl
lane_used plan Serve = refl

pub fetch_used : (plan : Plan) (mv : Move) → uses_place plan mv Fetching ≡ at_fetch mv
unfolding uses_place
fetch_used plan (Issue g) = refl
fetch_used plan Emit = refl
fetch_used plan (Climb i) = refl
fetch_used plan (Fall i) = refl
fetch_used plan (Meet i) = refl
fetch_used plan (Execute i) = refl
fetch_used plan (Send i) = refl
fetch_used plan (Launch i) = off_ways_in plan i Fetching (λ k c. refl)
fetch_used plan (Slide k c) = refl
fetch_used plan Access = refl
fetch_used plan (Recover i) = off_ways_out plan i Fetching (λ k c. refl)
fetch_used plan Leave = refl
fetch_used plan Exit = refl
fetch_used plan Serve = refl

pub memory_used : (plan : Plan) (mv : Move) → uses_place plan mv Memory ≡ at_memory mv
unfolding uses_place
memory_used plan (Issue g) = refl
memory_used plan Emit = refl
memory_used plan (Climb i) = refl
memory_used plan (Fall i) = refl
memory_used plan (Meet i) = refl
memory_used plan (Execute i) = refl
memory_used plan (Send i) = refl
memory_used plan (Launch i) = off_ways_in plan i Memory (λ k c. refl)
memory_used plan (Slide k c) = refl
memory_used plan Access = refl
memory_used plan (Recover i) = off_ways_out plan i Memory (λ k c. refl)
memory_used plan Leave = refl
memory_used plan Exit = refl
memory_used plan Serve = refl

pub code_used : (plan : Plan) (mv : Move) → uses_place plan mv Code ≡ at_code mv
unfolding uses_place
code_used plan (Issue g) = refl
code_used plan Emit = refl
code_used plan (Climb i) = refl
code_used plan (Fall i) = refl
code_used plan (Meet i) = refl
code_used plan (Execute i) = refl
code_used plan (Send i) = refl
code_used plan (Launch i) = off_ways_in plan i Code (λ k c. refl)
code_used plan (Slide k c) = refl
code_used plan Access = refl
code_used plan (Recover i) = off_ways_out plan i Code (λ k c. refl)
code_used plan Leave = refl
code_used plan Exit = refl
code_used plan Serve = refl

-- a test before others that fail
pub alone : (b : Bool) → (b || false) ≡ b
alone b = grind arith

both : (a b : Bool) → (a || (b || false)) ≡ (a || b)
both a b = grind arith

ahead : (a b : Bool) → b ≡ false → (a || b) ≡ a
ahead a b e = grind arith

pub stage_used : (plan : Plan) (mv : Move) (i : ℕ) → uses_place plan mv (Stage i) ≡ at_stage plan mv i
unfolding uses_place
stage_used plan (Issue g) i = alone (nat_eq i 1)
stage_used plan Emit i = alone (nat_eq i plan.stages)
stage_used plan (Climb j) i = both (nat_eq i j) (nat_eq i (j + 1))
stage_used plan (Fall j) i = both (nat_eq i j) (nat_eq i (j - 1))
stage_used plan (Meet j) i = alone (nat_eq i j)
stage_used plan (Execute j) i = alone (nat_eq i j)
stage_used plan (Send j) i = alone (nat_eq i j)
stage_used plan (Launch j) i = ahead (nat_eq i j) (among (Stage i) (ways_in plan j)) (off_ways_in plan j (Stage i) (λ k c. refl))
stage_used plan (Slide k c) i = refl
stage_used plan Access i = refl
stage_used plan (Recover j) i = ahead (nat_eq i j) (among (Stage i) (ways_out plan j)) (off_ways_out plan j (Stage i) (λ k c. refl))
stage_used plan Leave i = alone (nat_eq i plan.stages)
stage_used plan Exit i = alone (nat_eq i 1)
stage_used plan Serve i = alone (nat_eq i plan.stages)
