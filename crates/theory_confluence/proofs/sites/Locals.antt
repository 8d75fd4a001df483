-- A law for each kind of move: its bar and its effect depend only on the sites that it reads, and its effect is made at
-- the sites that it writes.
use Rattle.std.proofs.Common.{◌≡◌, ℕ, suc, ◌+◌, ◌-◌, List, [], ◌∷◌, length, Option, Some, None, Bool, true, false, ◌==◌, ◌&&◌, ◌||◌, not, refl, sym, ap, subst, ◌∙◌, arith}
use Rattle.std.specs.Prelude.{slice_get, if◌then◌else◌}
use Rattle.mem_regions.specs.Access.{Bounds, bounds_of}
use Rattle.cf_layout.specs.Layout.{Plan, siding_of, launch_stage, recover_stage}
use Rattle.cf_bind.specs.declared.cell.Cell.{Cell}
use Rattle.cf_bind.specs.declared.cell.Op.{Op}
use Rattle.cf_bind.specs.declared.packet.Fetch.{Fetch}
use Rattle.cf_bind.specs.declared.passenger.Passenger.{Passenger}
use Rattle.cf_bind.specs.declared.passenger.End.{End}
use Rattle.cf_bind.specs.declared.passenger.Guess.{Guess}
use Rattle.cf_bind.specs.declared.moves.Move.{Move}
use Rattle.cf_bind.specs.declared.moves.Move.TheVariants.{Issue, Emit, Climb, Fall, Meet, Execute, Send, Launch, Slide, Access, Recover, Leave, Exit, Serve}
use Rattle.cf_bind.specs.declared.moves.Bar.{Bar}
use Rattle.cf_bind.specs.declared.moves.Bar.TheVariants.{AlreadyDone, Dead, NoSuchSite, NoUnit, NotDone, NotMet, Occupied, OpNotThere}
use Rattle.cf_semantics.specs.state.Options.{on, is_some}
use Rattle.cf_semantics.specs.moves.Instructions.{access_trap, answer_of, fetched, is_memory}
use Rattle.cf_semantics.specs.state.State.{State, Moment, cell_at, siding_at}
use Rattle.cf_semantics.specs.state.Passengers.{finish, fresh, instruction, kind, value_in}
use Rattle.cf_semantics.specs.state.Layouts.{isa_of, port, launches, recovers}
use Rattle.cf_semantics.specs.moves.Bars.{bar, row_bar, first_bar_of, last_op, running, source_bar, issue_bar, climb_bar, fall_bar, launch_bar, entry_bar, access_bar, recover_bar, exit_op_bar, cell_is_taken, is_full}
use Rattle.cf_semantics.specs.moves.Moves.{cell_met, keeps, launch_trap, sent, turned, with_passenger, without_packet, without_passenger, written}
use Rattle.cf_semantics.specs.moves.Sites.{AreAlike, HasFrame, Site, Stage, SidingCell, Lane, Fetching, Cache, Registers, Memory, Code, Count, Ended, Failure, content, among, uses, only_reads, reads, writes, last_number, ends_there, is_way_in, is_way_out, bytes_of, codes_of}
use Rattle.theory_refinement.proofs.moves.Rows.{bar_row}
use Rattle.theory_refinement.proofs.moves.Launch.{launch_ready}
use Rattle.theory_refinement.proofs.moves.Leave.{leave_ready}
use Rattle.theory_refinement.proofs.moves.Recovering.{recover_ready}
use Rattle.theory_confluence.proofs.sites.Contents.{answer_same, fetched_same}
use Rattle.theory_confluence.proofs.sites.Effects.{Effect, effect, nothing, one_stage, two_stages, issue_effect, emit_effect, launch_effect, slide_effect, access_effect, recover_effect, leave_as, exit_effect}
use Rattle.theory_confluence.proofs.sites.Touches.{self, self_cell, touches}
use Rattle.std.proofs.lemmas.Bool.{or_left, or_right}

-- its bar and its effect, by what it reads; and where its effect is made
pub record HasLaw (l : Plan) (m : Moment) (mv : Move) : Type 0 where
  pub bar_by : (t : Moment) → AreAlike (reads l m.state mv) m t → bar l m.state mv ≡ bar l t.state mv
  pub effect_by : (t : Moment) → bar l m.state mv ≡ None → AreAlike (reads l m.state mv) m t → effect l m.state mv ≡ effect l t.state mv
  pub within : bar l m.state mv ≡ None → (x : Site) → touches (effect l m.state mv) x ≡ true → writes l m.state mv x ≡ true

-- what is the same
pub stage_same : (m t : Moment) (i : ℕ) → content m (Stage i) ≡ content t (Stage i) → cell_at m.state.cells i ≡ cell_at t.state.cells i
stage_same m t i e = cc

op_same : (m t : Moment) (k c : ℕ) → content m (SidingCell k c) ≡ content t (SidingCell k c) →
    slice_get (siding_at m.state k) c ≡ slice_get (siding_at t.state k) c
op_same m t k c e = cc

lane_same : (m t : Moment) → content m Lane ≡ content t Lane → m.state.lane ≡ t.state.lane
lane_same m t e = cc

fetch_same : (m t : Moment) → content m Fetching ≡ content t Fetching → m.state.fetch ≡ t.state.fetch
fetch_same m t e = cc

cache_same : (m t : Moment) → content m Cache ≡ content t Cache → m.state.cache ≡ t.state.cache
cache_same m t e = cc

regs_same : (m t : Moment) → content m Registers ≡ content t Registers → m.state.regs ≡ t.state.regs
regs_same m t e = cc

bytes_same : (m t : Moment) → content m Memory ≡ content t Memory → bytes_of m.state.mem ≡ bytes_of t.state.mem
bytes_same m t e = cc

codes_same : (m t : Moment) → content m Code ≡ content t Code → codes_of m.state.mem ≡ codes_of t.state.mem
codes_same m t e = cc

count_same : (m t : Moment) → content m Count ≡ content t Count → m.state.retired ≡ t.state.retired
count_same m t e = cc

ended_same : (m t : Moment) → content m Ended ≡ content t Ended → m.state.ending ≡ t.state.ending
ended_same m t e = cc

failed_same : (m t : Moment) → content m Failure ≡ content t Failure → m.state.failed ≡ t.state.failed
failed_same m t e = cc

used : (l : Plan) (m t : Moment) (mv : Move) → AreAlike (reads l m.state mv) m t → (x : Site) → uses l m.state mv x ≡ true → content m x ≡ content t x
used l m t mv h x e = h.sites x (or_left (uses l m.state mv x) (only_reads mv x) e)

read : (l : Plan) (m t : Moment) (mv : Move) → AreAlike (reads l m.state mv) m t → (x : Site) → only_reads mv x ≡ true → content m x ≡ content t x
read l m t mv h x e = h.sites x (or_right (uses l m.state mv x) (only_reads mv x) e)

reads_ended : (mv : Move) → (only_reads mv Ended ≡ true) × (only_reads mv Failure ≡ true)
reads_ended mv = (grind arith, grind arith)

-- only the row decides
by_row : (l : Plan) (m t : Moment) (mv : Move) → AreAlike (reads l m.state mv) m t → row_bar l m.state mv ≡ row_bar l t.state mv →
    bar l m.state mv ≡ bar l t.state mv
unfolding bar
by_row l m t mv h e = rw (ended_same m t (read l m t mv h Ended (reads_ended mv).0), failed_same m t (read l m t mv h Failure (reads_ended mv).1), e) refl

on_same : {A B : Type 0} → (o : Option A) (d : B) (f g : A → B) → ((a : A) → f a ≡ g a) → on o d f ≡ on o d g
on_same None d f g h = refl
on_same (Some a) d f g h = h a

none_touched : (x : Site) → touches nothing x ≡ true → ⊥
none_touched x e = grind arith

-- an effect that is made if there is something
on_within : {A : Type 0} → (o : Option A) (g : A → Effect) (x : Site) (b : Bool) → ((a : A) → touches (g a) x ≡ true → b ≡ true) →
    touches (on o nothing g) x ≡ true → b ≡ true
on_within None g x b h e = absurd (none_touched x e)
on_within (Some a) g x b h e = h a e

-- Issue
issue_row : (l : Plan) (m t : Moment) (g : Guess) (c : Cell) → m.state.fetch ≡ t.state.fetch → m.state.cache ≡ t.state.cache → m.state.lane ≡ t.state.lane →
    ((pc : ℕ) → fetched (isa_of l) m.state.mem pc ≡ fetched (isa_of l) t.state.mem pc) → issue_bar l m.state g c ≡ issue_bar l t.state g c
issue_row l m t g c e1 e2 e3 f = rw e1 (on_same (running t.state.fetch) _ _ _ (λ pc. rw (f pc, e2, e3) refl))

issue_by : (l : Plan) (m t : Moment) (g : Guess) (c : Cell) → m.state.fetch ≡ t.state.fetch → m.state.cache ≡ t.state.cache → m.state.lane ≡ t.state.lane →
    ((pc : ℕ) → fetched (isa_of l) m.state.mem pc ≡ fetched (isa_of l) t.state.mem pc) → on (running m.state.fetch) nothing
    (λ pc. issue_effect m.state.lane m.state.cache (fresh m.state.cache (fetched (isa_of l) m.state.mem pc) pc g) c)
    ≡ on (running t.state.fetch) nothing (λ pc. issue_effect t.state.lane t.state.cache (fresh t.state.cache (fetched (isa_of l) t.state.mem pc) pc g) c)
issue_by l m t g c e1 e2 e3 f = rw e1 (on_same (running t.state.fetch) _ _ _ (λ pc. rw (f pc, e2, e3) refl))

issue_within : (lane : List ℕ) (cache : List (Option ℕ)) (p : Passenger) (c : Cell) (x : Site) → touches (issue_effect lane cache p c) x ≡ true →
    (among x (Stage 1 ∷ Lane ∷ Fetching ∷ Cache ∷ []) || false) ≡ true
issue_within lane cache p c x e = grind (arith, e)

pub issue_local : (l : Plan) (m : Moment) (g : Guess) → HasLaw l m (Issue g)
unfolding effect
issue_local l m g = record {
  bar_by = λ t h. by_row l m t (Issue g) h (rw (cell t h) (on_same (cell_at t.state.cells 1) _ _ _
      (λ c. issue_row l m t g c (runs t h) (keeps t h) (lane t h) (code t h))));
  effect_by = λ t e h. rw (cell t h) (on_same (cell_at t.state.cells 1) _ _ _ (λ c. issue_by l m t g c (runs t h) (keeps t h) (lane t h) (code t h)));
  within = λ e x. on_within (cell_at m.state.cells 1) _ x _ (λ c. on_within (running m.state.fetch) _ x _
      (λ pc. issue_within m.state.lane m.state.cache (fresh m.state.cache (fetched (isa_of l) m.state.mem pc) pc g) c x));
}
  where
    cell : (t : Moment) → AreAlike (reads l m.state (Issue g)) m t → cell_at m.state.cells 1 ≡ cell_at t.state.cells 1
    cell t h = stage_same m t 1 (used l m t (Issue g) h (Stage 1) refl)

    runs : (t : Moment) → AreAlike (reads l m.state (Issue g)) m t → m.state.fetch ≡ t.state.fetch
    runs t h = fetch_same m t (used l m t (Issue g) h Fetching refl)

    keeps : (t : Moment) → AreAlike (reads l m.state (Issue g)) m t → m.state.cache ≡ t.state.cache
    keeps t h = cache_same m t (used l m t (Issue g) h Cache refl)

    lane : (t : Moment) → AreAlike (reads l m.state (Issue g)) m t → m.state.lane ≡ t.state.lane
    lane t h = lane_same m t (used l m t (Issue g) h Lane refl)

    code : (t : Moment) → AreAlike (reads l m.state (Issue g)) m t → (pc : ℕ) → fetched (isa_of l) m.state.mem pc ≡ fetched (isa_of l) t.state.mem pc
    code t h pc = fetched_same (isa_of l) m.state.mem t.state.mem pc h.frame.bounds (codes_same m t (read l m t (Issue g) h Code refl))

-- Emit
emit_within : (n : ℕ) (regs lane : List ℕ) (c : Cell) (x : Site) → touches (emit_effect n regs lane c) x ≡ true →
    (among x (Stage n ∷ Lane ∷ []) || false) ≡ true
emit_within n regs [] c x e = absurd (none_touched x e)
emit_within n regs (r ∷ lane) c x e = grind (arith, e)

pub emit_local : (l : Plan) (m : Moment) → HasLaw l m Emit
unfolding effect
emit_local l m = record {
  bar_by = λ t h. by_row l m t Emit h (rw (cell t h, lane t h) refl);
  effect_by = λ t e h. rw (cell t h, lane t h, regs t h) refl;
  within = λ e x. on_within (cell_at m.state.cells l.stages) _ x _ (λ c. emit_within l.stages m.state.regs m.state.lane c x);
}
  where
    cell : (t : Moment) → AreAlike (reads l m.state Emit) m t → cell_at m.state.cells l.stages ≡ cell_at t.state.cells l.stages
    cell t h = stage_same m t l.stages (used l m t Emit h (Stage l.stages) (self l.stages false))

    lane : (t : Moment) → AreAlike (reads l m.state Emit) m t → m.state.lane ≡ t.state.lane
    lane t h = lane_same m t (used l m t Emit h Lane refl)

    regs : (t : Moment) → AreAlike (reads l m.state Emit) m t → m.state.regs ≡ t.state.regs
    regs t h = regs_same m t (read l m t Emit h Registers refl)

-- Climb, Fall
second : (i j : ℕ) (b : Bool) → ((j == i) || ((j == j) || b)) ≡ true
second i j b = grind arith

two_within : (i j : ℕ) (c d : Cell) (x : Site) → touches (two_stages i c j d) x ≡ true → (among x (Stage i ∷ Stage j ∷ []) || false) ≡ true
two_within i j c d x e = grind (arith, e)

-- two stages are read
on_two : {B : Type 0} → {a b c d : Option Cell} → (F : Option Cell → Option Cell → B) → a ≡ b → c ≡ d → F a c ≡ F b d
on_two F e f = rw (e, f) refl

pub climb_local : (l : Plan) (m : Moment) (i : ℕ) → HasLaw l m (Climb i)
unfolding effect
climb_local l m i = record {
  bar_by = λ t h. by_row l m t (Climb i) h (on_two (λ o q. on o (Some NoSuchSite) (λ c. climb_bar l c i q)) (low t h) (high t h));
  effect_by = λ t e h. on_two (λ o q. on o nothing (λ c. on q nothing (λ d. two_stages i (without_passenger c) (i + 1)
      (record d { passenger = c.passenger; met = false })))) (low t h) (high t h);
  within = λ e x. on_within (cell_at m.state.cells i) _ x _ (λ c. on_within (cell_at m.state.cells (i + 1)) _ x _
      (λ d. two_within i (i + 1) (without_passenger c) (record d { passenger = c.passenger; met = false }) x));
}
  where
    low : (t : Moment) → AreAlike (reads l m.state (Climb i)) m t → cell_at m.state.cells i ≡ cell_at t.state.cells i
    low t h = stage_same m t i (used l m t (Climb i) h (Stage i) (self i _))

    high : (t : Moment) → AreAlike (reads l m.state (Climb i)) m t → cell_at m.state.cells (i + 1) ≡ cell_at t.state.cells (i + 1)
    high t h = stage_same m t (i + 1) (used l m t (Climb i) h (Stage (i + 1)) (second i (i + 1) false))

pub fall_local : (l : Plan) (m : Moment) (i : ℕ) → HasLaw l m (Fall i)
unfolding effect
fall_local l m i = record {
  bar_by = λ t h. by_row l m t (Fall i) h (on_two (λ o q. on o (Some NoSuchSite) (λ c. fall_bar c q)) (high t h) (low t h));
  effect_by = λ t e h. on_two (λ o q. on o nothing (λ c. on q nothing (λ d. two_stages i (without_packet c) (i - 1)
      (record d { packet = c.packet; met = false })))) (high t h) (low t h);
  within = λ e x. on_within (cell_at m.state.cells i) _ x _ (λ c. on_within (cell_at m.state.cells (i - 1)) _ x _
      (λ d. two_within i (i - 1) (without_packet c) (record d { packet = c.packet; met = false }) x));
}
  where
    high : (t : Moment) → AreAlike (reads l m.state (Fall i)) m t → cell_at m.state.cells i ≡ cell_at t.state.cells i
    high t h = stage_same m t i (used l m t (Fall i) h (Stage i) (self i _))

    low : (t : Moment) → AreAlike (reads l m.state (Fall i)) m t → cell_at m.state.cells (i - 1) ≡ cell_at t.state.cells (i - 1)
    low t h = stage_same m t (i - 1) (used l m t (Fall i) h (Stage (i - 1)) (second i (i - 1) false))

-- Meet, Execute, Send
one_within : (i : ℕ) (c : Cell) (x : Site) → touches (one_stage i c) x ≡ true → (among x (Stage i ∷ []) || false) ≡ true
one_within i c x e = grind (arith, e)

pub meet_local : (l : Plan) (m : Moment) (i : ℕ) → HasLaw l m (Meet i)
unfolding effect
meet_local l m i = record {
  bar_by = λ t h. by_row l m t (Meet i) h (rw (cell t h) refl);
  effect_by = λ t e h. rw (cell t h) refl;
  within = λ e x. on_within (cell_at m.state.cells i) _ x _ (λ c. on_within c.passenger _ x _
      (λ p. on_within c.packet _ x _ (λ k. one_within i (cell_met c p k) x)));
}
  where
    cell : (t : Moment) → AreAlike (reads l m.state (Meet i)) m t → cell_at m.state.cells i ≡ cell_at t.state.cells i
    cell t h = stage_same m t i (used l m t (Meet i) h (Stage i) (self i false))

pub execute_local : (l : Plan) (m : Moment) (i : ℕ) → HasLaw l m (Execute i)
unfolding effect
execute_local l m i = record {
  bar_by = λ t h. by_row l m t (Execute i) h (rw (cell t h) refl);
  effect_by = λ t e h. rw (cell t h) refl;
  within = λ e x. on_within (cell_at m.state.cells i) _ x _ (λ c. on_within c.passenger _ x _ (λ p. one_within i (with_passenger c (finish p None)) x));
}
  where
    cell : (t : Moment) → AreAlike (reads l m.state (Execute i)) m t → cell_at m.state.cells i ≡ cell_at t.state.cells i
    cell t h = stage_same m t i (used l m t (Execute i) h (Stage i) (self i false))

pub send_local : (l : Plan) (m : Moment) (i : ℕ) → HasLaw l m (Send i)
unfolding effect
send_local l m i = record {
  bar_by = λ t h. by_row l m t (Send i) h (rw (cell t h) refl);
  effect_by = λ t e h. rw (cell t h) refl;
  within = λ e x. on_within (cell_at m.state.cells i) _ x _ (λ c. on_within c.passenger _ x _ (λ p. one_within i (sent p) x));
}
  where
    cell : (t : Moment) → AreAlike (reads l m.state (Send i)) m t → cell_at m.state.cells i ≡ cell_at t.state.cells i
    cell t h = stage_same m t i (used l m t (Send i) h (Stage i) (self i false))

-- Launch
stopped : (a b c d : Bool) (p q r u : Bar) (x y : Option Bar) → c ≡ true → first_bar_of ((a, p) ∷ (b, q) ∷ (c, r) ∷ (d, u) ∷ []) x
    ≡ first_bar_of ((a, p) ∷ (b, q) ∷ (c, r) ∷ (d, u) ∷ []) y
stopped true b c d p q r u x y e = refl
stopped false true c d p q r u x y e = refl
stopped false false true d p q r u x y e = refl
stopped false false false d p q r u x y e = absurd (cc)

launches_at : (l : Plan) (p : Passenger) (i k : ℕ) → launches l (kind p) i ≡ true → siding_of l (kind p) ≡ Some k → launch_stage l k ≡ i
launches_at l p i k e f = let z = rw f at e in grind (arith, z)

entry_same : (l : Plan) (m t : Moment) (i : ℕ) (p : Passenger) → launches l (kind p) i ≡ true →
    ((k : ℕ) → launch_stage l k ≡ i → slice_get (siding_at m.state k) 0 ≡ slice_get (siding_at t.state k) 0) → entry_bar l m.state p ≡ entry_bar l t.state p
entry_same l m t i p e h = go (siding_of l (kind p)) refl
  where
    go : (o : Option ℕ) → siding_of l (kind p) ≡ o → on o None (λ k. first_bar_of ((cell_is_taken (slice_get (siding_at m.state k) 0), Occupied) ∷ []) None)
        ≡ on o None (λ k. first_bar_of ((cell_is_taken (slice_get (siding_at t.state k) 0), Occupied) ∷ []) None)
    go None f = refl
    go (Some k) f = rw (h k (launches_at l p i k e f)) refl

launch_row : (l : Plan) (m t : Moment) (i : ℕ) (c : Cell) → ((k : ℕ) → launch_stage l k ≡ i →
    slice_get (siding_at m.state k) 0 ≡ slice_get (siding_at t.state k) 0) → launch_bar l m.state c i ≡ launch_bar l t.state c i
launch_row l m t i c h = on_same c.passenger _ _ _ (λ p. go p (launches l (kind p) i) refl)
  where
    row : Passenger → State → Option Bar
    row p s = first_bar_of ((p.dead, Dead) ∷ (p.done || p.launched, AlreadyDone) ∷ (not (launches l (kind p) i), NoUnit) ∷
        (is_memory (kind p) && is_full c, NotMet)
        ∷ []) (source_bar p (entry_bar l s p))

    go : (p : Passenger) (b : Bool) → launches l (kind p) i ≡ b → row p m.state ≡ row p t.state
    go p true e = ap (λ (r : Option Bar). first_bar_of ((p.dead, Dead) ∷ (p.done || p.launched, AlreadyDone) ∷ (not (launches l (kind p) i), NoUnit)
        ∷ (is_memory (kind p) && is_full c, NotMet) ∷ []) (source_bar p r)) (entry_same l m t i p e h)
    go p false e = stopped p.dead (p.done || p.launched) (not (launches l (kind p) i)) (is_memory (kind p) && is_full c) Dead AlreadyDone NoUnit NotMet _ _
        (rw e refl)

trap_same : (m t : Moment) (p : Passenger) → bounds_of m.state.mem ≡ bounds_of t.state.mem → launch_trap m.state p ≡ launch_trap t.state p
trap_same m t p e = ap (λ (b : List Bounds). if is_memory (kind p) then access_trap (instruction p) p.pc (value_in p.src1) b else None) e

launch_within : (l : Plan) (i : ℕ) (c : Cell) (p : Passenger) (k : ℕ) (o : Option End) (x : Site) → launch_stage l k ≡ i →
    touches (launch_effect i c p (Some k) o) x ≡ true → ((among x (Stage i ∷ []) || is_way_in l i x) || false) ≡ true
launch_within l i c p k (Some v) x e h = grind (arith, h)
launch_within l i c p k None x e h = grind (arith, h, e)

pub launch_local : (l : Plan) (m : Moment) (i : ℕ) → HasLaw l m (Launch i)
unfolding effect
launch_local l m i = record {
  bar_by = λ t h. by_row l m t (Launch i) h (rw (cell t h) (on_same (cell_at t.state.cells i) _ _ _ (λ c. launch_row l m t i c (entry t h))));
  effect_by = λ t e h. rw (cell t h) (on_same (cell_at t.state.cells i) _ _ _ (λ c. on_same c.passenger _ _ _
      (λ p. ap (launch_effect i c p (siding_of l (kind p))) (trap_same m t p h.frame.bounds))));
  within = within;
}
  where
    cell : (t : Moment) → AreAlike (reads l m.state (Launch i)) m t → cell_at m.state.cells i ≡ cell_at t.state.cells i
    cell t h = stage_same m t i (used l m t (Launch i) h (Stage i) (rw (self i false) refl))

    entry : (t : Moment) → AreAlike (reads l m.state (Launch i)) m t → (k : ℕ) → launch_stage l k ≡ i →
        slice_get (siding_at m.state k) 0 ≡ slice_get (siding_at t.state k) 0
    entry t h k e = op_same m t k 0 (used l m t (Launch i) h (SidingCell k 0) (grind (arith, e)))

    within : bar l m.state (Launch i) ≡ None → (x : Site) → touches (effect l m.state (Launch i)) x ≡ true → writes l m.state (Launch i) x ≡ true
    within e x = let r = launch_ready l m.state i (bar_row l m.state (Launch i) e) in rw (r.at_here, r.sits, r.siding)
        (launch_within l i r.here r.who r.number (launch_trap m.state r.who) x r.at_stage)

-- Slide
second_cell : (k c d : ℕ) (b : Bool) → (((k == k) && (d == c)) || (((k == k) && (d == d)) || b)) ≡ true
second_cell k c d b = grind arith

slide_within : (k c : ℕ) (o : Option Op) (x : Site) → touches (slide_effect k c o) x ≡ true →
    (among x (SidingCell k c ∷ SidingCell k (c + 1) ∷ []) || false) ≡ true
slide_within k c o x e = grind (arith, e)

slide_row : {p q p' q' : Option (Option Op)} → p ≡ p' → q ≡ q' → on q (Some NoSuchSite)
    (λ o. first_bar_of ((not (cell_is_taken p), OpNotThere) ∷ (is_some o, Occupied)
    ∷ []) None) ≡ on q' (Some NoSuchSite) (λ o. first_bar_of ((not (cell_is_taken p'), OpNotThere) ∷ (is_some o, Occupied) ∷ []) None)
slide_row e f = rw (e, f) refl

pub slide_local : (l : Plan) (m : Moment) (k c : ℕ) → HasLaw l m (Slide k c)
unfolding effect
slide_local l m k c = record {
  bar_by = λ t h. by_row l m t (Slide k c) h (slide_row (here t h) (there t h));
  effect_by = λ t e h. rw (here t h) refl;
  within = λ e x. on_within (slice_get (siding_at m.state k) c) _ x _ (λ o. slide_within k c o x);
}
  where
    here : (t : Moment) → AreAlike (reads l m.state (Slide k c)) m t → slice_get (siding_at m.state k) c ≡ slice_get (siding_at t.state k) c
    here t h = op_same m t k c (used l m t (Slide k c) h (SidingCell k c) (self_cell k c _))

    there : (t : Moment) → AreAlike (reads l m.state (Slide k c)) m t → slice_get (siding_at m.state k) (c + 1) ≡ slice_get (siding_at t.state k) (c + 1)
    there t h = op_same m t k (c + 1) (used l m t (Slide k c) h (SidingCell k (c + 1)) (second_cell k c (c + 1) false))

-- the end of a siding
last_get : (q : List (Option Op)) → last_op q ≡ on (slice_get q (length q - 1)) None (λ o. o)
last_get [] = refl
last_get (a ∷ []) = refl
last_get (a ∷ b ∷ q) = last_get (b ∷ q) ∙ go (length q)
  where
    go : (n : ℕ) → on (slice_get (b ∷ q) (suc n - 1)) None (λ o. o) ≡ on (slice_get (a ∷ b ∷ q) (suc (suc n) - 1)) None (λ o. o)
    go n = let e : suc n - 1 ≡ n = omega arith in let f : suc (suc n) - 1 ≡ suc n = omega arith in rw (e, f) refl

number_same : (s t : State) (k : ℕ) → HasFrame s t → last_number s k ≡ last_number t k
number_same s t k f = ap (λ (n : ℕ). n - 1) (f.sizes k)

last_same : (m t : Moment) (k : ℕ) → HasFrame m.state t.state → slice_get (siding_at m.state k) (last_number m.state k)
    ≡ slice_get (siding_at t.state k) (last_number m.state k) → last_op (siding_at m.state k) ≡ last_op (siding_at t.state k)
last_same m t k f e = last_get (siding_at m.state k) ∙ ap (λ (o : Option (Option Op)). on o None (λ p. p)) (e
    ∙ ap (slice_get (siding_at t.state k)) (number_same m.state t.state k f)) ∙ sym (last_get (siding_at t.state k))

-- Access
access_within : (k c : ℕ) (op : Op) (a : ℕ) (x : Site) → touches (access_effect k c op a) x ≡ true → (among x (SidingCell k c ∷ Memory ∷ []) || false) ≡ true
access_within k c op a x e = grind (arith, e)

pub access_local : (l : Plan) (m : Moment) → HasLaw l m Access
unfolding effect
access_local l m = record {
  bar_by = λ t h. by_row l m t Access h (ap access_bar (end t h));
  effect_by = λ t e h. rw (end t h) (on_same (last_op (siding_at t.state (port l))) _ _ _ (λ op. rw (
    answer_same op.instr op.a op.b m.state.mem t.state.mem h.frame.bounds (bytes_same m t (used l m t Access h Memory refl)),
    number_same m.state t.state (port l) h.frame,
  ) refl));
  within = λ e x. on_within (last_op (siding_at m.state (port l))) _ x _ (λ op. access_within (port l) (last_number m.state (port l)) op
      (answer_of op.instr op.a op.b m.state.mem) x);
}
  where
    end : (t : Moment) → AreAlike (reads l m.state Access) m t → last_op (siding_at m.state (port l)) ≡ last_op (siding_at t.state (port l))
    end t h = last_same m t (port l) h.frame (op_same m t (port l) (last_number m.state (port l))
        (used l m t Access h (SidingCell (port l) (last_number m.state (port l))) (self_cell (port l) (last_number m.state (port l)) _)))

-- Recover
held_first : (a b : Bool) (p q : Bar) (x y : Option Bar) → a ≡ true → first_bar_of ((a, p) ∷ (b, q) ∷ []) x ≡ first_bar_of ((a, p) ∷ (b, q) ∷ []) y
held_first true b p q x y e = refl
held_first false b p q x y e = absurd (cc)

recovers_at : (l : Plan) (p : Passenger) (i k : ℕ) → recovers l (kind p) i ≡ true → siding_of l (kind p) ≡ Some k → recover_stage l k ≡ i
recovers_at l p i k e f = let z = rw f at e in grind (arith, z)

exit_same : (l : Plan) (m t : Moment) (i : ℕ) (p : Passenger) → recovers l (kind p) i ≡ true →
    ((k : ℕ) → recover_stage l k ≡ i → last_op (siding_at m.state k) ≡ last_op (siding_at t.state k)) → exit_op_bar l m.state p ≡ exit_op_bar l t.state p
exit_same l m t i p e h = go (siding_of l (kind p)) refl
  where
    bar_of : Option Op → Option Bar
    bar_of q = on q (Some OpNotThere) (λ op. first_bar_of ((is_memory (kind p) && not (is_some op.answer), NotDone) ∷ []) None)

    go : (o : Option ℕ) → siding_of l (kind p) ≡ o → on o (Some NoUnit) (λ k. bar_of (last_op (siding_at m.state k)))
        ≡ on o (Some NoUnit) (λ k. bar_of (last_op (siding_at t.state k)))
    go None f = refl
    go (Some k) f = ap bar_of (h k (recovers_at l p i k e f))

recover_row : (l : Plan) (m t : Moment) (i : ℕ) (c : Cell) → ((k : ℕ) → recover_stage l k ≡ i → last_op (siding_at m.state k) ≡ last_op (siding_at t.state k)) →
    recover_bar l m.state c i ≡ recover_bar l t.state c i
recover_row l m t i c h = on_same c.passenger _ _ _ (λ p. go p (recovers l (kind p) i) refl)
  where
    row : Passenger → Option Bar → Option Bar
    row p r = first_bar_of ((not (recovers l (kind p) i), NoUnit) ∷ (not p.launched || p.recovered, AlreadyDone) ∷ []) r

    go : (p : Passenger) (b : Bool) → recovers l (kind p) i ≡ b → row p (exit_op_bar l m.state p) ≡ row p (exit_op_bar l t.state p)
    go p true e = ap (row p) (exit_same l m t i p e h)
    go p false e = held_first (not (recovers l (kind p) i)) (not p.launched || p.recovered) NoUnit AlreadyDone _ _ (rw e refl)

recover_within : (l : Plan) (s : State) (i : ℕ) (c : Cell) (p : Passenger) (k : ℕ) (op : Op) (x : Site) → recover_stage l k ≡ i →
    touches (recover_effect i c p k (last_number s k) op) x ≡ true → ((among x (Stage i ∷ []) || is_way_out l s i x) || false) ≡ true
recover_within l s i c p k op x e h = grind (arith, h, e)

pub recover_local : (l : Plan) (m : Moment) (i : ℕ) → HasLaw l m (Recover i)
unfolding effect
recover_local l m i = record {
  bar_by = λ t h. by_row l m t (Recover i) h (rw (cell t h) (on_same (cell_at t.state.cells i) _ _ _ (λ c. recover_row l m t i c (end t h))));
  effect_by = effect_by;
  within = within;
}
  where
    cell : (t : Moment) → AreAlike (reads l m.state (Recover i)) m t → cell_at m.state.cells i ≡ cell_at t.state.cells i
    cell t h = stage_same m t i (used l m t (Recover i) h (Stage i) (rw (self i false) refl))

    way_out : (k : ℕ) → recover_stage l k ≡ i → uses l m.state (Recover i) (SidingCell k (last_number m.state k)) ≡ true
    way_out k e = grind (arith, e)

    end : (t : Moment) → AreAlike (reads l m.state (Recover i)) m t → (k : ℕ) → recover_stage l k ≡ i →
        last_op (siding_at m.state k) ≡ last_op (siding_at t.state k)
    end t h k e = last_same m t k h.frame (op_same m t k (last_number m.state k) (used l m t (Recover i) h (SidingCell k (last_number m.state k))
        (way_out k e)))

    effect_by : (t : Moment) → bar l m.state (Recover i) ≡ None → AreAlike (reads l m.state (Recover i)) m t →
        effect l m.state (Recover i) ≡ effect l t.state (Recover i)
    effect_by t e h =
        let r = recover_ready l m.state i (bar_row l m.state (Recover i) e) in
        let here : cell_at t.state.cells i ≡ Some r.here = sym (cell t h) ∙ r.at_here in
        rw (r.at_here, here, r.sits, r.siding) (rw (end t h r.number r.at_stage, number_same m.state t.state r.number h.frame) refl)

    within : bar l m.state (Recover i) ≡ None → (x : Site) → touches (effect l m.state (Recover i)) x ≡ true → writes l m.state (Recover i) x ≡ true
    within e x = let r = recover_ready l m.state i (bar_row l m.state (Recover i) e) in rw (r.at_here, r.sits, r.siding, r.lies)
        (recover_within l m.state i r.here r.who r.number r.what x r.at_stage)

-- Leave
ends_is : (l : Plan) (s : State) (c : Cell) (p : Passenger) → cell_at s.cells l.stages ≡ Some c → c.passenger ≡ Some p →
    ends_there l s ≡ (not p.dead && is_some p.ending)
ends_is l s c p e f = rw e (rw f refl)

leave_within : (l : Plan) (s : State) (c : Cell) (p : Passenger) (regs : List ℕ) (n : ℕ) (x : Site) → cell_at s.cells l.stages ≡ Some c → c.passenger ≡ Some p →
    touches (leave_as p.dead p.ending l.stages c regs n) x ≡ true → writes l s Leave x ≡ true
leave_within l s c p regs n x e f h = subst (λ (b : Bool). (among x (Stage l.stages ∷ Registers ∷ Count ∷ []) || (b && among x (Ended ∷ []))) ≡ true)
    (sym (ends_is l s c p e f)) (by p.dead p.ending h)
  where
    by : (d : Bool) (o : Option End) → touches (leave_as d o l.stages c regs n) x ≡ true →
        (among x (Stage l.stages ∷ Registers ∷ Count ∷ []) || ((not d && is_some o) && among x (Ended ∷ []))) ≡ true
    by true o h = grind (arith, h)
    by false None h = grind (arith, h)
    by false (Some b) h = grind (arith, h)

pub leave_local : (l : Plan) (m : Moment) → HasLaw l m Leave
unfolding effect
leave_local l m = record {
  bar_by = λ t h. by_row l m t Leave h (rw (cell t h) refl);
  effect_by = λ t e h. rw (cell t h, regs t h, count t h) refl;
  within = within;
}
  where
    cell : (t : Moment) → AreAlike (reads l m.state Leave) m t → cell_at m.state.cells l.stages ≡ cell_at t.state.cells l.stages
    cell t h = stage_same m t l.stages (used l m t Leave h (Stage l.stages) (self l.stages _))

    regs : (t : Moment) → AreAlike (reads l m.state Leave) m t → m.state.regs ≡ t.state.regs
    regs t h = regs_same m t (used l m t Leave h Registers refl)

    count : (t : Moment) → AreAlike (reads l m.state Leave) m t → m.state.retired ≡ t.state.retired
    count t h = count_same m t (used l m t Leave h Count refl)

    within : bar l m.state Leave ≡ None → (x : Site) → touches (effect l m.state Leave) x ≡ true → writes l m.state Leave x ≡ true
    within e x h = let r = leave_ready l m.state (bar_row l m.state Leave e) in leave_within l m.state r.here r.who (written m.state.regs r.who.dst)
        (m.state.retired + 1) x r.at_here r.sits (rw (r.at_here, r.sits) at h)

-- Exit
exit_within : (f : Fetch) (cache : List (Option ℕ)) (c : Cell) (x : Site) → touches (exit_effect f cache c) x ≡ true →
    (among x (Stage 1 ∷ Fetching ∷ Cache ∷ []) || false) ≡ true
exit_within f cache c x e = grind (arith, e)

pub exit_local : (l : Plan) (m : Moment) → HasLaw l m Exit
unfolding effect
exit_local l m = record {
  bar_by = λ t h. by_row l m t Exit h (rw (cell t h) refl);
  effect_by = λ t e h. rw (cell t h, runs t h, keeps_same t h) refl;
  within = λ e x. on_within (cell_at m.state.cells 1) _ x _ (λ c. on_within c.packet _ x _
      (λ k. exit_within (turned m.state.fetch k) (keeps l.cache m.state.cache k) c x));
}
  where
    cell : (t : Moment) → AreAlike (reads l m.state Exit) m t → cell_at m.state.cells 1 ≡ cell_at t.state.cells 1
    cell t h = stage_same m t 1 (used l m t Exit h (Stage 1) refl)

    runs : (t : Moment) → AreAlike (reads l m.state Exit) m t → m.state.fetch ≡ t.state.fetch
    runs t h = fetch_same m t (used l m t Exit h Fetching refl)

    keeps_same : (t : Moment) → AreAlike (reads l m.state Exit) m t → m.state.cache ≡ t.state.cache
    keeps_same t h = cache_same m t (used l m t Exit h Cache refl)

-- Serve, whose effect means nothing
pub serve_local : (l : Plan) (m : Moment) → HasLaw l m Serve
unfolding effect
serve_local l m = record {
  bar_by = λ t h. by_row l m t Serve h (rw (cell t h) refl);
  effect_by = λ t e h. refl;
  within = λ e x h. absurd (none_touched x h);
}
  where
    cell : (t : Moment) → AreAlike (reads l m.state Serve) m t → cell_at m.state.cells l.stages ≡ cell_at t.state.cells l.stages
    cell t h = stage_same m t l.stages (used l m t Serve h (Stage l.stages) (self l.stages _))

pub has_law : (l : Plan) (m : Moment) (mv : Move) → HasLaw l m mv
has_law l m (Issue g) = issue_local l m g
has_law l m Emit = emit_local l m
has_law l m (Climb i) = climb_local l m i
has_law l m (Fall i) = fall_local l m i
has_law l m (Meet i) = meet_local l m i
has_law l m (Execute i) = execute_local l m i
has_law l m (Send i) = send_local l m i
has_law l m (Launch i) = launch_local l m i
has_law l m (Slide k c) = slide_local l m k c
has_law l m Access = access_local l m
has_law l m (Recover i) = recover_local l m i
has_law l m Leave = leave_local l m
has_law l m Exit = exit_local l m
has_law l m Serve = serve_local l m
