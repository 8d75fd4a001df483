-- An instruction that climbs on: the stages are then as if it had been lifted at once, and it comes to the first stage at
-- which it is blocked.
use Rattle.std.proofs.Common.{◌≡◌, ◌≢◌, ◌∙◌, ℕ, zero, suc, ◌+◌, ◌-◌, ◌<◌, ◌≤◌, List, Option, Some, None, Bool, true, false, IsTrue, length, refl, sym, ap, arith}
use Rattle.std.specs.Prelude.{◌==◌, ◌&&◌, ◌||◌, IsNone, IsSome, nat_lt, not}
use Rattle.std.proofs.lemmas.Bool.Decides.{nat_tests}
use Rattle.cf_bind.specs.declared.cell.Cell.{Cell}
use Rattle.cf_bind.specs.declared.moves.Bar.{Bar}
use Rattle.cf_bind.specs.declared.moves.Bar.TheVariants.{Failed, Halted, NoSuchSite, NotDone, NotMet, Occupied, Owes}
use Rattle.cf_bind.specs.declared.moves.Move.TheVariants.{Climb}
use Rattle.cf_bind.specs.declared.passenger.Passenger.{Passenger}
use Rattle.cf_layout.specs.Layout.{Plan}
use Rattle.cf_semantics.specs.moves.Bars.{bar, climb_bar, first, row_bar, stops_at}
use Rattle.cf_semantics.specs.moves.Moves.{moved, without_passenger}
use Rattle.cf_semantics.specs.moves.Moves.{climbed as stage_climbed}
use Rattle.cf_semantics.specs.state.Options.{is_some, on}
use Rattle.cf_semantics.specs.state.State.{State, cell_at, put_cell}
use Rattle.cf_stages.specs.Changes.{cells_lifted, passenger_at, with_new_passenger}
use Rattle.cf_stages.proofs.Cells.{length-put}
use Rattle.cf_stages.proofs.Neighbours.{lifted-there}
use Rattle.cf_stages.proofs.Parts.{cell-put, cell-put-other, put-put, put-same, stage-high, stage-low, stood}
use Rattle.cf_core.specs.Climbing.{ClimbsTo, IsFirstBlock, climbed, climbs_on, is_blocked_at}
use Rattle.cf_core.specs.Places.{with_cells}
use Rattle.cf_core.specs.Processors.{IsProcessor, Processor, after_move, in_state}
use Rattle.cf_core.proofs.KeptParts.{stage-at}
use Rattle.cf_core.proofs.Rides.{here-by}
use Rattle.cf_core.proofs.moves.KeptServe.{unbarred}

-- Stages in which an instruction was lifted --

-- what is in the stage that it came to
pub at-top : (cells : List Cell) (i k : ℕ) (c e : Cell) → cell_at cells i ≡ Some c → cell_at cells k ≡ Some e →
    cell_at (cells_lifted cells i k) k ≡ Some (with_new_passenger c.passenger e)
at-top cells i k c e here there =
    let m = put_cell cells i (without_passenger c) in
    let high : k ≤ length m = rw (length-put cells i (without_passenger c)) (stage-high cells k e there) in
    ap (λ (cs : List Cell). cell_at cs k) (lifted-there cells i k c e here there)
    ∙ cell-put m k (with_new_passenger c.passenger e) (stage-low cells k e there) high

-- in the one that it left
pub at-bottom : (cells : List Cell) (i k : ℕ) (c e : Cell) → i ≢ k → cell_at cells i ≡ Some c → cell_at cells k ≡ Some e →
    cell_at (cells_lifted cells i k) i ≡ Some (without_passenger c)
at-bottom cells i k c e off here there =
    let m = put_cell cells i (without_passenger c) in
    ap (λ (cs : List Cell). cell_at cs i) (lifted-there cells i k c e here there)
    ∙ cell-put-other m k i (with_new_passenger c.passenger e) off
    ∙ cell-put cells i (without_passenger c) (stage-low cells i c here) (stage-high cells i c here)

-- and in any other
elsewhere : (cells : List Cell) (i k l : ℕ) (c e : Cell) → cell_at cells i ≡ Some c → cell_at cells k ≡ Some e → l ≢ i → l ≢ k →
    cell_at (cells_lifted cells i k) l ≡ cell_at cells l
elsewhere cells i k l c e here there off far =
    let m = put_cell cells i (without_passenger c) in
    ap (λ (cs : List Cell). cell_at cs l) (lifted-there cells i k c e here there)
    ∙ cell-put-other m k l (with_new_passenger c.passenger e) far
    ∙ cell-put-other cells i l (without_passenger c) off

-- it left nothing behind in a stage where it was alone
bare : (e : Cell) → e.passenger ≡ None → e.met ≡ false → without_passenger e ≡ e
bare e none unmet = λ x. record { passenger = (sym none) x; packet = e.packet; met = (sym unmet) x }

-- an instruction that goes on from there has come to where it would have been lifted at once
lifted_on : (cells : List Cell) (i k l : ℕ) (c e d : Cell) → i < k → k < l → cell_at cells i ≡ Some c → cell_at cells k ≡ Some e → cell_at cells l ≡ Some d →
    e.passenger ≡ None → e.met ≡ false → cells_lifted (cells_lifted cells i k) k l ≡ cells_lifted cells i l
lifted_on cells i k l c e d up on_up here there beyond none unmet =
    let m = put_cell cells i (without_passenger c) in
    let e1 = with_new_passenger c.passenger e in
    let d1 = with_new_passenger c.passenger d in
    let top = at-top cells i k c e here there in
    let rest = elsewhere cells i k l c e here there (λ g. absurd (omega arith)) (λ g. absurd (omega arith)) ∙ beyond in
    let again = cell-put-other cells i k (without_passenger c) (λ g. absurd (omega arith)) ∙ there in
    lifted-there (cells_lifted cells i k) k l e1 d top rest
    ∙ ap (λ (cs : List Cell). put_cell (put_cell cs k (without_passenger e1)) l d1) (lifted-there cells i k c e here there)
    ∙ ap (λ (cs : List Cell). put_cell cs l d1) (put-put m k e1 (without_passenger e1)
    ∙ ap (λ (b : Cell). put_cell m k b) (bare e none unmet) ∙ put-same m k e again)
    ∙ sym (lifted-there cells i l c d here beyond)

-- One Climb --

pub moved-climb : (plan : Plan) (s : State) (k : ℕ) → moved plan s (Climb k) ≡ record s { cells = cells_lifted s.cells k (k + 1) }
unfolding moved cells_lifted
moved-climb plan s k = by (cell_at s.cells k) (cell_at s.cells (k + 1))
  where
    by : (o a : Option Cell) → on o s (λ c. on a s (stage_climbed s k c))
        ≡ record s {
          cells = on o s.cells (λ c. on a s.cells (λ d. put_cell (put_cell s.cells k (without_passenger c)) (k + 1)
              (with_new_passenger c.passenger d)));
        }
    by None a = refl
    by (Some c) None = refl
    by (Some c) (Some d) = refl

-- a processor with other stages goes on as before
same_bar : (plan : Plan) (s : State) (cells : List Cell) (i k : ℕ) → bar plan s (Climb i) ≡ None →
    bar plan (record s { cells = cells }) (Climb k) ≡ row_bar plan (record s { cells = cells }) (Climb k)
unfolding bar
same_bar plan s cells i k free = by (is_some s.ending) s.failed free
  where
    by : (ended failed : Bool) → first ended Halted (first failed Failed (row_bar plan s (Climb i))) ≡ None →
        first ended Halted (first failed Failed (row_bar plan (record s { cells = cells }) (Climb k))) ≡ row_bar plan (record s { cells = cells }) (Climb k)
    by true failed e = absurd (cc)
    by false true e = absurd (cc)
    by false false e = refl

-- the highest stage is the one above which there is none
top_is : (cells : List Cell) (n k : ℕ) → length cells ≡ n → k ≤ n → cell_at cells (k + 1) ≡ None → n == k ≡ true
top_is cells n k count within none = by (nat_lt k n) refl
  where
    by : (b : Bool) → nat_lt k n ≡ b → n == k ≡ true
    by true e =
        let more : k < n = grind (arith, nat_tests) in
        let there = stood cells (k + 1) (omega arith) (omega arith) in
        absurd (cc)
    by false e = grind (arith, nat_tests)

not_top : (cells : List Cell) (n k : ℕ) (d : Cell) → length cells ≡ n → cell_at cells (k + 1) ≡ Some d → n == k ≡ false
not_top cells n k d count there =
    let more = stage-high cells (k + 1) d there in
    grind (arith, nat_tests)

-- the tests of its next Climb
tests : (packet above stops : Bool) → is_some (first (true && packet && not false) NotMet (first false Owes (first stops NotDone (first above Occupied None))))
    ≡ (packet || above || false || stops)
tests true above stops = refl
tests false true true = refl
tests false true false = refl
tests false false true = refl
tests false false false = refl

highest_stage : (packet stops : Bool) → true ≡ (packet || false || true || stops)
highest_stage true stops = refl
highest_stage false stops = refl

blocked_by : (plan : Plan) (q : Passenger) (e : Cell) (k : ℕ) (o : Option Cell) (top : Bool) → plan.stages == k ≡ top → top ≡ on o true (λ d. false) →
    is_some q.owes ≡ false →
    is_some (climb_bar plan (with_new_passenger (Some q) e) k o)
    ≡ (is_some e.packet || on o false (λ d. is_some d.passenger) || plan.stages == k || stops_at plan q k)
blocked_by plan q e k None top t is owes = rw (t, is) (highest_stage (is_some e.packet) (stops_at plan q k))
blocked_by plan q e k (Some d) top t is owes = rw (t, is, owes) (tests (is_some e.packet) (is_some d.passenger) (stops_at plan q k))

-- it is barred if and only if the instruction is blocked there
row_at : (plan : Plan) (s : State) (i k : ℕ) (q : Passenger) (c e : Cell) → length s.cells ≡ plan.stages → i < k → cell_at s.cells i ≡ Some c →
    c.passenger ≡ Some q → is_some q.owes ≡ false → cell_at s.cells k ≡ Some e →
    is_some (row_bar plan (record s { cells = cells_lifted s.cells i k }) (Climb k)) ≡ is_blocked_at plan s q k
row_at plan s i k q c e count up here rides owes there =
    let top = at-top s.cells i k c e here there in
    let above = elsewhere s.cells i k (k + 1) c e here there (λ g. absurd (omega (arith, up, g))) (λ g. absurd (omega (arith, g))) in
    let high = stage-high s.cells k e there in
    rw (top, above, there, rides) (blocked_by plan q e k (cell_at s.cells (k + 1)) (plan.stages == k) refl (is_top (cell_at s.cells (k + 1)) refl) owes)
  where
    is_top : (o : Option Cell) → cell_at s.cells (k + 1) ≡ o → plan.stages == k ≡ on o true (λ d. false)
    is_top None f = let high = stage-high s.cells k e there in top_is s.cells plan.stages k count (omega arith) f
    is_top (Some d) f = not_top s.cells plan.stages k d count f

-- All of them --

-- an instruction that can climb
pub record Rider (p : Processor) (i : ℕ) (q : Passenger) : Type 0 where
  pub facts : IsProcessor p.plan p.state
  pub free : bar p.plan p.state (Climb i) ≡ None
  pub from : Cell
  pub here : cell_at p.state.cells i ≡ Some from
  pub rides : from.passenger ≡ Some q
  pub owes : is_some q.owes ≡ false
  pub stays : stops_at p.plan q i ≡ false
  pub room : passenger_at p.state.cells (i + 1) ≡ None

climb_tests : (plan : Plan) (c : Cell) (i : ℕ) (q : Passenger) (o : Option Cell) → c.passenger ≡ Some q → climb_bar plan c i o ≡ None →
    (is_some q.owes ≡ false) × (stops_at plan q i ≡ false) × (on o None (λ d. d.passenger) ≡ None)
climb_tests plan c i q None rides row = absurd (cc)
climb_tests plan c i q (Some d) rides row = (grind arith, grind arith, grind arith)

pub rider : (p : Processor) (i : ℕ) (q : Passenger) → IsProcessor p.plan p.state → bar p.plan p.state (Climb i) ≡ None → passenger_at p.state.cells i ≡ Some q →
    Rider p i q
rider p i q facts free rides =
    let h = here-by (cell_at p.state.cells i) q rides in
    let row = rw h.1 at (unbarred p.plan p.state (Climb i) free) in
    let t = climb_tests p.plan h.0 i q (cell_at p.state.cells (i + 1)) h.2 row in
    record { facts = facts; free = free; from = h.0; here = h.1; rides = h.2; owes = t.0; stays = t.1; room = t.2 }

-- the stages that it passes hold nothing
free_parts : (a b c d : Bool) → (a || b || c || d) ≡ false → (a ≡ false) × (b ≡ false)
free_parts true b c d e = absurd (cc)
free_parts false true c d e = absurd (cc)
free_parts false false c d e = (refl, refl)

no_rider : (o : Option Cell) → on o false (λ c. is_some c.passenger) ≡ false → on o None (λ c. c.passenger) ≡ None
no_rider None e = refl
no_rider (Some c) e = by c.passenger e
  where
    by : (o : Option Passenger) → is_some o ≡ false → o ≡ None
    by None f = refl
    by (Some p) f = absurd (cc)

passed : (p : Processor) (i j : ℕ) (q : Passenger) → Rider p i q → IsFirstBlock p.plan p.state q i j → (k : ℕ) → i < k → k ≤ j →
    passenger_at p.state.cells k ≡ None
passed p i j q r f k low high = by (nat_lt (i + 1) k) refl
  where
    by : (b : Bool) → nat_lt (i + 1) k ≡ b → passenger_at p.state.cells k ≡ None
    by true e =
        let more : i + 1 < k = grind (arith, nat_tests) in
        let z : k - 1 + 1 ≡ k = omega arith in
        let parts = free_parts _ _ _ _ (f.free (k - 1) (omega arith) (omega arith)) in
        rw z at (no_rider (cell_at p.state.cells (k - 1 + 1)) parts.1)
    by false e =
        let least : k ≡ i + 1 = let less : k ≤ i + 1 = grind (arith, nat_tests) in omega arith in
        rw least r.room

-- a stage that it passes or comes to
record Step (p : Processor) (k : ℕ) : Type 0 where
  cell : Cell
  there : cell_at p.state.cells k ≡ Some cell
  none : cell.passenger ≡ None
  unmet : cell.met ≡ false

unmet_alone : (e : Cell) → e.passenger ≡ None → (IsTrue e.met → IsTrue (is_some e.passenger && is_some e.packet)) → e.met ≡ false
unmet_alone e none met = by e.met met
  where
    by : (b : Bool) → (IsTrue b → IsTrue (is_some e.passenger && is_some e.packet)) → b ≡ false
    by false g = refl
    by true g = let t = g refl in let n : is_some e.passenger ≡ false = rw none refl in absurd (cc)

step : (p : Processor) (i j : ℕ) (q : Passenger) → Rider p i q → IsFirstBlock p.plan p.state q i j → (k : ℕ) → i < k → k ≤ j → Step p k
step p i j q r f k low high =
    let n = r.facts.stages in
    let e = stood p.state.cells k (omega arith) (omega (arith, f.within)) in
    let none : e.0.passenger ≡ None = sym (ap (λ (o : Option Cell). on o None (λ c. c.passenger)) e.1) ∙ passed p i j q r f k low high in
    record { cell = e.0; there = e.1; none = none; unmet = unmet_alone e.0 none (stage-at p.plan p.state k e.0 r.facts e.1).met }

climbed_by : (p : Processor) (i j : ℕ) (q : Passenger) → Rider p i q → IsFirstBlock p.plan p.state q i j → (n : ℕ) → i + suc n ≤ j →
    climbed p i (suc n) ≡ with_cells p (cells_lifted p.state.cells i (i + suc n))
unfolding climbed
climbed_by p i j q r f zero within =
    let z : i + zero ≡ i = omega arith in
    let one : i + suc zero ≡ i + 1 = omega arith in
    rw (z, one) (ap (in_state p) (moved-climb p.plan p.state i))
climbed_by p i j q r f (suc n) within =
    let k = i + suc n in
    let next : i + suc (suc n) ≡ k + 1 = omega arith in
    let before = climbed_by p i j q r f n (omega arith) in
    let low = step p i j q r f k (omega arith) (omega arith) in
    let high = step p i j q r f (k + 1) (omega arith) (omega (arith, next)) in
    let on_to = lifted_on p.state.cells i k (k + 1) r.from low.cell high.cell (omega arith) (omega arith) r.here low.there high.there low.none low.unmet in
    ap (λ (x : Processor). after_move x (Climb k)) before
    ∙ ap (in_state p) (moved-climb p.plan (with_cells p (cells_lifted p.state.cells i k)).state k)
    ∙ ap (with_cells p) (on_to ∙ ap (cells_lifted p.state.cells i) (sym next))

-- its Climb from a stage above is barred if and only if it is blocked there
bar_at : (p : Processor) (i j : ℕ) (q : Passenger) → Rider p i q → IsFirstBlock p.plan p.state q i j → (n : ℕ) → i + suc n ≤ j →
    is_some (bar p.plan (climbed p i (suc n)).state (Climb (i + suc n))) ≡ is_blocked_at p.plan p.state q (i + suc n)
bar_at p i j q r f n within =
    let k = i + suc n in
    let at = step p i j q r f k (omega arith) within in
    ap (λ (x : Processor). is_some (bar p.plan x.state (Climb k))) (climbed_by p i j q r f n within)
    ∙ ap (λ (o : Option Bar). is_some o) (same_bar p.plan p.state (cells_lifted p.state.cells i k) i k r.free)
    ∙ row_at p.plan p.state i k q r.from at.cell r.facts.stages (omega arith) r.here r.rides r.owes at.there

not_some : {A : Type 0} (o : Option A) → is_some o ≡ false → o ≡ None
not_some None e = refl
not_some (Some a) e = absurd (cc)

each : (p : Processor) (i j : ℕ) (q : Passenger) → Rider p i q → IsFirstBlock p.plan p.state q i j → (n : ℕ) → i + n < j → climbs_on p i n
unfolding climbed
each p i j q r f zero within = let z : i + zero ≡ i = omega arith in rw z r.free
each p i j q r f (suc n) within =
    not_some (bar p.plan (climbed p i (suc n)).state (Climb (i + suc n))) (bar_at p i j q r f n (omega arith) ∙ f.free (i + suc n) (omega arith) within)

ends : (p : Processor) (i j : ℕ) (q : Passenger) → Rider p i q → IsFirstBlock p.plan p.state q i j → (n : ℕ) → i + suc n ≡ j → climbs_on p i (suc n) → ⊥
ends p i j q r f n is on_up =
    let b = bar_at p i j q r f n (omega arith) in
    let blocked : is_blocked_at p.plan p.state q (i + suc n) ≡ true = rw is f.blocked in
    let free : is_some (bar p.plan (climbed p i (suc n)).state (Climb (i + suc n))) ≡ false = rw on_up refl in
    absurd (cc)

-- so the instruction climbs on to the first stage at which it is blocked
pub record Lift (p : Processor) (i j : ℕ) : Type 0 where
  pub room : IsNone (passenger_at p.state.cells j)
  pub climbs : ClimbsTo p i j
  pub processor : climbed p i (j - i) ≡ with_cells p (cells_lifted p.state.cells i j)

some_steps : (i j : ℕ) → i < j → (n : ℕ) × (j - i ≡ suc n) × (i + suc n ≡ j)
some_steps i j up = (j - i - 1, omega arith, omega arith)

pub lift : (p : Processor) (i j : ℕ) (q : Passenger) → IsProcessor p.plan p.state → bar p.plan p.state (Climb i) ≡ None →
    passenger_at p.state.cells i ≡ Some q → IsFirstBlock p.plan p.state q i j → Lift p i j
lift p i j q facts free rides f =
    let r = rider p i q facts free rides in
    let n = some_steps i j f.higher in
    record {
      room = rw (passed p i j q r f j f.higher (omega arith)) refl;
      climbs = record {
        higher = f.higher;
        each = λ m less. each p i j q r f m (omega arith);
        ends = λ on_up. ends p i j q r f n.0 n.2 (rw n.1 at on_up);
      };
      processor = rw n.1 (climbed_by p i j q r f n.0 (omega arith) ∙ ap (λ (k : ℕ). with_cells p (cells_lifted p.state.cells i k)) n.2);
    }

-- the instruction is there, below the highest stage
climb_rider : (plan : Plan) (c : Cell) (i : ℕ) (d : Cell) (o : Option Passenger) → c.passenger ≡ o → climb_bar plan c i (Some d) ≡ None → IsSome c.passenger
climb_rider plan c i d None e row = absurd (cc)
climb_rider plan c i d (Some q) e row = rw e refl

pub climb-stage : (p : Processor) (i : ℕ) → IsProcessor p.plan p.state → bar p.plan p.state (Climb i) ≡ None →
    (0 < i) × (i < p.plan.stages) × IsSome (passenger_at p.state.cells i)
climb-stage p i facts free = by (cell_at p.state.cells i) (cell_at p.state.cells (i + 1)) refl refl (unbarred p.plan p.state (Climb i) free)
  where
    by : (o a : Option Cell) → cell_at p.state.cells i ≡ o → cell_at p.state.cells (i + 1) ≡ a →
        on o (Some NoSuchSite) (λ c. climb_bar p.plan c i a) ≡ None → (0 < i) × (i < p.plan.stages) × IsSome (on o None (λ c. c.passenger))
    by None a e f row = absurd (cc)
    by (Some c) None e f row = absurd (cc)
    by (Some c) (Some d) e f row =
        let high = stage-high p.state.cells (i + 1) d f in
        let count = facts.stages in
        (stage-low p.state.cells i c e, omega arith, climb_rider p.plan c i d c.passenger refl row)
