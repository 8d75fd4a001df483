-- Whichever rule is taken away, each move but Issue lowers the weight.
use Rattle.std.proofs.Common.{◌≡◌, ℕ, suc, ◌+◌, ◌-◌, ◌*◌, ◌<◌, ◌≤◌, List, Option, Some, None, Bool, true, false, cond, refl, sym, ap, subst, ◌∙◌, arith, length}
use Rattle.std.specs.Prelude.{not, ◌&&◌}
use Rattle.cf_bind.specs.declared.cell.Cell.{Cell}
use Rattle.cf_bind.specs.declared.cell.Op.{Op}
use Rattle.cf_bind.specs.declared.packet.Packet.{Packet}
use Rattle.cf_bind.specs.declared.packet.Packet.TheVariants.{Value, Turn, Halt}
use Rattle.cf_bind.specs.declared.passenger.Passenger.{Passenger}
use Rattle.cf_bind.specs.Meeting.{Met}
use Rattle.cf_semantics.specs.claims.Weight.{counts}
use Rattle.cf_semantics.specs.moves.Moves.{sent, with_passenger, without_packet, without_passenger}
use Rattle.cf_semantics.specs.state.Options.{on, is_some}
use Rattle.cf_semantics.specs.state.State.{State, cell_at, put_cell, siding_at, with_cell, with_siding}
use Rattle.order_rules.specs.declared.rule.Rule.{Rule}
use Rattle.order_model.specs.RuleMoves.{cancelled_without, cell_met_without, meeting_without, packet_met_without, passenger_met_without}
use Rattle.order_claims.proofs.ending.OrderWeight.{rider_weight, stage_weight, stages_weight, flights_weight, all_flights_weight, lane_weight, order_weight, AreShort}
use Rattle.order_claims.proofs.ending.Weights.{put_stage, put_size, siding_put, still_short}

most : (b : Bool) (m : ℕ) → counts b m ≤ m
most true m = omega arith
most false m = omega arith

-- an instruction that climbs one stage
rider_up : (n d i : ℕ) (p : Passenger) → suc i ≤ n → rider_weight n d (suc i) p + 2 ≡ rider_weight n d i p
unfolding rider_weight
rider_up n d i p h = omega arith

-- one that puts the result that it owes beside it
rider_paid : (n d i : ℕ) (p : Passenger) (k : Packet) → p.owes ≡ Some k → rider_weight n d i (record p { owes = None }) + 2 * n ≡ rider_weight n d i p
unfolding rider_weight
rider_paid n d i p k e = rw e (omega arith)

-- one that is done
pub rider_done : (n d i : ℕ) (p q : Passenger) → p.done ≡ false → q.done ≡ true → q.launched ≡ p.launched → q.recovered ≡ p.recovered →
    rider_weight n d i q < rider_weight n d i p
unfolding rider_weight
rider_done n d i p q e f g h = rw (e, f, g, h) (let owed = most (is_some q.owes) (2 * n) in omega (arith, owed))

-- one that takes its operation back, done by it or not
pub rider_back : (n d i : ℕ) (p q : Passenger) → p.recovered ≡ false → q.recovered ≡ true → q.launched ≡ p.launched →
    counts (not q.done) (2 * n + 1) ≤ counts (not p.done) (2 * n + 1) → rider_weight n d i q ≤ rider_weight n d i p
unfolding rider_weight
rider_back n d i p q e f g h = rw (e, f, g) (let owed = most (is_some q.owes) (2 * n) in omega (arith, owed, h))

-- one that launches
pub rider_out : (n d i : ℕ) (p : Passenger) → p.launched ≡ false → rider_weight n d i (record p { launched = true }) + (d + 2) ≡ rider_weight n d i p
unfolding rider_weight
rider_out n d i p e = rw e (omega arith)

rider_some : (n d i : ℕ) (p : Passenger) → 1 ≤ rider_weight n d i p
unfolding rider_weight
rider_some n d i p = omega arith

rider_most : (n d : ℕ) (p : Passenger) → 0 < n → rider_weight n d 1 p ≤ 8 * n + d + 4
unfolding rider_weight
rider_most n d p h =
    let a = most (not p.done) (2 * n + 1) in
    let b = most (not p.launched) (d + 2) in
    let c = most (not p.recovered) (2 * n) in
    let e = most (is_some p.owes) (2 * n) in omega (arith, a, b, c, e, h)

-- one that has met a result
cancelled_weight : (n d i : ℕ) (away : Option Rule) (p : Passenger) → rider_weight n d i (cancelled_without away p) ≤ rider_weight n d i p
unfolding rider_weight
cancelled_weight n d i away p = grind arith

rider_met : (n d i : ℕ) (away : Option Rule) (p : Passenger) (k : Packet) → rider_weight n d i (meeting_without away p k).passenger ≤ rider_weight n d i p
unfolding meeting_without
rider_met n d i away p k = by p.dead
  where
    live : (k : Packet) → rider_weight n d i (passenger_met_without away k p) ≤ rider_weight n d i p
    live (Value r v) = unfold rider_weight in omega arith
    live (Turn pc) = cancelled_weight n d i away p
    live Halt = cancelled_weight n d i away p

    by : (b : Bool) → rider_weight n d i (cond b (let r : Met = record { passenger = p; packet = Some k } in r)
        (record { passenger = passenger_met_without away k p; packet = packet_met_without away k p })).passenger ≤ rider_weight n d i p
    by true = omega arith
    by false = live k

-- another instruction in a stage
pub rider_put : (n d i : ℕ) (c : Cell) (p q : Passenger) → c.passenger ≡ Some p →
    stage_weight n d i (with_passenger c q) + rider_weight n d i p ≡ stage_weight n d i c + rider_weight n d i q
unfolding stage_weight
rider_put n d i c p q e = rw e (omega arith)

-- two neighbours
pub climb_stages : (n d i : ℕ) (a b : Cell) (p : Passenger) → suc i ≤ n → a.passenger ≡ Some p → b.passenger ≡ None →
    stage_weight n d i (without_passenger a) + stage_weight n d (suc i) (record b { passenger = a.passenger; met = false })
    < stage_weight n d i a + stage_weight n d (suc i) b
unfolding stage_weight
climb_stages n d i a b p l e f = rw (e, f)
    (let up = rider_up n d i p l in let full = most (is_some b.packet && true) 1 in omega (arith, up, full))

pub fall_stages : (n d i : ℕ) (a b : Cell) (k : Packet) → 0 < i → a.packet ≡ None → b.packet ≡ Some k →
    stage_weight n d i (record a { packet = b.packet; met = false }) + stage_weight n d (suc i) (without_packet b)
    < stage_weight n d i a + stage_weight n d (suc i) b
unfolding stage_weight
fall_stages n d i a b k l e f = grind arith

-- one stage
pub send_stage : (n d i : ℕ) (c : Cell) (p : Passenger) (k : Packet) → 0 < i → i ≤ n → c.passenger ≡ Some p → p.owes ≡ Some k → c.packet ≡ None →
    stage_weight n d i (sent p) < stage_weight n d i c
unfolding stage_weight
send_stage n d i c p k l m e f g = let paid = rider_paid n d i p k f in grind arith

pub meet_stage : (n d i : ℕ) (away : Option Rule) (c : Cell) (p : Passenger) (k : Packet) → c.passenger ≡ Some p → c.packet ≡ Some k →
    c.met ≡ false → stage_weight n d i (cell_met_without away c p k) < stage_weight n d i c
unfolding stage_weight
meet_stage n d i away c p k e f g = rw (e, f, g) (by (meeting_without away p k).packet)
  where
    by : (o : Option Packet) → (rider_weight n d i (meeting_without away p k).passenger + on o 0 (λ k. 2 * i - 1)) + counts (is_some o && not (is_some o)) 1
        < (rider_weight n d i p + (2 * i - 1)) + 1
    by None = let met = rider_met n d i away p k in omega (arith, met)
    by (Some o) = let met = rider_met n d i away p k in omega (arith, met)

pub leave_stage : (n d i : ℕ) (c : Cell) (p : Passenger) → c.passenger ≡ Some p → stage_weight n d i (without_passenger c) < stage_weight n d i c
unfolding stage_weight
leave_stage n d i c p e = rw e (let some = rider_some n d i p in omega (arith, some))

pub exit_stage : (n d : ℕ) (c : Cell) (k : Packet) → c.packet ≡ Some k → stage_weight n d 1 (without_packet c) < stage_weight n d 1 c
unfolding stage_weight
exit_stage n d c k e = grind arith

pub emit_stage : (n d i : ℕ) (c : Cell) (k : Packet) → 0 < i → i ≤ n → c.packet ≡ None →
    stage_weight n d i (record c { packet = Some k; met = false }) < stage_weight n d i c + (2 * n + 1)
unfolding stage_weight
emit_stage n d i c k l m e = grind arith

pub issue_stage : (n d : ℕ) (c : Cell) (p : Passenger) → 0 < n → c.passenger ≡ None →
    stage_weight n d 1 (record c { passenger = Some p; met = false }) ≤ stage_weight n d 1 c + (8 * n + d + 5)
unfolding stage_weight
issue_stage n d c p l e = let few = rider_most n d p l in grind arith

-- the state after a move: as many stages, sidings no longer than before, and a weight that is lower, apart from this
-- much
pub record Lowers (n d : ℕ) (s t : State) (more : ℕ) : Type 0 where
  pub cells : length t.cells ≡ length s.cells
  pub sidings : AreShort d t.sidings
  pub weight : suc (order_weight n d t) ≤ order_weight n d s + more

-- another stage
pub stage_lowers : (n d : ℕ) (s : State) (i : ℕ) (c e : Cell) → AreShort d s.sidings → cell_at s.cells i ≡ Some c →
    stage_weight n d i e < stage_weight n d i c → Lowers n d s (with_cell s i e) 0
unfolding order_weight
stage_lowers n d s i c e short there less = record {
  cells = put_size s.cells i e;
  sidings = short;
  weight = let w = put_stage n d s.cells i c e there in omega (arith, w, less);
}

-- another stage, and another siding
pub both_lower : (n d : ℕ) (s : State) (i : ℕ) (c e : Cell) (k : ℕ) (ops : List (Option Op)) → AreShort d s.sidings → cell_at s.cells i ≡ Some c →
    length ops ≤ d → stage_weight n d i e + flights_weight ops < stage_weight n d i c + flights_weight (siding_at s k) →
    Lowers n d s (with_siding (with_cell s i e) k ops) 0
unfolding order_weight
both_lower n d s i c e k ops short there few less = record {
  cells = put_size s.cells i e;
  sidings = still_short d s.sidings k ops short few;
  weight =
      let w = put_stage n d s.cells i c e there in
      let q = siding_put s k ops in omega (arith, w, q, less);
}

-- another siding
pub siding_lowers : (n d : ℕ) (s : State) (k : ℕ) (ops : List (Option Op)) → AreShort d s.sidings → length ops ≤ d →
    flights_weight ops < flights_weight (siding_at s k) → Lowers n d s (with_siding s k ops) 0
unfolding order_weight
siding_lowers n d s k ops short few less = record {
  cells = refl;
  sidings = still_short d s.sidings k ops short few;
  weight = let q = siding_put s k ops in omega (arith, q, less);
}

-- two stages
pub two_lower : (n d : ℕ) (s : State) (i j : ℕ) (a b x y : Cell) → AreShort d s.sidings → cell_at s.cells i ≡ Some a →
    cell_at (put_cell s.cells i x) j ≡ Some b →
    stage_weight n d i x + stage_weight n d j y < stage_weight n d i a + stage_weight n d j b → Lowers n d s (with_cell (with_cell s i x) j y) 0
unfolding order_weight
two_lower n d s i j a b x y short at_a at_b less = record {
  cells = put_size (put_cell s.cells i x) j y ∙ put_size s.cells i x;
  sidings = short;
  weight =
      let w = put_stage n d s.cells i a x at_a in
      let v = put_stage n d (put_cell s.cells i x) j b y at_b in omega (arith, w, v, less);
}

-- a state with the same stages, sidings and lane
pub alike_lowers : (n d : ℕ) (s t u : State) (more : ℕ) → Lowers n d s t more → u.cells ≡ t.cells → u.sidings ≡ t.sidings → u.lane ≡ t.lane →
    Lowers n d s u more
unfolding order_weight
alike_lowers n d s t u more h e f g = record {
  cells = ap (λ (l : List Cell). length l) e ∙ h.cells;
  sidings = subst (AreShort d) (sym f) h.sidings;
  weight =
      let a = ap (stages_weight n d 1) e in
      let b = ap all_flights_weight f in
      let c = ap (lane_weight n) g in omega (arith, a, b, c, h.weight);
}
