-- A run has at most as many moves as its Issue moves allow for.
use Rattle.std.proofs.Common.{◌≡◌, ℕ, zero, suc, ◌+◌, ◌*◌, ◌<◌, ◌≤◌, List, [], ◌∷◌, ◌++◌, Option, Some, None, Bool, true, false, refl, sym, ap, subst, ◌∙◌, arith, length, length-append}
use Rattle.cf_bind.specs.declared.cell.Cell.{Cell}
use Rattle.cf_bind.specs.declared.moves.Move.{Move}
use Rattle.cf_bind.specs.declared.moves.Move.TheVariants.{Access, Climb, Emit, Execute, Exit, Fall, Issue, Launch, Leave, Meet, Recover, Send, Serve, Slide}
use Rattle.cf_bind.specs.declared.passenger.Guess.{Guess}
use Rattle.cf_bind.specs.declared.passenger.Passenger.{Passenger}
use Rattle.cf_layout.specs.Layout.{Plan, SidingPlan}
use Rattle.theory_refinement.proofs.moves.Execute.{ashore}
use Rattle.theory_confluence.proofs.weight.Falls.{access_falls, climb_falls, emit_falls, execute_falls, exit_falls, fall_falls, launch_falls, leave_falls, meet_falls, recover_falls, send_falls, serve_falls, slide_falls}
use Rattle.theory_refinement.proofs.walks.Fresh.{fresh_is}
use Rattle.theory_refinement.proofs.moves.Issue.{issue_ready, next_issue}
use Rattle.theory_refinement.proofs.moves.Rows.{bar_row}
use Rattle.theory_refinement.proofs.claims.Runs.{going, holds_after, kept}
use Rattle.theory_refinement.proofs.moves.Serve.{serial_aboard}
use Rattle.theory_refinement.proofs.column.Spot.{spot}
use Rattle.theory_refinement.proofs.walks.Stands.{each_back}
use Rattle.theory_refinement.proofs.invariant.Invariant.{HoldsAfter, HoldsAt, Sound}
use Rattle.theory_refinement.proofs.invariant.Stands.{Each, Stands}
use Rattle.theory_refinement.proofs.invariant.Suited.{Suits}
use Rattle.cf_semantics.specs.moves.Bars.{bar}
use Rattle.cf_semantics.specs.state.Column.{Up}
use Rattle.cf_semantics.specs.moves.Instructions.{fetched}
use Rattle.cf_semantics.specs.state.Layouts.{isa_of}
use Rattle.cf_semantics.specs.moves.Moves.{moved, next}
use Rattle.cf_semantics.specs.state.Passengers.{both, fresh, kind, missing, requests}
use Rattle.cf_semantics.specs.runs.Runs.{IsRun, empty_cell, empty_siding, opened, run, start}
use Rattle.cf_semantics.specs.state.State.{Moment, State, cell_at}
use Rattle.cf_semantics.specs.claims.Weight.{cell_weight, cells_weight, counts, is_issue, issues, most_cells, moves_per_issue, op_weight, siding_weight, sidings_weight, weight}
use Rattle.rv_inst.specs.declared.classes.Class.TheVariants.{Serial}
use Rattle.rv_machine.specs.Machine.{Machine}
use Rattle.std.specs.Prelude.{map, replicate}

-- each instruction is at a stage where it may be
pub stands_at : {rest out : List ℕ} (l : Plan) (s : State) (x : Machine) (i : ℕ) (c : Cell) (p : Passenger) → cell_at s.cells i ≡ Some c →
    c.passenger ≡ Some p → Sound l s rest out x → Stands l i p
stands_at {rest} {out} l s x i c p e f h =
    let q = spot s i c p e f in
    let each = each_back l q.above ((Up i p ∷ []) ++ q.below) (subst (Each l) q.was h.stands) in
    each.0

aboard : (l : Plan) (p : Passenger) → Suits l → kind p ≡ Serial → p.dead ≡ false → p.done ≡ false → Stands l l.stages p → p.launched ≡ false
aboard l p acc k d u h = go p.launched p.recovered refl refl
  where
    go : (a b : Bool) → p.launched ≡ a → p.recovered ≡ b → p.launched ≡ false
    go false b e f = e
    go true true e f = absurd (let z = h.back_done f d in cc)
    go true false e f = absurd (serial_aboard l acc p k (h.out e f))

-- Issue
pub asks_size : (a b : Option ℕ) → length (both a b) ≤ 2
asks_size a b = grind arith

issue_cell : (n d : ℕ) (c : Cell) (p : Passenger) → 0 < n → c.passenger ≡ None → p.owes ≡ None →
    cell_weight n d 1 (record c { passenger = Some p; met = false }) ≤ cell_weight n d 1 c + (2 * n + (2 * n + (d + 3)))
unfolding cell_weight
issue_cell n d c p l e f = grind arith

more_lane : (k a r : ℕ) → r ≤ 2 → k * (a + r) ≤ k * a + (k + k)
more_lane k a zero e = let h : k * (a + 0) ≡ k * a = grind arith in omega (arith, h)
more_lane k a (suc zero) e = let h : k * (a + 1) ≡ k * a + k = grind arith in omega (arith, h)
more_lane k a (suc (suc zero)) e = let h : k * (a + 2) ≡ k * a + (k + k) = grind arith in omega (arith, h)
more_lane k a (suc (suc (suc r))) e = absurd (omega arith)

issue_rises : (l : Plan) (s : State) (g : Guess) → length s.cells ≡ l.stages → bar l s (Issue g) ≡ None →
    suc (weight l (moved l s (Issue g))) ≤ weight l s + moves_per_issue l
unfolding weight moves_per_issue
issue_rises l s g z e =
    let r = issue_ready l s g (bar_row l s (Issue g) e) in
    let p : Passenger = fresh s.cache (fetched (isa_of l) s.mem r.pc) r.pc g in
    let n = fresh_is (fetched (isa_of l) s.mem r.pc) s.cache r.pc g in
    let size : suc (length r.others) ≡ l.stages = ap length (sym r.cells) ∙ z in
    let c = issue_cell l.stages (most_cells l.sidings) r.here p (omega arith) r.free n.owes in
    let lane = more_lane (2 * l.stages + 1) (length s.lane) (length (requests p)) (asks_size (missing p.src1) (missing p.src2)) in
    let both : (2 * l.stages + 1) * length (s.lane ++ requests p) ≡ (2 * l.stages + 1) * (length s.lane + length (requests p)) =
    ap (λ (j : ℕ). (2 * l.stages + 1) * j) (length-append s.lane (requests p)) in
    let was : cells_weight l.stages (most_cells l.sidings) 1 s.cells ≡ cell_weight l.stages (most_cells l.sidings) 1 r.here + cells_weight l.stages
    (most_cells l.sidings) 2 r.others = ap (cells_weight l.stages (most_cells l.sidings) 1) r.cells in
    rw (next_issue l s g r.here r.others r.pc p r.cells r.runs refl) (sum l.stages (most_cells l.sidings) _ _
    (cells_weight l.stages (most_cells l.sidings) 2 r.others) (sidings_weight s.sidings) _ _ _ c (omega (arith, lane, both)) was)
  where
    sum : (n d a b r q x y w : ℕ) → b ≤ a + (2 * n + (2 * n + (d + 3))) → y ≤ x + ((2 * n + 1) + (2 * n + 1)) → w ≡ a + r →
        suc (((b + r) + q) + y) ≤ ((w + q) + x) + (8 * n + d + 8)
    sum n d a b r q x y w e f g = omega arith

-- each move lowers the weight by at least one, and each Issue raises it by less than K
pub costs : (l : Plan) (m : Moment) (x : Machine) (mv : Move) → Suits l → bar l m.state mv ≡ None → Sound l m.state m.rest m.output x →
    suc (weight l (next l m mv).state) ≤ weight l m.state + moves_per_issue l * counts (is_issue mv) 1
unfolding next
costs l m x mv acc e h = go mv e
  where
    s : State
    s = m.state

    free : (a b : ℕ) → a < b → suc a ≤ b + moves_per_issue l * 0
    free a b f = let z : moves_per_issue l * 0 ≡ 0 = grind arith in omega (arith, f, z)

    go : (mv : Move) → bar l m.state mv ≡ None → suc (weight l (next l m mv).state) ≤ weight l m.state + moves_per_issue l * counts (is_issue mv) 1
    go (Issue g) e = let z : moves_per_issue l * 1 ≡ moves_per_issue l = grind arith in let y = issue_rises l s g h.size e in omega (arith, y, z)
    go Emit e = free _ _ (emit_falls l s h.size e)
    go (Climb i) e = free _ _ (climb_falls l s i h.size e)
    go (Fall i) e = free _ _ (fall_falls l s i e)
    go (Meet i) e = free _ _ (meet_falls l s i e)
    go (Execute i) e = free _ _ (execute_falls l s i (λ p c f g u d n. ashore l acc i p u d n (stands_at l s x i c p f g h)) e)
    go (Send i) e = free _ _ (send_falls l s i h.size e)
    go (Launch i) e = free _ _ (launch_falls l s x i acc e h)
    go (Slide j c) e = free _ _ (slide_falls l s j c e)
    go Access e = free _ _ (access_falls l s x acc e h)
    go (Recover i) e = free _ _ (recover_falls l s x i acc e h (λ p d o n c f g. (stands_at l s x i c p f g h).out_undone d o n))
    go Leave e = free _ _ (leave_falls l s e)
    go Exit e = free _ _ (exit_falls l s e)
    go Serve e = free _ _ (serve_falls l m (λ r. aboard l r.who acc r.serial r.live r.undone (stands_at l s x l.stages r.here r.who r.at_here r.sits h)) e)

-- if a move is allowed, the program has not ended and the state is sound
pub sound_at : (l : Plan) (x0 : Machine) (m : Moment) (mv : Move) → bar l m.state mv ≡ None → (h : HoldsAfter l x0 m) →
    Sound l m.state m.rest m.output h.machine
sound_at l x0 m mv e h = subst (HoldsAt l m.state m.rest m.output h.machine) (going l m.state mv e) h.stage

pub paid : (l : Plan) (x0 : Machine) (m : Moment) (moves : List Move) → Suits l → IsRun l m moves → HoldsAfter l x0 m →
    length moves + weight l (run l m moves).state ≤ weight l m.state + moves_per_issue l * issues moves
unfolding IsRun run
paid l x0 m [] acc r h = omega arith
paid l x0 m (mv ∷ moves) acc r h =
    let a = costs l m h.machine mv acc r.0 (sound_at l x0 m mv r.0 h) in
    let b = paid l x0 (next l m mv) moves acc r.1 (kept l x0 m mv acc r.0 h) in
    let c : moves_per_issue l * (counts (is_issue mv) 1 + issues moves) ≡ moves_per_issue l * counts (is_issue mv) 1 + moves_per_issue l * issues moves =
    grind arith in
    omega (arith, a, b, c)

-- the state at the beginning weighs nothing
empty_cell_weighs : (n d i : ℕ) → cell_weight n d i empty_cell ≡ 0
unfolding cell_weight
empty_cell_weighs n d i = refl

no_cells : (n d i k : ℕ) → cells_weight n d i (replicate k empty_cell) ≡ 0
no_cells n d i zero = refl
no_cells n d i (suc k) = let a = empty_cell_weighs n d i in let b = no_cells n d (suc i) k in omega (arith, a, b)

no_op : (n c : ℕ) → op_weight n c None ≡ 0
unfolding op_weight
no_op n c = refl

no_ops : (n c k : ℕ) → siding_weight n c (replicate k None) ≡ 0
no_ops n c zero = refl
no_ops n c (suc k) = let a = no_op n c in let b = no_ops n (suc c) k in omega (arith, a, b)

no_sidings : (q : List SidingPlan) → sidings_weight (map empty_siding q) ≡ 0
no_sidings [] = refl
no_sidings (n ∷ q) = let a = no_ops (length (empty_siding n)) 0 n.cells in let b = no_sidings q in omega (arith, a, b)

pub opened_weight : (l : Plan) (x : Machine) → weight l (opened l x) ≡ 0
unfolding weight opened
opened_weight l x =
    let a = no_cells l.stages (most_cells l.sidings) 1 l.stages in
    let b = no_sidings l.sidings in
    let c : (2 * l.stages + 1) * 0 ≡ 0 = grind arith in
    omega (arith, a, b, c)

-- a run from the beginning has at most K moves for each Issue
pub bounded_run : (l : Plan) (x0 : Machine) (moves : List Move) → Suits l → length x0.hart.regs ≡ 32 → IsRun l (start l x0) moves →
    length moves ≤ moves_per_issue l * issues moves
unfolding run
bounded_run l x0 moves acc w r =
    let p = paid l x0 (start l x0) moves acc r (holds_after l x0 [] acc w nothing) in
    let z = opened_weight l x0 in
    omega (arith, p, z)
  where
    nothing : IsRun l (start l x0) []
    nothing = unfold IsRun in tt

-- with Issue held back, a run from a reached moment has at most as many moves as the weight
pub bounded_drain : (l : Plan) (x0 : Machine) (m : Moment) (more : List Move) → Suits l → HoldsAfter l x0 m → IsRun l m more → issues more ≡ 0 →
    length more ≤ weight l m.state
bounded_drain l x0 m more acc h q z =
    let p = paid l x0 m more acc q h in
    let y : moves_per_issue l * issues more ≡ 0 = ap (λ (n : ℕ). moves_per_issue l * n) z ∙ times_zero (moves_per_issue l) in
    omega (arith, p, y)
  where
    times_zero : (a : ℕ) → a * 0 ≡ 0
    times_zero a = grind arith
