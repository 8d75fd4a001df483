-- Even over an input whose remaining bytes are unknown, a run has a bounded number of moves for each Issue.
use Rattle.std.proofs.Common.{◌≡◌, ℕ, suc, ◌+◌, ◌*◌, ◌≤◌, List, [], ◌∷◌, ◌++◌, None, sym, ap, ◌∙◌, arith, length, ◌⊎◌, inl, inr}
use Rattle.rv_machine.specs.Machine.{Machine}
use Rattle.cf_layout.specs.Accepted.{IsAccepted}
use Rattle.cf_layout.specs.Layout.{Plan}
use Rattle.cf_bind.specs.declared.moves.Move.{Move}
use Rattle.cf_bind.specs.declared.moves.Move.TheVariants.{Serve}
use Rattle.cf_semantics.specs.moves.Bars.{bar}
use Rattle.cf_semantics.specs.runs.Lines.{Line, retires}
use Rattle.cf_semantics.specs.moves.Moves.{next}
use Rattle.cf_semantics.specs.runs.Runs.{start}
use Rattle.cf_semantics.specs.state.State.{Moment}
use Rattle.cf_semantics.specs.claims.Weight.{counts, is_issue, issues, moves_per_issue, weight}
use Rattle.theory_refinement.proofs.invariant.Invariant.{HoldsAfter}
use Rattle.theory_refinement.proofs.invariant.Suited.{Suits}
use Rattle.theory_refinement.proofs.layouts.Accepted.{accepted_suits}
use Rattle.theory_confluence.proofs.weight.Bound.{costs, opened_weight, sound_at}
use Rattle.theory_unknown_input.specs.UnknownInput.{LeadsTo, finding}
use Rattle.theory_unknown_input.proofs.Invariant.{HoldsAnew}
use Rattle.theory_unknown_input.proofs.Found.{found}
use Rattle.theory_unknown_input.proofs.Rechosen.{over}
use Rattle.theory_unknown_input.proofs.Theorems.{anew_kept, anew_started, held_anew}

-- what a move costs if the invariant holds with the input that the move finds
costs_by : (plan : Plan) (x : Machine) (m : Moment) (mv : Move) → Suits plan → bar plan m.state mv ≡ None → HoldsAfter plan x m →
    suc (weight plan (next plan m mv).state) ≤ weight plan m.state + moves_per_issue plan * counts (is_issue mv) 1
costs_by plan x m mv acc free h = costs plan m h.machine mv acc free (sound_at plan x m mv free h)

-- each move but Issue lowers the weight, whatever it finds of the input, and Issue raises it by less than K
pub costs_anew : (plan : Plan) (start : Machine) (m : Moment) (mv : Move) (rest : List ℕ) (written : List Line) → Suits plan → bar plan m.state mv ≡ None →
    HoldsAnew plan start written m
    → suc (weight plan (next plan (finding rest m) mv).state) ≤ weight plan m.state + moves_per_issue plan * counts (is_issue mv) 1
costs_anew plan start m mv rest written acc free h = go (found plan m mv h.rest rest)
  where
    go : (mv ≡ Serve) ⊎ (next plan (finding rest m) mv ≡ finding rest (next plan (finding h.rest m) mv)) →
        suc (weight plan (next plan (finding rest m) mv).state) ≤ weight plan m.state + moves_per_issue plan * counts (is_issue mv) 1
    go (inl is) = costs_by plan (over rest h.at) (finding rest m) mv acc free (held_anew plan h.at m h.rest rest (sym (ap (bar plan m.state) is)
        ∙ free) h.level h.held h.clear)
    go (inr is) = rw is (costs_by plan h.at (finding h.rest m) mv acc free h.held)

-- and so do several moves
paid : (plan : Plan) (start : Machine) (m last : Moment) (moves : List Move) (written later : List Line) → Suits plan → LeadsTo plan m moves last later →
    HoldsAnew plan start written m
    → length moves + weight plan last.state ≤ weight plan m.state + moves_per_issue plan * issues moves
unfolding LeadsTo
paid plan start m last [] written later acc (same, none) h =
    let e : weight plan last.state ≡ weight plan m.state = ap (λ (t : Moment). weight plan t.state) same in
    omega (arith, e)
paid plan start m last (mv ∷ moves) written later acc (rest, after, free, leads, is) h =
    let a = costs_anew plan start m mv rest written acc free h in
    let b = paid plan start (next plan (finding rest m) mv) last moves (written ++ retires plan m.state mv) after acc leads
    (anew_kept plan start m mv rest written acc free h) in
    let c : moves_per_issue plan * (counts (is_issue mv) 1 + issues moves) ≡ moves_per_issue plan * counts
    (is_issue mv) 1 + moves_per_issue plan * issues moves = grind arith in
    omega (arith, a, b, c)

-- a run from the beginning has at most K moves for each Issue, whatever each move finds of the input
pub run_bounded_anew : (plan : Plan) (x : Machine) (last : Moment) (moves : List Move) (written : List Line) → IsAccepted plan → length x.hart.regs ≡ 32 →
    LeadsTo plan (start plan x) moves last written → length moves ≤ moves_per_issue plan * issues moves
run_bounded_anew plan x last moves written accepted wide leads =
    let p = paid plan x (start plan x) last moves [] written (accepted_suits plan accepted) leads (anew_started plan x wide) in
    let z = opened_weight plan x in
    omega (arith, p, z)

-- with issue held back a run has at most as many moves as the weight of the state from which it starts, whatever each
-- move finds of the input
pub drain_bounded_anew : (plan : Plan) (start : Machine) (m last : Moment) (moves : List Move) (written later : List Line) → IsAccepted plan →
    HoldsAnew plan start written m → LeadsTo plan m moves last later → issues moves ≡ 0 → length moves ≤ weight plan m.state
drain_bounded_anew plan start m last moves written later accepted h leads held =
    let p = paid plan start m last moves written later (accepted_suits plan accepted) leads h in
    let none : moves_per_issue plan * issues moves ≡ 0 = ap (λ (n : ℕ). moves_per_issue plan * n) held ∙ times_zero (moves_per_issue plan) in
    omega (arith, p, none)
  where
    times_zero : (a : ℕ) → a * 0 ≡ 0
    times_zero a = grind arith
