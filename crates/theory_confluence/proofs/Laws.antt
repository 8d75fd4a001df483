-- Drain and confluence: where every order of moves leads, for each accepted layout and each machine with its 32
-- registers.
use Rattle.std.proofs.Common.{◌≡◌, ℕ, ◌+◌, ◌*◌, ◌≤◌, suc, List, ◌∷◌, Option, Some, None, true, false, refl, sym, subst, ◌∙◌, arith, length}
use Rattle.std.specs.Prelude.{slice_get}
use Rattle.rv_machine.specs.Machine.{Machine}
use Rattle.cf_layout.specs.Layout.{Plan}
use Rattle.cf_layout.specs.Accepted.{IsAccepted}
use Rattle.cf_bind.specs.declared.moves.Move.{Move}
use Rattle.cf_bind.specs.declared.passenger.End.{End}
use Rattle.cf_semantics.specs.state.State.{Moment}
use Rattle.cf_semantics.specs.moves.Bars.{bar}
use Rattle.cf_semantics.specs.moves.Moves.{next}
use Rattle.cf_semantics.specs.runs.Runs.{IsReached, IsRun, run, start}
use Rattle.cf_semantics.specs.claims.Weight.{counts, is_issue, issues, moves_per_issue, weight}
use Rattle.cf_semantics.specs.state.Drained.{IsStuck, is_drained}
use Rattle.cf_semantics.specs.claims.Determined.{Drains, EndAlike, EndsAs, KeepsRegisters, Rests}
use Rattle.cf_semantics.specs.moves.Sites.{AreIndependent, IsLocal}
use Rattle.cf_semantics.specs.claims.Stutters.{Stutters}
use Rattle.theory_refinement.proofs.invariant.Invariant.{HoldsAfter, HoldsAt, Sound}
use Rattle.theory_refinement.proofs.layouts.Accepted.{accepted_suits}
use Rattle.theory_refinement.proofs.claims.Runs.{holds_after}
use Rattle.theory_refinement.proofs.claims.Stutters.{stutters}
use Rattle.theory_confluence.proofs.drains.Apart.{all_retired, first_move, run_keeps}
use Rattle.theory_confluence.proofs.weight.Bound.{bounded_drain, bounded_run, costs, sound_at}
use Rattle.cf_semantics.specs.moves.Candidates.{candidates, held_back}
use Rattle.theory_confluence.proofs.Candidates.{HasShape, has_some, held_stuck as candidates_held, some_pick as candidates_there}
use Rattle.theory_confluence.proofs.drains.Confluent.{agree, halted_alike, kept_true}
use Rattle.theory_confluence.proofs.drains.Determined.{ends_as}
use Rattle.theory_confluence.proofs.sites.Independent.{bar_after, same_moment, turned_round}
use Rattle.theory_confluence.proofs.drains.Rested.{after_gained, drained_is, rested}
use Rattle.theory_confluence.proofs.sites.Sites.{local}
use Rattle.theory_confluence.proofs.drains.Tidy.{IsTidy, tidy_opened, tidy_run}

reached_holds : (plan : Plan) (x : Machine) (m : Moment) → IsAccepted plan → length x.hart.regs ≡ 32 → IsReached plan x m → HoldsAfter plan x m
reached_holds plan x m acc wide r = subst (HoldsAfter plan x) (sym r.is) (holds_after plan x r.moves (accepted_suits plan acc) wide r.allowed)

reached_tidy : (plan : Plan) (x : Machine) (m : Moment) → IsReached plan x m → IsTidy plan m.state
reached_tidy plan x m r = subst (λ (v : Moment). IsTidy plan v.state) (sym r.is) (tidy_run plan (start plan x) r.moves r.allowed (tidy_opened plan x))

-- each move but Issue lowers the weight, and Issue raises it by less than K
pub move_costs : (plan : Plan) (x : Machine) (m : Moment) (mv : Move) → IsAccepted plan → length x.hart.regs ≡ 32 → IsReached plan x m →
    bar plan m.state mv ≡ None → suc (weight plan (next plan m mv).state) ≤ weight plan m.state + moves_per_issue plan * counts (is_issue mv) 1
move_costs plan x m mv acc wide reached allowed =
    let h = reached_holds plan x m acc wide reached in
    costs plan m h.machine mv (accepted_suits plan acc) allowed (sound_at plan x m mv allowed h)

-- seen from outside, a move either is not a step of the sequential machine or is exactly its next one
pub move_stutters : (plan : Plan) (x : Machine) (m : Moment) (mv : Move) → IsAccepted plan → length x.hart.regs ≡ 32 → IsReached plan x m →
    bar plan m.state mv ≡ None → Stutters plan x m mv
move_stutters plan x m mv acc wide reached allowed = stutters plan x m mv (accepted_suits plan acc) allowed (reached_holds plan x m acc wide reached)

-- and the weight falls at each move but Issue
pub rank_falls : (plan : Plan) (x : Machine) (m : Moment) (mv : Move) → IsAccepted plan → length x.hart.regs ≡ 32 → IsReached plan x m →
    bar plan m.state mv ≡ None → is_issue mv ≡ false → suc (weight plan (next plan m mv).state) ≤ weight plan m.state
rank_falls plan x m mv acc wide reached allowed other =
    let cost = move_costs plan x m mv acc wide reached allowed in
    let none : moves_per_issue plan * counts (is_issue mv) 1 ≡ 0 = rw other (omega arith) in
    omega (arith, cost, none)

-- a run from the beginning has at most K moves for each Issue
pub run_bounded : (plan : Plan) (x : Machine) (moves : List Move) → IsAccepted plan → length x.hart.regs ≡ 32 → IsRun plan (start plan x) moves →
    length moves ≤ moves_per_issue plan * issues moves
run_bounded plan x moves acc wide allowed = bounded_run plan x moves (accepted_suits plan acc) wide allowed

-- a reached state in which no move but Issue is allowed, and that has not ended, is drained at the machine, and Issue
-- is allowed there
pub stuck_rests : (plan : Plan) (x : Machine) (m : Moment) → IsAccepted plan → length x.hart.regs ≡ 32 → IsReached plan x m → m.state.ending ≡ None →
    IsStuck plan m.state → Rests plan x m
stuck_rests plan x m acc wide reached going stuck =
    let h = reached_holds plan x m acc wide reached in
    let q = rested plan x m (accepted_suits plan acc) (reached_tidy plan x m reached) h going stuck in
    record { at = h.machine; count = after_gained plan x m h; drained = drained_is plan h.machine m.state q.drained.same; stands = q.drained; issue = q.issue }

-- with Issue held back a run has at most as many moves as the weight of the state from which it starts
pub drain_bounded : (plan : Plan) (x : Machine) (m : Moment) (moves : List Move) → IsAccepted plan → length x.hart.regs ≡ 32 → IsReached plan x m →
    IsRun plan m moves → issues moves ≡ 0 → length moves ≤ weight plan m.state
drain_bounded plan x m moves acc wide reached allowed held = bounded_drain plan x m moves (accepted_suits plan acc)
    (reached_holds plan x m acc wide reached) allowed held

-- with Issue held back a maximal run retires the instructions on the path; it ends the program with the next step if
-- that is on the path too, and otherwise it ends drained
pub drain_ends : (plan : Plan) (x : Machine) (m t : Moment) → IsAccepted plan → length x.hart.regs ≡ 32 → IsReached plan x m → m.state.ending ≡ None →
    Drains plan m t → EndsAs plan x m t
drain_ends plan x m t acc wide reached going d = ends_as plan x m t (accepted_suits plan acc) (reached_tidy plan x m reached)
    (reached_holds plan x m acc wide reached) going d

-- two such runs end alike
pub drains_agree : (plan : Plan) (x : Machine) (m t u : Moment) → IsAccepted plan → length x.hart.regs ≡ 32 → IsReached plan x m → Drains plan m t →
    Drains plan m u → EndAlike t u
drains_agree plan x m t u acc wide reached d k = go m.state.ending refl
  where
    go : (o : Option End) → m.state.ending ≡ o → EndAlike t u
    go None e = agree plan x m t u (drain_ends plan x m t acc wide reached e d) (drain_ends plan x m u acc wide reached e k)
    go (Some end) e = halted_alike plan m t u end e d k

-- between two drained moments of a program that goes on an instruction retires
pub drained_apart : (plan : Plan) (x : Machine) (m : Moment) (mv : Move) (moves : List Move) → IsAccepted plan → length x.hart.regs ≡ 32 → IsReached plan x m →
    is_drained m.state ≡ true → IsRun plan m (mv ∷ moves) → (run plan m (mv ∷ moves)).state.ending ≡ None → is_drained (run plan m (mv ∷ moves)).state ≡ true →
    suc m.state.retired ≤ (run plan m (mv ∷ moves)).state.retired
unfolding IsRun run
drained_apart plan x m mv moves acc wide reached drained allowed going rests =
    let suits = accepted_suits plan acc in
    let first = first_move plan x m mv suits allowed.0 (reached_holds plan x m acc wide reached) drained in
    all_retired plan x (run plan (next plan m mv) moves) (suc m.state.retired) (run_keeps plan x (next plan m mv) moves
    (suc m.state.retired) suits allowed.1 first) going rests

reached_shape : (plan : Plan) (x : Machine) (m : Moment) → IsAccepted plan → length x.hart.regs ≡ 32 → IsReached plan x m → m.state.ending ≡ None →
    HasShape plan m.state
reached_shape plan x m acc wide reached going =
    let h = reached_holds plan x m acc wide reached in
    let s : Sound plan m.state m.rest m.output h.machine = subst (HoldsAt plan m.state m.rest m.output h.machine) going h.stage in
    record { cells = s.size; sidings = s.moored.berths }

-- while the candidates are held, an Issue is one of them only if no other move is allowed, as the hold rule requires
pub held_stuck : (plan : Plan) (x : Machine) (m : Moment) (k : ℕ) (mv : Move) → IsAccepted plan → length x.hart.regs ≡ 32 → IsReached plan x m →
    m.state.ending ≡ None → slice_get (held_back (candidates plan m.state)) k ≡ Some mv → is_issue mv ≡ true → IsStuck plan m.state
held_stuck plan x m k mv acc wide reached going there issue = candidates_held plan m.state k mv (reached_shape plan x m acc wide reached going) there issue

-- while the program goes on there is a candidate, held or not
pub some_pick : (plan : Plan) (x : Machine) (m : Moment) → IsAccepted plan → length x.hart.regs ≡ 32 → IsReached plan x m → m.state.ending ≡ None →
    (1 ≤ length (candidates plan m.state)) × (1 ≤ length (held_back (candidates plan m.state)))
some_pick plan x m acc wide reached going =
    let p = candidates_there plan m.state (reached_shape plan x m acc wide reached going) (λ stuck. (stuck_rests plan x m acc wide reached going stuck).issue)
    in
    (has_some (candidates plan m.state) p.0.0 p.0.1, has_some (held_back (candidates plan m.state)) p.1.0 p.1.1)

-- in a drained state that has not ended, each cached value is its register's
pub kept_is_true : (plan : Plan) (x : Machine) (m : Moment) → IsAccepted plan → length x.hart.regs ≡ 32 → IsReached plan x m → m.state.ending ≡ None →
    is_drained m.state ≡ true → KeepsRegisters m.state
kept_is_true plan x m acc wide reached going drained = kept_true plan x m (reached_holds plan x m acc wide reached) going drained

-- the table of sites is right for every move
pub move_local : (plan : Plan) (m : Moment) (mv : Move) → IsLocal plan m mv
move_local plan m mv = local plan m mv

-- two independent moves that are allowed in one state: each is allowed after the other, and both orders lead to the
-- same moment
pub independent_swap : (plan : Plan) (m : Moment) (a b : Move) → AreIndependent plan m.state a b → bar plan m.state a ≡ None → bar plan m.state b ≡ None →
    (bar plan (next plan m a).state b ≡ None) × (bar plan (next plan m b).state a ≡ None) × (next plan (next plan m a) b ≡ next plan (next plan m b) a)
independent_swap plan m a b i e f =
    (sym (bar_after plan m a b i e) ∙ f, sym (bar_after plan m b a (turned_round plan m.state a b i) f) ∙ e, same_moment plan m a b i e f)

-- the second of two neighbouring moves is allowed before the first, if the two are independent there
pub independent_before : (plan : Plan) (m : Moment) (a b : Move) → AreIndependent plan m.state a b → bar plan m.state a ≡ None →
    bar plan (next plan m a).state b ≡ None → bar plan m.state b ≡ None
independent_before plan m a b i e f = bar_after plan m a b i e ∙ f
