-- A moment that a run reaches is wrong by none of the tests: if no move leads on, the program has ended or the
-- processor is drained at the sequential machine.
use Rattle.std.proofs.Common.{◌≡◌, List, [], ◌∷◌, filter, Option, Some, Bool, true, false, not, refl, sym, subst, ◌∙◌, arith, length}
use Rattle.rv_machine.specs.Machine.{Machine}
use Rattle.cf_layout.specs.Accepted.{IsAccepted}
use Rattle.cf_layout.specs.Layout.{Plan}
use Rattle.cf_bind.specs.declared.moves.Bar.{Bar}
use Rattle.cf_bind.specs.declared.moves.Move.{Move}
use Rattle.cf_semantics.specs.moves.Bars.{bar}
use Rattle.cf_semantics.specs.moves.Candidates.{all_moves, candidates, other_moves}
use Rattle.cf_semantics.specs.runs.Runs.{IsReached, opened}
use Rattle.cf_semantics.specs.state.Drained.{IsStuck, is_drained}
use Rattle.cf_semantics.specs.state.Options.{is_some}
use Rattle.cf_semantics.specs.state.State.{Moment}
use Rattle.cf_semantics.specs.claims.Determined.{Rests}
use Rattle.cf_semantics.specs.claims.Weight.{is_issue}
use Rattle.theory_refinement.proofs.invariant.Invariant.{HoldsAt, Sound}
use Rattle.theory_refinement.proofs.layouts.Accepted.{accepted_suits}
use Rattle.theory_confluence.proofs.Candidates.{HasShape, no_other_stuck}
use Rattle.theory_confluence.proofs.Laws.{stuck_rests}
use Rattle.theory_confluence.proofs.drains.Apart.{only_issue}
use Rattle.theory_confluence.proofs.drains.Rested.{after_gained}
use Rattle.theory_orders.specs.Wrong.{IsAtMachine, IsRightMoment, RestsRunning, leading}
use Rattle.theory_orders.proofs.Moves.{reached_holds}

-- the other moves among the candidates are among those that lead on
none_leads : (bars : Move → Option Bar) (may_issue : Bool) (moves : List Move) → leading bars may_issue moves ≡ [] →
    other_moves (filter (λ mv. not (is_some (bars mv))) moves) ≡ []
unfolding leading
none_leads bars may_issue [] e = refl
none_leads bars may_issue (mv ∷ moves) e = go (is_some (bars mv)) (is_issue mv) may_issue refl refl refl (none_leads bars may_issue moves)
  where
    go : (b i r : Bool) → is_some (bars mv) ≡ b → is_issue mv ≡ i → may_issue ≡ r →
        (leading bars may_issue moves ≡ [] → other_moves (filter (λ v. not (is_some (bars v))) moves) ≡ []) →
        other_moves (filter (λ v. not (is_some (bars v))) (mv ∷ moves)) ≡ []
    go true i r f g h k = let z = k (grind arith) in grind arith
    go false true true f g h k = absurd (grind arith)
    go false true false f g h k = let z = k (grind arith) in grind arith
    go false false true f g h k = absurd (grind arith)
    go false false false f g h k = absurd (grind arith)

rests_running : (plan : Plan) (x : Machine) (m : Moment) → Rests plan x m → RestsRunning m.state
rests_running plan x m r = (r.drained, (r.at.hart.pc, unfold opened in r.stands.same.fetch))

at_machine : (plan : Plan) (x y : Machine) (m : Moment) → (r : Rests plan x m) → Some r.at ≡ Some y → IsAtMachine y m.state
unfolding opened
at_machine plan x y m r e =
    subst (λ (z : Machine). IsAtMachine z m.state) (same r.at e)
    (record { regs = r.stands.same.regs; mem = r.stands.same.mem; fetch = r.stands.same.fetch })
  where
    same : (z : Machine) → Some z ≡ Some y → z ≡ y
    same z e = cc

has_shape : (plan : Plan) (x : Machine) (m : Moment) → Sound plan m.state m.rest m.output x → HasShape plan m.state
has_shape plan x m s = record { cells = s.size; sidings = s.moored.berths }

-- in a drained moment no move but Issue is allowed
drained_stuck : (plan : Plan) (x : Machine) (m : Moment) → IsAccepted plan → length x.hart.regs ≡ 32 → IsReached plan x m → is_drained m.state ≡ true →
    IsStuck plan m.state
drained_stuck plan x m acc wide reached d = λ mv i e. clash (sym (only_issue plan x m mv (accepted_suits plan acc) e
    (reached_holds plan x m acc wide reached) d) ∙ i)
  where
    clash : true ≡ false → ⊥
    clash e = cc

pub right_moment : (plan : Plan) (x : Machine) (m : Moment) → IsAccepted plan → length x.hart.regs ≡ 32 → IsReached plan x m → IsRightMoment plan x m
unfolding candidates
right_moment plan x m acc wide reached =
    let h = reached_holds plan x m acc wide reached in
    record {
      at = h.machine;
      count = after_gained plan x m h;
      stuck = λ may_issue w.
          let shape = has_shape plan h.machine m (subst (HoldsAt plan m.state m.rest m.output h.machine) w.unended h.stage) in
          let stuck = no_other_stuck plan m.state shape (others may_issue w.none) in
          w.restless (rests_running plan x m (stuck_rests plan x m acc wide reached w.unended stuck));
      rests = λ w.
          let r = stuck_rests plan x m acc wide reached w.unended (drained_stuck plan x m acc wide reached w.drained) in
          w.other (at_machine plan x h.machine m r (sym r.count ∙ after_gained plan x m h));
    }
  where
    others : (may_issue : Bool) → leading (bar plan m.state) may_issue (all_moves plan) ≡ [] → other_moves (candidates plan m.state) ≡ []
    others may_issue e = none_leads (bar plan m.state) may_issue (all_moves plan) e
