-- A move of a run is wrong by none of the tests: what it retires, how it ends the program and what it serves is what the
-- sequential machine does next.
use Rattle.std.proofs.Common.{◌≡◌, ◌⊎◌, inl, inr, ℕ, suc, List, [], ◌∷◌, Some, None, refl, sym, ap, subst, ◌∙◌, arith, length}
use Rattle.rv_machine.specs.Machine.{Machine}
use Rattle.cf_layout.specs.Accepted.{IsAccepted}
use Rattle.cf_layout.specs.Layout.{Plan}
use Rattle.cf_bind.specs.declared.cell.Cell.{Cell}
use Rattle.cf_bind.specs.declared.moves.Move.{Move}
use Rattle.cf_bind.specs.declared.moves.Move.TheVariants.{Access, Climb, Emit, Execute, Exit, Fall, Issue, Launch, Leave, Meet, Recover, Send, Serve, Slide}
use Rattle.cf_bind.specs.declared.passenger.End.{End}
use Rattle.cf_bind.specs.declared.passenger.Passenger.{Passenger}
use Rattle.cf_semantics.specs.moves.Bars.{bar}
use Rattle.cf_semantics.specs.moves.Instructions.{Bad, Fetched, Goes, Got, fetched, step_here}
use Rattle.cf_semantics.specs.moves.Moves.{moved, next}
use Rattle.cf_semantics.specs.runs.Lines.{Line, lines_at, retires}
use Rattle.cf_semantics.specs.runs.Runs.{IsReached}
use Rattle.cf_semantics.specs.state.Layouts.{isa_of}
use Rattle.cf_semantics.specs.state.Passengers.{instruction}
use Rattle.cf_semantics.specs.state.State.{Moment, State}
use Rattle.cf_semantics.specs.claims.Soundness.{Holds}
use Rattle.theory_refinement.proofs.claims.Runs.{Counts, access_counts, climb_counts, emit_counts, execute_counts, exit_counts, fall_counts, going, holds_after, issue_counts, launch_counts, meet_counts, recover_counts, send_counts, serve_counts, slide_counts}
use Rattle.theory_refinement.proofs.invariant.Invariant.{HoldsAfter, IsOver, Sound}
use Rattle.theory_refinement.proofs.invariant.Sure as sure
use Rattle.theory_refinement.proofs.layouts.Accepted.{accepted_suits}
use Rattle.theory_refinement.proofs.moves.Leave.{Left, leave_kept}
use Rattle.theory_refinement.proofs.moves.Rows.{bar_row}
use Rattle.theory_refinement.proofs.moves.Serve.{Serves, scene, serve_ready}
use Rattle.theory_confluence.proofs.drains.Rested.{after_gained}
use Rattle.theory_confluence.proofs.weight.Bound.{sound_at}
use Rattle.theory_orders.specs.Wrong.{EndsRightly, IsRightMove, IsServedRightly, RetiresWrongly, ServesWrongly}

-- what holds of a reached moment
pub reached_holds : (plan : Plan) (x : Machine) (m : Moment) → IsAccepted plan → length x.hart.regs ≡ 32 → IsReached plan x m → HoldsAfter plan x m
reached_holds plan x m acc wide r = subst (HoldsAfter plan x) (sym r.is) (holds_after plan x r.moves (accepted_suits plan acc) wide r.allowed)

-- the lines of a move are none, or those of the machine's step
pub record ShowsStep (plan : Plan) (x : Machine) (m : Moment) (mv : Move) : Type 0 where
  pub lines : (retires plan m.state mv ≡ []) ⊎ (retires plan m.state mv ≡ lines_at (isa_of plan) x)
  pub ends : (e : End) → (next plan m mv).state.ending ≡ Some e → EndsRightly (isa_of plan) x (next plan m mv).state e

-- a move that does not change the ending
quiet : (plan : Plan) (x : Machine) (m : Moment) (mv : Move) → m.state.ending ≡ None → retires plan m.state mv ≡ [] →
    Counts m.state (next plan m mv).state → ShowsStep plan x m mv
quiet plan x m mv none silent c = record { lines = inl silent; ends = λ e f. absurd (some_none e (sym f ∙ c.ending ∙ none)) }
  where
    some_none : (e : End) → Some e ≡ None → ⊥
    some_none e f = cc

leaves : (plan : Plan) (x : Machine) (m : Moment) → m.state.ending ≡ None → Left plan m.state (moved plan m.state Leave) m.rest m.output x →
    ShowsStep plan x m Leave
unfolding next
leaves plan x m none h = go h.how
  where
    t : State
    t = moved plan m.state Leave

    some_none : (e : End) → Some e ≡ None → ⊥
    some_none e f = cc

    go : ((t.ending ≡ m.state.ending) × (t.retired ≡ m.state.retired) × (retires plan m.state Leave ≡ []) × Sound plan t m.rest m.output x)
        ⊎ (((y : Machine) × (step_here (isa_of plan) x ≡ Goes y) × (t.ending ≡ m.state.ending) × (t.retired ≡ suc m.state.retired)
        × (retires plan m.state Leave ≡ lines_at (isa_of plan) x) × Sound plan t m.rest m.output y) ⊎ ((e : End) × (t.ending ≡ Some e)
        × (t.retired ≡ m.state.retired) × (retires plan m.state Leave ≡ []) × IsOver plan t m.rest m.output x e)) → ShowsStep plan x m Leave
    go (inl q) = record { lines = inl q.2; ends = λ e f. absurd (some_none e (sym f ∙ q.0 ∙ none)) }
    go (inr (inl q)) = record { lines = inr q.4; ends = λ e f. absurd (some_none e (sym f ∙ q.2 ∙ none)) }
    go (inr (inr q)) = record {
      lines = inl q.3;
      ends = λ e f. subst (λ (a : End). EndsRightly (isa_of plan) x t a) (same e (sym q.1 ∙ f)) (record { stops = q.4.stops; regs = q.4.regs; mem = q.4.mem });
    }
      where
        same : (e : End) → Some q.0 ≡ Some e → q.0 ≡ e
        same e f = cc

shows_step : (plan : Plan) (x : Machine) (m : Moment) (mv : Move) → bar plan m.state mv ≡ None → Sound plan m.state m.rest m.output x →
    ShowsStep plan x m mv
unfolding next
shows_step plan x m (Issue g) e h = quiet plan x m (Issue g) (going plan m.state (Issue g) e) refl (issue_counts plan m.state g)
shows_step plan x m Emit e h = quiet plan x m Emit (going plan m.state Emit e) refl (emit_counts plan m.state)
shows_step plan x m (Climb i) e h = quiet plan x m (Climb i) (going plan m.state (Climb i) e) refl (climb_counts plan m.state i)
shows_step plan x m (Fall i) e h = quiet plan x m (Fall i) (going plan m.state (Fall i) e) refl (fall_counts plan m.state i)
shows_step plan x m (Meet i) e h = quiet plan x m (Meet i) (going plan m.state (Meet i) e) refl (meet_counts plan m.state i)
shows_step plan x m (Execute i) e h = quiet plan x m (Execute i) (going plan m.state (Execute i) e) refl (execute_counts plan m.state i)
shows_step plan x m (Send i) e h = quiet plan x m (Send i) (going plan m.state (Send i) e) refl (send_counts plan m.state i)
shows_step plan x m (Launch i) e h = quiet plan x m (Launch i) (going plan m.state (Launch i) e) refl (launch_counts plan m.state i)
shows_step plan x m (Slide k c) e h = quiet plan x m (Slide k c) (going plan m.state (Slide k c) e) refl (slide_counts plan m.state k c)
shows_step plan x m Access e h = quiet plan x m Access (going plan m.state Access e) refl (access_counts plan m.state)
shows_step plan x m (Recover i) e h = quiet plan x m (Recover i) (going plan m.state (Recover i) e) refl (recover_counts plan m.state i)
shows_step plan x m Leave e h = leaves plan x m (going plan m.state Leave e) (leave_kept plan m.state x e h)
shows_step plan x m Exit e h = quiet plan x m Exit (going plan m.state Exit e) refl (exit_counts plan m.state)
shows_step plan x m Serve e h = quiet plan x m Serve (going plan m.state Serve e) refl (serve_counts plan m)

-- lines that are none, or the step's, are not wrong
lines_right : (plan : Plan) (x : Machine) (lines : List Line) → (lines ≡ []) ⊎ (lines ≡ lines_at (isa_of plan) x) → RetiresWrongly (isa_of plan) x lines → ⊥
lines_right plan x [] h w = w
lines_right plan x (line ∷ more) (inl e) w = absurd (cc)
lines_right plan x (line ∷ more) (inr e) w = w (sym e)

-- what the machine fetches at its address is the instruction of the highest stage
is_fetched : (p : Passenger) (f : Fetched) → p.ending ≡ None → Holds p f → f ≡ Got (instruction p)
is_fetched p (Got i) n h = ap Got (grind (arith, h))
is_fetched p (Bad e) n h = absurd (let z = h.1 in cc)

served_rightly : (plan : Plan) (x : Machine) (m : Moment) → bar plan m.state Serve ≡ None → Sound plan m.state m.rest m.output x →
    (r : Serves plan m.state) × IsServedRightly (isa_of plan) x m r.who
unfolding sure.SureAt
served_rightly plan x m e h =
    let r = serve_ready plan m.state (bar_row plan m.state Serve e) in
    let c = scene plan m.state x r h in
    let pc : r.who.pc ≡ x.hart.pc = same r.who.pc (c.certain.0.path) in (
      r,
      record {
        pc = pc;
        what = ap (fetched (isa_of plan) x.hart.mem) (sym pc) ∙ is_fetched r.who (fetched (isa_of plan) x.hart.mem r.who.pc) (c.certain.0.unended r.undone)
            c.certain.0.reads;
        answer = rw (← h.regs, ← c.mem, ← c.input) refl;
      },
    )
  where
    same : (a : ℕ) → Some x.hart.pc ≡ Some a → a ≡ x.hart.pc
    same a e = cc

-- there is one highest stage, and one instruction in it
serves_rightly : (plan : Plan) (x : Machine) (m : Moment) (mv : Move) → bar plan m.state mv ≡ None → Sound plan m.state m.rest m.output x →
    ServesWrongly plan x m mv → ⊥
serves_rightly plan x m mv e h w =
    let s = served_rightly plan x m (ap (bar plan m.state) (sym w.0) ∙ e) h in
    let here = same_cell w.1.here s.0.here (sym w.1.at_here ∙ s.0.at_here) in
    let who = same_who w.1.who s.0.who (sym w.1.sits ∙ ap (λ (c : Cell). c.passenger) here ∙ s.0.sits) in
    w.1.otherwise (subst (IsServedRightly (isa_of plan) x m) (sym who) s.1)
  where
    same_cell : (a b : Cell) → Some a ≡ Some b → a ≡ b
    same_cell a b e = cc

    same_who : (a b : Passenger) → Some a ≡ Some b → a ≡ b
    same_who a b e = cc

pub right_move : (plan : Plan) (x : Machine) (m : Moment) (mv : Move) → IsAccepted plan → length x.hart.regs ≡ 32 → IsReached plan x m →
    bar plan m.state mv ≡ None → IsRightMove plan x m mv
right_move plan x m mv acc wide reached e =
    let h = reached_holds plan x m acc wide reached in
    let s : Sound plan m.state m.rest m.output h.machine = sound_at plan x m mv e h in
    let shown = shows_step plan h.machine m mv e s in
    record {
      at = h.machine;
      count = after_gained plan x m h;
      retires = lines_right plan h.machine (retires plan m.state mv) shown.lines;
      ends = λ w. w.2 (shown.ends w.0 w.1);
      serves = serves_rightly plan h.machine m mv e s;
    }
