-- The first test that holds for the machine's place is the first for the machine.
use Rattle.std.proofs.Common.{◌≡◌, List, Option, Some, None, Result, Ok, Err, refl, sym, subst}
use Rattle.std.specs.Prelude.{IfOk}
use Rattle.mem_regions.specs.Memory.{Memory}
use Rattle.rv_inst.specs.declared.isa.Isa.{Isa}
use Rattle.rv_machine.specs.Machine.{Machine}
use Rattle.cf_layout.specs.Layout.{Plan}
use Rattle.cf_bind.specs.declared.moves.Move.{Move}
use Rattle.cf_bind.specs.declared.moves.Move.TheVariants.{Issue, Emit, Climb, Fall, Meet, Execute, Send, Launch, Slide, Access, Recover, Leave, Exit, Serve}
use Rattle.cf_semantics.specs.state.State.{State}
use Rattle.cf_semantics.specs.state.Layouts.{isa_of}
use Rattle.theory_orders.specs.Wrong.{EndsWrongly, IsStuckWrongly}
use Rattle.mem_changes.specs.Differing.{AreChangesOf}
use Rattle.mem_changes.specs.Images.{IsAsLoaded}
use Rattle.mem_changes.specs.MemoryChanges.{MemoryChanges}
use Rattle.order_rules.specs.declared.rule.Rule.{Rule}
use Rattle.order_model.specs.RuleMoves.{retires_without}
use Rattle.order_model.specs.Situations.{in_memory}
use Rattle.order_machine.specs.Waypoints.{MachinePlace}
use Rattle.order_judging.specs.declared.judging.FailedTest.{FailedTest}
use Rattle.order_judging.specs.declared.judging.FailedTest.TheVariants as kind
use Rattle.order_judging.specs.FirstTests.{IsFirstOfMove, IsFirstOfState, IsMoveJudged, IsStateJudged, state_reached}
use Rattle.order_judging.specs.Judgements.{RetiresApart, EndsApart, IsServedApart, IsServeThat, RestsApart, at_top, lines_without}
use Rattle.order_judging.specs.Places.{IsPlaceOf, next_lines}
use Rattle.order_judging.proofs.Placed.{retires_wrongly, retires_apart, ends_wrongly, ends_apart, serves_wrongly, serves_apart, stuck_in, stuck_out, rests_wrongly, rests_apart}

-- each test may be stated in another way
move_said : (A B C D E F : Type 0) (found : Option FailedTest) → (A → D) → (D → A) → (B → E) → (E → B) → (C → F) → (F → C) → IsFirstOfMove A B C found →
    IsFirstOfMove D E F found
move_said A B C D E F None ad da be eb cf fc h = (λ d. h.0 (da d), λ e. h.1 (eb e), λ f. h.2 (fc f))
move_said A B C D E F (Some kind.Retired) ad da be eb cf fc h = ad h
move_said A B C D E F (Some kind.Ended) ad da be eb cf fc h = (λ d. h.0 (da d), be h.1)
move_said A B C D E F (Some kind.Output) ad da be eb cf fc h = (λ d. h.0 (da d), λ e. h.1 (eb e), cf h.2)
move_said A B C D E F (Some kind.Stuck) ad da be eb cf fc h = h
move_said A B C D E F (Some kind.Memory) ad da be eb cf fc h = h

state_said : (A B D E : Type 0) (found : Option FailedTest) → (A → D) → (D → A) → (B → E) → (E → B) → IsFirstOfState A B found → IsFirstOfState D E found
state_said A B D E None ad da be eb h = (λ d. h.0 (da d), λ e. h.1 (eb e))
state_said A B D E (Some kind.Stuck) ad da be eb h = ad h
state_said A B D E (Some kind.Memory) ad da be eb h = (λ d. h.0 (da d), be h.1)
state_said A B D E (Some kind.Retired) ad da be eb h = h
state_said A B D E (Some kind.Ended) ad da be eb h = h
state_said A B D E (Some kind.Output) ad da be eb h = h

-- what retires does not depend on memory
lines_in : (away : Option Rule) (plan : Plan) (s : State) (mem : Memory) (m : Move) → lines_without away plan s m ≡ lines_without away plan (in_memory s mem) m
unfolding retires_without
lines_in away plan s mem (Issue g) = refl
lines_in away plan s mem Emit = refl
lines_in away plan s mem (Climb i) = refl
lines_in away plan s mem (Fall i) = refl
lines_in away plan s mem (Meet i) = refl
lines_in away plan s mem (Execute i) = refl
lines_in away plan s mem (Send i) = refl
lines_in away plan s mem (Launch i) = refl
lines_in away plan s mem (Slide k c) = refl
lines_in away plan s mem Access = refl
lines_in away plan s mem (Recover i) = refl
lines_in away plan s mem Leave = refl
lines_in away plan s mem Exit = refl
lines_in away plan s mem Serve = refl

-- the first test of a move
pub move_judged : (loaded : Memory) (away : Option Rule) (plan : Plan) (x : Machine) (place : MachinePlace) (s : State) (mem : Memory)
    (m : Move) (t : State) (k : MemoryChanges) (found : Option FailedTest) →
    IsAsLoaded loaded → in_memory t (state_reached away plan (in_memory s mem) m).mem ≡ state_reached away plan (in_memory s mem) m →
    AreChangesOf loaded (state_reached away plan (in_memory s mem) m).mem k →
    IsPlaceOf (isa_of plan) loaded x place →
    IsFirstOfMove (RetiresApart (next_lines (isa_of plan) place.next) (lines_without away plan s m)) (EndsApart place t.ending t.regs k)
    (IsServeThat m (IsServedApart (isa_of plan) loaded place s.regs mem (at_top plan s))) found → IsMoveJudged away plan x (in_memory s mem) m found
move_judged loaded away plan x place s mem m t k found l e a h w =
    let isa = isa_of plan in
    let y : State = in_memory t (state_reached away plan (in_memory s mem) m).mem in
    let lines = lines_in away plan s mem m in
    move_said _ _ _ _ _ _ found
    (λ r. retires_wrongly isa x place.next (lines_without away plan (in_memory s mem) m) h.next (subst (RetiresApart (next_lines isa place.next)) lines r))
    (λ r. subst (RetiresApart (next_lines isa place.next)) (sym lines) (retires_apart isa x place.next (lines_without away plan (in_memory s mem) m) h.next r))
    (λ r. subst (EndsWrongly isa x) e (ends_wrongly isa loaded x place y k l h a r))
    (λ r. ends_apart isa loaded x place y k h a (subst (EndsWrongly isa x) (sym e) r))
    (λ r. serves_wrongly loaded plan x place (in_memory s mem) m h r)
    (λ r. serves_apart loaded plan x place (in_memory s mem) m h r)
    w

-- the same, if memory does not run out
pub move_result : {E : Type 0} (loaded : Memory) (away : Option Rule) (plan : Plan) (place : MachinePlace) (s : State) (mem : Memory)
    (m : Move) (t : State) (k : MemoryChanges) (r : Result (Option FailedTest) E) →
    IsAsLoaded loaded → in_memory t (state_reached away plan (in_memory s mem) m).mem ≡ state_reached away plan (in_memory s mem) m →
    AreChangesOf loaded (state_reached away plan (in_memory s mem) m).mem k →
    IfOk r (λ found. IsFirstOfMove (RetiresApart (next_lines (isa_of plan) place.next) (lines_without away plan s m)) (EndsApart place t.ending t.regs k)
    (IsServeThat m (IsServedApart (isa_of plan) loaded place s.regs mem (at_top plan s))) found) →
    IfOk r (λ found. (x : Machine) → IsPlaceOf (isa_of plan) loaded x place → IsMoveJudged away plan x (in_memory s mem) m found)
move_result loaded away plan place s mem m t k (Ok found) l e a w = λ x h. move_judged loaded away plan x place s mem m t k found l e a h w
move_result loaded away plan place s mem m t k (Err error) l e a w = tt

-- the first test of a state
pub state_judged : (isa : Isa) (loaded : Memory) (x : Machine) (place : MachinePlace) (s : State) (mem : Memory) (k : MemoryChanges)
    (moves : List Move) (found : Option FailedTest) →
    IsAsLoaded loaded → IsPlaceOf isa loaded x place → AreChangesOf loaded mem k → IsFirstOfState (IsStuckWrongly moves s) (RestsApart place s k) found →
    IsStateJudged x moves (in_memory s mem) found
state_judged isa loaded x place s mem k moves found l h a w =
    state_said _ _ _ _ found (stuck_in moves s mem) (stuck_out moves s mem)
    (rests_wrongly isa loaded x place s mem k l h a) (rests_apart isa loaded x place s mem k h a) w
