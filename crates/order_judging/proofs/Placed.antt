-- The tests against the machine are the tests against its place.
use Rattle.std.proofs.Common.{◌≡◌, ◌∙◌, ℕ, zero, suc, ◌+◌, List, [], ◌∷◌, Option, Some, None, refl, sym, ap, subst, arith}
use Rattle.std.specs.Prelude.{slice_get}
use Rattle.mem_regions.specs.Memory.{Memory}
use Rattle.rv_inst.specs.declared.instruction.Instr.{Instr}
use Rattle.rv_inst.specs.declared.isa.Isa.{Isa}
use Rattle.rv_machine.specs.After.{after}
use Rattle.rv_machine.specs.Machine.{Machine}
use Rattle.rv_machine.specs.Outcome.{Outcome, Next, Trap, Exit}
use Rattle.rv_machine.specs.Step.{step}
use Rattle.cf_layout.specs.Layout.{Plan}
use Rattle.cf_bind.specs.declared.cell.Cell.{Cell}
use Rattle.cf_bind.specs.declared.moves.Move.{Move}
use Rattle.cf_bind.specs.declared.moves.Move.TheVariants.{Issue, Emit, Climb, Fall, Meet, Execute, Send, Launch, Slide, Access, Recover, Leave, Exit as ExitMove, Serve}
use Rattle.cf_bind.specs.declared.packet.Fetch.TheVariants.{Running}
use Rattle.cf_bind.specs.declared.passenger.End.{End}
use Rattle.cf_bind.specs.declared.passenger.Passenger.{Passenger}
use Rattle.cf_semantics.specs.moves.Instructions.{Stops, fetched, serve_of, step_at, step_here, stepped}
use Rattle.cf_semantics.specs.runs.Lines.{Line, lines_at, lines_in}
use Rattle.cf_semantics.specs.state.Drained.{is_drained}
use Rattle.cf_semantics.specs.state.Options.{on}
use Rattle.cf_semantics.specs.state.State.{State, cell_at}
use Rattle.cf_semantics.specs.state.Layouts.{isa_of}
use Rattle.cf_semantics.specs.state.Passengers.{instruction}
use Rattle.theory_orders.specs.Wrong.{RetiresWrongly, EndsRightly, EndsWrongly, IsServedRightly, IsServedWrongly, ServesWrongly, IsStuckWrongly, IsAtMachine, RestsWrongly}
use Rattle.mem_changes.specs.Applied.{memory_after}
use Rattle.mem_changes.specs.Differing.{AreChangesOf}
use Rattle.mem_changes.specs.Images.{IsAsLoaded}
use Rattle.mem_changes.specs.MemoryChanges.{MemoryChanges}
use Rattle.mem_changes.proofs.Once.{listed_once}
use Rattle.order_model.specs.Situations.{lone_moment, in_memory}
use Rattle.order_machine.specs.declared.stepping.NextStep.{NextStep}
use Rattle.order_machine.specs.declared.stepping.NextStep.TheVariants.{Retires, Ends}
use Rattle.order_machine.specs.Judgements.{EndsWithState, RestsAs}
use Rattle.order_machine.specs.Waypoints.{MachinePlace, AreWaypoints, IsStepOf, IsWaypoint}
use Rattle.order_judging.specs.Judgements.{RetiresApart, EndsApart, IsServedAs, IsServedApart, IsServeThat, RestsApart, at_top}
use Rattle.order_judging.specs.Places.{IsPlaceOf, machine_memory, next_lines}

-- the place of the machine after k steps is that of the same machine after k steps
pub place_of : (isa : Isa) (loaded : Memory) (start x : Machine) (k : ℕ) (place : MachinePlace) → IsWaypoint isa loaded start k place →
    after isa start k ≡ Some x → IsPlaceOf isa loaded x place
place_of isa loaded start x k place w e = subst (λ (y : Machine). IsPlaceOf isa loaded y place) (same w.at x (sym w.count ∙ e))
    (record { rest = w.rest; pc = w.pc; regs = w.regs; changes = w.changes; next = w.next }) where
      same : (m n : Machine) → Some m ≡ Some n → m ≡ n
      same m n f = cc

-- of the places after k steps, k + 1 steps and so on, the one at an index is that of the machine after this many more
-- steps
pub place_at : (isa : Isa) (loaded : Memory) (start x : Machine) (k i : ℕ) (places : List MachinePlace) (place : MachinePlace) →
    AreWaypoints isa loaded start k places →
    slice_get places i ≡ Some place → after isa start (k + i) ≡ Some x → IsPlaceOf isa loaded x place
place_at isa loaded start x k i [] place a e f = absurd (cc)
place_at isa loaded start x k zero (p ∷ places) place a e f =
    let same : p ≡ place = cc in
    let here : k + 0 ≡ k = omega arith in
    subst (IsPlaceOf isa loaded x) same (place_of isa loaded start x k p a.0 (subst (λ (n : ℕ). after isa start n ≡ Some x) here f))
place_at isa loaded start x k (suc i) (p ∷ places) place a e f =
    let further : k + suc i ≡ suc k + i = omega arith in
    place_at isa loaded start x (suc k) i places place a.1 e (subst (λ (n : ℕ). after isa start n ≡ Some x) further f)

-- the machine's next line is the line of its next step
lines_next : (isa : Isa) (x : Machine) (next : NextStep) → IsStepOf isa x next → lines_at isa x ≡ next_lines isa next
unfolding step_at
lines_next isa x (Retires own) s = ap (lines_in isa) s.1
lines_next isa x (Ends e) s = by (step isa x) s where
  by : (o : Outcome Machine) → stepped o ≡ Stops e → lines_in isa o ≡ []
  by (Next n own) f = absurd (cc)
  by (Trap cause pc detail) f = refl
  by (Exit status) f = refl

pub retires_wrongly : (isa : Isa) (x : Machine) (next : NextStep) (lines : List Line) → IsStepOf isa x next → RetiresApart (next_lines isa next) lines →
    RetiresWrongly isa x lines
retires_wrongly isa x next [] s h = h
retires_wrongly isa x next (line ∷ more) s h = λ e. h (sym (lines_next isa x next s) ∙ e)

pub retires_apart : (isa : Isa) (x : Machine) (next : NextStep) (lines : List Line) → IsStepOf isa x next → RetiresWrongly isa x lines →
    RetiresApart (next_lines isa next) lines
retires_apart isa x next [] s h = h
retires_apart isa x next (line ∷ more) s h = λ e. h (lines_next isa x next s ∙ e)

-- the machine's next step ends in this way if its place says so
stops_next : (isa : Isa) (x : Machine) (next : NextStep) (e : End) → IsStepOf isa x next → step_here isa x ≡ Stops e → next ≡ Ends e
unfolding step_at
stops_next isa x (Retires own) e s h = absurd (let g : Stops e ≡ stepped (Next s.0 own) = sym h ∙ ap stepped s.1 in cc)
stops_next isa x (Ends f) e s h = let g : Stops f ≡ Stops e = sym s ∙ h in cc

next_stops : (isa : Isa) (x : Machine) (next : NextStep) (e : End) → IsStepOf isa x next → next ≡ Ends e → step_here isa x ≡ Stops e
next_stops isa x (Retires own) e s h = absurd (cc)
next_stops isa x (Ends f) e s h = let g : f ≡ e = cc in s ∙ ap Stops g

-- two memories are the same if their changes are
changes_same : (loaded m other : Memory) (j k : MemoryChanges) → IsAsLoaded loaded → AreChangesOf loaded m j → AreChangesOf loaded other k → m ≡ other → j ≡ k
changes_same loaded m other j k l a b e = listed_once loaded other j k l (subst (λ (w : Memory). AreChangesOf loaded w j) e a) b

memory_same : (loaded m other : Memory) (j k : MemoryChanges) → AreChangesOf loaded m j → AreChangesOf loaded other k → j ≡ k → m ≡ other
memory_same loaded m other j k a b e = a.makes ∙ ap (λ (i : MemoryChanges). memory_after i loaded) e ∙ sym b.makes

ends_rightly : (isa : Isa) (loaded : Memory) (x : Machine) (place : MachinePlace) (t : State) (k : MemoryChanges) (e : End) → IsPlaceOf isa loaded x place →
    AreChangesOf loaded t.mem k → EndsWithState place e t.regs k → EndsRightly isa x t e
ends_rightly isa loaded x place t k e h a w = record {
  stops = next_stops isa x place.next e h.next w.0;
  regs = w.1.0 ∙ h.regs;
  mem = memory_same loaded t.mem x.hart.mem k place.changes a h.changes w.1.1;
}

ends_with_state : (isa : Isa) (loaded : Memory) (x : Machine) (place : MachinePlace) (t : State) (k : MemoryChanges) (e : End) → IsAsLoaded loaded →
    IsPlaceOf isa loaded x place →
    AreChangesOf loaded t.mem k → EndsRightly isa x t e → EndsWithState place e t.regs k
ends_with_state isa loaded x place t k e l h a r =
    (stops_next isa x place.next e h.next r.stops, (r.regs ∙ sym h.regs, changes_same loaded t.mem x.hart.mem k place.changes l a h.changes r.mem))

pub ends_wrongly : (isa : Isa) (loaded : Memory) (x : Machine) (place : MachinePlace) (t : State) (k : MemoryChanges) → IsAsLoaded loaded →
    IsPlaceOf isa loaded x place →
    AreChangesOf loaded t.mem k → EndsApart place t.ending t.regs k → EndsWrongly isa x t
ends_wrongly isa loaded x place t k l h a w = go t.ending refl w where
  go : (o : Option End) → t.ending ≡ o → EndsApart place o t.regs k → EndsWrongly isa x t
  go None e w = absurd w
  go (Some end) e w = (end, e, λ r. w (ends_with_state isa loaded x place t k end l h a r))

pub ends_apart : (isa : Isa) (loaded : Memory) (x : Machine) (place : MachinePlace) (t : State) (k : MemoryChanges) → IsPlaceOf isa loaded x place →
    AreChangesOf loaded t.mem k → EndsWrongly isa x t → EndsApart place t.ending t.regs k
ends_apart isa loaded x place t k h a w =
    subst (λ (o : Option End). EndsApart place o t.regs k) (sym w.1) (λ r. w.2 (ends_rightly isa loaded x place t k w.0 h a r))

-- the machine makes the same request as at its place
served_there : (isa : Isa) (loaded : Memory) (x : Machine) (place : MachinePlace) (i : Instr) → IsPlaceOf isa loaded x place →
    serve_of i place.regs (machine_memory loaded place) [] ≡ serve_of i x.hart.regs x.hart.mem x.rest
served_there isa loaded x place i h = ap (λ (l : List ℕ). serve_of i l (machine_memory loaded place) []) h.regs
    ∙ ap (λ (w : Memory). serve_of i x.hart.regs w []) (sym h.changes.makes) ∙ ap (λ (l : List ℕ). serve_of i x.hart.regs x.hart.mem l) (sym h.rest)

fetched_there : (isa : Isa) (loaded : Memory) (x : Machine) (place : MachinePlace) → IsPlaceOf isa loaded x place →
    fetched isa (machine_memory loaded place) place.pc ≡ fetched isa x.hart.mem x.hart.pc
fetched_there isa loaded x place h = ap (λ (n : ℕ). fetched isa (machine_memory loaded place) n) h.pc
    ∙ ap (λ (w : Memory). fetched isa w x.hart.pc) (sym h.changes.makes)

served_rightly : (isa : Isa) (loaded : Memory) (x : Machine) (place : MachinePlace) (s : State) (p : Passenger) → IsPlaceOf isa loaded x place →
    IsServedAs isa loaded place s.regs s.mem p → IsServedRightly isa x (lone_moment s) p
served_rightly isa loaded x place s p h r = record {
  pc = r.pc ∙ h.pc;
  what = sym (fetched_there isa loaded x place h) ∙ r.what;
  answer = r.answer ∙ served_there isa loaded x place (instruction p) h;
}

served_as : (isa : Isa) (loaded : Memory) (x : Machine) (place : MachinePlace) (s : State) (p : Passenger) → IsPlaceOf isa loaded x place →
    IsServedRightly isa x (lone_moment s) p → IsServedAs isa loaded place s.regs s.mem p
served_as isa loaded x place s p h r = record {
  pc = r.pc ∙ sym h.pc;
  what = fetched_there isa loaded x place h ∙ r.what;
  answer = r.answer ∙ sym (served_there isa loaded x place (instruction p) h);
}

served_wrongly : (loaded : Memory) (plan : Plan) (x : Machine) (place : MachinePlace) (s : State) → IsPlaceOf (isa_of plan) loaded x place →
    IsServedApart (isa_of plan) loaded place s.regs s.mem (at_top plan s) → IsServedWrongly plan x (lone_moment s)
served_wrongly loaded plan x place s h w = go (cell_at s.cells plan.stages) refl w where
  sat : (c : Cell) (o : Option Passenger) → cell_at s.cells plan.stages ≡ Some c → c.passenger ≡ o →
      IsServedApart (isa_of plan) loaded place s.regs s.mem o → IsServedWrongly plan x (lone_moment s)
  sat c None e f w = absurd w
  sat c (Some p) e f w = record { here = c; at_here = e; who = p; sits = f; otherwise = λ r. w (served_as (isa_of plan) loaded x place s p h r) }

  go : (o : Option Cell) → cell_at s.cells plan.stages ≡ o → IsServedApart (isa_of plan) loaded place s.regs s.mem (on o None (λ c. c.passenger)) →
      IsServedWrongly plan x (lone_moment s)
  go None e w = absurd w
  go (Some c) e w = sat c c.passenger e refl w

served_apart : (loaded : Memory) (plan : Plan) (x : Machine) (place : MachinePlace) (s : State) → IsPlaceOf (isa_of plan) loaded x place →
    IsServedWrongly plan x (lone_moment s) → IsServedApart (isa_of plan) loaded place s.regs s.mem (at_top plan s)
served_apart loaded plan x place s h w =
    let top : at_top plan s ≡ Some w.who = ap (λ (o : Option Cell). on o None (λ c. c.passenger)) w.at_here ∙ w.sits in
    subst (IsServedApart (isa_of plan) loaded place s.regs s.mem) (sym top) (λ r. w.otherwise (served_rightly (isa_of plan) loaded x place s w.who h r))

pub serves_wrongly : (loaded : Memory) (plan : Plan) (x : Machine) (place : MachinePlace) (s : State) (m : Move) → IsPlaceOf (isa_of plan) loaded x place →
    IsServeThat m (IsServedApart (isa_of plan) loaded place s.regs s.mem (at_top plan s)) → ServesWrongly plan x (lone_moment s) m
serves_wrongly loaded plan x place s (Issue g) h w = absurd w
serves_wrongly loaded plan x place s Emit h w = absurd w
serves_wrongly loaded plan x place s (Climb i) h w = absurd w
serves_wrongly loaded plan x place s (Fall i) h w = absurd w
serves_wrongly loaded plan x place s (Meet i) h w = absurd w
serves_wrongly loaded plan x place s (Execute i) h w = absurd w
serves_wrongly loaded plan x place s (Send i) h w = absurd w
serves_wrongly loaded plan x place s (Launch i) h w = absurd w
serves_wrongly loaded plan x place s (Slide k c) h w = absurd w
serves_wrongly loaded plan x place s Access h w = absurd w
serves_wrongly loaded plan x place s (Recover i) h w = absurd w
serves_wrongly loaded plan x place s Leave h w = absurd w
serves_wrongly loaded plan x place s ExitMove h w = absurd w
serves_wrongly loaded plan x place s Serve h w = (refl, served_wrongly loaded plan x place s h w)

pub serves_apart : (loaded : Memory) (plan : Plan) (x : Machine) (place : MachinePlace) (s : State) (m : Move) → IsPlaceOf (isa_of plan) loaded x place →
    ServesWrongly plan x (lone_moment s) m → IsServeThat m (IsServedApart (isa_of plan) loaded place s.regs s.mem (at_top plan s))
serves_apart loaded plan x place s m h w =
    subst (λ (mv : Move). IsServeThat mv (IsServedApart (isa_of plan) loaded place s.regs s.mem (at_top plan s))) (sym w.0)
    (served_apart loaded plan x place s h w.1)

drained_in : (s : State) (mem : Memory) → is_drained (in_memory s mem) ≡ is_drained s
unfolding is_drained
drained_in s mem = refl

pub stuck_in : (moves : List Move) (s : State) (mem : Memory) → IsStuckWrongly moves s → IsStuckWrongly moves (in_memory s mem)
stuck_in moves s mem w = record { none = w.none; unended = w.unended; restless = λ r. w.restless (sym (drained_in s mem) ∙ r.0, r.1) }

pub stuck_out : (moves : List Move) (s : State) (mem : Memory) → IsStuckWrongly moves (in_memory s mem) → IsStuckWrongly moves s
stuck_out moves s mem w = record { none = w.none; unended = w.unended; restless = λ r. w.restless (drained_in s mem ∙ r.0, r.1) }

at_machine : (isa : Isa) (loaded : Memory) (x : Machine) (place : MachinePlace) (s : State) (k : MemoryChanges) → IsPlaceOf isa loaded x place →
    AreChangesOf loaded s.mem k →
    RestsAs place s.fetch s.regs k → IsAtMachine x s
at_machine isa loaded x place s k h a r = record {
  regs = r.1.0 ∙ h.regs;
  mem = memory_same loaded s.mem x.hart.mem k place.changes a h.changes r.1.1;
  fetch = r.0 ∙ ap Running h.pc;
}

rests_as : (isa : Isa) (loaded : Memory) (x : Machine) (place : MachinePlace) (s : State) (k : MemoryChanges) → IsAsLoaded loaded →
    IsPlaceOf isa loaded x place → AreChangesOf loaded s.mem k →
    IsAtMachine x s → RestsAs place s.fetch s.regs k
rests_as isa loaded x place s k l h a r =
    (r.fetch ∙ ap Running (sym h.pc), (r.regs ∙ sym h.regs, changes_same loaded s.mem x.hart.mem k place.changes l a h.changes r.mem))

pub rests_wrongly : (isa : Isa) (loaded : Memory) (x : Machine) (place : MachinePlace) (s : State) (mem : Memory) (k : MemoryChanges) → IsAsLoaded loaded →
    IsPlaceOf isa loaded x place →
    AreChangesOf loaded mem k → RestsApart place s k → RestsWrongly x (in_memory s mem)
rests_wrongly isa loaded x place s mem k l h a w = record {
  drained = drained_in s mem ∙ w.0;
  unended = w.1;
  other = λ r. w.2 (rests_as isa loaded x place (in_memory s mem) k l h a r);
}

pub rests_apart : (isa : Isa) (loaded : Memory) (x : Machine) (place : MachinePlace) (s : State) (mem : Memory) (k : MemoryChanges) →
    IsPlaceOf isa loaded x place →
    AreChangesOf loaded mem k → RestsWrongly x (in_memory s mem) → RestsApart place s k
rests_apart isa loaded x place s mem k h a w =
    (sym (drained_in s mem) ∙ w.drained, w.unended, λ r. w.other (at_machine isa loaded x place (in_memory s mem) k h a r))
