-- One place of the machine after another.
use Rattle.std.proofs.Common.{◌≡◌, ℕ, suc, ◌+◌, List, [], ◌∷◌, ◌++◌, Some, false, length, refl, sym, ap, subst, ◌∙◌, arith}
use Rattle.mem_regions.specs.Memory.{Memory}
use Rattle.rv_inst.specs.declared.isa.Isa.{Isa}
use Rattle.rv_machine.specs.Hart.{Hart}
use Rattle.rv_machine.specs.Machine.{Machine}
use Rattle.rv_machine.specs.After.{after}
use Rattle.rv_machine.specs.Outcome.{Outcome, Next, Trap, Exit}
use Rattle.rv_machine.specs.Step.{step, step_on, after_output}
use Rattle.rv_machine.specs.declared.outcome.Retired.{Retired}
use Rattle.cf_bind.specs.declared.passenger.End.{End}
use Rattle.cf_semantics.specs.moves.Instructions.{Stops, stepped, step_at, step_here}
use Rattle.mem_changes.specs.Differing.{AreChangesOf}
use Rattle.order_machine.specs.declared.stepping.NextStep.{NextStep}
use Rattle.order_machine.specs.declared.stepping.NextStep.TheVariants.{Retires, Ends}
use Rattle.order_machine.specs.NextSteps.{StepsOn, IsStepMade}
use Rattle.order_machine.specs.Waypoints.{MachinePlace, machine_of, IsStepOf, IsAfter, IsWaypoint, AreWaypoints, is_end, ends_at_last}

-- the step of the hart is that of the machine
step_next : (isa : Isa) (x : Machine) (old : Hart) (n : Machine) (line : Retired) → old ≡ x.hart → x.rest ≡ [] → step_on isa old [] ≡ Next n line →
    step isa x ≡ Next (record n { output = x.output ++ n.output }) line
unfolding step
step_next isa x old n line e r h =
    let at : step_on isa x.hart x.rest ≡ Next n line = ap (step_on isa x.hart) r ∙ ap (λ (o : Hart). step_on isa o []) (sym e) ∙ h in
    ap (after_output x.output) at

step_end : (isa : Isa) (x : Machine) (old : Hart) (e : End) → old ≡ x.hart → x.rest ≡ [] → stepped (step_on isa old []) ≡ Stops e → step_here isa x ≡ Stops e
unfolding step_at step
step_end isa x old e f r h =
    let at : step_on isa x.hart x.rest ≡ step_on isa old [] = ap (step_on isa x.hart) r ∙ ap (λ (o : Hart). step_on isa o []) (sym f) in
    by (step_on isa x.hart x.rest) (ap stepped at ∙ h)
  where
    by : (o : Outcome Machine) → stepped o ≡ Stops e → stepped (after_output x.output o) ≡ Stops e
    by (Next n line) k = absurd (cc)
    by (Trap cause pc detail) k = k
    by (Exit status) k = k

is_next : (isa : Isa) (x : Machine) (old new : Hart) (next : NextStep) → old ≡ x.hart → x.rest ≡ [] → IsStepMade isa old new next → IsStepOf isa x next
is_next isa x old new (Retires line) e r t = (_, step_next isa x old t.next line e r t.is)
is_next isa x old new (Ends f) e r t = step_end isa x old f e r t.is

-- the machine is at this place
pub waypoint_here : (isa : Isa) (loaded : Memory) (start : Machine) (k : ℕ) (old new : Hart) (place : MachinePlace) → IsAfter isa start k old →
    IsStepMade isa old new place.next →
    place.pc ≡ old.pc → place.regs ≡ old.regs → AreChangesOf loaded old.mem place.changes → IsWaypoint isa loaded start k place
waypoint_here isa loaded start k old new place a t p r c = record {
  at = a.at;
  count = a.count;
  rest = a.rest;
  pc = p ∙ ap (λ (h : Hart). h.pc) a.hart;
  regs = r ∙ ap (λ (h : Hart). h.regs) a.hart;
  changes = subst (λ (h : Hart). AreChangesOf loaded h.mem place.changes) a.hart c;
  next = is_next isa a.at old new place.next a.hart a.rest t;
}

-- and one step further
after_next : (isa : Isa) (start x n : Machine) (k : ℕ) (line : Retired) → after isa start k ≡ Some x → step isa x ≡ Next n line →
    after isa start (suc k) ≡ Some n
unfolding after
after_next isa start x n k line e f = rw (e, f) refl

goes_after : (isa : Isa) (start : Machine) (k : ℕ) (old new : Hart) (line : Retired) → IsAfter isa start k old → StepsOn isa old new line →
    IsAfter isa start (suc k) new
goes_after isa start k old new line a t = record {
  at = record t.next { output = a.at.output ++ t.next.output };
  count = after_next isa start a.at _ k line a.count (step_next isa a.at old t.next line a.hart a.rest t.is);
  hart = t.hart;
  rest = t.rest;
}

pub further : (isa : Isa) (start : Machine) (k n : ℕ) (old new : Hart) (next : NextStep) → IsAfter isa start k old → IsStepMade isa old new next →
    is_end next ≡ false → n ≡ suc k → IsAfter isa start n new
further isa start k n old new (Retires line) a t e f = rw f (goes_after isa start k old new line a t)
further isa start k n old new (Ends x) a t e f = absurd (cc)

-- one more place
pub more_places : (isa : Isa) (loaded : Memory) (start : Machine) (k n : ℕ) (places : List MachinePlace) (place : MachinePlace) →
    AreWaypoints isa loaded start k places →
    n ≡ k + length places → IsWaypoint isa loaded start n place → AreWaypoints isa loaded start k (places ++ place ∷ [])
more_places isa loaded start k n [] place a e w = (subst (λ (i : ℕ). IsWaypoint isa loaded start i place) (let f : n ≡ k = omega arith in f) w, tt)
more_places isa loaded start k n (p ∷ places) place a e w = (a.0, more_places isa loaded start (suc k) n places place a.1 (omega arith) w)

pub last_place : (places : List MachinePlace) (place : MachinePlace) → ends_at_last (places ++ place ∷ []) ≡ is_end place.next
last_place [] place = refl
last_place (p ∷ []) place = refl
last_place (p ∷ q ∷ places) place = last_place (q ∷ places) place

pub at_start : (isa : Isa) (h : Hart) → IsAfter isa (machine_of h) 0 h
unfolding after
at_start isa h = record { at = machine_of h; count = refl; hart = refl; rest = refl }

pub ruleset passing = (at_start)
