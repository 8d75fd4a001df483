-- What a trial stores in addition to its terms.
use Rattle.std.proofs.Common.{◌≡◌, ℕ, zero, suc, ◌+◌, ◌-◌, ◌<◌, ◌≤◌, ◌^◌, List, [], ◌∷◌, Option, Some, length, refl, sym, ap, subst, ◌∙◌, arith, inl, inr, ◌⊎◌}
use Rattle.std.specs.Prelude.{IsTrue, slice_get}
use Rattle.mem_regions.specs.Memory.{Memory}
use Rattle.rv_inst.specs.declared.isa.Isa.{Isa}
use Rattle.rv_machine.specs.After.{after}
use Rattle.rv_machine.specs.Hart.{Hart}
use Rattle.rv_machine.specs.Machine.{Machine}
use Rattle.cf_layout.specs.Accepted.{IsEquipped}
use Rattle.cf_layout.specs.Layout.{Plan}
use Rattle.cf_bind.specs.declared.moves.Move.{Move}
use Rattle.cf_semantics.specs.claims.Refines.{gained}
use Rattle.cf_semantics.specs.moves.Candidates.{all_moves}
use Rattle.cf_semantics.specs.state.Layouts.{isa_of}
use Rattle.cf_semantics.specs.state.State.{State}
use Rattle.mem_changes.specs.Differing.{AreChanges}
use Rattle.mem_changes.specs.Images.{IsAsLoaded}
use Rattle.order_rules.specs.declared.rule.Rule.{Rule}
use Rattle.order_machine.specs.Waypoints.{MachinePlace, AreWaypoints, ends_at_last, machine_of}
use Rattle.order_judging.specs.Places.{IsPlaceOf}
use Rattle.order_judging.proofs.Placed.{place_at}
use Rattle.order_claims.specs.Claims.{OrdersEnd, RetiresWhatWasIssued}
use Rattle.order_graph.specs.OrderTrial.{OrderTrial}
use Rattle.order_graph.specs.OrderAnswers.{trial_of}
use Rattle.order_graph.specs.TrialParts.{AreTrialParts, HasPlace, IsSoundTrial, first_hart}
use Rattle.order_graph.proofs.Leading.{few_moves}
use Rattle.order_graph.proofs.Places.{within}

-- the hart at the first place is that of the start
same_start : (x y : Machine) → Some x ≡ Some y → x ≡ y
same_start x y e = cc

pub first_is : (isa : Isa) (loaded : Memory) (hart : Hart) (places : List MachinePlace) (most retired : ℕ) →
    AreWaypoints isa loaded (machine_of hart) 0 places →
    (length places ≡ most + 1) ⊎ IsTrue (ends_at_last places) → hart.mem ≡ loaded → retired ≡ hart.retired → first_hart places loaded retired ≡ hart
unfolding after
first_is isa loaded hart [] most retired a (inl e) f g = absurd (omega arith)
first_is isa loaded hart [] most retired a (inr e) f g = absurd (cc)
first_is isa loaded hart (place ∷ places) most retired a e f g =
    let same : a.0.at ≡ machine_of hart = sym (same_start (machine_of hart) a.0.at a.0.count) in
    let pc : place.pc ≡ hart.pc = a.0.pc ∙ ap (λ (x : Machine). x.hart.pc) same in
    let regs : place.regs ≡ hart.regs = a.0.regs ∙ ap (λ (x : Machine). x.hart.regs) same in
    ap (λ (n : ℕ). let h : Hart = record { pc = n; regs = place.regs; mem = loaded; retired = retired } in h) pc
    ∙ ap (λ (l : List ℕ). let h : Hart = record { pc = hart.pc; regs = l; mem = loaded; retired = retired } in h) regs
    ∙ ap (λ (m : Memory). let h : Hart = record { pc = hart.pc; regs = hart.regs; mem = m; retired = retired } in h) (sym f)
    ∙ ap (λ (n : ℕ). let h : Hart = record { pc = hart.pc; regs = hart.regs; mem = hart.mem; retired = n } in h) g

-- what the parts of a trial say about it
abbrev pub terms_of : Option Rule → Plan → Memory → List MachinePlace → ℕ → ℕ → OrderTrial
terms_of away plan loaded places most retired =
    record { away = away; plan = plan; machine = machine_of (first_hart places loaded retired); most = most }

pub sound_parts : (away : Option Rule) (plan : Plan) (loaded : Memory) (places : List MachinePlace) (moves : List Move) (most retired : ℕ) →
    RetiresWhatWasIssued → OrdersEnd →
    AreTrialParts plan loaded places moves most retired → IsSoundTrial (terms_of away plan loaded places most retired)
sound_parts away plan loaded places moves most retired law ends p =
    record {
      is_loaded = p.is_loaded;
      rest = refl;
      few = p.few;
      room = p.room;
      fits = subst (λ (l : List Move). length l < 2 ^ 32) p.all p.fits;
      law = law;
      ends = ends;
    }

-- the place for a count at which the machine is
pub place_inside : (away : Option Rule) (plan : Plan) (loaded : Memory) (places : List MachinePlace) (moves : List Move) (most retired : ℕ) (s : State) →
    AreTrialParts plan loaded places moves most retired → HasPlace (terms_of away plan loaded places most retired) s → s.retired - retired < length places
place_inside away plan loaded places moves most retired s p h =
    let inside = within (isa_of plan) loaded (machine_of (first_hart places loaded retired)) h.at
    (gained (machine_of (first_hart places loaded retired)) s) most places p.passed p.enough h.count h.few in
    inside

pub place_is : (away : Option Rule) (plan : Plan) (loaded : Memory) (places : List MachinePlace) (moves : List Move) (most retired : ℕ) (s : State)
    (place : MachinePlace) (x : Machine) → AreTrialParts plan loaded places moves most retired →
    slice_get places (s.retired - retired) ≡ Some place → after (isa_of plan) (machine_of (first_hart places loaded retired))
    (gained (machine_of (first_hart places loaded retired)) s) ≡ Some x → IsPlaceOf (isa_of plan) loaded x place
place_is away plan loaded places moves most retired s place x p e f =
    let same : gained (machine_of (first_hart places loaded retired)) s ≡ 0 + (s.retired - retired) = omega arith in
    place_at (isa_of plan) loaded (machine_of (first_hart places loaded retired)) x 0 (s.retired - retired) places place p.passed e
    (subst (λ (n : ℕ). after (isa_of plan) (machine_of (first_hart places loaded retired)) n ≡ Some x) same f)

pub place_changes : (isa : Isa) (loaded : Memory) (start : Machine) (k i : ℕ) (places : List MachinePlace) (place : MachinePlace) →
    AreWaypoints isa loaded start k places →
    slice_get places i ≡ Some place → AreChanges loaded place.changes
place_changes isa loaded start k i [] place a e = absurd (cc)
place_changes isa loaded start k zero (p ∷ places) place a e = let same : p ≡ place =
    cc in subst (λ (q : MachinePlace). AreChanges loaded q.changes) same a.0.changes.lists
place_changes isa loaded start k (suc i) (p ∷ places) place a e = place_changes isa loaded start (suc k) i places place a.1 e

pub changes_here : (plan : Plan) (loaded : Memory) (places : List MachinePlace) (moves : List Move) (most retired i : ℕ) (place : MachinePlace) →
    AreTrialParts plan loaded places moves most retired → slice_get places i ≡ Some place → AreChanges loaded place.changes
changes_here plan loaded places moves most retired i place p e =
    place_changes (isa_of plan) loaded (machine_of (first_hart places loaded retired)) 0 i places place p.passed e

-- the parts of a new trial
pub new_parts : (plan : Plan) (loaded : Memory) (hart : Hart) (places : List MachinePlace) (moves : List Move) (most retired : ℕ) → IsAsLoaded loaded →
    AreWaypoints (isa_of plan) loaded (machine_of hart) 0 places → (length places ≡ most + 1) ⊎ IsTrue (ends_at_last places) → hart.mem ≡ loaded →
    retired ≡ hart.retired → moves ≡ all_moves plan → IsEquipped plan → most ≤ 64 → hart.retired + most + 1 < 2 ^ 64 →
    AreTrialParts plan loaded places moves most retired
new_parts plan loaded hart places moves most retired is a e f g all equipped few room =
    let same = first_is (isa_of plan) loaded hart places most retired a e f g in
    record {
      is_loaded = is;
      passed = subst (λ (h : Hart). AreWaypoints (isa_of plan) loaded (machine_of h) 0 places) (sym same) a;
      enough = e;
      all = all;
      fits = subst (λ (l : List Move). length l < 2 ^ 32) (sym all) (few_moves plan equipped);
      few = few;
      room = omega arith;
    }

pub new_terms : (away : Option Rule) (plan : Plan) (loaded : Memory) (hart : Hart) (places : List MachinePlace) (most retired : ℕ) →
    AreWaypoints (isa_of plan) loaded (machine_of hart) 0 places → (length places ≡ most + 1) ⊎ IsTrue (ends_at_last places) → hart.mem ≡ loaded →
    retired ≡ hart.retired → terms_of away plan loaded places most retired ≡ trial_of away plan hart most
new_terms away plan loaded hart places most retired a e f g =
    ap (λ (h : Hart). trial_of away plan h most) (first_is (isa_of plan) loaded hart places most retired a e f g)
