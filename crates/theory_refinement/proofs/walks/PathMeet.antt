-- A meeting, on the path.
use Rattle.std.proofs.Common.{◌≡◌, ℕ, List, [], ◌∷◌, Option, Some, None, Bool, true, false, ◌||◌, ◌==◌, ◌∙◌, refl, arith}
use Rattle.std.specs.Prelude.{slice_index}
use Rattle.cf_bind.specs.Meeting.{garnered, meeting, passed, passenger_met}
use Rattle.cf_bind.specs.declared.binding.Binding.{Binding}
use Rattle.cf_bind.specs.declared.packet.Packet.{Packet}
use Rattle.cf_bind.specs.declared.packet.Packet.TheVariants.{Halt, Turn, Value}
use Rattle.cf_bind.specs.declared.passenger.Passenger.{Passenger}
use Rattle.theory_refinement.proofs.walks.Path.{Follows}
use Rattle.theory_refinement.proofs.instructions.Steps.{sure_keeps}
use Rattle.theory_refinement.proofs.invariant.Sure.{Comes, Fits, IsSourced, IsSure, SureAt}
use Rattle.cf_semantics.specs.state.Column.{Down, Item, Up}
use Rattle.cf_semantics.specs.moves.Instructions.{StepResult, after_step, step_at}
use Rattle.cf_semantics.specs.state.Passengers.{reg_in}
use Rattle.cf_semantics.specs.claims.Path.{Walk, has_reg, past, past_packet}
use Rattle.cf_semantics.specs.claims.Walks.{Everywhere, walk}
use Rattle.cf_semantics.specs.claims.Soundness.{HasValue}
use Rattle.rv_inst.specs.declared.isa.Isa.{Isa}
use Rattle.rv_machine.specs.Machine.{Machine}

abbrev pub met_items : ℕ → Passenger → Option Packet → List Item
met_items i p None = Up i p ∷ []
met_items i p (Some l) = Up i p ∷ Down i l ∷ []

garner_agrees : (r v : ℕ) (o : Option Binding) (regs : List ℕ) → v ≡ slice_index regs r → HasValue o regs → HasValue (garnered r v o) regs
garner_agrees r v o regs e h = grind arith

garner_comes : (r v : ℕ) (o : Option Binding) (c : ℕ → Bool) → Comes o (λ s. (s == r) || c s) → Comes (garnered r v o) c
garner_comes r v o c h = grind arith

garner_reg : (r v : ℕ) (o : Option Binding) → reg_in (garnered r v o) ≡ reg_in o
garner_reg r v o = grind arith

garner_sure : (isa : Isa) (p : Passenger) (r v : ℕ) (x : Machine) (s : StepResult) (g : Option ℕ) → v ≡ slice_index x.hart.regs r → IsSure isa p x s g →
    IsSure isa (passenger_met (Value r v) p) x s g
garner_sure isa p r v x s g e h = record {
  path = h.path;
  reads = h.reads;
  shape = λ i k. record { one = garner_reg r v p.src1 ∙ (h.shape i k).one; two = garner_reg r v p.src2 ∙ (h.shape i k).two; three = (h.shape i k).three };
  values = record {
    first = garner_agrees r v p.src1 x.hart.regs e h.values.first;
    second = garner_agrees r v p.src2 x.hart.regs e h.values.second;
    destination = h.values.destination;
    owed = h.values.owed;
    goes = h.values.goes;
    next = h.values.next;
    done = h.values.done;
    ends = h.values.ends;
  };
  unended = h.unended;
  unowing = h.unowing;
  owed = h.owed;
}

garner_sourced : (p : Passenger) (r v : ℕ) (c : ℕ → Bool) → IsSourced p (λ s. (s == r) || c s) → IsSourced (passenger_met (Value r v) p) c
garner_sourced p r v c h = record { source1 = garner_comes r v p.src1 c h.source1; source2 = garner_comes r v p.src2 c h.source2 }

garner_at : (isa : Isa) (p : Passenger) (r v : ℕ) (w : Walk) → v ≡ slice_index w.machine.hart.regs r → SureAt isa p (past_packet (Value r v) w) →
    SureAt isa (passenger_met (Value r v) p) w
unfolding SureAt
garner_at isa p r v w e h = (garner_sure isa p r v w.machine _ w.goto e h.0, garner_sourced p r v w.coming h.1)

met_value : (p : Passenger) (r v : ℕ) (x y : Machine) → ((s : ℕ) → has_reg p.dst s ≡ false → slice_index y.hart.regs s ≡ slice_index x.hart.regs s) →
    v ≡ slice_index x.hart.regs r → HasValue p.dst y.hart.regs → (s u : ℕ) → passed r v p.dst ≡ Some (Value s u) → u ≡ slice_index y.hart.regs s
met_value p r v x y keeps e h s u g = grind arith

met_value_at : (isa : Isa) (p : Passenger) (r v : ℕ) (w : Walk) → v ≡ slice_index w.machine.hart.regs r → SureAt isa p (past_packet (Value r v) w) → (s u : ℕ) →
    passed r v p.dst ≡ Some (Value s u) → u ≡ slice_index (after_step (step_at isa w.machine p.pc) w.machine).hart.regs s
unfolding SureAt
met_value_at isa p r v w e h s u g = met_value p r v w.machine (after_step (step_at isa w.machine p.pc) w.machine)
    (sure_keeps isa p w.machine _ h.0) e h.0.values.destination s u g

pub meet_fits : (isa : Isa) (i : ℕ) (p : Passenger) (k : Packet) (w : Walk) → Everywhere (Fits isa) (past isa) (Down i k ∷ Up i p ∷ []) w →
    Everywhere (Fits isa) (past isa) (met_items i (meeting p k).passenger (meeting p k).packet) w
unfolding Fits past meeting
meet_fits isa i p k w h = grind (arith, garner_at, met_value_at)

pub meet_walk : (isa : Isa) (i : ℕ) (p : Passenger) (k : Packet) (w : Walk) → Everywhere (Fits isa) (past isa) (Down i k ∷ Up i p ∷ []) w →
    Follows (walk (past isa) (Down i k ∷ Up i p ∷ []) w) (walk (past isa) (met_items i (meeting p k).passenger (meeting p k).packet) w)
unfolding Fits past meeting SureAt
meet_walk isa i p (Turn pc) w h = grind arith
meet_walk isa i p Halt w h = grind arith
meet_walk isa i p (Value r v) w h = go p.dead w.barred refl refl
  where
    go : (a b : Bool) → p.dead ≡ a → w.barred ≡ b → Follows (walk (past isa) (Down i (Value r v) ∷ Up i p ∷ []) w)
        (walk (past isa) (met_items i (meeting p (Value r v)).passenger (meeting p (Value r v)).packet) w)
    go true b e f = grind arith
    go false true e f = grind arith
    go false false e f = grind arith
