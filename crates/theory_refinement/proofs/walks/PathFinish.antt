-- An instruction that finishes, on the path.
use Rattle.rv_inst.specs.declared.instruction.Instr.{Instr}
use Rattle.std.proofs.Common.{◌≡◌, ℕ, ◌<◌, List, [], ◌∷◌, Option, Some, None, Bool, true, false, refl, sym, ap, subst, ◌∙◌, arith, length}
use Rattle.std.specs.Prelude.{if◌then◌else◌}
use Rattle.std.proofs.lemmas.List.{get_or-set_same}
use Rattle.cf_bind.specs.declared.binding.Binding.{Binding}
use Rattle.cf_bind.specs.declared.packet.Packet.TheVariants.{Turn}
use Rattle.cf_bind.specs.declared.passenger.End.{End}
use Rattle.cf_bind.specs.declared.passenger.Passenger.{Passenger}
use Rattle.theory_refinement.proofs.walks.Path.{Follows}
use Rattle.theory_refinement.proofs.instructions.Steps.{sure_dst_below, finish_traps}
use Rattle.theory_refinement.proofs.invariant.Sure.{Fits, IsSure, Owed, SureAt}
use Rattle.cf_semantics.specs.state.Column.{Up}
use Rattle.cf_semantics.specs.moves.Instructions.{Bad, Fetched, Goes, Got, StepResult, Stops, after_step, dst_of, fetched, finish_trap, step_at, value_read, value_written}
use Rattle.cf_semantics.specs.state.Options.{on}
use Rattle.cf_semantics.specs.state.Passengers.{finish, finished, goto_undone, guessed, instruction, is_place, kind, missing, reg_in, trapped, value_in, value_packet, with_value}
use Rattle.cf_semantics.specs.claims.Path.{Walk, is_trap, past}
use Rattle.cf_semantics.specs.claims.Walks.{Everywhere, walk}
use Rattle.cf_semantics.specs.claims.Soundness.{HasValue, Holds, IsKnown, OwesValue}
use Rattle.rv_inst.specs.Arithmetic.{next_pc}
use Rattle.rv_inst.specs.declared.isa.Isa.{Isa}
use Rattle.rv_machine.specs.Machine.{Machine}
use Rattle.rv_mul.specs.Values.{value_of}

pub source_read : (o : Option Binding) (d : Option ℕ) (regs : List ℕ) → reg_in o ≡ d → HasValue o regs → missing o ≡ None → value_in o ≡ value_read regs d
source_read o d regs e h m = grind arith

pub set_agrees : (o : Option Binding) (d : Option ℕ) (v : ℕ) (regs : List ℕ) → length regs ≡ 32 → ((r : ℕ) → d ≡ Some r → r < 32) → reg_in o ≡ d →
    HasValue (with_value v o) (value_written regs d v)
set_agrees o d v regs l b e = grind (arith, get_or-set_same)

pub set_reg : (o : Option Binding) (v : ℕ) → reg_in (with_value v o) ≡ reg_in o
set_reg o v = grind arith

pub set_known : (o : Option Binding) (v : ℕ) → IsKnown (with_value v o)
set_known None v = tt
set_known (Some b) v = (v, refl)

-- what is owed then: the destination's value, or a turn
owes_its_value : (o : Option Binding) (s : Bool) (n v : ℕ) → OwesValue (if s then value_packet v o else Some (Turn n)) (with_value v o)
owes_its_value o s n v = grind arith

owed_by : (o : Option Binding) (s : Bool) (n v : ℕ) (ending : Option End) → ending ≡ None → Owed (if s then value_packet v o else Some (Turn n)) (Some n) ending
owed_by o s n v ending e = grind arith

-- a step that goes on, with the value v in the destination
pub record GivesOn (x m : Machine) (d : Option ℕ) (n v : ℕ) : Type 0 where
  pub pc : m.hart.pc ≡ n
  pub regs : m.hart.regs ≡ value_written x.hart.regs d v

finished_sure : (isa : Isa) (p : Passenger) (i : Instr) (x m : Machine) (s : StepResult) (g : Option ℕ) (n v : ℕ) → length x.hart.regs ≡ 32 → p.what ≡ Some i →
    p.done ≡ false → s ≡ Goes m → GivesOn x m (dst_of i) n v → IsSure isa p x s g → IsSure isa (finished p n v) x s g
finished_sure isa p i x m s g n v l w d e f h =
    let y : after_step s x ≡ m = rw e in
    record {
      path = h.path;
      reads = h.reads;
      shape = λ j k. record { one = (h.shape j k).one; two = (h.shape j k).two; three = set_reg p.dst v ∙ (h.shape j k).three };
      values = record {
        first = h.values.first;
        second = h.values.second;
        destination = rw (y, f.regs) (set_agrees p.dst (dst_of i) v x.hart.regs l (sure_dst_below isa p x s g i w h) (h.shape i w).three);
        owed = owes_its_value p.dst (is_place (guessed p.guess (instruction p) p.pc) n) n v;
        goes = λ _ _. rw e;
        next = λ _ _. rw (y, f.pc);
        done = λ _ _. set_known p.dst v;
        ends = h.values.ends;
      };
      unended = λ k. absurd (cc);
      unowing = λ k. absurd (cc);
      owed = owed_by p.dst (is_place (guessed p.guess (instruction p) p.pc) n) n v p.ending (h.unended d);
    }

pub trapped_sure : (isa : Isa) (p : Passenger) (x : Machine) (s : StepResult) (g : Option ℕ) (e : End) → p.done ≡ false → (i : Instr) → p.what ≡ Some i →
    s ≡ Stops e → is_trap (Some e) ≡ true → IsSure isa p x s g → IsSure isa (trapped p e) x s g
trapped_sure isa p x s g e d i w f t h = record {
  path = h.path;
  reads = reads (fetched isa x.hart.mem p.pc) h.reads;
  shape = λ j k. record { one = (h.shape j k).one; two = (h.shape j k).two; three = (h.shape j k).three };
  values = record {
    first = h.values.first;
    second = h.values.second;
    destination = h.values.destination;
    owed = tt;
    goes = λ _ k. absurd (cc);
    next = λ _ k. absurd (cc);
    done = λ _ k. absurd (cc);
    ends = λ b k. let q : e ≡ b = cc in f ∙ ap Stops q;
  };
  unended = λ k. absurd (cc);
  unowing = λ k. absurd (cc);
  owed = t;
}
  where
    reads : (q : Fetched) → Holds p q → Holds (trapped p e) q
    reads (Got j) k = k
    reads (Bad b) k = absurd (cc)

-- what finishing leaves, for an instruction whose step it is
pub record Finishes (p : Passenger) (x : Machine) (s : StepResult) (answer : Option ℕ) : Type 0 where
  pub what : p.what ≡ Some (instruction p)
  pub goes : finish_trap (instruction p) p.pc (value_in p.src1) (value_in p.src2) ≡ None →
      (m : Machine) × (s ≡ Goes m) × GivesOn x m (dst_of (instruction p)) (next_pc (instruction p) p.pc (value_in p.src1) (value_in p.src2))
      (on answer (value_of (instruction p) p.pc (value_in p.src1) (value_in p.src2)) (λ v. v))
  pub stops : (e : End) → finish_trap (instruction p) p.pc (value_in p.src1) (value_in p.src2) ≡ Some e → s ≡ Stops e

finish_sure : (isa : Isa) (p : Passenger) (x : Machine) (s : StepResult) (g : Option ℕ) (answer : Option ℕ) → length x.hart.regs ≡ 32 → p.done ≡ false →
    Finishes p x s answer → IsSure isa p x s g → IsSure isa (finish p answer) x s g
unfolding finish
finish_sure isa p x s g answer l d f h = go (finish_trap (instruction p) p.pc (value_in p.src1) (value_in p.src2)) refl
  where
    go : (o : Option End) → finish_trap (instruction p) p.pc (value_in p.src1) (value_in p.src2) ≡ o →
        IsSure isa (on o (finished p (next_pc (instruction p) p.pc (value_in p.src1) (value_in p.src2))
        (on answer (value_of (instruction p) p.pc (value_in p.src1) (value_in p.src2)) (λ v. v))) (trapped p)) x s g
    go None e = let m = f.goes e in finished_sure isa p (instruction p) x m.0 s g _ _ l f.what d m.1 m.2 h
    go (Some b) e = trapped_sure isa p x s g b d (instruction p) f.what (f.stops b e) (finish_traps _ p.pc _ _ b e) h

pub sources_stay : (p : Passenger) (answer : Option ℕ) → ((finish p answer).src1 ≡ p.src1) × ((finish p answer).src2 ≡ p.src2)
    × ((finish p answer).dead ≡ p.dead)
unfolding finish
sources_stay p answer = grind arith

pub pc_stays : (p : Passenger) (answer : Option ℕ) → (finish p answer).pc ≡ p.pc
unfolding finish
pc_stays p answer = grind arith

finish_at : (isa : Isa) (p : Passenger) (w : Walk) (answer : Option ℕ) → length w.machine.hart.regs ≡ 32 → p.done ≡ false →
    (SureAt isa p w → Finishes p w.machine (step_at isa w.machine p.pc) answer) → SureAt isa p w → SureAt isa (finish p answer) w
unfolding SureAt
finish_at isa p w answer l d f h =
    let e : (finish p answer).pc ≡ p.pc = pc_stays p answer in
    let q = sources_stay p answer in (
      subst (λ (c : ℕ). IsSure isa (finish p answer) w.machine (step_at isa w.machine c) w.goto) (sym e)
          (finish_sure isa p w.machine (step_at isa w.machine p.pc) w.goto answer l d (f h) h.0),
      record { source1 = rw q.0 h.1.source1; source2 = rw q.1 h.1.source2 },
    )

pub finish_fits : (isa : Isa) (i : ℕ) (p : Passenger) (w : Walk) (answer : Option ℕ) → length w.machine.hart.regs ≡ 32 → p.dead ≡ false → p.done ≡ false →
    (SureAt isa p w → Finishes p w.machine (step_at isa w.machine p.pc) answer) → Everywhere (Fits isa) (past isa) (Up i p ∷ []) w →
    Everywhere (Fits isa) (past isa) (Up i (finish p answer) ∷ []) w
unfolding Fits
finish_fits isa i p w answer l d u f h =
    let e = (sources_stay p answer).2 ∙ d in
    let g = finish_at isa p w answer l u f in
    grind arith

pub finish_walk : (isa : Isa) (i : ℕ) (p : Passenger) (w : Walk) (answer : Option ℕ) → p.done ≡ false →
    goto_undone (kind p) p ≡ guessed p.guess (instruction p) p.pc → Everywhere (Fits isa) (past isa) (Up i p ∷ []) w →
    Follows (walk (past isa) (Up i p ∷ []) w) (walk (past isa) (Up i (finish p answer) ∷ []) w)
unfolding Fits past finish SureAt
finish_walk isa i p w answer d g h = grind arith
