-- An instruction that a unit finishes: what that leaves of each walk.
use Rattle.cf_semantics.specs.moves.Instructions.{at_pc}
use Rattle.cf_semantics.specs.moves.Steps.{onward}
use Rattle.rv_inst.specs.declared.instruction.Instr.{Instr}
use Rattle.rv_inst.specs.declared.instruction.Instr.TheVariants.{Ebreak}
use Rattle.std.proofs.Common.{◌≡◌, ℕ, [], ◌∷◌, Option, Some, None, Bool, true, false, ◌&&◌, ◌||◌, refl, sym, ap, ◌∙◌, arith, true≢false}
use Rattle.cf_bind.specs.declared.passenger.Guess.TheVariants.{Next}
use Rattle.cf_bind.specs.declared.passenger.Passenger.{Passenger}
use Rattle.cf_layout.specs.Layout.{Plan}
use Rattle.theory_refinement.proofs.column.Change.{walk_path, walk_safe}
use Rattle.theory_refinement.proofs.column.Fold.{Replaces}
use Rattle.theory_refinement.proofs.walks.PathFinish.{Finishes, source_read}
use Rattle.theory_refinement.proofs.instructions.Steps.{plain_steps, straight_next, straight_trap}
use Rattle.theory_refinement.proofs.invariant.Stands.{Stands}
use Rattle.theory_refinement.proofs.invariant.Suited.{is_plain}
use Rattle.cf_semantics.specs.state.Column.{Up}
use Rattle.cf_layout.specs.Accepted.{is_control}
use Rattle.cf_semantics.specs.moves.Instructions.{Bad, Fetched, Goes, Got, Stops, dst_of, fetched, finish_trap, is_free, is_memory, is_serial, kind_of, src1_of, src2_of, step_at, value_written}
use Rattle.cf_semantics.specs.state.Options.{on}
use Rattle.cf_semantics.specs.state.Passengers.{finish, instruction, kind, missing, value_in}
use Rattle.cf_semantics.specs.claims.Walks.{Everywhere, walk}
use Rattle.rv_inst.specs.Arithmetic.{next_pc}
use Rattle.rv_inst.specs.declared.classes.Class.{Class}
use Rattle.rv_inst.specs.declared.classes.Class.TheVariants.{Free}
use Rattle.rv_inst.specs.declared.isa.Isa.{Isa}
use Rattle.rv_machine.specs.Machine.{Machine}
use Rattle.rv_mul.specs.Values.{value_of}
use Rattle.cf_semantics.specs.claims.Ahead as ahead
use Rattle.theory_refinement.proofs.invariant.Port as dock
use Rattle.theory_refinement.proofs.invariant.Lone as lone
use Rattle.theory_refinement.proofs.walks.Lone as lones
use Rattle.theory_refinement.proofs.walks.Path as paths
use Rattle.theory_refinement.proofs.walks.Port as ports
use Rattle.theory_refinement.proofs.invariant.Sure as sure
use Rattle.cf_semantics.specs.claims.Path as trail
use Rattle.cf_semantics.specs.claims.Soundness.{Holds, is_lone, operations_of, steers, may_turn}

pub execute_finishes : (isa : Isa) (p : Passenger) (x : Machine) (g : Option ℕ) → p.done ≡ false → missing p.src1 ≡ None → missing p.src2 ≡ None →
    is_plain (kind p) ≡ true → sure.IsSure isa p x (step_at isa x p.pc) g → Finishes p x (step_at isa x p.pc) None
execute_finishes isa p x g d m1 m2 c h = go (fetched isa x.hart.mem p.pc) refl h.reads
  where
    got : (i : Instr) → fetched isa x.hart.mem p.pc ≡ Got i → p.what ≡ Some i → Finishes p x (step_at isa x p.pc) None
    got i f w =
        let is : instruction p ≡ i = ap (λ (o : Option Instr). on o Ebreak (λ j. j)) w in
        let k : kind p ≡ kind_of i = ap (λ (o : Option Instr). on o Free kind_of) w in
        let a = source_read p.src1 (src1_of i) x.hart.regs (h.shape i w).one h.values.first m1 in
        let b = source_read p.src2 (src2_of i) x.hart.regs (h.shape i w).two h.values.second m2 in
        let s : step_at isa x p.pc ≡ on (finish_trap (instruction p) p.pc (value_in p.src1) (value_in p.src2))
        (Goes (onward (at_pc x p.pc) (next_pc (instruction p) p.pc (value_in p.src1) (value_in p.src2))
        (value_written x.hart.regs (dst_of (instruction p)) (value_of (instruction p) p.pc (value_in p.src1) (value_in p.src2))) x.hart.mem)) Stops =
        rw (is, a, b) (plain_steps isa x p.pc i f (rw k at c)) in
        record {
          what = w ∙ ap Some (sym is);
          goes = λ e. (
            onward (at_pc x p.pc) (next_pc (instruction p) p.pc (value_in p.src1) (value_in p.src2))
                (value_written x.hart.regs (dst_of (instruction p)) (value_of (instruction p) p.pc (value_in p.src1) (value_in p.src2))) x.hart.mem,
            s ∙ rw e,
            record { pc = refl; regs = refl },
          );
          stops = λ z e. s ∙ rw e;
        }

    go : (q : Fetched) → fetched isa x.hart.mem p.pc ≡ q → Holds p q → Finishes p x (step_at isa x p.pc) None
    go (Got i) f k = got i f k
    go (Bad b) f k = let u = h.unended d in absurd (cc)

-- what a plain instruction owes once it is finished turns nothing, except at a branch or a jump
pub finish_turns : (p : Passenger) → is_plain (kind p) ≡ true → is_control (kind p) ≡ false → p.guess ≡ Next → trail.turns (finish p None).owes ≡ false
unfolding finish
finish_turns p c n g = grind (arith, straight_trap, straight_next)

pub finish_kind : (p : Passenger) (a : Option ℕ) → kind (finish p a) ≡ kind p
unfolding finish
finish_kind p a = grind arith

pub finish_done : (p : Passenger) (a : Option ℕ) → (finish p a).done ≡ true
unfolding finish
finish_done p a = grind arith

pub finish_dead : (p : Passenger) (a : Option ℕ) → (finish p a).dead ≡ p.dead
unfolding finish
finish_dead p a = grind arith

pub plain_quiet : (c : Class) → is_plain c ≡ true → (is_free c || is_serial c) ≡ false
plain_quiet c e = grind arith

finish_holds : (p : Passenger) → is_plain (kind p) ≡ true → is_lone (finish p None) ≡ false
finish_holds p c = let k = plain_quiet (kind p) c in rw (finish_kind p None, finish_done p None) (grind arith)

pub finish_shuts : (l : Plan) (i : ℕ) (p : Passenger) → is_plain (kind p) ≡ true → (is_control (kind p) ≡ true → lone.is_high l i ≡ false) →
    (is_control (kind p) ≡ false → p.guess ≡ Next) → lone.shuts l i (finish p None) ≡ false
finish_shuts l i p c n g = rw (finish_holds p c) (go (is_control (kind p)) refl)
  where
    go : (b : Bool) → is_control (kind p) ≡ b → (trail.turns (finish p None).owes && lone.is_high l i) ≡ false
    go true e = rw (n e) (and_false (trail.turns (finish p None).owes))
      where
        and_false : (b : Bool) → (b && false) ≡ false
        and_false true = refl
        and_false false = refl
    go false e = rw (finish_turns p c e (g e))

pub finish_lone : (l : Plan) (i : ℕ) (p : Passenger) (w : Bool) → lone.shuts l i (finish p None) ≡ false →
    Replaces Bool lone.Fits (lone.past l) lones.Follows (Up i p ∷ []) (Up i (finish p None) ∷ []) w
unfolding lone.Fits lone.past
finish_lone l i p w s = record { fit = λ h. h; follows = λ h. record { shut = rw s (λ e. grind arith) } }

-- the port's walk ignores a plain instruction apart from its turn or its trap, which was to be expected
plain_port : (c : Class) → is_plain c ≡ true → (is_memory c ≡ false) × (is_serial c ≡ false)
plain_port c e = grind arith

steers_control : (c : Class) → is_plain c ≡ true → steers c ≡ is_control c
steers_control c e = grind arith

finish_trapless : (p : Passenger) → is_control (kind p) ≡ false → is_plain (kind p) ≡ true → p.ending ≡ None → (finish p None).ending ≡ None
unfolding finish
finish_trapless p c n e = grind (arith, straight_trap)

-- what may turn the program afterwards might do so before
pub finish_turned : (i : ℕ) (p : Passenger) → p.dead ≡ false → p.done ≡ false → is_plain (kind p) ≡ true → p.ending ≡ None →
    (is_control (kind p) ≡ false → p.guess ≡ Next) → may_turn (Up i (finish p None)) ≡ true → may_turn (Up i p) ≡ true
finish_turned i p d u c e g r = go (is_control (kind p)) refl
  where
    go : (b : Bool) → is_control (kind p) ≡ b → may_turn (Up i p) ≡ true
    go true k = let s = steers_control (kind p) c in grind arith
    go false k =
        let s = steers_control (kind p) c in
        let t = finish_turns p c k (g k) in
        let n = finish_trapless p k c e in
        let a = finish_kind p None in
        let b = finish_done p None in
        grind arith

no_dock : (p : Passenger) → is_plain (kind p) ≡ true → (ahead.has_served p ≡ false) × (ahead.flies p ≡ false) × ((a : Option ℕ) → ahead.has_ported p a ≡ false)
no_dock p c = let q = plain_port (kind p) c in (grind arith, grind arith, λ a. grind arith)

finish_docked : (isa : Isa) (p : Passenger) (w : dock.Dock) → is_plain (kind p) ≡ true → dock.DockedAt isa (finish p None) w
unfolding dock.DockedAt
finish_docked isa p w c =
    let k : is_plain (kind (finish p None)) ≡ true = rw (finish_kind p None) c in
    let q = plain_port (kind (finish p None)) k in
    let n = no_dock (finish p None) k in
    record { live = λ a b. absurd (cc); order = λ a b. absurd (cc); served = λ a. absurd (cc); permitted = λ a b. absurd (cc); answered = λ a z e. absurd (cc) }

finish_risky : (a b c : Bool) → (b ≡ true → c ≡ true) → (a || b) ≡ true → (a || c) ≡ true
finish_risky a b c f e = grind (arith, f)

pub finish_port : (isa : Isa) (i : ℕ) (p : Passenger) (w : dock.Dock) → is_plain (kind p) ≡ true → (w.path.barred ≡ true → w.risky ≡ true) →
    (may_turn (Up i (finish p None)) ≡ true → may_turn (Up i p) ≡ true) → (Everywhere (sure.Fits isa) (trail.past isa) (Up i p ∷ []) w.path →
    paths.Follows (walk (trail.past isa) (Up i p ∷ []) w.path) (walk (trail.past isa) (Up i (finish p None) ∷ []) w.path)) →
    Everywhere (sure.Fits isa) (trail.past isa) (Up i p ∷ []) w.path → Replaces dock.Dock (dock.Fits isa) (dock.past isa) ports.Follows (Up i p ∷ [])
    (Up i (finish p None) ∷ []) w
finish_port isa i p w c s r f g = record {
  fit = λ h. (unfold dock.Fits in finish_docked isa p w c, tt);
  follows = λ h. record {
    path = rw (walk_path isa (Up i p ∷ []) w, walk_path isa (Up i (finish p None) ∷ []) w) (f g);
    safe = walk_safe isa (Up i (finish p None) ∷ []) w s;
    risky = unfold dock.past in finish_risky w.risky (may_turn (Up i (finish p None))) (may_turn (Up i p)) r;
    mem = unfold dock.past in rw ((no_dock p c).2 w.answer, (no_dock (finish p None) k).2 w.answer);
    code = unfold dock.past in rw ((no_dock p c).0, (no_dock (finish p None) k).0);
    rest = unfold dock.past in rw ((no_dock p c).0, (no_dock (finish p None) k).0);
    out = unfold dock.past in rw ((no_dock p c).0, (no_dock (finish p None) k).0);
    answer = unfold dock.past in rw ((no_dock p c).1, (no_dock (finish p None) k).1);
  };
}
  where
    k : is_plain (kind (finish p None)) ≡ true
    k = rw (finish_kind p None) c

pub finish_flags : (p : Passenger) (a : Option ℕ) → ((finish p a).launched ≡ p.launched) × ((finish p a).recovered ≡ p.recovered)
    × ((finish p a).guess ≡ p.guess) × ((finish p a).src1 ≡ p.src1) × ((finish p a).src2 ≡ p.src2)
unfolding finish
finish_flags p a = grind arith

pub finish_stands : (l : Plan) (i : ℕ) (p : Passenger) → p.dead ≡ false → p.done ≡ false → is_plain (kind p) ≡ true → p.launched ≡ false → Stands l i p →
    Stands l i (finish p None)
finish_stands l i p d u c ashore h =
    let k = finish_kind p None in
    let e = finish_done p None in
    let q = plain_quiet (kind p) c in
    let f = finish_flags p None in
    let n = no_dock (finish p None) (rw k c) in
    record {
      low = λ a b z. absurd (cc);
      out = λ a b. rw k (h.out (sym f.0 ∙ a) (sym f.1 ∙ b));
      back = λ a. rw k (h.back (sym f.1 ∙ a));
      back_done = λ a b. e;
      back_launched = λ a. f.0 ∙ h.back_launched (sym f.1 ∙ a);
      owes_live = λ a. finish_dead p None ∙ d;
      owes_done = λ a. e;
      owes_quiet = λ a b. rw k q;
      guess = λ a. f.2 ∙ h.guess (rw k at a);
      served = λ a. absurd (cc);
      unended = λ a. absurd (cc);
      blank = λ a. absurd (cc);
      free_done = λ _. e;
      out_undone = λ a b z. absurd (true≢false (sym b ∙ f.0 ∙ ashore));
      faulted = λ a b. absurd (let z = (plain_port (kind p) c).0 in let y = rw k at b in true≢false (sym y ∙ z));
      sourced1 = λ a. rw f.3 (h.sourced1 (sym f.0 ∙ a));
      sourced2 = λ a. rw f.4 (h.sourced2 (sym f.0 ∙ a));
      homed = λ a. rw k (h.homed (rw k at a));
    }

pub finish_is_out : (l : Plan) (n i : ℕ) (p : Passenger) → operations_of l n (Up i p ∷ []) ≡ operations_of l n (Up i (finish p None) ∷ [])
unfolding finish
finish_is_out l n i p = grind arith
