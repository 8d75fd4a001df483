-- A sure instruction that may not turn the program is on the sequential path: its step goes on, to where the program
-- goes.
use Rattle.std.proofs.Common.{◌≡◌, ℕ, Option, Some, None, Bool, true, false, ◌||◌, ◌&&◌, not, refl, sym, ap, ◌∙◌, arith}
use Rattle.cf_bind.specs.declared.passenger.End.{End}
use Rattle.cf_bind.specs.declared.passenger.Guess.TheVariants.{Next}
use Rattle.cf_bind.specs.declared.passenger.Passenger.{Passenger}
use Rattle.cf_layout.specs.Layout.{Plan}
use Rattle.theory_refinement.proofs.instructions.Memory.{after_access, memory_steps}
use Rattle.theory_refinement.proofs.instructions.Steps.{kind_is, plain_steps, straight_next, straight_trap}
use Rattle.theory_refinement.proofs.invariant.Stands.{Stands}
use Rattle.theory_refinement.proofs.invariant.Suited.{is_plain}
use Rattle.cf_semantics.specs.state.Column.{Up}
use Rattle.cf_layout.specs.Accepted.{is_control}
use Rattle.cf_semantics.specs.moves.Instructions.{at_pc, Bad, Fetched, Goes, Got, StepResult, Stops, access_trap, after_step, dst_of, fetched, is_free, is_memory, is_serial, kind_of, src1_of, src2_of, step_at, value_read, value_written, word_after}
use Rattle.cf_semantics.specs.state.Layouts.{isa_of}
use Rattle.cf_semantics.specs.state.Options.{on}
use Rattle.cf_semantics.specs.moves.Steps.{onward}
use Rattle.cf_semantics.specs.state.Passengers.{goto, instruction, kind, missing, value_in}
use Rattle.mem_regions.specs.Access.{bounds_of}
use Rattle.rv_inst.specs.Arithmetic.{next_pc}
use Rattle.rv_inst.specs.declared.classes.Class.{Class}
use Rattle.rv_inst.specs.declared.isa.Isa.{Isa}
use Rattle.rv_machine.specs.Machine.{Machine}
use Rattle.rv_mul.specs.Values.{value_of}
use Rattle.cf_semantics.specs.claims.Ahead as ahead
use Rattle.theory_refinement.proofs.invariant.Port as dock
use Rattle.theory_refinement.proofs.invariant.Sure as sure
use Rattle.cf_semantics.specs.claims.Path as trail
use Rattle.cf_semantics.specs.claims.Soundness.{Holds, may_turn}

-- the step goes on, to g
pub record On (s : StepResult) (x : Machine) (g : Option ℕ) : Type 0 where
  pub goes : s ≡ Goes (after_step s x)
  pub next : g ≡ Some (after_step s x).hart.pc

-- once it is done
done_on : (isa : Isa) (p : Passenger) (w : trail.Walk) → p.done ≡ true → p.ending ≡ None → sure.SureAt isa p w →
    On (step_at isa w.machine p.pc) w.machine (goto p)
unfolding sure.SureAt
done_on isa p w d e h = record { goes = h.0.values.goes d e; next = at (h.0.values.next d e) }
  where
    at : p.next ≡ Some (after_step (step_at isa w.machine p.pc) w.machine).hart.pc → goto p ≡ Some (after_step (step_at isa w.machine p.pc) w.machine).hart.pc
    at n = grind (arith, n)

-- a memory operation that memory permits
memory_step : (isa : Isa) (p : Passenger) (w : trail.Walk) → is_memory (kind p) ≡ true → missing p.src1 ≡ None → missing p.src2 ≡ None →
    access_trap (instruction p) p.pc (value_in p.src1) (bounds_of w.machine.hart.mem) ≡ None → sure.SureAt isa p w →
    step_at isa w.machine p.pc ≡ Goes (after_access w.machine (instruction p) p.pc (value_in p.src1) (value_in p.src2))
unfolding sure.SureAt
memory_step isa p w m m1 m2 t h = let q = memory_steps isa p w.machine w.goto m m1 m2 h.0 in rw t at q.1

memory_goto : (p : Passenger) → is_memory (kind p) ≡ true → p.done ≡ false → p.guess ≡ Next → goto p ≡ Some (word_after p.pc)
memory_goto p m d g = grind arith

step_on : (s : StepResult) (x y : Machine) (g : Option ℕ) → s ≡ Goes y → g ≡ Some y.hart.pc → On s x g
step_on s x y g e f = record { goes = rw e refl; next = rw e f }

-- a plain instruction that is neither a branch nor a jump
plain_on : (isa : Isa) (p : Passenger) (w : trail.Walk) → is_plain (kind p) ≡ true → is_control (kind p) ≡ false → p.done ≡ false → p.guess ≡ Next →
    sure.SureAt isa p w → On (step_at isa w.machine p.pc) w.machine (goto p)
unfolding sure.SureAt
plain_on isa p w c k d g h = go (fetched isa w.machine.hart.mem p.pc) refl h.0.reads
  where
    straight : goto p ≡ Some (word_after p.pc)
    straight = grind arith

    go : (q : Fetched) → fetched isa w.machine.hart.mem p.pc ≡ q → Holds p q → On (step_at isa w.machine p.pc) w.machine (goto p)
    go (Got i) f r =
        let c' : is_plain (kind_of i) ≡ true = rw (kind_is p i r) at c in
        let k' : is_control (kind_of i) ≡ false = rw (kind_is p i r) at k in
        let a = value_read w.machine.hart.regs (src1_of i) in
        let b = value_read w.machine.hart.regs (src2_of i) in
        let s = plain_steps isa w.machine p.pc i f c' ∙ ap (λ (o : Option End). on o (Goes
        (onward (at_pc w.machine p.pc) (next_pc i p.pc a b) (value_written w.machine.hart.regs (dst_of i) (value_of i p.pc a b)) w.machine.hart.mem)) Stops)
        (straight_trap i p.pc a b k') in
        step_on (step_at isa w.machine p.pc) w.machine (onward (at_pc w.machine p.pc) (next_pc i p.pc a b)
        (value_written w.machine.hart.regs (dst_of i) (value_of i p.pc a b)) w.machine.hart.mem) (goto p) s (straight
        ∙ ap Some (sym (straight_next i p.pc a b k')))
    go (Bad b) f r = absurd (let z = h.0.unended d in let y = r.1 in cc)

-- an instruction that has passed the port
pub ported_on : (l : Plan) (i : ℕ) (p : Passenger) (w : dock.Dock) → Stands l i p → sure.SureAt (isa_of l) p w.path → dock.DockedAt (isa_of l) p w →
    ahead.has_ported p w.answer ≡ true → step_at (isa_of l) w.path.machine p.pc ≡ Goes (after_step (step_at (isa_of l) w.path.machine p.pc) w.path.machine)
unfolding dock.DockedAt
ported_on l i p w s h k e = go (ahead.has_served p) refl
  where
    go : (b : Bool) → ahead.has_served p ≡ b → step_at (isa_of l) w.path.machine p.pc ≡ Goes
        (after_step (step_at (isa_of l) w.path.machine p.pc) w.path.machine)
    go true f = (done_on (isa_of l) p w.path (grind arith) (ending p.ending refl) h).goes
      where
        ending : (o : Option End) → p.ending ≡ o → p.ending ≡ None
        ending None z = z
        ending (Some b) z = absurd (grind arith)
    go false f =
        let m : is_memory (kind p) ≡ true = grind arith in
        let o : (p.launched || p.recovered) ≡ true = grind arith in
        let out = out p.launched p.recovered refl refl o in
        let st = memory_step (isa_of l) p w.path m (s.sourced1 out) (s.sourced2 out) (k.permitted m o) h in
        rw st refl
      where
        out : (a b : Bool) → p.launched ≡ a → p.recovered ≡ b → (p.launched || p.recovered) ≡ true → p.launched ≡ true
        out true b x y z = x
        out false true x y z = s.back_launched y
        out false false x y z = absurd (grind arith)

-- an instruction that may not turn the program, and is not a memory operation that is still to be launched
pub quiet_on : (l : Plan) (i : ℕ) (p : Passenger) (w : dock.Dock) → Stands l i p → sure.SureAt (isa_of l) p w.path → dock.DockedAt (isa_of l) p w →
    p.dead ≡ false → may_turn (Up i p) ≡ false → (is_memory (kind p) && not p.done && not p.launched) ≡ false →
    On (step_at (isa_of l) w.path.machine p.pc) w.path.machine (goto p)
unfolding dock.DockedAt
quiet_on l i p w s h k d r b = go p.done (is_memory (kind p)) (is_plain (kind p)) refl refl refl
  where
    ending : (o : Option End) → p.ending ≡ o → p.done ≡ true → p.ending ≡ None
    ending None z u = z
    ending (Some e) z u = absurd (grind arith)

    other : (c : Class) → is_memory c ≡ false → is_plain c ≡ false → (is_serial c || is_free c) ≡ true
    other c x y = grind arith

    go : (a m c : Bool) → p.done ≡ a → is_memory (kind p) ≡ m → is_plain (kind p) ≡ c → On (step_at (isa_of l) w.path.machine p.pc) w.path.machine (goto p)
    go true m c x y z = done_on (isa_of l) p w.path x (ending p.ending refl x) h
    go false true c x y z =
        let out : p.launched ≡ true = launched p.launched refl in
        let g = s.guess (grind arith) in
        let st = memory_step (isa_of l) p w.path y (s.sourced1 out) (s.sourced2 out) (k.permitted y (rw out refl)) h in
        step_on (step_at (isa_of l) w.path.machine p.pc) w.path.machine _ (goto p) st (memory_goto p y x g)
      where
        launched : (q : Bool) → p.launched ≡ q → p.launched ≡ true
        launched true e = e
        launched false e = absurd (grind arith)
    go false false true x y z =
        let c : is_control (kind p) ≡ false = control (is_control (kind p)) refl in
        plain_on (isa_of l) p w.path z c x (s.guess c) h
      where
        control : (q : Bool) → is_control (kind p) ≡ q → is_control (kind p) ≡ false
        control false e = e
        control true e = absurd (grind arith)
    go false false false x y z = absurd (let q = other (kind p) y z in kinds (is_serial (kind p)) (is_free (kind p)) refl refl q)
      where
        kinds : (a b : Bool) → is_serial (kind p) ≡ a → is_free (kind p) ≡ b → (a || b) ≡ true → ⊥
        kinds true b e f q = grind arith
        kinds false true e f q = let j = s.free_done f in cc
        kinds false false e f q = cc

pub done_goes : (isa : Isa) (p : Passenger) (w : trail.Walk) → ahead.has_served p ≡ true → sure.SureAt isa p w →
    step_at isa w.machine p.pc ≡ Goes (after_step (step_at isa w.machine p.pc) w.machine)
done_goes isa p w f h = (done_on isa p w (grind arith) (ending p.ending refl) h).goes
  where
    ending : (o : Option End) → p.ending ≡ o → p.ending ≡ None
    ending None z = z
    ending (Some b) z = absurd (grind arith)
