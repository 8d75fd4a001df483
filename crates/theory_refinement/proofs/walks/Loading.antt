-- A memory operation that comes back with its answer.
use Rattle.std.proofs.Common.{◌≡◌, ℕ, ◌<◌, List, Option, Some, None, true, false, refl, sym, ap, ◌∙◌, arith, length}
use Rattle.std.specs.Prelude.{slice_index}
use Rattle.std.proofs.lemmas.List.{get_or-set_same}
use Rattle.cf_bind.specs.declared.binding.Binding.{Binding}
use Rattle.cf_bind.specs.declared.passenger.Guess.TheVariants.{Next}
use Rattle.cf_bind.specs.declared.passenger.Passenger.{Passenger}
use Rattle.cf_layout.specs.Layout.{Plan}
use Rattle.theory_refinement.proofs.walks.Finishing.{finish_done, finish_kind}
use Rattle.theory_refinement.proofs.instructions.Memory.{after_access, memory_steps}
use Rattle.theory_refinement.proofs.walks.PathFinish.{Finishes}
use Rattle.theory_refinement.proofs.instructions.Steps.{sure_dst_below, kind_is, straight_next, straight_trap}
use Rattle.cf_semantics.specs.state.Column.{Up}
use Rattle.cf_layout.specs.Accepted.{is_control}
use Rattle.cf_semantics.specs.moves.Instructions.{Goes, access_trap, after_step, dst_of, is_memory, kind_of, step_at, value_written}
use Rattle.cf_semantics.specs.state.Passengers.{finish, goto_undone, guessed, instruction, kind, missing, reg_in, value_in}
use Rattle.mem_regions.specs.Access.{bounds_of}
use Rattle.rv_inst.specs.declared.isa.Isa.{Isa}
use Rattle.rv_machine.specs.Machine.{Machine}
use Rattle.theory_refinement.proofs.invariant.Lone as lone
use Rattle.theory_refinement.proofs.invariant.Sure as sure
use Rattle.cf_semantics.specs.claims.Path as trail
use Rattle.cf_semantics.specs.claims.Soundness.{IsAnswer, may_turn}

memory_straight : (p : Passenger) → is_memory (kind p) ≡ true → is_control (kind p) ≡ false
memory_straight p m = grind arith

answers_write : (o : Option Binding) (d : Option ℕ) (v a : ℕ) (regs : List ℕ) → length regs ≡ 32 → ((r : ℕ) → d ≡ Some r → r < 32) → reg_in o ≡ d →
    IsAnswer o (value_written regs d v) a → value_written regs d v ≡ value_written regs d a
answers_write None d v a regs l b e h = rw (← e) refl
answers_write (Some q) d v a regs l b e h =
    let h' : slice_index (value_written regs (Some q.reg) v) q.reg ≡ a = rw (← e) at h in
    let s : v ≡ a = sym (get_or-set_same regs q.reg v 0 (rw l (b q.reg (sym e)))) ∙ h' in
    rw s refl

pub memory_finishes : (isa : Isa) (p : Passenger) (x : Machine) (g : Option ℕ) (a : ℕ) → length x.hart.regs ≡ 32 → is_memory (kind p) ≡ true →
    missing p.src1 ≡ None → missing p.src2 ≡ None → access_trap (instruction p) p.pc (value_in p.src1) (bounds_of x.hart.mem) ≡ None →
    IsAnswer p.dst (after_step (step_at isa x p.pc) x).hart.regs a → sure.IsSure isa p x (step_at isa x p.pc) g → Finishes p x (step_at isa x p.pc) (Some a)
memory_finishes isa p x g a l m m1 m2 t n h =
    let q = memory_steps isa p x g m m1 m2 h in
    let s : step_at isa x p.pc ≡ Goes (after_access x (instruction p) p.pc (value_in p.src1) (value_in p.src2)) = rw t at q.1 in
    let k : is_control (kind_of (instruction p)) ≡ false = ap is_control (sym (kind_is p (instruction p) q.0)) ∙ memory_straight p m in
    let y : IsAnswer p.dst (after_access x (instruction p) p.pc (value_in p.src1) (value_in p.src2)).hart.regs a = rw s at n in
    record {
      what = q.0;
      goes = λ _. (
        after_access x (instruction p) p.pc (value_in p.src1) (value_in p.src2),
        s,
        record {
          pc = sym (straight_next (instruction p) p.pc (value_in p.src1) (value_in p.src2) k);
          regs =
              answers_write p.dst (dst_of (instruction p)) _ a x.hart.regs l (sure_dst_below isa p x (step_at isa x p.pc) g (instruction p) q.0 h)
              (h.shape (instruction p) q.0).three y;
        },
      );
      stops = λ e f. absurd (let z = sym (straight_trap (instruction p) p.pc (value_in p.src1) (value_in p.src2) k) ∙ f in cc);
    }

pub memory_goes : (p : Passenger) → is_memory (kind p) ≡ true → goto_undone (kind p) p ≡ guessed p.guess (instruction p) p.pc
memory_goes p m = grind arith

-- it has an instruction, so that the class is that of its word
pub memory_class : (p : Passenger) → is_memory (kind p) ≡ true → kind p ≡ kind_of (instruction p)
memory_class p m = grind arith

-- it turns nothing and ends nothing
pub loaded_turns : (p : Passenger) (a : ℕ) → is_memory (kind p) ≡ true → p.guess ≡ Next → trail.turns (finish p (Some a)).owes ≡ false
unfolding finish
loaded_turns p a m g = let c = ap is_control (sym (memory_class p m)) ∙ memory_straight p m in grind (arith, straight_trap, straight_next)

pub loaded_ending : (p : Passenger) (a : ℕ) → is_memory (kind p) ≡ true → p.ending ≡ None → (finish p (Some a)).ending ≡ None
unfolding finish
loaded_ending p a m e = let c = ap is_control (sym (memory_class p m)) ∙ memory_straight p m in grind (arith, straight_trap)

pub loaded_shuts : (l : Plan) (i : ℕ) (p : Passenger) (a : ℕ) → is_memory (kind p) ≡ true → p.guess ≡ Next → lone.shuts l i (finish p (Some a)) ≡ false
loaded_shuts l i p a m g =
    let t = loaded_turns p a m g in
    let k : is_memory (kind (finish p (Some a))) ≡ true = ap is_memory (finish_kind p (Some a)) ∙ m in
    let d = finish_done p (Some a) in
    grind arith

pub loaded_calm : (i : ℕ) (p : Passenger) (a : ℕ) → is_memory (kind p) ≡ true → p.guess ≡ Next → p.ending ≡ None → may_turn (Up i (finish p (Some a))) ≡ false
loaded_calm i p a m g e =
    let t = loaded_turns p a m g in
    let n = loaded_ending p a m e in
    let d = finish_done p (Some a) in
    grind arith
