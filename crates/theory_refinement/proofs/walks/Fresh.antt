-- A new instruction, on the path.
use Rattle.rv_inst.specs.declared.instruction.Instr.{Instr}
use Rattle.std.proofs.Common.{◌≡◌, ℕ, List, [], ◌∷◌, ◌++◌, Option, Some, None, Bool, true, false, ◌==◌, ◌||◌, refl, sym, ap, subst, ◌∙◌, arith}
use Rattle.cf_bind.specs.declared.passenger.End.{End}
use Rattle.cf_bind.specs.declared.passenger.Guess.{Guess}
use Rattle.cf_bind.specs.declared.passenger.Passenger.{Passenger}
use Rattle.theory_refinement.proofs.instructions.Steps.{bad_step, free_bare, step_is}
use Rattle.theory_refinement.proofs.invariant.Sure.{AreRegisters, IsSure, SureAt}
use Rattle.cf_semantics.specs.moves.Instructions.{Bad, Fetched, Goes, Got, Stops, at_pc, after_step, dst_of, fetched, free_trap, is_free, kind_of, src1_of, src2_of, step_at, value_read, word_after}
use Rattle.cf_semantics.specs.state.Options.{is_some, on}
use Rattle.cf_semantics.specs.state.Passengers.{both, destination, fresh, fresh_as, fresh_end, fresh_fence, fresh_undone, goto, instruction, kind, missing, reg_in, requests, source}
use Rattle.cf_semantics.specs.claims.Path.{Walk, among}
use Rattle.cf_semantics.specs.moves.Steps.{onward, stepped_as}
use Rattle.cf_semantics.specs.claims.Soundness.{HasValue, Holds}
use Rattle.rv_inst.specs.declared.classes.Class.{Class}
use Rattle.rv_inst.specs.declared.classes.Class.TheVariants.{Free}
use Rattle.rv_inst.specs.declared.isa.Isa.{Isa}
use Rattle.rv_machine.specs.Machine.{Machine}

-- requests
pub among_front : (r : ℕ) (xs ys : List ℕ) → among r xs ≡ true → among r (xs ++ ys) ≡ true
among_front r [] ys e = absurd (cc)
among_front r (x ∷ xs) ys e = go (r == x) (among_front r xs ys) e
  where
    go : (b : Bool) → (among r xs ≡ true → among r (xs ++ ys) ≡ true) → (b || among r xs) ≡ true → (b || among r (xs ++ ys)) ≡ true
    go true f e = refl
    go false f e = f e

pub among_back : (r : ℕ) (xs ys : List ℕ) → among r ys ≡ true → among r (xs ++ ys) ≡ true
among_back r [] ys e = e
among_back r (x ∷ xs) ys e = grind (arith, among_back r xs ys e)

asked_first : (a b : Option ℕ) (r : ℕ) → a ≡ Some r → among r (both a b) ≡ true
asked_first a b r e = rw e (grind arith)

asked_second : (a b : Option ℕ) (r : ℕ) → b ≡ Some r → among r (both a b) ≡ true
asked_second a b r e = rw e (grind arith)

source_reg : (c : List (Option ℕ)) (o : Option ℕ) → reg_in (source c o) ≡ o
source_reg c o = grind arith

source_agrees : (c : List (Option ℕ)) (o : Option ℕ) (regs : List ℕ) → AreRegisters c regs → HasValue (source c o) regs
source_agrees c None regs h = tt
source_agrees c (Some r) regs h = h r

bound_reg : (o : Option ℕ) → reg_in (destination o) ≡ o
bound_reg o = grind arith

bound_agrees : (o : Option ℕ) (regs : List ℕ) → HasValue (destination o) regs
bound_agrees o regs = grind arith

-- the three kinds of new instructions
end_sure : (isa : Isa) (x : Machine) (pc : ℕ) (g : Guess) (w : Option Instr) (e : End) (t : Option ℕ) → t ≡ Some pc →
    Holds (fresh_end w pc g e) (fetched isa x.hart.mem pc) → ((i : Instr) → w ≡ Some i → kind_of i ≡ Free) → step_at isa x pc ≡ Stops e →
    IsSure isa (fresh_end w pc g e) x (step_at isa x pc) t
end_sure isa x pc g w e t p r c s = record {
  path = p;
  reads = r;
  shape = λ i k. let b = free_bare i (c i k) in record { one = sym b.0; two = sym b.1; three = sym b.2 };
  values = record {
    first = tt;
    second = tt;
    destination = tt;
    owed = tt;
    goes = λ _ k. absurd (cc);
    next = λ _ k. absurd (cc);
    done = λ _ k. absurd (cc);
    ends = λ b k. let q : e ≡ b = cc in s ∙ ap Stops q;
  };
  unended = λ k. absurd (cc);
  unowing = λ k. absurd (cc);
  owed = tt;
}

fence_sure : (isa : Isa) (x : Machine) (pc : ℕ) (g : Guess) (i : Instr) (t : Option ℕ) → t ≡ Some pc → Holds (fresh_fence i pc g) (fetched isa x.hart.mem pc) →
    kind_of i ≡ Free → step_at isa x pc ≡ Goes (onward (at_pc x pc) (word_after pc) x.hart.regs x.hart.mem) →
    IsSure isa (fresh_fence i pc g) x (step_at isa x pc) t
fence_sure isa x pc g i t p r c s = record {
  path = p;
  reads = r;
  shape = λ j k. let q : i ≡ j = cc in let b = free_bare j (rw q at c) in record { one = sym b.0; two = sym b.1; three = sym b.2 };
  values = record {
    first = tt;
    second = tt;
    destination = tt;
    owed = tt;
    goes = λ _ _. rw s;
    next = λ _ _. rw s;
    done = λ _ _. tt;
    ends = λ b k. absurd (cc);
  };
  unended = λ k. absurd (cc);
  unowing = λ k. absurd (cc);
  owed = tt;
}

undone_sure : (isa : Isa) (c : List (Option ℕ)) (x : Machine) (pc : ℕ) (g : Guess) (i : Instr) (t : Option ℕ) → AreRegisters c x.hart.regs → t ≡ Some pc →
    Holds (fresh_undone c i pc g) (fetched isa x.hart.mem pc) → IsSure isa (fresh_undone c i pc g) x (step_at isa x pc) t
undone_sure isa c x pc g i t h p r = record {
  path = p;
  reads = r;
  shape = λ j k. let q : i ≡ j = cc in rw (← q) (record { one = source_reg c (src1_of i); two = source_reg c (src2_of i); three = bound_reg (dst_of i) });
  values = record {
    first = source_agrees c (src1_of i) x.hart.regs h;
    second = source_agrees c (src2_of i) x.hart.regs h;
    destination = bound_agrees (dst_of i) (after_step (step_at isa x pc) x).hart.regs;
    owed = tt;
    goes = λ k. absurd (cc);
    next = λ k. absurd (cc);
    done = λ k. absurd (cc);
    ends = λ b k. absurd (cc);
  };
  unended = λ _. refl;
  unowing = λ _. refl;
  owed = tt;
}

-- a new instruction of a class
pub fresh_usual : (k : Class) (c : List (Option ℕ)) (i : Instr) (pc : ℕ) (g : Guess) → is_free k ≡ false → fresh_as k c i pc g ≡ fresh_undone c i pc g
fresh_usual Free c i pc g e = absurd (cc)
fresh_usual _ c i pc g e = refl

class_sure : (isa : Isa) (k : Class) (c : List (Option ℕ)) (x : Machine) (pc : ℕ) (g : Guess) (i : Instr) (t : Option ℕ) → kind_of i ≡ k →
    AreRegisters c x.hart.regs → t ≡ Some pc → fetched isa x.hart.mem pc ≡ Got i → IsSure isa (fresh_as k c i pc g) x (step_at isa x pc) t
class_sure isa Free c x pc g i t e h p f = go (free_trap i pc) refl
  where
    s : step_at isa x pc ≡ on (free_trap i pc) (Goes (onward (at_pc x pc) (word_after pc) x.hart.regs x.hart.mem)) Stops
    s = step_is isa x pc i f ∙ ap (λ (z : Class). stepped_as z i (value_read x.hart.regs (src1_of i)) (value_read x.hart.regs (src2_of i)) (at_pc x pc)) e

    go : (o : Option End) → free_trap i pc ≡ o → IsSure isa (on o (fresh_fence i pc g) (fresh_end (Some i) pc g)) x (step_at isa x pc) t
    go None q = fence_sure isa x pc g i t p (rw f refl) e (s ∙ ap (λ (o : Option End). on o
        (Goes (onward (at_pc x pc) (word_after pc) x.hart.regs x.hart.mem)) Stops) q)
    go (Some b) q = end_sure isa x pc g (Some i) b t p (rw f refl) (λ j k. let z : i ≡ j = cc in
        rw (← z) e) (s ∙ ap (λ (o : Option End). on o (Goes (onward (at_pc x pc) (word_after pc) x.hart.regs x.hart.mem)) Stops) q)
class_sure isa _ c x pc g i t e h p f = undone_sure isa c x pc g i t h p (rw f refl)

fetched_sure : (isa : Isa) (q : Fetched) (c : List (Option ℕ)) (x : Machine) (pc : ℕ) (g : Guess) (t : Option ℕ) → AreRegisters c x.hart.regs → t ≡ Some pc →
    fetched isa x.hart.mem pc ≡ q → IsSure isa (fresh c q pc g) x (step_at isa x pc) t
unfolding fresh
fetched_sure isa (Got i) c x pc g t h p f = class_sure isa (kind_of i) c x pc g i t refl h p f
fetched_sure isa (Bad b) c x pc g t h p f = end_sure isa x pc g None b t p (rw f (refl, refl)) (λ i k. absurd (cc)) (bad_step isa x pc b f)

class_pc : (k : Class) (c : List (Option ℕ)) (i : Instr) (pc : ℕ) (g : Guess) → (fresh_as k c i pc g).pc ≡ pc
class_pc Free c i pc g = go (free_trap i pc)
  where
    go : (o : Option End) → (on o (fresh_fence i pc g) (fresh_end (Some i) pc g)).pc ≡ pc
    go None = refl
    go (Some e) = refl
class_pc _ c i pc g = refl

pub fresh_pc : (q : Fetched) (c : List (Option ℕ)) (pc : ℕ) (g : Guess) → (fresh c q pc g).pc ≡ pc
unfolding fresh
fresh_pc (Got i) c pc g = class_pc (kind_of i) c i pc g
fresh_pc (Bad b) c pc g = refl

pub fresh_at : (isa : Isa) (w : Walk) (c : List (Option ℕ)) (pc : ℕ) (g : Guess) → AreRegisters c w.machine.hart.regs → w.goto ≡ Some pc →
    ((r : ℕ) → among r (requests (fresh c (fetched isa w.machine.hart.mem pc) pc g)) ≡ true → w.coming r ≡ true) →
    SureAt isa (fresh c (fetched isa w.machine.hart.mem pc) pc g) w
unfolding SureAt
fresh_at isa w c pc g h p a =
    let q = fetched isa w.machine.hart.mem pc in
    let n = fresh c q pc g in
    let s = fetched_sure isa q c w.machine pc g w.goto h p refl in (
      subst (λ (a : ℕ). IsSure isa n w.machine (step_at isa w.machine a) w.goto) (sym (fresh_pc q c pc g)) s,
      record {
        source1 = λ r e. a r (asked_first (missing n.src1) (missing n.src2) r e);
        source2 =
            λ r e. a r (asked_second (missing n.src1) (missing n.src2) r e);
      },
    )

class_what : (k : Class) (c : List (Option ℕ)) (i : Instr) (pc : ℕ) (g : Guess) → (fresh_as k c i pc g).what ≡ Some i
class_what Free c i pc g = go (free_trap i pc)
  where
    go : (o : Option End) → (on o (fresh_fence i pc g) (fresh_end (Some i) pc g)).what ≡ Some i
    go None = refl
    go (Some e) = refl
class_what _ c i pc g = refl

pub fresh_what : (i : Instr) (c : List (Option ℕ)) (pc : ℕ) (g : Guess) → (fresh c (Got i) pc g).what ≡ Some i
unfolding fresh
fresh_what i c pc g = class_what (kind_of i) c i pc g

pub fresh_nothing : (e : End) (c : List (Option ℕ)) (pc : ℕ) (g : Guess) → (fresh c (Bad e) pc g).what ≡ None
unfolding fresh
fresh_nothing e c pc g = refl

-- what else is known of it
pub record IsFresh (p : Passenger) (g : Guess) : Type 0 where
  pub live : p.dead ≡ false
  pub owes : p.owes ≡ None
  pub here : p.launched ≡ false
  pub never : p.recovered ≡ false
  pub guess : p.guess ≡ g
  pub undone : p.done ≡ false → (p.ending ≡ None) × (p.dst ≡ destination (dst_of (instruction p)))
  pub done : p.done ≡ true → is_free (kind p) ≡ true
  pub free : is_free (kind p) ≡ true → p.done ≡ true
  pub waits : p.done ≡ true → is_some p.ending ≡ true → goto p ≡ None

class_fresh : (k : Class) (c : List (Option ℕ)) (i : Instr) (pc : ℕ) (g : Guess) → kind_of i ≡ k → IsFresh (fresh_as k c i pc g) g
class_fresh Free c i pc g e = go (free_trap i pc)
  where
    go : (o : Option End) → IsFresh (on o (fresh_fence i pc g) (fresh_end (Some i) pc g)) g
    go None = record {
      live = refl;
      owes = refl;
      here = refl;
      never = refl;
      guess = refl;
      undone = λ k. absurd (cc);
      done = λ _. rw e refl;
      free = λ _. refl;
      waits = λ _ k. absurd (cc);
    }
    go (Some b) = record {
      live = refl;
      owes = refl;
      here = refl;
      never = refl;
      guess = refl;
      undone = λ k. absurd (cc);
      done = λ _. rw e refl;
      free =
          λ _. refl;
      waits = λ _ _. refl;
    }
class_fresh _ c i pc g e =
    record {
      live = refl;
      owes = refl;
      here = refl;
      never = refl;
      guess = refl;
      undone = λ _. (refl, refl);
      done = λ k. absurd (cc);
      free =
          λ k. absurd (let z = rw e at k in cc);
      waits = λ k. absurd (cc);
    }

pub fresh_is : (q : Fetched) (c : List (Option ℕ)) (pc : ℕ) (g : Guess) → IsFresh (fresh c q pc g) g
unfolding fresh
fresh_is (Got i) c pc g = class_fresh (kind_of i) c i pc g refl
fresh_is (Bad b) c pc g =
    record {
      live = refl;
      owes = refl;
      here = refl;
      never = refl;
      guess = refl;
      undone = λ k. absurd (cc);
      done = λ _. refl;
      free = λ _. refl;
      waits =
          λ _ _. refl;
    }
