-- Launch: the answer is taken by the instructions above, the operation comes last, and the order of memory is kept.
use Rattle.std.proofs.Common.{◌≡◌, ◌≢◌, ℕ, List, [], ◌∷◌, ◌++◌, Option, Some, None, Bool, true, false, refl, sym, ap, ◌∙◌, arith}
use Rattle.std.specs.Prelude.{if◌then◌else◌}
use Rattle.cf_bind.specs.declared.cell.Op.{Op}
use Rattle.cf_bind.specs.declared.passenger.Passenger.{Passenger}
use Rattle.cf_layout.specs.Layout.{Plan, launch_stage, siding_of}
use Rattle.theory_refinement.proofs.column.Change.{walk_path, walk_safe}
use Rattle.theory_refinement.proofs.column.Fold.{Replaces}
use Rattle.theory_refinement.proofs.invariant.Stands.{Between, Stands}
use Rattle.theory_refinement.proofs.invariant.Suited.{Suits}
use Rattle.cf_semantics.specs.moves.Bars.{last_op}
use Rattle.cf_semantics.specs.state.Column.{Down, Item, Up}
use Rattle.cf_semantics.specs.moves.Instructions.{access_trap, after_step, is_memory, step_at}
use Rattle.cf_semantics.specs.state.Layouts.{isa_of, launches, port}
use Rattle.cf_semantics.specs.state.Options.{on}
use Rattle.cf_semantics.specs.state.Passengers.{instruction, kind, missing, value_in}
use Rattle.cf_semantics.specs.claims.Walks.{Everywhere, walk}
use Rattle.mem_regions.specs.Access.{bounds_of}
use Rattle.rv_inst.specs.declared.classes.Class.{Class}
use Rattle.rv_inst.specs.declared.isa.Isa.{Isa}
use Rattle.rv_machine.specs.Machine.{Machine}
use Rattle.cf_semantics.specs.claims.Ahead as ahead
use Rattle.theory_refinement.proofs.invariant.Port as dock
use Rattle.theory_refinement.proofs.invariant.Lone as lone
use Rattle.theory_refinement.proofs.walks.Lone as lones
use Rattle.theory_refinement.proofs.walks.Marked.{marked_at}
use Rattle.theory_refinement.proofs.walks.Path as paths
use Rattle.theory_refinement.proofs.walks.Port as ports
use Rattle.theory_refinement.proofs.invariant.Sure as sure
use Rattle.cf_semantics.specs.claims.Path as trail
use Rattle.cf_semantics.specs.claims.Soundness.{as_launched, in_siding, operations_in, operations_of}

-- launched: the instruction after Launch
abbrev pub sent_out : Passenger → Passenger
sent_out p = record p { launched = true }

-- the path is unchanged
out_at : (isa : Isa) (p : Passenger) (w : trail.Walk) → sure.SureAt isa p w → sure.SureAt isa (sent_out p) w
out_at isa p w h = marked_at isa true p.recovered p w h

launch_follows : (isa : Isa) (i : ℕ) (p : Passenger) (w : trail.Walk) → paths.Follows (walk (trail.past isa) (Up i p ∷ []) w)
    (walk (trail.past isa) (Up i (sent_out p) ∷ []) w)
unfolding trail.past
launch_follows isa i p w =
    record {
      barred = λ b. grind arith;
      machine = λ b. grind arith;
      goto = λ b. grind arith;
      settled = λ b e. grind arith;
      trapped = λ b e. grind arith;
      coming = λ b r c. grind arith;
    }

pub launch_path : (isa : Isa) (i : ℕ) (p : Passenger) (w : trail.Walk) → Replaces trail.Walk (sure.Fits isa) (trail.past isa) paths.Follows (Up i p ∷ [])
    (Up i (sent_out p) ∷ []) w
unfolding sure.Fits trail.past
launch_path isa i p w = record { fit = λ h. fits h; follows = λ h. launch_follows isa i p w }
  where
    fits : Everywhere (sure.Fits isa) (trail.past isa) (Up i p ∷ []) w → Everywhere (sure.Fits isa) (trail.past isa) (Up i (sent_out p) ∷ []) w
    fits h = let q = out_at isa p w in grind arith

pub launch_lone : (l : Plan) (i : ℕ) (p : Passenger) (w : Bool) → Replaces Bool lone.Fits (lone.past l) lones.Follows (Up i p ∷ []) (Up i (sent_out p) ∷ []) w
unfolding lone.Fits lone.past
launch_lone l i p w = record { fit = λ h. h; follows = λ h. record { shut = λ e. e } }

launch_between : (l : Plan) (acc : Suits l) (i : ℕ) (c : Class) → launches l c i ≡ true → Between l c i
launch_between l acc i c e = go (siding_of l c) refl
  where
    go : (o : Option ℕ) → siding_of l c ≡ o → Between l c i
    go None f = absurd (grind arith)
    go (Some k) f =
        let q : launch_stage l k ≡ i = grind arith in
        let r = acc.order c k f in
        rw f (omega arith, omega arith)

pub launch_stands : (l : Plan) (acc : Suits l) (i : ℕ) (p : Passenger) → launches l (kind p) i ≡ true → p.dead ≡ false → p.done ≡ false → p.launched ≡ false →
    missing p.src1 ≡ None → missing p.src2 ≡ None → Stands l i p → Stands l i (sent_out p)
launch_stands l acc i p e d u n m1 m2 h = record {
  low = λ a b c. absurd (cc);
  out = λ a b. launch_between l acc i (kind p) e;
  back = h.back;
  back_done = h.back_done;
  back_launched = λ a. refl;
  owes_live = h.owes_live;
  owes_done = h.owes_done;
  owes_quiet = h.owes_quiet;
  guess = h.guess;
  served = h.served;
  unended = h.unended;
  blank = h.blank;
  free_done = h.free_done;
  out_undone = λ a b c. u;
  faulted = λ a b c d. absurd (cc);
  sourced1 = λ a. m1;
  sourced2 = λ a. m2;
  homed = h.homed;
}

-- at the port: with nothing risky above and the answer taken
pub launch_port : (isa : Isa) (i : ℕ) (p : Passenger) (w : dock.Dock) → p.dead ≡ false → p.done ≡ false → p.recovered ≡ false → p.launched ≡ false →
    (w.path.barred ≡ true → w.risky ≡ true) → (is_memory (kind p) ≡ true → (w.risky ≡ false) × (w.answer ≡ None)
    × (access_trap (instruction p) p.pc (value_in p.src1) (bounds_of w.path.machine.hart.mem) ≡ None)) →
    Replaces dock.Dock (dock.Fits isa) (dock.past isa) ports.Follows (Up i p ∷ []) (Up i (sent_out p) ∷ []) w
launch_port isa i p w d u r n s m = record {
  fit = λ h. (fits, tt);
  follows = λ h. record {
    path = rw (walk_path isa (Up i p ∷ []) w, walk_path isa (Up i (sent_out p) ∷ []) w) (same w.path);
    safe = walk_safe isa (Up i (sent_out p) ∷ []) w s;
    risky = unfold dock.past in λ e. e;
    mem = unfold dock.past in mem;
    code = unfold dock.past in refl;
    rest = unfold dock.past in refl;
    out = unfold dock.past in refl;
    answer = unfold dock.past in answer;
  };
}
  where
    fits : dock.Fits isa (Up i (sent_out p)) w
    fits = unfold dock.Fits dock.DockedAt in
        record {
          live = λ a b. d;
          order = λ a b. (m a).0;
          served = λ a. absurd (grind arith);
          permitted = λ a b. (m a).2;
          answered =
              λ f a e. absurd (grind (arith, m));
        }

    same : (q : trail.Walk) → paths.Follows (walk (trail.past isa) (Up i p ∷ []) q) (walk (trail.past isa) (Up i (sent_out p) ∷ []) q)
    same q = launch_follows isa i p q

    y : Machine
    y = after_step (step_at isa w.path.machine p.pc) w.path.machine

    mem : (if ahead.has_ported (sent_out p) w.answer then y.hart.mem else w.mem) ≡ (if ahead.has_ported p w.answer then y.hart.mem else w.mem)
    mem = go (is_memory (kind p)) refl
      where
        go : (b : Bool) → is_memory (kind p) ≡ b → (if ahead.has_ported (sent_out p) w.answer then y.hart.mem else w.mem)
            ≡ (if ahead.has_ported p w.answer then y.hart.mem else w.mem)
        go true e = let a = (m e).1 in grind arith
        go false e = grind arith

    answer : (if ahead.flies (sent_out p) then None else w.answer) ≡ (if ahead.flies p then None else w.answer)
    answer = go (is_memory (kind p)) refl
      where
        go : (b : Bool) → is_memory (kind p) ≡ b → (if ahead.flies (sent_out p) then None else w.answer) ≡ (if ahead.flies p then None else w.answer)
        go true e = let a = (m e).1 in grind arith
        go false e = grind arith

-- the answer is taken by the first instruction whose load or store is in the siding
pub flies_out : (l : Plan) (acc : Suits l) (p : Passenger) → in_siding l (port l) p ≡ true → ahead.flies p ≡ true
flies_out l acc p e = go (siding_of l (kind p)) refl
  where
    go : (o : Option ℕ) → siding_of l (kind p) ≡ o → ahead.flies p ≡ true
    go None f = absurd (grind arith)
    go (Some k) f =
        let q : k ≡ (port l) = grind arith in
        let m = acc.alone (kind p) (f ∙ ap Some q) in
        grind arith

pub past_none : (isa : Isa) (i : Item) (w : dock.Dock) → w.answer ≡ None → (dock.past isa i w).answer ≡ None
unfolding dock.past
past_none isa i w e = grind arith

walk_none : (isa : Isa) (xs : List Item) (w : dock.Dock) → w.answer ≡ None → (walk (dock.past isa) xs w).answer ≡ None
walk_none isa [] w e = e
walk_none isa (i ∷ xs) w e = walk_none isa xs (dock.past isa i w) (past_none isa i w e)

past_taken : (isa : Isa) (i : ℕ) (p : Passenger) (w : dock.Dock) → ahead.flies p ≡ true → (dock.past isa (Up i p) w).answer ≡ None
unfolding dock.past
past_taken isa i p w e = rw e

pub taken : (l : Plan) (acc : Suits l) (xs : List Item) (w : dock.Dock) → operations_of l (port l) xs ≢ [] → (walk (dock.past (isa_of l)) xs w).answer ≡ None
taken l acc [] w n = absurd (n refl)
taken l acc (Up i p ∷ xs) w n = go (in_siding l (port l) p) refl (taken l acc xs (dock.past (isa_of l) (Up i p) w))
  where
    go : (b : Bool) → in_siding l (port l) p ≡ b → (operations_of l (port l) xs ≢ [] → (walk (dock.past (isa_of l)) xs (dock.past (isa_of l) (Up i p) w)).answer
        ≡ None) → (walk (dock.past (isa_of l)) xs (dock.past (isa_of l) (Up i p) w)).answer ≡ None
    go true e f = walk_none (isa_of l) xs (dock.past (isa_of l) (Up i p) w) (past_taken (isa_of l) i p w (flies_out l acc p e))
    go false e f = f (rw e at n)
taken l acc (Down i k ∷ xs) w n = taken l acc xs (dock.past (isa_of l) (Down i k) w) n

no_operation : (l : List (Option Op)) → operations_in l ≡ [] → last_op l ≡ None
no_operation [] e = refl
no_operation (None ∷ []) e = refl
no_operation (Some o ∷ []) e = absurd (cc)
no_operation (o ∷ p ∷ l) e = no_operation (p ∷ l) (front (operations_in (p ∷ l)) (as_launched o) e)
  where
    front : (a b : List Op) → a ++ b ≡ [] → a ≡ []
    front [] b e = refl
    front (x ∷ a) b e = absurd (cc)

-- what reaches a launch: no answer, for it is taken above or there is no operation
pub answer_none : (l : Plan) (acc : Suits l) (xs : List Item) (w : dock.Dock) (q : List (Option Op)) → operations_in q ≡ operations_of l (port l) xs →
    w.answer ≡ on (last_op q) None (λ o. o.answer) → (walk (dock.past (isa_of l)) xs w).answer ≡ None
answer_none l acc xs w q e f = go (operations_of l (port l) xs) refl
  where
    go : (r : List Op) → operations_of l (port l) xs ≡ r → (walk (dock.past (isa_of l)) xs w).answer ≡ None
    go [] g = walk_none (isa_of l) xs w (f ∙ ap (λ (o : Option Op). on o None (λ p. p.answer)) (no_operation q (e ∙ g)))
    go (o ∷ r) g = taken l acc xs w (λ z. let y = sym g ∙ z in absurd (cc))
