-- Recover keeps the invariant.
use Rattle.std.proofs.Common.{◌≡◌, ◌≢◌, ℕ, ◌≤◌, List, [], ◌∷◌, ◌++◌, Option, Some, None, Bool, true, false, ◌==◌, ◌||◌, refl, sym, ap, subst, ◌∙◌, arith, length}
use Rattle.std.specs.Prelude.{if◌then◌else◌}
use Rattle.cf_bind.specs.declared.cell.Op.{Op}
use Rattle.cf_bind.specs.declared.moves.Move.TheVariants.{Recover}
use Rattle.cf_bind.specs.declared.passenger.Guess.TheVariants.{Next}
use Rattle.cf_bind.specs.declared.passenger.Passenger.{Passenger}
use Rattle.cf_layout.specs.Layout.{Plan, launch_stage, recover_stage, siding_of}
use Rattle.theory_refinement.proofs.walks.Answering.{Landed, fit_landed, walk_landed}
use Rattle.theory_refinement.proofs.walks.Returning.{back, back_dead, back_finished, back_fits, back_lone, back_lone_fits, back_past, back_port, back_port_fits}
use Rattle.theory_refinement.proofs.column.Change.{docked, ends_port, here, past_safe, reshaped, walk_safe}
use Rattle.theory_refinement.proofs.walks.Finishing.{finish_dead, finish_flags, finish_kind, finish_lone, finish_port, finish_shuts, finish_turned, plain_quiet}
use Rattle.theory_refinement.proofs.moves.Execute.{goes_straight, sure_finishes}
use Rattle.theory_refinement.proofs.column.Fold.{Replaces, fit_append, fit_back, fit_follows, fit_front, prefaced, walk_append, walk_follows}
use Rattle.theory_refinement.proofs.moves.Rows.{bar_row, put_size}
use Rattle.theory_refinement.proofs.moves.Launch.{in_port}
use Rattle.theory_refinement.proofs.walks.Loading.{loaded_calm, loaded_shuts, memory_finishes, memory_goes}
use Rattle.theory_refinement.proofs.walks.PathFinish.{Finishes, finish_fits, finish_walk, pc_stays}
use Rattle.theory_refinement.proofs.moves.Recovering.{Recovers, back_moored, hauls, next_recover, recover_ready}
use Rattle.theory_refinement.proofs.column.Sidings.{last_answer, last_set, plain_last, put_here, put_other}
use Rattle.theory_refinement.proofs.column.Spot.{spot}
use Rattle.theory_refinement.proofs.invariant.Invariant.{Sound}
use Rattle.theory_refinement.proofs.invariant.Stands.{Behind, Stands}
use Rattle.theory_refinement.proofs.invariant.Suited.{Suits, is_plain}
use Rattle.cf_semantics.specs.moves.Bars.{bar}
use Rattle.cf_semantics.specs.state.Column.{Down, Item, Up}
use Rattle.cf_layout.specs.Accepted.{is_control}
use Rattle.cf_semantics.specs.moves.Instructions.{access_trap, after_step, is_free, is_memory, is_serial, step_at}
use Rattle.cf_semantics.specs.state.Layouts.{isa_of, port}
use Rattle.cf_semantics.specs.moves.Moves.{back_in, moved, set_last, with_passenger}
use Rattle.cf_semantics.specs.state.Options.{on}
use Rattle.cf_semantics.specs.state.Passengers.{finish, instruction, kind, missing, value_in}
use Rattle.cf_semantics.specs.state.State.{State, siding_at, with_cell, with_siding}
use Rattle.cf_semantics.specs.claims.Walks.{Everywhere, walk}
use Rattle.mem_regions.specs.Access.{bounds_of}
use Rattle.rv_inst.specs.declared.isa.Isa.{Isa}
use Rattle.rv_machine.specs.Machine.{Machine}
use Rattle.cf_semantics.specs.claims.Ahead as ahead
use Rattle.theory_refinement.proofs.invariant.Port as dock
use Rattle.theory_refinement.proofs.invariant.Lone as lone
use Rattle.theory_refinement.proofs.walks.Lone as lones
use Rattle.theory_refinement.proofs.walks.Path as paths
use Rattle.theory_refinement.proofs.walks.Port as ports
use Rattle.theory_refinement.proofs.invariant.Sure as sure
use Rattle.cf_semantics.specs.claims.Path as trail
use Rattle.cf_semantics.specs.claims.Soundness.{IsAnswer, in_siding, operations_of, may_turn}
use Rattle.theory_refinement.proofs.instructions.Classes.{memory_is}

label : (isa : Isa) (i : ℕ) (p : Passenger) (w : trail.Walk) → Replaces trail.Walk (sure.Fits isa) (trail.past isa) paths.Follows (Up i (back p) ∷ [])
    (Up i (back p) ∷ []) w
label isa i p w = record {
  fit = λ h. h;
  follows = λ h. record {
    barred = λ b. b;
    machine = λ _. refl;
    goto = λ _. refl;
    settled = λ _ e. e;
    trapped = λ _ e. e;
    coming =
        λ _ r c. c;
  };
}

lone_label : (l : Plan) (i : ℕ) (p : Passenger) (w : Bool) → Replaces Bool lone.Fits (lone.past l) lones.Follows (Up i (back p) ∷ []) (Up i (back p) ∷ []) w
lone_label l i p w = record { fit = λ h. h; follows = λ h. record { shut = λ e. e } }

port_label : (isa : Isa) (i : ℕ) (p : Passenger) (w : dock.Dock) → (w.path.barred ≡ true → w.risky ≡ true) →
    Replaces dock.Dock (dock.Fits isa) (dock.past isa) ports.Follows (Up i (back p) ∷ []) (Up i (back p) ∷ []) w
port_label isa i p w s =
    record {
      fit = λ h. h;
      follows = λ h. record {
        path = record {
          barred = λ b. b;
          machine = λ _. refl;
          goto = λ _. refl;
          settled = λ _ e. e;
          trapped =
              λ _ e. e;
          coming = λ _ r c. c;
        };
        safe = walk_safe isa (Up i (back p) ∷ []) w s;
        risky = λ b. b;
        mem = refl;
        code = refl;
        rest = refl;
        out = refl;
        answer =
            refl;
      };
    }

behind_here : (l : Plan) (p : Passenger) (k i : ℕ) → siding_of l (kind p) ≡ Some k → recover_stage l k ≡ i → Behind l (kind p) i
behind_here l p k i e f = rw e (omega (arith, f))

pub docked_live : (isa : Isa) (p : Passenger) (i : ℕ) (w : dock.Dock) → dock.Fits isa (Up i p) w → p.launched ≡ true → is_memory (kind p) ≡ true →
    (p.dead ≡ false) × (w.risky ≡ false) × (access_trap (instruction p) p.pc (value_in p.src1) (bounds_of w.path.machine.hart.mem) ≡ None)
    × (ahead.flies p ≡ true → (a : ℕ) → w.answer ≡ Some a → IsAnswer p.dst (after_step (step_at isa w.path.machine p.pc) w.path.machine).hart.regs a)
unfolding dock.Fits dock.DockedAt
docked_live isa p i w h o m =
    let e : (p.launched || p.recovered) ≡ true = grind arith in
    (h.live m e, h.order m e, h.permitted m e, h.answered)

not_memory : (isa : Isa) (p : Passenger) (i : ℕ) (w : dock.Dock) → dock.Fits isa (Up i p) w → p.launched ≡ true → p.dead ≡ true → is_memory (kind p) ≡ false
not_memory isa p i w h o d = go (is_memory (kind p)) refl
  where
    go : (b : Bool) → is_memory (kind p) ≡ b → is_memory (kind p) ≡ false
    go false e = e
    go true e = absurd (let z = (docked_live isa p i w h o e).0 in cc)

pub other_port : (l : Plan) (p : Passenger) (k : ℕ) → Suits l → siding_of l (kind p) ≡ Some k → is_memory (kind p) ≡ false → (port l) ≢ k
other_port l p k acc e m f = let z = acc.alone (kind p) (rw f e) in absurd (grind arith)

-- not from Memory's siding: the port's walk begins as before
top_other : (l : Plan) (s t : State) (x : Machine) (k : ℕ) → t.lane ≡ s.lane → t.sidings ≡ (with_siding s k (set_last (siding_at s k) None)).sidings →
    (port l) ≢ k → dock.top l t x ≡ dock.top l s x
top_other l s t x k e f n = rw (e, f) (rw (put_other s.sidings k (port l) (set_last (siding_at s k) None) n) refl)

dead_kept : {rest out : List ℕ} (l : Plan) (s : State) (x : Machine) (i : ℕ) → Suits l → (r : Recovers l s i) → r.who.dead ≡ true → Sound l s rest out x →
    Sound l (with_siding (with_cell s i (with_passenger r.here (back r.who))) r.number (set_last (siding_at s r.number) None)) rest out x
dead_kept {rest} {out} l s x i acc r d h =
    let p = r.who in
    let k = r.number in
    let q = spot s i r.here p r.at_here r.sits in
    let t : State = with_siding (with_cell s i (with_passenger r.here (back p))) k (set_last (siding_at s k) None) in
    let old = Up i p ∷ [] in
    let new = Up i (back p) ∷ [] in
    let y = here l s x q.above old q.below q.was h in
    let m = not_memory (isa_of l) p i _ y.port_fit.0 r.out d in
    let g = hauls l s x i acc r q h in
    reshaped l s t x q.above old new q.below q.was (q.is (back p))
    (record { regs = refl; lane = refl; fetch = refl; cache = refl; size = put_size s.cells i (with_passenger r.here (back p)) })
    (prefaced _ (sure.Fits (isa_of l)) (trail.past (isa_of l)) paths.Follows (Up i p) (Up i (back p)) new _ (back_fits (isa_of l) i p _)
    (back_past (isa_of l) i p _) (label (isa_of l) i p _))
    (prefaced _ lone.Fits (lone.past l) lones.Follows (Up i p) (Up i (back p)) new _ (back_lone_fits i p _) (back_lone l i p _) (lone_label l i p _))
    (back_dead l i p d r.out (behind_here l p k i r.siding r.at_stage) y.stands.0, tt)
    (docked l s t x q.above old new q.below q.was (q.is (back p)) (top_other l s t x k refl refl (other_port l p k acc r.siding m)) refl
    (prefaced _ (dock.Fits (isa_of l)) (dock.past (isa_of l)) ports.Follows (Up i p) (Up i (back p)) new _ (back_port_fits (isa_of l) i p _ m)
    (back_port (isa_of l) i p _ m) (port_label (isa_of l) i p _ y.safe)) h)
    (back_moored l s t i r q (back p) g refl (q.is (back p)) refl h.moored)
    h

-- a live instruction of another class than Memory
pub plain_class : (l : Plan) (p : Passenger) (k : ℕ) → Suits l → siding_of l (kind p) ≡ Some k → is_memory (kind p) ≡ false → is_plain (kind p) ≡ true
plain_class l p k acc e m = let z = acc.sided (kind p) k e in grind arith

plain_kept : {rest out : List ℕ} (l : Plan) (s : State) (x : Machine) (i : ℕ) → Suits l → (r : Recovers l s i) → r.who.dead ≡ false →
    is_memory (kind r.who) ≡ false → Sound l s rest out x → Sound l (with_siding (with_cell s i (with_passenger r.here (finish (back r.who) None))) r.number
    (set_last (siding_at s r.number) None)) rest out x
plain_kept {rest} {out} l s x i acc r d m h =
    let p = r.who in
    let b = back p in
    let f = finish b None in
    let k = r.number in
    let q = spot s i r.here p r.at_here r.sits in
    let t : State = with_siding (with_cell s i (with_passenger r.here f)) k (set_last (siding_at s k) None) in
    let old = Up i p ∷ [] in
    let mid = Up i b ∷ [] in
    let new = Up i f ∷ [] in
    let y = here l s x q.above old q.below q.was h in
    let g = hauls l s x i acc r q h in
    let c = plain_class l p k acc r.siding m in
    let u = y.stands.0.out_undone d r.out r.never in
    let m1 = y.stands.0.sourced1 r.out in
    let m2 = y.stands.0.sourced2 r.out in
    let low : is_control (kind b) ≡ true → lone.is_high l i ≡ false = λ a. below_launch (acc.control_siding (kind p) k a r.siding) in
    let walks = λ (w : trail.Walk). finish_walk (isa_of l) i b w None u (goes_straight b c) in
    reshaped l s t x q.above old new q.below q.was (q.is f) (record
    { regs = refl; lane = refl; fetch = refl; cache = refl; size = put_size s.cells i (with_passenger r.here f) })
    (prefaced _ (sure.Fits (isa_of l)) (trail.past (isa_of l)) paths.Follows (Up i p) (Up i b) new _ (back_fits (isa_of l) i p _) (back_past (isa_of l) i p _)
    (record { fit = finish_fits (isa_of l) i b _ None y.wide d u (sure_finishes (isa_of l) b _ u m1 m2 c); follows = walks _ }))
    (prefaced _ lone.Fits (lone.past l) lones.Follows (Up i p) (Up i b) new _ (back_lone_fits i p _) (back_lone l i p _)
    (finish_lone l i b _ (finish_shuts l i b c low y.stands.0.guess)))
    (back_finished l i p None d r.out (behind_here l p k i r.siding r.at_stage) (plain_quiet (kind p) c) y.stands.0, tt)
    (docked l s t x q.above old new q.below q.was (q.is f) (top_other l s t x k refl refl (other_port l p k acc r.siding m)) refl
    (prefaced _ (dock.Fits (isa_of l)) (dock.past (isa_of l)) ports.Follows (Up i p) (Up i b) new _ (back_port_fits (isa_of l) i p _ m)
    (back_port (isa_of l) i p _ m) (finish_port (isa_of l) i b _ c y.safe (finish_turned i b d u c (y.stands.0.unended u) y.stands.0.guess) (walks _)
    (rw y.same (back_fits (isa_of l) i p _ y.path_fit.0, tt)))) h)
    (back_moored l s t i r q f g refl (q.is f) ((finish_flags b None).1) h.moored)
    h
  where
    below_launch : recover_stage l r.number ≤ launch_stage l (port l) → lone.is_high l i ≡ false
    below_launch e = let z = r.at_stage in grind (arith, z)

-- a live memory operation
pub landed : (l : Plan) → Suits l → (xs : List Item) → operations_of l (port l) xs ≡ [] → Landed xs
landed l acc [] e = tt
landed l acc (Up i p ∷ xs) e = go (ahead.flies p) refl (λ z. landed l acc xs z)
  where
    out : ahead.flies p ≡ true → in_siding l (port l) p ≡ true
    out f =
        let m : is_memory (kind p) ≡ true = grind arith in
        let z : siding_of l (kind p) ≡ Some (port l) = rw (memory_is (kind p) m) acc.memory in
        let same : ((port l) == (port l)) ≡ true = grind arith in
        let a : p.launched ≡ true = grind arith in
        let b : p.recovered ≡ false = grind arith in
        rw (a, b, z) same

    go : (b : Bool) → ahead.flies p ≡ b → (operations_of l (port l) xs ≡ [] → Landed xs) → Landed (Up i p ∷ xs)
    go true f w = absurd (let z = rw (out f) at e in cc)
    go false f w = (f, w (rest (in_siding l (port l) p) refl))
      where
        rest : (c : Bool) → in_siding l (port l) p ≡ c → operations_of l (port l) xs ≡ []
        rest true g = absurd (let z = rw g at e in cc)
        rest false g = rw g at e
landed l acc (Down i k ∷ xs) e = landed l acc xs e

loaded_fits : (isa : Isa) (i : ℕ) (p : Passenger) (w : dock.Dock) (a : ℕ) → is_memory (kind p) ≡ true → p.launched ≡ true → p.dead ≡ false →
    dock.Fits isa (Up i p) w → dock.Fits isa (Up i (finish (back p) (Some a))) (record w { answer = None })
unfolding dock.Fits dock.DockedAt
loaded_fits isa i p w a m o d h =
    let q = finish (back p) (Some a) in
    let f = finish_flags (back p) (Some a) in
    let k : is_memory (kind q) ≡ true = ap is_memory (finish_kind (back p) (Some a)) ∙ m in
    let g = finish_dead (back p) (Some a) ∙ d in
    let e : (p.launched || p.recovered) ≡ true = grind arith in
    record {
      live = λ _ _. g;
      order = λ _ _. h.order m e;
      served = λ z. absurd (grind arith);
      permitted = λ _ _. permit (h.permitted m e);
      answered =
          λ z. absurd (let y = f.1 in grind arith);
    }
  where
    permit : access_trap (instruction p) p.pc (value_in p.src1) (bounds_of w.path.machine.hart.mem) ≡ None →
        access_trap (instruction (finish (back p) (Some a))) (finish (back p) (Some a)).pc (value_in (finish (back p) (Some a)).src1)
        (bounds_of w.path.machine.hart.mem) ≡ None
    permit e = unfold finish in grind (arith, e)

loaded_port : (isa : Isa) (i : ℕ) (p : Passenger) (w : dock.Dock) (a : ℕ) → is_memory (kind p) ≡ true → p.dead ≡ false → p.launched ≡ true →
    p.recovered ≡ false → p.guess ≡ Next → p.ending ≡ None → w.answer ≡ Some a → paths.Follows (trail.past isa (Up i p) w.path)
    (trail.past isa (Up i (finish (back p) (Some a))) w.path) → ((dock.past isa (Up i (finish (back p) (Some a))) (record w { answer = None })).path.barred
    ≡ true → (dock.past isa (Up i (finish (back p) (Some a))) (record w { answer = None })).risky ≡ true) →
    ports.Follows (dock.past isa (Up i p) w) (dock.past isa (Up i (finish (back p) (Some a))) (record w { answer = None }))
unfolding dock.past
loaded_port isa i p w a m d o n g e f q s =
    let b = finish (back p) (Some a) in
    let k : is_memory (kind b) ≡ true = ap is_memory (finish_kind (back p) (Some a)) ∙ m in
    let dead = finish_dead (back p) (Some a) ∙ d in
    let flags = finish_flags (back p) (Some a) in
    let fr : b.recovered ≡ true = flags.1 in
    let c1 : ahead.has_ported p w.answer ≡ true = grind arith in
    let c2 : ahead.has_ported b None ≡ true = grind arith in
    let d1 : ahead.has_served p ≡ false = grind arith in
    let d2 : ahead.has_served b ≡ false = grind arith in
    let e1 : ahead.flies p ≡ true = grind arith in
    let e2 : ahead.flies b ≡ false = grind arith in
    let z = loaded_calm i (back p) a m g e in
    let pc : b.pc ≡ p.pc = pc_stays (back p) (Some a) in
    record {
      path = q;
      safe = s;
      risky = λ y. more w.risky (may_turn (Up i b)) (may_turn (Up i p)) z y;
      mem = rw (c1, c2, pc) refl;
      code = rw (d1, d2) refl;
      rest = rw (d1, d2) refl;
      out = rw (d1, d2) refl;
      answer = rw (e1, e2) refl;
    }
  where
    more : (a b c : Bool) → b ≡ false → (a || b) ≡ true → (a || c) ≡ true
    more a b c e f = grind arith

memory_quiet : (p : Passenger) → is_memory (kind p) ≡ true → (is_free (kind p) || is_serial (kind p)) ≡ false
memory_quiet p m = grind arith

memory_guess : (l : Plan) (i : ℕ) (p : Passenger) → is_memory (kind p) ≡ true → Stands l i p → p.guess ≡ Next
memory_guess l i p m h = h.guess (grind arith)

pub sure_loads : (isa : Isa) (p : Passenger) (w : trail.Walk) (a : ℕ) → length w.machine.hart.regs ≡ 32 → is_memory (kind p) ≡ true → missing p.src1 ≡ None →
    missing p.src2 ≡ None → access_trap (instruction p) p.pc (value_in p.src1) (bounds_of w.machine.hart.mem) ≡ None →
    IsAnswer p.dst (after_step (step_at isa w.machine p.pc) w.machine).hart.regs a → sure.SureAt isa p w →
    Finishes p w.machine (step_at isa w.machine p.pc) (Some a)
unfolding sure.SureAt
sure_loads isa p w a l m m1 m2 t n h = memory_finishes isa p w.machine w.goto a l m m1 m2 t n h.0

put_lone : (l : Plan) (i : ℕ) (b f : Passenger) (w : Bool) → lone.shuts l i f ≡ false → Replaces Bool lone.Fits (lone.past l) lones.Follows (Up i b ∷ [])
    (Up i f ∷ []) w
unfolding lone.Fits lone.past
put_lone l i b f w s = record { fit = λ h. h; follows = λ h. record { shut = rw s (λ e. grind arith) } }

memory_kept : {rest out : List ℕ} (l : Plan) (s : State) (x : Machine) (i : ℕ) (a : ℕ) → Suits l → (r : Recovers l s i) → is_memory (kind r.who) ≡ true →
    r.what.answer ≡ Some a → Sound l s rest out x → Sound l (with_siding (with_cell s i (with_passenger r.here (finish (back r.who) (Some a)))) r.number
    (set_last (siding_at s r.number) None)) rest out x
memory_kept {rest} {out} l s x i a acc r m ans h =
    let p = r.who in
    let b = back p in
    let f = finish b (Some a) in
    let k = r.number in
    let q = spot s i r.here p r.at_here r.sits in
    let t : State = with_siding (with_cell s i (with_passenger r.here f)) k (set_last (siding_at s k) None) in
    let old = Up i p ∷ [] in
    let new = Up i f ∷ [] in
    let y = here l s x q.above old q.below q.was h in
    let g = hauls l s x i acc r q h in
    let n = in_port l p k acc r.siding m in
    let w0 = dock.top l s x in
    let u = walk (dock.past (isa_of l)) q.above w0 in
    let known = docked_live (isa_of l) p i u y.port_fit.0 r.out m in
    let d = known.0 in
    let v = y.stands.0.out_undone d r.out r.never in
    let e = y.stands.0.unended v in
    let guess = memory_guess l i p m y.stands.0 in
    let land = landed l acc q.above (rw n at g.above) in
    let answer : w0.answer ≡ Some a = ap last_answer (ap (siding_at s) (sym n)) ∙ ap (λ (o : Option Op). on o None (λ z. z.answer)) r.lies ∙ ans in
    let at : u.answer ≡ Some a = ap (λ (z : dock.Dock). z.answer) (walk_landed (isa_of l) q.above w0 w0.answer land) ∙ answer in
    let flies : ahead.flies p ≡ true = let o = r.out in let c = r.never in grind arith in
    let given = known.3 flies a at in
    let wp = walk (trail.past (isa_of l)) q.above (trail.top s x) in
    let given' : IsAnswer p.dst (after_step (step_at (isa_of l) wp.machine p.pc) wp.machine).hart.regs a =
    subst (λ (z : trail.Walk). IsAnswer p.dst (after_step (step_at (isa_of l) z.machine p.pc) z.machine).hart.regs a) y.same given in
    let permit : access_trap (instruction p) p.pc (value_in p.src1) (bounds_of wp.machine.hart.mem) ≡ None =
    subst (λ (z : trail.Walk). access_trap (instruction p) p.pc (value_in p.src1) (bounds_of z.machine.hart.mem) ≡ None) y.same known.2 in
    let rp = prefaced _ (sure.Fits (isa_of l)) (trail.past (isa_of l)) paths.Follows (Up i p) (Up i b) new wp (back_fits (isa_of l) i p wp)
    (back_past (isa_of l) i p wp)
    (record {
      fit = finish_fits (isa_of l) i b wp (Some a) y.wide d v (sure_loads (isa_of l) b wp a y.wide m (y.stands.0.sourced1 r.out)
          (y.stands.0.sourced2 r.out) permit given');
      follows = finish_walk (isa_of l) i b wp (Some a) v (memory_goes b m);
    }) in
    let fw = subst (λ (z : trail.Walk). paths.Follows (trail.past (isa_of l) (Up i p) z) (trail.past (isa_of l) (Up i f) z)) (sym y.same)
    (rp.follows y.path_fit) in
    let cell : last_answer (siding_at t (port l)) ≡ None = ap (λ (z : ℕ). last_answer (siding_at t z)) (sym n)
    ∙ ap last_answer (put_here s.sidings k (set_last (siding_at s k) None) g.cells g.size)
    ∙ ap (λ (o : Option Op). on o None (λ z. z.answer)) (last_set (siding_at s k) g.cells None g.size) in
    let top : dock.top l t x ≡ record w0 { answer = None } = ap (λ (o : Option ℕ). record w0 { answer = o }) cell in
    let above = walk_landed (isa_of l) q.above w0 None land in
    let fd = loaded_port (isa_of l) i p u a m d r.out r.never guess e at fw (past_safe (isa_of l) (Up i f) (record u { answer = None }) y.safe) in
    let fits = rw q.was at h.port_fit in
    let tail = fit_back _ (dock.Fits (isa_of l)) (dock.past (isa_of l)) old q.below u (fit_back _ (dock.Fits (isa_of l)) (dock.past (isa_of l)) q.above (old
    ++ q.below) w0 fits) in
    let ends = rw (q.was, walk_append (dock.past (isa_of l)) q.above (old ++ q.below) w0) at h.port_ends in
    reshaped l s t x q.above old new q.below q.was (q.is f) (record
    { regs = refl; lane = refl; fetch = refl; cache = refl; size = put_size s.cells i (with_passenger r.here f) })
    rp
    (prefaced _ lone.Fits (lone.past l) lones.Follows (Up i p) (Up i b) new _ (back_lone_fits i p _) (back_lone l i p _)
    (put_lone l i b f _ (loaded_shuts l i b a m guess)))
    (back_finished l i p (Some a) d r.out (behind_here l p k i r.siding r.at_stage) (memory_quiet p m) y.stands.0, tt)
    (record {
      fit = rw (q.is f, top) (fit_append _ (dock.Fits (isa_of l)) (dock.past (isa_of l)) q.above (new ++ q.below) _
          (fit_landed (isa_of l) q.above w0 None land (fit_front _ (dock.Fits (isa_of l)) (dock.past (isa_of l)) q.above (old ++ q.below) w0 fits))
          (subst (λ (z : dock.Dock). Everywhere (dock.Fits (isa_of l)) (dock.past (isa_of l)) (new ++ q.below) z) (sym above) (
            loaded_fits (isa_of l) i p u a m r.out d y.port_fit.0,
            fit_follows _ (dock.Fits (isa_of l)) (dock.past (isa_of l)) ports.Follows
                (ports.port_walk (isa_of l)) q.below _ _ fd tail,
          )));
      ends = rw (q.is f, top) (subst (λ (z : dock.Dock). dock.Ends z s.mem rest out) (sym (walk_append (dock.past (isa_of l)) q.above (new ++ q.below)
          (record w0 { answer = None }) ∙ ap (λ (z : dock.Dock). walk (dock.past (isa_of l)) (new ++ q.below) z) above))
          (ends_port _ _ s.mem rest out (walk_follows _ (dock.Fits (isa_of l)) (dock.past (isa_of l)) ports.Follows
          (ports.port_walk (isa_of l)) q.below _ _ fd tail) ends));
    })
    (back_moored l s t i r q f g refl (q.is f) ((finish_flags b (Some a)).1) h.moored)
    h

pub in_dead : (p : Passenger) (o : Option ℕ) → p.dead ≡ true → back_in p o ≡ back p
in_dead p o d = subst (λ (z : Bool). (if z then back p else finish (back p) o) ≡ back p) (sym d) refl

pub in_live : (p : Passenger) (o : Option ℕ) → p.dead ≡ false → back_in p o ≡ finish (back p) o
in_live p o d = subst (λ (z : Bool). (if z then back p else finish (back p) o) ≡ finish (back p) o) (sym d) refl

pub recover_kept : {rest out : List ℕ} (l : Plan) (s : State) (x : Machine) (i : ℕ) → Suits l → bar l s (Recover i) ≡ None → Sound l s rest out x →
    Sound l (moved l s (Recover i)) rest out x
recover_kept {rest} {out} l s x i acc e h =
    let r = recover_ready l s i (bar_row l s (Recover i) e) in
    rw (next_recover l s i r.here r.who r.number r.what r.at_here r.sits r.siding r.lies) (go r r.who.dead
    (is_memory (kind r.who)) r.what.answer refl refl refl)
  where
    go : (r : Recovers l s i) (d m : Bool) (o : Option ℕ) → r.who.dead ≡ d → is_memory (kind r.who) ≡ m → r.what.answer ≡ o →
        Sound l (with_siding (with_cell s i (with_passenger r.here (back_in r.who r.what.answer))) r.number (set_last (siding_at s r.number) None)) rest out x
    go r true m o d f g = rw (in_dead r.who r.what.answer d) (dead_kept l s x i acc r d h)
    go r false false o d f g =
        let z : r.what.answer ≡ None = plain_last (siding_at s r.number) r.what (h.moored.plain r.number
        (λ y. other_port l r.who r.number acc r.siding f (sym y))) r.lies in
        rw (in_live r.who r.what.answer d, z) (plain_kept l s x i acc r d f h)
    go r false true None d f g = absurd (let z = rw g at (r.answered f) in cc)
    go r false true (Some a) d f g = rw (in_live r.who r.what.answer d, g) (memory_kept l s x i a acc r f g h)
