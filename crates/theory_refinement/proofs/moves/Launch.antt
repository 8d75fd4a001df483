-- Launch keeps the invariant.
use Rattle.mem_regions.specs.Memory.{Memory}
use Rattle.std.proofs.Common.{◌≡◌, ◌≢◌, ℕ, suc, ◌<◌, ◌≤◌, List, [], ◌∷◌, ◌++◌, Option, Some, None, Bool, true, false, ◌==◌, ◌||◌, ◌&&◌, not, refl, sym, ap, subst, ◌∙◌, arith, length, append-nil}
use Rattle.std.specs.Prelude.{slice_set}
use Rattle.cf_bind.specs.declared.cell.Cell.{Cell}
use Rattle.cf_bind.specs.declared.cell.Op.{Op}
use Rattle.cf_bind.specs.declared.moves.Bar.{Bar}
use Rattle.cf_bind.specs.declared.moves.Bar.TheVariants.{AlreadyDone, Dead, NoPassenger, NoSuchSite, NoUnit, NotMet, Occupied}
use Rattle.cf_bind.specs.declared.moves.Move.TheVariants.{Launch}
use Rattle.cf_bind.specs.declared.packet.Packet.{Packet}
use Rattle.cf_bind.specs.declared.passenger.End.{End}
use Rattle.cf_bind.specs.declared.passenger.Passenger.{Passenger}
use Rattle.cf_layout.specs.Layout.{Plan, launch_stage, recover_stage, siding_of}
use Rattle.theory_refinement.proofs.walks.Bounds.{core_bounds}
use Rattle.theory_refinement.proofs.column.Change.{Here, docked, flown_append, flown_changed, here, reshaped, walk_safe}
use Rattle.theory_refinement.proofs.column.Flown.{operations_launch}
use Rattle.theory_refinement.proofs.column.Fold.{Replaces, fit_append, fit_front, walk_append}
use Rattle.theory_refinement.proofs.moves.Rows.{bar_row, put_size}
use Rattle.theory_refinement.proofs.walks.Launching.{answer_none, launch_lone, launch_path, launch_port, launch_stands, sent_out}
use Rattle.theory_refinement.proofs.walks.Loose.{Loose, loose_fit, waiting}
use Rattle.theory_refinement.proofs.instructions.Memory.{memory_steps}
use Rattle.theory_refinement.proofs.walks.Order.{From, calm, open_packet, open_rider, walk_open}
use Rattle.theory_refinement.proofs.walks.PathFinish.{trapped_sure}
use Rattle.theory_refinement.proofs.column.Sidings.{answer_here, berthed, flown_range, last_answer, rehung, top_same}
use Rattle.theory_refinement.proofs.column.Sorted.{riders_more}
use Rattle.theory_refinement.proofs.column.Spot.{Spot, spot}
use Rattle.theory_refinement.proofs.walks.Stands.{each_back, each_front}
use Rattle.theory_refinement.proofs.instructions.Steps.{access_traps}
use Rattle.theory_refinement.proofs.invariant.Invariant.{Sound}
use Rattle.theory_refinement.proofs.invariant.Stands.{Each, Stands}
use Rattle.theory_refinement.proofs.invariant.Suited.{Suits}
use Rattle.cf_semantics.specs.moves.Bars.{bar, first, is_full, cell_is_taken, launch_bar, row_bar, source_bar}
use Rattle.cf_semantics.specs.state.Column.{Down, Item, Up, column}
use Rattle.cf_semantics.specs.moves.Instructions.{access_trap, is_memory, step_at}
use Rattle.cf_semantics.specs.state.Layouts.{isa_of, launches, port}
use Rattle.cf_semantics.specs.moves.Moves.{launch_trap, launched, moved, operation, with_passenger}
use Rattle.cf_semantics.specs.state.Options.{on}
use Rattle.cf_semantics.specs.state.Passengers.{instruction, kind, missing, trapped, value_in}
use Rattle.cf_semantics.specs.state.State.{State, cell_at, siding_at, with_cell, with_siding}
use Rattle.cf_semantics.specs.claims.Walks.{Everywhere, walk}
use Rattle.mem_regions.specs.Access.{Bounds, bounds_of}
use Rattle.rv_inst.specs.declared.isa.Isa.{Isa}
use Rattle.rv_machine.specs.Machine.{Machine}
use Rattle.std.specs.Prelude.{slice_get}
use Rattle.cf_semantics.specs.claims.Ahead as ahead
use Rattle.theory_refinement.proofs.invariant.Port as dock
use Rattle.theory_refinement.proofs.invariant.Lone as lone
use Rattle.theory_refinement.proofs.walks.Lone as lones
use Rattle.theory_refinement.proofs.walks.Path as paths
use Rattle.theory_refinement.proofs.invariant.Sure as sure
use Rattle.cf_semantics.specs.claims.Path as trail
use Rattle.cf_semantics.specs.claims.Soundness.{AreUnanswered, LastAnswered, in_siding, operations_in, operations_of}
use Rattle.theory_refinement.proofs.instructions.Classes.{memory_is}
use Rattle.theory_refinement.proofs.walks.Path.{sure_at}
use Rattle.theory_refinement.proofs.walks.Lone.{lone_open}

pub record Launches (l : Plan) (s : State) (i : ℕ) : Type 0 where
  pub here : Cell
  pub who : Passenger
  pub number : ℕ
  pub at_here : cell_at s.cells i ≡ Some here
  pub sits : here.passenger ≡ Some who
  pub live : who.dead ≡ false
  pub undone : who.done ≡ false
  pub aboard : who.launched ≡ false
  pub siding : siding_of l (kind who) ≡ Some number
  pub at_stage : launch_stage l number ≡ i
  pub clear : is_memory (kind who) ≡ true → is_full here ≡ false
  pub has1 : missing who.src1 ≡ None
  pub has2 : missing who.src2 ≡ None
  pub free : cell_is_taken (slice_get (siding_at s number) 0) ≡ false

pub first_none : (b : Bool) (x : Bar) (r : Option Bar) → first b x r ≡ None → (b ≡ false) × (r ≡ None)
first_none true x r e = absurd (cc)
first_none false x r e = (refl, e)

source_none : (p : Passenger) (r : Option Bar) → source_bar p r ≡ None → (missing p.src1 ≡ None) × (missing p.src2 ≡ None) × (r ≡ None)
source_none p r e = grind arith

siding_there : (l : Plan) (p : Passenger) (i : ℕ) → not (launches l (kind p) i) ≡ false → (k : ℕ) × (siding_of l (kind p) ≡ Some k) × (launch_stage l k ≡ i)
siding_there l p i e = go (siding_of l (kind p)) refl
  where
    go : (o : Option ℕ) → siding_of l (kind p) ≡ o → (k : ℕ) × (siding_of l (kind p) ≡ Some k) × (launch_stage l k ≡ i)
    go None f = absurd (grind arith)
    go (Some k) f = (k, f, grind arith)

pub launch_ready : (l : Plan) (s : State) (i : ℕ) → row_bar l s (Launch i) ≡ None → Launches l s i
launch_ready l s i e = go (cell_at s.cells i) refl e
  where
    inner : (c : Cell) (o : Option Passenger) → cell_at s.cells i ≡ Some c → c.passenger ≡ o →
        on o (Some NoPassenger) (λ p. first p.dead Dead (first (p.done || p.launched) AlreadyDone
        (first (not (launches l (kind p) i)) NoUnit (first (is_memory (kind p) && is_full c) NotMet
        (source_bar p (on (siding_of l (kind p)) None (λ k. first (cell_is_taken (slice_get (siding_at s k) 0)) Occupied None))))))) ≡ None → Launches l s i
    inner c None f h e = absurd (cc)
    inner c (Some p) f h e =
        let e1 = first_none _ _ _ e in
        let e2 = first_none _ _ _ e1.1 in
        let e3 = first_none _ _ _ e2.1 in
        let e4 = first_none _ _ _ e3.1 in
        let e5 = source_none p _ e4.1 in
        let k = siding_there l p i e3.0 in
        let free : first (cell_is_taken (slice_get (siding_at s k.0) 0)) Occupied None ≡ None = rw k.1 at e5.2 in
        record {
          here = c;
          who = p;
          number = k.0;
          at_here = f;
          sits = h;
          live = e1.0;
          undone = (either p.done p.launched e2.0).0;
          aboard =
              (either p.done p.launched e2.0).1;
          siding = k.1;
          at_stage = k.2;
          clear = λ m. both (is_memory (kind p)) (is_full c) e4.0 m;
          has1 = e5.0;
          has2 =
              e5.1;
          free = (first_none _ _ _ free).0;
        }
      where
        either : (a b : Bool) → (a || b) ≡ false → (a ≡ false) × (b ≡ false)
        either a b e = grind arith

        both : (a b : Bool) → (a && b) ≡ false → a ≡ true → b ≡ false
        both a b e f = grind arith

    go : (a : Option Cell) → cell_at s.cells i ≡ a → on a (Some NoSuchSite) (λ c. launch_bar l s c i) ≡ None → Launches l s i
    go None f e = absurd (cc)
    go (Some c) f e = inner c c.passenger f refl e

pub next_launch : (l : Plan) (s : State) (i : ℕ) (c : Cell) (p : Passenger) → cell_at s.cells i ≡ Some c → c.passenger ≡ Some p →
    moved l s (Launch i) ≡ launched l s i c p
unfolding moved
next_launch l s i c p e f = rw (e, f)

pub launched_out : (l : Plan) (s : State) (i : ℕ) (c : Cell) (p : Passenger) (k : ℕ) → launch_trap s p ≡ None → siding_of l (kind p) ≡ Some k →
    launched l s i c p ≡ with_siding (with_cell s i (with_passenger c (sent_out p))) k (slice_set (siding_at s k) 0 (Some (operation p)))
launched_out l s i c p k e f = rw (e, f)

pub launched_trap : (l : Plan) (s : State) (i : ℕ) (c : Cell) (p : Passenger) (b : End) → launch_trap s p ≡ Some b →
    launched l s i c p ≡ with_cell s i (with_passenger c (trapped p b))
launched_trap l s i c p b e = rw e

pub first_free : (q : List (Option Op)) (n : ℕ) → length q ≡ suc n → cell_is_taken (slice_get q 0) ≡ false → (r : List (Option Op)) × (q ≡ None ∷ r)
first_free [] n e f = absurd (cc)
first_free (None ∷ r) n e f = (r, refl)
first_free (Some o ∷ r) n e f = absurd (cc)

rider_open : (isa : Isa) (i : ℕ) (p : Passenger) (w : trail.Walk) → trail.turns p.owes ≡ false → w.barred ≡ false → (trail.past isa (Up i p) w).barred ≡ false
unfolding trail.past
rider_open isa i p w t e = grind arith

packet_open : (isa : Isa) (i : ℕ) (k : Packet) (w : trail.Walk) → trail.turns (Some k) ≡ false → w.barred ≡ false → (trail.past isa (Down i k) w).barred ≡ false
unfolding trail.past
packet_open isa i k w t e = grind arith

-- above a memory operation that is to be launched
unbarred : (l : Plan) (xs : List Item) (w : trail.Walk) (b : Bool) → From (suc (launch_stage l (port l))) xs → walk (lone.past l) xs b ≡ false →
    w.barred ≡ false → (walk (trail.past (isa_of l)) xs w).barred ≡ false
unbarred l [] w b f o e = e
unbarred l (Up i p ∷ xs) w b f o e =
    let t = open_rider l i p b f.0 (walk_open l xs _ o) in
    unbarred l xs (trail.past (isa_of l) (Up i p) w) (lone.past l (Up i p) b) f.1 o (pass t.1)
  where
    pass : trail.turns p.owes ≡ false → (trail.past (isa_of l) (Up i p) w).barred ≡ false
    pass t = rider_open (isa_of l) i p w t e
unbarred l (Down i k ∷ xs) w b f o e =
    let t = open_packet l i k b f.0 (walk_open l xs _ o) in
    unbarred l xs (trail.past (isa_of l) (Down i k) w) (lone.past l (Down i k) b) f.1 o (packet_open (isa_of l) i k w t e)

sure_goto : (isa : Isa) (p : Passenger) (w : trail.Walk) → sure.SureAt isa p w → w.goto ≡ Some p.pc
unfolding sure.SureAt
sure_goto isa p w h = h.0.path

-- what is known of a memory operation that is to be launched
pub record Calm (isa : Isa) (s : State) (w : dock.Dock) (p : Passenger) : Type 0 where
  pub sure : sure.SureAt isa p w.path
  pub risky : w.risky ≡ false
  pub bounded : bounds_of s.mem ≡ bounds_of w.path.machine.hart.mem

memory_calm : {rest out : List ℕ} (l : Plan) (s : State) (x : Machine) (i : ℕ) (c : Cell) (p : Passenger) (q : Spot s i c p) → Suits l →
    i ≡ launch_stage l (port l) → is_full c ≡ false → p.dead ≡ false → Here l s x q.above (Up i p ∷ []) → Each l q.above →
    Everywhere (sure.Fits (isa_of l)) (trail.past (isa_of l)) q.above (trail.top s x) → Sound l s rest out x →
    Calm (isa_of l) s (walk (dock.past (isa_of l)) q.above (dock.top l s x)) p
memory_calm {rest} {out} l s x i c p q acc n f d k each fit h =
    let from : From (suc (launch_stage l (port l))) q.above = subst (λ (m : ℕ). From (suc m) q.above) n (q.from f) in
    let o = lone_open i p _ k.lone_fit.0 in
    let b = unbarred l q.above (trail.top s x) false from o refl in
    let certain = sure_at (isa_of l) i p (walk (trail.past (isa_of l)) q.above (trail.top s x)) d b k.path_fit.0 in
    let z = calm l q.above (dock.top l s x) false p.pc acc from each fit o (sure_goto (isa_of l) p _ certain) refl refl in
    record {
      sure = subst (λ (w : trail.Walk). sure.SureAt (isa_of l) p w) (sym k.same) certain;
      risky = z.1;
      bounded = core_bounds l s x q.above h
          ∙ ap (λ (w : trail.Walk). bounds_of w.machine.hart.mem) (sym k.same);
    }

-- the cells of its siding
launch_answer : (r : List (Option Op)) (p : Passenger) → last_answer (Some (operation p) ∷ r) ≡ last_answer (None ∷ r)
launch_answer [] p = refl
launch_answer (a ∷ r) p = refl

launch_front : (r : List (Option Op)) (p : Passenger) → LastAnswered (None ∷ r) → LastAnswered (Some (operation p) ∷ r)
launch_front [] p h = tt
launch_front (a ∷ r) p h = (refl, h.1)

out_here : (l : Plan) (k : ℕ) (p : Passenger) → siding_of l (kind p) ≡ Some k → p.recovered ≡ false → in_siding l k (sent_out p) ≡ true
out_here l k p e f = rw (e, f) same
  where
    same : (k == k) ≡ true
    same = grind arith

out_other : (l : Plan) (k j i : ℕ) (p : Passenger) → siding_of l (kind p) ≡ Some k → j ≢ k →
    operations_of l j (Up i p ∷ []) ≡ operations_of l j (Up i (sent_out p) ∷ [])
out_other l k j i p e n = go (k == j) refl
  where
    go : (b : Bool) → (k == j) ≡ b → operations_of l j (Up i p ∷ []) ≡ operations_of l j (Up i (sent_out p) ∷ [])
    go true f = absurd (n (grind arith))
    go false f = let a : in_siding l j p ≡ false = grind arith in let b : in_siding l j (sent_out p) ≡ false = grind arith in rw (a, b)

not_back : (l : Plan) (i : ℕ) (p : Passenger) → p.launched ≡ false → Stands l i p → p.recovered ≡ false
not_back l i p e h = go p.recovered refl
  where
    go : (b : Bool) → p.recovered ≡ b → p.recovered ≡ false
    go false f = f
    go true f = absurd (let z = h.back_launched f in cc)

pub in_port : (l : Plan) (p : Passenger) (k : ℕ) → Suits l → siding_of l (kind p) ≡ Some k → is_memory (kind p) ≡ true → k ≡ (port l)
in_port l p k acc e m = let z : siding_of l (kind p) ≡ Some (port l) = rw (memory_is (kind p) m) acc.memory in same (sym e ∙ z)
  where
    same : Some k ≡ Some (port l) → k ≡ (port l)
    same e = cc

permitted : (s : State) (p : Passenger) → launch_trap s p ≡ None → is_memory (kind p) ≡ true →
    access_trap (instruction p) p.pc (value_in p.src1) (bounds_of s.mem) ≡ None
permitted s p e m = grind arith

pub refused : (s : State) (p : Passenger) (b : End) → launch_trap s p ≡ Some b → (is_memory (kind p) ≡ true)
    × (access_trap (instruction p) p.pc (value_in p.src1) (bounds_of s.mem) ≡ Some b)
refused s p b e = (grind arith, grind arith)

-- Launch of an instruction that memory permits
out_kept : {rest out : List ℕ} (l : Plan) (s : State) (x : Machine) (i : ℕ) → Suits l → (r : Launches l s i) → launch_trap s r.who ≡ None →
    Sound l s rest out x → Sound l (with_siding (with_cell s i (with_passenger r.here (sent_out r.who))) r.number
    (slice_set (siding_at s r.number) 0 (Some (operation r.who)))) rest out x
out_kept {rest} {out} l s x i acc r e h =
    let p = r.who in
    let k = r.number in
    let q = spot s i r.here p r.at_here r.sits in
    let old = Up i p ∷ [] in
    let new = Up i (sent_out p) ∷ [] in
    let t : State = with_siding (with_cell s i (with_passenger r.here (sent_out p))) k (slice_set (siding_at s k) 0 (Some (operation p))) in
    let is : column t ≡ q.above ++ (new ++ q.below) = q.is (sent_out p) in
    let n = berthed l acc s (column s) k h.moored (kind p) r.siding in
    let f = first_free (siding_at s k) n.0 n.1 r.free in
    let set : slice_set (siding_at s k) 0 (Some (operation p)) ≡ Some (operation p) ∷ f.0 =
    ap (λ (z : List (Option Op)). slice_set z 0 (Some (operation p))) f.1 in
    let k' = here l s x q.above old q.below q.was h in
    let each = rw q.was at h.stands in
    let never = not_back l i p r.aboard k'.stands.0 in
    let none = flown_range l k q.below (riders_more (λ j. j < i) (λ j. (launch_stage l k ≤ j) → (j ≤ recover_stage l k) →
    ⊥) q.below (λ j a b c. omega (arith, r.at_stage)) q.under) (each_back l old q.below (each_back l q.above (old ++ q.below) each)) in
    let was_flown : operations_of l k (column s) ≡ operations_of l k q.above = ap (operations_of l k) q.was ∙ flown_append l k q.above (old ++ q.below)
    ∙ ap (λ (z : List Op). operations_of l k q.above ++ z) (ashore l k i p q.below r.aboard ∙ none) ∙ append-nil (operations_of l k q.above) in
    let is_flown : operations_of l k (column t) ≡ operations_of l k q.above ++ (operation p ∷ []) = ap (operations_of l k) is
    ∙ flown_append l k q.above (new ++ q.below) ∙ ap (λ (z : List Op). operations_of l k q.above ++ z)
    (aboard l k i p q.below (out_here l k p r.siding never) ∙ ap (λ (z : List Op). operation p ∷ z) none) in
    let ops : operations_in (slice_set (siding_at s k) 0 (Some (operation p))) ≡ operations_of l k (column t) =
    ap operations_in set ∙ operations_launch f.0 (operation p) ∙ ap (λ (z : List Op). z ++ (operation p ∷ [])) (ap operations_in (sym f.1)
    ∙ h.moored.operations k ∙ was_flown) ∙ sym is_flown in
    let top = top_same l s t x refl (answer_here l s t k (slice_set (siding_at s k) 0 (Some (operation p))) n.0 refl n.1 (λ _. ap last_answer set
    ∙ launch_answer f.0 p ∙ ap last_answer (sym f.1))) in
    let calm' : is_memory (kind p) ≡ true → ((walk (dock.past (isa_of l)) q.above (dock.top l s x)).risky ≡ false)
    × ((walk (dock.past (isa_of l)) q.above (dock.top l s x)).answer ≡ None) × (access_trap (instruction p) p.pc (value_in p.src1)
    (bounds_of (walk (dock.past (isa_of l)) q.above (dock.top l s x)).path.machine.hart.mem) ≡ None) = λ m.
    let w = in_port l p k acc r.siding m in
    let c = memory_calm l s x i r.here p q acc (sym r.at_stage ∙ ap (launch_stage l) w) (r.clear m) r.live k' (each_front l q.above (old ++ q.below) each)
    (fit_front _ (sure.Fits (isa_of l)) (trail.past (isa_of l)) q.above (old ++ q.below) _ (rw q.was at h.path_fit)) h in (
      c.risky,
      answer_none l acc q.above (dock.top l s x) (siding_at s (port l)) (rw w at (h.moored.operations k ∙ was_flown)) refl,
      subst (λ (b : List Bounds). access_trap (instruction p) p.pc (value_in p.src1) b ≡ None) c.bounded (permitted s p e m),
    ) in
    reshaped l s t x q.above old new q.below q.was is (record
    { regs = refl; lane = refl; fetch = refl; cache = refl; size = put_size s.cells i (with_passenger r.here (sent_out p)) })
    (launch_path (isa_of l) i p _) (launch_lone l i p _)
    (launch_stands l acc i p (launches_at l p k i r.siding r.at_stage) r.live r.undone r.aboard r.has1 r.has2 k'.stands.0, tt)
    (docked l s t x q.above old new q.below q.was is top refl (launch_port (isa_of l) i p _ r.live r.undone never r.aboard k'.safe calm') h)
    (rehung l s t (column s) (column t) k (slice_set (siding_at s k) 0 (Some (operation p))) refl n.0 n.1 (ap length set ∙ ap length (sym f.1)) ops
    (λ j a. ap (operations_of l j) q.was ∙ flown_changed l j q.above old new q.below (out_other l k j i p r.siding a) ∙ ap (operations_of l j) (sym is))
    (subst LastAnswered (sym set) (launch_front f.0 p (subst LastAnswered f.1 (h.moored.front k))))
    (λ a. subst AreUnanswered (sym set) (let z = subst AreUnanswered f.1 (h.moored.plain k a) in (refl, z.1))) h.moored)
    h
  where
    ashore : (l : Plan) (k i : ℕ) (p : Passenger) (xs : List Item) → p.launched ≡ false → operations_of l k ((Up i p ∷ []) ++ xs) ≡ operations_of l k xs
    ashore l k i p xs e = rw e refl

    aboard : (l : Plan) (k i : ℕ) (p : Passenger) (xs : List Item) → in_siding l k (sent_out p) ≡ true →
        operations_of l k ((Up i (sent_out p) ∷ []) ++ xs) ≡ operation p ∷ operations_of l k xs
    aboard l k i p xs e = rw e refl

    launches_at : (l : Plan) (p : Passenger) (k i : ℕ) → siding_of l (kind p) ≡ Some k → launch_stage l k ≡ i → launches l (kind p) i ≡ true
    launches_at l p k i e f = rw e (grind (arith, f))

-- Launch of an instruction that it does not permit
pub trap_at : (isa : Isa) (p : Passenger) (w : trail.Walk) (e : End) → p.done ≡ false → is_memory (kind p) ≡ true → missing p.src1 ≡ None →
    missing p.src2 ≡ None → access_trap (instruction p) p.pc (value_in p.src1) (bounds_of w.machine.hart.mem) ≡ Some e → sure.SureAt isa p w →
    sure.SureAt isa (trapped p e) w
unfolding sure.SureAt
trap_at isa p w e d m m1 m2 t h =
    let q = memory_steps isa p w.machine w.goto m m1 m2 h.0 in (
      trapped_sure isa p w.machine (step_at isa w.machine p.pc) w.goto e d (instruction p) q.0 (rw t at q.1)
          (access_traps (instruction p) p.pc (value_in p.src1) (bounds_of w.machine.hart.mem) e t) h.0,
      record { source1 = h.1.source1; source2 = h.1.source2 },
    )

pub trap_path : (isa : Isa) (i : ℕ) (p : Passenger) (w : trail.Walk) (e : End) → p.dead ≡ false → (sure.SureAt isa p w → sure.SureAt isa (trapped p e) w) →
    Replaces trail.Walk (sure.Fits isa) (trail.past isa) paths.Follows (Up i p ∷ []) (Up i (trapped p e) ∷ []) w
unfolding sure.Fits trail.past
trap_path isa i p w e d f =
    record {
      fit = λ h. grind (arith, f);
      follows = λ h. record {
        barred = λ _. grind arith;
        machine = λ z. absurd (grind arith);
        goto =
            λ z. absurd (grind arith);
        settled = λ z. absurd (grind arith);
        trapped = λ z. absurd (grind arith);
        coming = λ z. absurd (grind arith);
      };
    }

trap_lone : (l : Plan) (i : ℕ) (p : Passenger) (e : End) (w : Bool) → is_memory (kind p) ≡ true → lone.is_high l i ≡ false →
    Replaces Bool lone.Fits (lone.past l) lones.Follows (Up i p ∷ []) (Up i (trapped p e) ∷ []) w
unfolding lone.Fits lone.past
trap_lone l i p e w m n = record { fit = λ h. h; follows = λ h. record { shut = λ z. grind arith } }

trap_stands : (l : Plan) (i : ℕ) (p : Passenger) (e : End) → p.dead ≡ false → p.launched ≡ false → is_memory (kind p) ≡ true → Stands l i p →
    Stands l i (trapped p e)
trap_stands l i p e d a m h = record {
  low = λ _ b. absurd (cc);
  out = h.out;
  back = h.back;
  back_done = λ _ _. refl;
  back_launched = h.back_launched;
  owes_live = λ _. d;
  owes_done = λ _. refl;
  owes_quiet = λ _ _. grind arith;
  guess = h.guess;
  served = λ b. absurd (grind arith);
  unended = λ b. absurd (cc);
  blank = λ b. absurd (cc);
  free_done = λ _. refl;
  out_undone = λ _ b. absurd (cc);
  faulted = λ _ _ _ _. refl;
  sourced1 = h.sourced1;
  sourced2 = h.sourced2;
  homed = h.homed;
}

trap_fits : (isa : Isa) (i : ℕ) (p : Passenger) (e : End) (w : dock.Dock) → is_memory (kind p) ≡ true → p.launched ≡ false → p.recovered ≡ false →
    dock.Fits isa (Up i (trapped p e)) w
unfolding dock.Fits dock.DockedAt
trap_fits isa i p e w m a b =
    record {
      live = λ _ z. absurd (grind arith);
      order = λ _ z. absurd (grind arith);
      served = λ z. absurd (grind arith);
      permitted =
          λ _ z. absurd (grind arith);
      answered = λ z. absurd (grind arith);
    }

trap_loose : (isa : Isa) (i : ℕ) (p : Passenger) (e : End) (w : dock.Dock) → is_memory (kind p) ≡ true → p.launched ≡ false → p.recovered ≡ false →
    paths.Follows (trail.past isa (Up i p) w.path) (trail.past isa (Up i (trapped p e)) w.path) →
    ((dock.past isa (Up i (trapped p e)) w).path.barred ≡ true → (dock.past isa (Up i (trapped p e)) w).risky ≡ true) →
    Loose (dock.past isa (Up i p) w) (dock.past isa (Up i (trapped p e)) w)
unfolding dock.past
trap_loose isa i p e w m a b f s =
    let c : ahead.has_ported p w.answer ≡ false = grind arith in
    let d : ahead.has_ported (trapped p e) w.answer ≡ false = grind arith in
    let x : ahead.has_served p ≡ false = grind arith in
    let y : ahead.has_served (trapped p e) ≡ false = grind arith in
    let u : ahead.flies p ≡ false = grind arith in
    record { path = f; safe = s; mem = rw (c, d) refl; code = rw (x, y) refl; rest = rw (x, y) refl; out = rw (x, y) refl; answer = rw u refl }

loose_ends : (w v : dock.Dock) (m : Memory) (r o : List ℕ) → Loose w v → dock.Ends w m r o → dock.Ends v m r o
loose_ends w v m r o h e =
    record { is_mem = e.is_mem ∙ sym h.mem; is_code = e.is_code ∙ sym h.code; is_rest = e.is_rest ∙ sym h.rest; is_out = e.is_out ∙ sym h.out }

trap_flown : (l : Plan) (k i : ℕ) (p : Passenger) (e : End) → p.launched ≡ false → operations_of l k (Up i p ∷ []) ≡ operations_of l k (Up i (trapped p e) ∷ [])
trap_flown l k i p e a = let b : in_siding l k p ≡ false = grind arith in rw b refl

not_high : (l : Plan) (i : ℕ) → i ≡ launch_stage l (port l) → lone.is_high l i ≡ false
not_high l i e = grind arith

trap_kept : {rest out : List ℕ} (l : Plan) (s : State) (x : Machine) (i : ℕ) (b : End) → Suits l → (r : Launches l s i) → launch_trap s r.who ≡ Some b →
    Sound l s rest out x → Sound l (with_cell s i (with_passenger r.here (trapped r.who b))) rest out x
trap_kept {rest} {out} l s x i b acc r e h =
    let p = r.who in
    let q = spot s i r.here p r.at_here r.sits in
    let old = Up i p ∷ [] in
    let new = Up i (trapped p b) ∷ [] in
    let t : State = with_cell s i (with_passenger r.here (trapped p b)) in
    let is : column t ≡ q.above ++ (new ++ q.below) = q.is (trapped p b) in
    let k = here l s x q.above old q.below q.was h in
    let each = rw q.was at h.stands in
    let no = refused s p b e in
    let n : i ≡ launch_stage l (port l) = sym r.at_stage ∙ ap (launch_stage l) (in_port l p r.number acc r.siding no.0) in
    let c = memory_calm l s x i r.here p q acc n (r.clear no.0) r.live k (each_front l q.above (old ++ q.below) each)
    (fit_front _ (sure.Fits (isa_of l)) (trail.past (isa_of l)) q.above (old ++ q.below) _ (rw q.was at h.path_fit)) h in
    let w = walk (dock.past (isa_of l)) q.above (dock.top l s x) in
    let never = not_back l i p r.aboard k.stands.0 in
    let trap : access_trap (instruction p) p.pc (value_in p.src1) (bounds_of (walk (trail.past (isa_of l)) q.above (trail.top s x)).machine.hart.mem) ≡ Some b =
    subst (λ (z : List Bounds). access_trap (instruction p) p.pc (value_in p.src1) z ≡ Some b) (core_bounds l s x q.above h) no.1 in
    let rp = trap_path (isa_of l) i p (walk (trail.past (isa_of l)) q.above (trail.top s x)) b r.live
    (trap_at (isa_of l) p _ b r.undone no.0 r.has1 r.has2 trap) in
    let fw = subst (λ (z : trail.Walk). paths.Follows (trail.past (isa_of l) (Up i p) z) (trail.past (isa_of l) (Up i (trapped p b)) z)) (sym k.same)
    (rp.follows k.path_fit) in
    let lo = trap_loose (isa_of l) i p b w no.0 r.aboard never fw (walk_safe (isa_of l) new w k.safe) in
    let wait = waiting l i q.below acc (omega arith) (omega (arith, q.inside, h.size)) q.under
    (each_back l old q.below (each_back l q.above (old ++ q.below) each)) in
    let lf = loose_fit (isa_of l) q.below _ _ wait lo in
    let ends = rw (q.was, walk_append (dock.past (isa_of l)) q.above (old ++ q.below) (dock.top l s x)) at h.port_ends in
    reshaped l s t x q.above old new q.below q.was is (record
    { regs = refl; lane = refl; fetch = refl; cache = refl; size = put_size s.cells i (with_passenger r.here (trapped p b)) })
    rp (trap_lone l i p b _ no.0 (not_high l i n)) (trap_stands l i p b r.live r.aboard no.0 k.stands.0, tt)
    (record {
      fit = rw is (fit_append _ (dock.Fits (isa_of l)) (dock.past (isa_of l)) q.above (new ++ q.below) _
          (fit_front _ (dock.Fits (isa_of l)) (dock.past (isa_of l)) q.above (old ++ q.below) _ (rw q.was at h.port_fit))
          (trap_fits (isa_of l) i p b w no.0 r.aboard never, lf.0));
      ends = rw (is, walk_append (dock.past (isa_of l)) q.above (new ++ q.below) (dock.top l s x)) (loose_ends _ _ s.mem rest out lf.1 ends);
    })
    (record {
      operations = λ j. h.moored.operations j ∙ ap (operations_of l j) q.was ∙ flown_changed l j q.above old new q.below (trap_flown l j i p b r.aboard)
          ∙ ap (operations_of l j) (sym is);
      front = h.moored.front;
      plain = h.moored.plain;
      berths = h.moored.berths;
    })
    h

pub launch_kept : {rest out : List ℕ} (l : Plan) (s : State) (x : Machine) (i : ℕ) → Suits l → bar l s (Launch i) ≡ None → Sound l s rest out x →
    Sound l (moved l s (Launch i)) rest out x
launch_kept {rest} {out} l s x i acc e h =
    let r = launch_ready l s i (bar_row l s (Launch i) e) in
    rw (next_launch l s i r.here r.who r.at_here r.sits) (go r (launch_trap s r.who) refl)
  where
    go : (r : Launches l s i) (o : Option End) → launch_trap s r.who ≡ o → Sound l (launched l s i r.here r.who) rest out x
    go r None f = rw (launched_out l s i r.here r.who r.number f r.siding) (out_kept l s x i acc r f h)
    go r (Some b) f = rw (launched_trap l s i r.here r.who b f) (trap_kept l s x i b acc r f h)
