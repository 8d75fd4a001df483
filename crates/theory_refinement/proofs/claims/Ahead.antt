-- The core's memory is that of the machine after the instructions that have passed the port.
use Rattle.cf_semantics.specs.claims.Refines.{gained}
use Rattle.theory_refinement.proofs.claims.Runs.{after_more}
use Rattle.std.proofs.Common.{◌≡◌, ℕ, suc, ◌+◌, ◌≤◌, ◌<◌, List, [], ◌∷◌, Option, Some, Bool, true, false, ◌||◌, ◌&&◌, not, refl, sym, ap, ◌∙◌, arith}
use Rattle.std.specs.Prelude.{if◌then◌else◌}
use Rattle.cf_bind.specs.declared.packet.Packet.{Packet}
use Rattle.cf_bind.specs.declared.passenger.Passenger.{Passenger}
use Rattle.cf_layout.specs.Layout.{Plan, launch_stage, siding_of}
use Rattle.theory_refinement.proofs.column.Change.{past_safe}
use Rattle.theory_refinement.proofs.walks.Goes.{ported_on, quiet_on}
use Rattle.theory_refinement.proofs.walks.Order.{past_path}
use Rattle.theory_refinement.proofs.walks.Port.{open_of, ported_calm}
use Rattle.theory_refinement.proofs.column.Sorted.{Riders, Sorted, riders_more, sorted}
use Rattle.theory_refinement.proofs.invariant.Invariant.{Sound}
use Rattle.theory_refinement.proofs.invariant.Stands.{Each, Stands}
use Rattle.theory_refinement.proofs.invariant.Suited.{Suits}
use Rattle.cf_semantics.specs.state.Column.{Down, Item, Up, column}
use Rattle.cf_semantics.specs.moves.Instructions.{Goes, after_step, is_memory, step_at, step_here}
use Rattle.cf_semantics.specs.state.Layouts.{isa_of, port}
use Rattle.cf_semantics.specs.state.Passengers.{goto, kind}
use Rattle.cf_semantics.specs.state.State.{State}
use Rattle.cf_semantics.specs.claims.Walks.{Everywhere, walk}
use Rattle.rv_inst.specs.declared.classes.Class.TheVariants.{Memory}
use Rattle.rv_inst.specs.declared.isa.Isa.{Isa}
use Rattle.rv_machine.specs.After.{after}
use Rattle.rv_machine.specs.Machine.{Machine}
use Rattle.cf_semantics.specs.claims.Ahead as ahead
use Rattle.theory_refinement.proofs.invariant.Port as dock
use Rattle.theory_refinement.proofs.invariant.Sure as sure
use Rattle.cf_semantics.specs.claims.Path as trail
use Rattle.cf_semantics.specs.claims.Soundness.{may_turn}
use Rattle.theory_refinement.proofs.instructions.Classes.{memory_is}
use Rattle.theory_refinement.proofs.walks.Path.{sure_at}

-- the machine so far is on the sequential path, t.live steps after m's n-th
pub record OnPath (isa : Isa) (m : Machine) (n : ℕ) (w : dock.Dock) (t : ahead.PortTally) : Type 0 where
  pub so_far : after isa m (n + t.live) ≡ Some w.path.machine
  pub goto : w.path.goto ≡ Some w.path.machine.hart.pc

pub record Reach (isa : Isa) (m : Machine) (n : ℕ) (w : dock.Dock) (t : ahead.PortTally) : Type 0 where
  pub at : Machine
  pub count : after isa m (n + t.ported) ≡ Some at
  pub mem : w.mem ≡ at.hart.mem

-- a memory operation that is still to be launched
abbrev pub still : Passenger → Bool
still p = not p.dead && (is_memory (kind p) && not p.done && not p.launched)

pub still_low : (l : Plan) (i : ℕ) (p : Passenger) → Suits l → Stands l i p → still p ≡ true → i ≤ launch_stage l (port l)
still_low l i p acc h e =
    let m : is_memory (kind p) ≡ true = grind arith in
    let z : siding_of l (kind p) ≡ Some (port l) = rw (memory_is (kind p) m) acc.memory in
    rw z at (h.low (grind arith) (grind arith) (grind arith))

ported_high : (l : Plan) (i : ℕ) (p : Passenger) (a : Option ℕ) → Suits l → Stands l i p → ahead.has_ported p a ≡ true → launch_stage l (port l) ≤ i
ported_high l i p a acc h e = go (ahead.has_served p) p.recovered refl refl
  where
    at : is_memory (kind p) ≡ true → siding_of l (kind p) ≡ Some (port l)
    at m = rw (memory_is (kind p) m) acc.memory

    go : (b c : Bool) → ahead.has_served p ≡ b → p.recovered ≡ c → launch_stage l (port l) ≤ i
    go true c f g = let s = h.served f in let o = acc.order Memory (port l) acc.memory in let q = acc.in_pipe Memory (port l) acc.memory in omega arith
    go false true f g = let m : is_memory (kind p) ≡ true = grind arith in let w = rw (at m) at (h.back g) in let o = acc.order Memory (port l) acc.memory in
        omega arith
    go false false f g = let m : is_memory (kind p) ≡ true = grind arith in let w = rw (at m) at (h.out (grind arith) g) in w.0

pub sure_pc : (isa : Isa) (p : Passenger) (w : trail.Walk) (c : ℕ) → w.goto ≡ Some c → sure.SureAt isa p w → p.pc ≡ c
unfolding sure.SureAt
sure_pc isa p w c e h = let z = sym h.0.path ∙ e in cc

pub docked_of : (isa : Isa) (i : ℕ) (p : Passenger) (w : dock.Dock) → dock.Fits isa (Up i p) w → dock.DockedAt isa p w
unfolding dock.Fits
docked_of isa i p w h = h

-- what an instruction does to the walk, if it is live and sure
pub sure_past : (isa : Isa) (i : ℕ) (p : Passenger) (w : dock.Dock) → p.dead ≡ false → w.path.barred ≡ false →
    ((dock.past isa (Up i p) w).path.machine ≡ after_step (step_at isa w.path.machine p.pc) w.path.machine) × ((dock.past isa (Up i p) w).path.goto ≡ goto p)
unfolding dock.past trail.past
sure_past isa i p w d b = (grind arith, grind arith)

pub dead_past : (isa : Isa) (i : ℕ) (p : Passenger) (w : dock.Dock) → p.dead ≡ true → ((dock.past isa (Up i p) w).path.machine ≡ w.path.machine)
    × ((dock.past isa (Up i p) w).path.goto ≡ w.path.goto) × ((dock.past isa (Up i p) w).mem ≡ w.mem)
unfolding dock.past trail.past
dead_past isa i p w d = (grind arith, grind arith, grind arith)

pub risk_past : (isa : Isa) (i : Item) (w : dock.Dock) → (dock.past isa i w).risky ≡ false → (w.risky ≡ false) × (may_turn i ≡ false)
unfolding dock.past
risk_past isa (Up i p) w e = (grind arith, grind arith)
risk_past isa (Down i k) w e = (grind arith, grind arith)

pub mem_past : (isa : Isa) (i : ℕ) (p : Passenger) (w : dock.Dock) (b : Bool) → ahead.has_ported p w.answer ≡ b →
    (dock.past isa (Up i p) w).mem ≡ (if b then (after_step (step_at isa w.path.machine p.pc) w.path.machine).hart.mem else w.mem)
unfolding dock.past
mem_past isa i p w b e = rw e refl

pub answer_past : (isa : Isa) (i : ℕ) (p : Passenger) (w : dock.Dock) (t : ahead.PortTally) → t.answer ≡ w.answer →
    (ahead.counted (Up i p) t).answer ≡ (dock.past isa (Up i p) w).answer
unfolding dock.past ahead.counted
answer_past isa i p w t e = rw e refl

tally_past : (i : ℕ) (p : Passenger) (t : ahead.PortTally) (b : Bool) → ahead.has_ported p t.answer ≡ b →
    ((ahead.counted (Up i p) t).ported ≡ (if b then t.live + 1 else t.ported)) × ((ahead.counted (Up i p) t).live ≡ t.live + ahead.one (not p.dead))
unfolding ahead.counted
tally_past i p t b e = (rw e refl, refl)

pub result_past : (isa : Isa) (i : ℕ) (k : Packet) (w : dock.Dock) (t : ahead.PortTally) →
    ((dock.past isa (Down i k) w).path.machine ≡ w.path.machine) × ((dock.past isa (Down i k) w).path.goto ≡ w.path.goto)
    × ((dock.past isa (Down i k) w).mem ≡ w.mem) × ((dock.past isa (Down i k) w).answer ≡ w.answer) × (ahead.counted (Down i k) t ≡ t)
    × ((dock.past isa (Down i k) w).risky ≡ false → w.risky ≡ false)
unfolding dock.past trail.past ahead.counted
result_past isa i k w t = (grind arith, grind arith, refl, refl, refl, λ e. grind arith)

-- at an instruction
pub live_on : (l : Plan) (m : Machine) (n i : ℕ) (p : Passenger) (w : dock.Dock) (t : ahead.PortTally) → Stands l i p → sure.Fits (isa_of l) (Up i p) w.path →
    dock.Fits (isa_of l) (Up i p) w → (w.path.barred ≡ true → w.risky ≡ true) → p.dead ≡ false → (dock.past (isa_of l) (Up i p) w).risky ≡ false →
    still p ≡ false → OnPath (isa_of l) m n w t → OnPath (isa_of l) m n (dock.past (isa_of l) (Up i p) w) (ahead.counted (Up i p) t)
live_on l m n i p w t s f k g d r b h =
    let q = risk_past (isa_of l) (Up i p) w r in
    let o = open_of w g q.0 in
    let certain = sure_at (isa_of l) i p w.path d o f in
    let c = sure_pc (isa_of l) p w.path w.path.machine.hart.pc h.goto certain in
    let z = quiet_on l i p w s certain (docked_of (isa_of l) i p w k) d q.1 (still_off d) in
    let y = after_step (step_at (isa_of l) w.path.machine p.pc) w.path.machine in
    let e : step_here (isa_of l) w.path.machine ≡ Goes y = ap (step_at (isa_of l) w.path.machine) (sym c) ∙ z.goes in
    let v = sure_past (isa_of l) i p w d o in
    let u = (tally_past i p t (ahead.has_ported p t.answer) refl).1 in
    let count : n + (ahead.counted (Up i p) t).live ≡ suc (n + t.live) = omega (arith, u ∙ ap (λ (a : Bool). t.live + ahead.one (not a)) d) in
    record {
      so_far = ap (after (isa_of l) m) count ∙ after_more (isa_of l) m w.path.machine y (n + t.live) h.so_far e ∙ ap Some (sym v.0);
      goto = v.1 ∙ z.next
          ∙ ap (λ (a : Machine). Some a.hart.pc) (sym v.0);
    }
  where
    still_off : p.dead ≡ false → (is_memory (kind p) && not p.done && not p.launched) ≡ false
    still_off d = grind arith

pub dead_on : (isa : Isa) (m : Machine) (n i : ℕ) (p : Passenger) (w : dock.Dock) (t : ahead.PortTally) → p.dead ≡ true → OnPath isa m n w t →
    OnPath isa m n (dock.past isa (Up i p) w) (ahead.counted (Up i p) t)
dead_on isa m n i p w t d h =
    let v = dead_past isa i p w d in
    let u = (tally_past i p t (ahead.has_ported p t.answer) refl).1 in
    let count : n + (ahead.counted (Up i p) t).live ≡ n + t.live = omega (arith, u ∙ ap (λ (a : Bool). t.live + ahead.one (not a)) d) in
    record { so_far = ap (after isa m) count ∙ h.so_far ∙ ap Some (sym v.0); goto = v.1 ∙ h.goto ∙ ap (λ (a : Machine). Some a.hart.pc) (sym v.0) }

rider_reach : (l : Plan) (m : Machine) (n i : ℕ) (p : Passenger) (w : dock.Dock) (t : ahead.PortTally) → Stands l i p → sure.Fits (isa_of l) (Up i p) w.path →
    dock.Fits (isa_of l) (Up i p) w → (w.path.barred ≡ true → w.risky ≡ true) → t.answer ≡ w.answer →
    (ahead.has_ported p w.answer ≡ true → w.risky ≡ false → OnPath (isa_of l) m n w t) → Reach (isa_of l) m n w t →
    Reach (isa_of l) m n (dock.past (isa_of l) (Up i p) w) (ahead.counted (Up i p) t)
rider_reach l m n i p w t s f k g a o h = go (ahead.has_ported p w.answer) refl
  where
    go : (b : Bool) → ahead.has_ported p w.answer ≡ b → Reach (isa_of l) m n (dock.past (isa_of l) (Up i p) w) (ahead.counted (Up i p) t)
    go false e =
        let u = tally_past i p t false (ap (ahead.has_ported p) a ∙ e) in
        record { at = h.at; count = ap (λ (c : ℕ). after (isa_of l) m (n + c)) u.0 ∙ h.count; mem = mem_past (isa_of l) i p w false e ∙ h.mem }
    go true e =
        let u = tally_past i p t true (ap (ahead.has_ported p) a ∙ e) in
        let calm = ported_calm (isa_of l) p w (docked_of (isa_of l) i p w k) e in
        let open' = open_of w g calm in
        let d : p.dead ≡ false = live p.dead refl in
        let certain = sure_at (isa_of l) i p w.path d open' f in
        let on' = o e calm in
        let c = sure_pc (isa_of l) p w.path w.path.machine.hart.pc on'.goto certain in
        let y = after_step (step_at (isa_of l) w.path.machine p.pc) w.path.machine in
        let z = ported_on l i p w s certain (docked_of (isa_of l) i p w k) e in
        let st : step_here (isa_of l) w.path.machine ≡ Goes y = ap (step_at (isa_of l) w.path.machine) (sym c) ∙ z in
        let count : n + (ahead.counted (Up i p) t).ported ≡ suc (n + t.live) = omega (arith, u.0) in
        record {
          at = y;
          count = ap (after (isa_of l) m) count ∙ after_more (isa_of l) m w.path.machine y (n + t.live) on'.so_far st;
          mem =
              mem_past (isa_of l) i p w true e;
        }
      where
        live : (b : Bool) → p.dead ≡ b → p.dead ≡ false
        live false x = x
        live true x = absurd (grind arith)

pub walk_reach : (l : Plan) (m : Machine) (n : ℕ) (xs : List Item) (w : dock.Dock) (t : ahead.PortTally) (b : Bool) → Suits l → Sorted xs → Each l xs →
    Everywhere (sure.Fits (isa_of l)) (trail.past (isa_of l)) xs w.path → Everywhere (dock.Fits (isa_of l)) (dock.past (isa_of l)) xs w →
    (w.path.barred ≡ true → w.risky ≡ true) → t.answer ≡ w.answer → (b ≡ true → Riders (λ j. j < launch_stage l (port l)) xs) →
    (w.risky ≡ false → b ≡ false → OnPath (isa_of l) m n w t) → Reach (isa_of l) m n w t →
    Reach (isa_of l) m n (walk (dock.past (isa_of l)) xs w) (walk ahead.counted xs t)
walk_reach l m n [] w t b acc so ea fp fd g a low o h = h
walk_reach l m n (Up i p ∷ xs) w t b acc so ea fp fd g a low o h =
    let here : ahead.has_ported p w.answer ≡ true → w.risky ≡ false → OnPath (isa_of l) m n w t =
    λ e r. o r (behind_not b refl low (ported_high l i p w.answer acc ea.0 e)) in
    walk_reach l m n xs (dock.past (isa_of l) (Up i p) w) (ahead.counted (Up i p) t) (b || still p) acc so.1 ea.1
    (rw (past_path (isa_of l) (Up i p) w) fp.1) fd.1 (past_safe (isa_of l) (Up i p) w g) (answer_past (isa_of l) i p w t a)
    (lower b refl (still p) refl low) (λ r e. ahead_on p.dead refl r (parts b (still p) e)) (rider_reach l m n i p w t ea.0 fp.0 fd.0 g a here h)
  where
    behind_not : (c : Bool) → b ≡ c → (b ≡ true → Riders (λ j. j < launch_stage l (port l)) (Up i p ∷ xs)) → launch_stage l (port l) ≤ i → b ≡ false
    behind_not false e f q = e
    behind_not true e f q = absurd (let z = (f e).0 in omega arith)

    lower : (c : Bool) → b ≡ c → (d : Bool) → still p ≡ d → (b ≡ true → Riders (λ j. j < launch_stage l (port l)) (Up i p ∷ xs)) → (b || still p) ≡ true →
        Riders (λ j. j < launch_stage l (port l)) xs
    lower true e d u f q = (f e).1
    lower false e true u f q = let z = still_low l i p acc ea.0 u in riders_more (λ j. j < i) (λ j. j < launch_stage l (port l)) xs (λ j y. omega arith) so.0
    lower false e false u f q = absurd (grind arith)

    parts : (c d : Bool) → (c || d) ≡ false → (c ≡ false) × (d ≡ false)
    parts c d e = (grind arith, grind arith)

    ahead_on : (d : Bool) → p.dead ≡ d → (dock.past (isa_of l) (Up i p) w).risky ≡ false → (b ≡ false) × (still p ≡ false) →
        OnPath (isa_of l) m n (dock.past (isa_of l) (Up i p) w) (ahead.counted (Up i p) t)
    ahead_on true e r q = dead_on (isa_of l) m n i p w t e (o (risk_past (isa_of l) (Up i p) w r).0 q.0)
    ahead_on false e r q = live_on l m n i p w t ea.0 fp.0 fd.0 g e r q.1 (o (risk_past (isa_of l) (Up i p) w r).0 q.0)
walk_reach l m n (Down i k ∷ xs) w t b acc so ea fp fd g a low o h =
    let q = result_past (isa_of l) i k w t in
    walk_reach l m n xs (dock.past (isa_of l) (Down i k) w) (ahead.counted (Down i k) t) b acc so ea (rw (past_path (isa_of l) (Down i k) w) fp.1) fd.1
    (past_safe (isa_of l) (Down i k) w g) (ap (λ (z : ahead.PortTally). z.answer) q.4 ∙ a ∙ sym q.3) low (λ r e. let z = o (q.5 r) e in
    record {
      so_far = ap (λ (y : ahead.PortTally). after (isa_of l) m (n + y.live)) q.4 ∙ z.so_far ∙ ap Some (sym q.0);
      goto = q.1 ∙ z.goto
          ∙ ap (λ (y : Machine). Some y.hart.pc) (sym q.0);
    }) (record
    { at = h.at; count = ap (λ (y : ahead.PortTally). after (isa_of l) m (n + y.ported)) q.4 ∙ h.count; mem = q.2 ∙ h.mem })

pub memory_ahead : {rest out : List ℕ} (l : Plan) (m : Machine) (s : State) (x : Machine) → Suits l → after (isa_of l) m (gained m s) ≡ Some x →
    Sound l s rest out x → (z : Machine) × (after (isa_of l) m (gained m s + ahead.ported_count l s) ≡ Some z) × (s.mem ≡ z.hart.mem)
memory_ahead {rest} {out} l m s x acc a h =
    let e : gained m s + 0 ≡ gained m s = omega arith in
    let r = walk_reach l m (gained m s) (column s) (dock.top l s x) (ahead.uncounted l s) false acc (sorted 1 s.cells) h.stands h.path_fit h.port_fit
    (λ b. absurd (cc)) refl (λ b. absurd (cc)) (λ _ _. record { so_far = ap (after (isa_of l) m) e ∙ a; goto = refl })
    (record { at = x; count = ap (after (isa_of l) m) e ∙ a; mem = refl }) in
    (r.at, r.count, h.port_ends.is_mem ∙ r.mem)
