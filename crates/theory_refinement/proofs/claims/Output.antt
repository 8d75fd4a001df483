-- Output, input and code are those of the machine after the served environment call, if there is one.
use Rattle.theory_refinement.proofs.claims.Runs.{after_more}
use Rattle.std.proofs.Common.{◌≡◌, ℕ, zero, suc, ◌+◌, ◌<◌, List, [], ◌∷◌, ◌++◌, Option, Some, None, Bool, true, false, refl, sym, ap, subst, ◌∙◌, arith, length, ◌⊎◌, inl, inr}
use Rattle.std.specs.Prelude.{slice_get}
use Rattle.cf_bind.specs.declared.cell.Cell.{Cell}
use Rattle.cf_bind.specs.declared.packet.Packet.{Packet}
use Rattle.cf_bind.specs.declared.passenger.Passenger.{Passenger}
use Rattle.cf_layout.specs.Layout.{Plan}
use Rattle.theory_refinement.proofs.claims.Ahead.{docked_of, sure_pc}
use Rattle.theory_refinement.proofs.column.Change.{here}
use Rattle.theory_refinement.proofs.column.Column.{top_cell}
use Rattle.theory_refinement.proofs.column.Fold.{walk_append}
use Rattle.theory_refinement.proofs.walks.Goes.{done_goes}
use Rattle.theory_refinement.proofs.walks.Port.{open_of, served_calm}
use Rattle.theory_refinement.proofs.moves.Serve.{Idle}
use Rattle.theory_refinement.proofs.column.Sorted.{Riders, riders_append, riders_below, riders_front}
use Rattle.theory_refinement.proofs.column.Spot.{spot}
use Rattle.theory_refinement.proofs.walks.Stands.{each_back}
use Rattle.theory_refinement.proofs.invariant.Invariant.{Sound}
use Rattle.theory_refinement.proofs.invariant.Stands.{Each, Stands}
use Rattle.cf_semantics.specs.claims.Ahead.{served_count}
use Rattle.cf_semantics.specs.state.Column.{Down, Item, Up, column, column_from, in_order, items, packet_in, passenger_in}
use Rattle.cf_semantics.specs.moves.Instructions.{Goes, after_step, step_at, step_here}
use Rattle.cf_semantics.specs.state.Layouts.{isa_of}
use Rattle.cf_semantics.specs.claims.Refines.{Spoke, gained}
use Rattle.cf_semantics.specs.state.State.{State, cell_at}
use Rattle.cf_semantics.specs.claims.Walks.{walk}
use Rattle.rv_inst.specs.declared.isa.Isa.{Isa}
use Rattle.rv_machine.specs.After.{after}
use Rattle.rv_machine.specs.Machine.{Machine}
use Rattle.cf_semantics.specs.claims.Ahead as ahead
use Rattle.theory_refinement.proofs.invariant.Port as dock
use Rattle.theory_refinement.proofs.invariant.Sure as sure
use Rattle.cf_semantics.specs.claims.Path as trail
use Rattle.theory_refinement.proofs.walks.Path.{sure_at, sure_is}

pub record Mute (w v : dock.Dock) : Type 0 where
  pub rest : v.rest ≡ w.rest
  pub out : v.out ≡ w.out

rider_mute : (isa : Isa) (i : ℕ) (p : Passenger) (w : dock.Dock) → ahead.has_served p ≡ false → Mute w (dock.past isa (Up i p) w)
unfolding dock.past
rider_mute isa i p w e = record { rest = rw e refl; out = rw e refl }

result_mute : (isa : Isa) (i : ℕ) (k : Packet) (w : dock.Dock) → Mute w (dock.past isa (Down i k) w)
unfolding dock.past
result_mute isa i k w = record { rest = refl; out = refl }

not_top : (l : Plan) (i : ℕ) (p : Passenger) → i < l.stages → Stands l i p → ahead.has_served p ≡ false
not_top l i p n h = go (ahead.has_served p) refl
  where
    go : (b : Bool) → ahead.has_served p ≡ b → ahead.has_served p ≡ false
    go false e = e
    go true e = absurd (let z = h.served e in omega arith)

-- below the highest stage no instruction was served
mute : (l : Plan) (xs : List Item) (w : dock.Dock) → Riders (λ j. j < l.stages) xs → Each l xs → Mute w (walk (dock.past (isa_of l)) xs w)
mute l [] w r h = record { rest = refl; out = refl }
mute l (Up i p ∷ xs) w r h =
    let a = rider_mute (isa_of l) i p w (not_top l i p r.0 h.0) in
    let b = mute l xs (dock.past (isa_of l) (Up i p) w) r.1 h.1 in
    record { rest = b.rest ∙ a.rest; out = b.out ∙ a.out }
mute l (Down i k ∷ xs) w r h =
    let a = result_mute (isa_of l) i k w in
    let b = mute l xs (dock.past (isa_of l) (Down i k) w) r h in
    record { rest = b.rest ∙ a.rest; out = b.out ∙ a.out }

idle_of : (n : ℕ) (xs : List Item) → Riders (λ j. n < j) xs → Riders (λ j. j < suc n) xs → Idle xs
idle_of n [] a b = tt
idle_of n (Up i p ∷ xs) a b = absurd (omega (arith, a.0, b.0))
idle_of n (Down i k ∷ xs) a b = idle_of n xs a b

pub path_result : (isa : Isa) (i : ℕ) (k : Packet) (w : trail.Walk) → ((trail.past isa (Down i k) w).machine ≡ w.machine)
    × ((trail.past isa (Down i k) w).goto ≡ w.goto)
unfolding trail.past
path_result isa i k w = (grind arith, grind arith)

pub idle_path : (isa : Isa) (xs : List Item) (w : trail.Walk) → Idle xs → ((walk (trail.past isa) xs w).machine ≡ w.machine)
    × ((walk (trail.past isa) xs w).goto ≡ w.goto)
idle_path isa [] w h = (refl, refl)
idle_path isa (Up i p ∷ xs) w h = absurd h
idle_path isa (Down i k ∷ xs) w h =
    let a = path_result isa i k w in
    let b = idle_path isa xs (trail.past isa (Down i k) w) h in
    (b.0 ∙ a.0, b.1 ∙ a.1)

idle_mute : (isa : Isa) (xs : List Item) (w : dock.Dock) → Idle xs → Mute w (walk (dock.past isa) xs w)
idle_mute isa [] w h = record { rest = refl; out = refl }
idle_mute isa (Up i p ∷ xs) w h = absurd h
idle_mute isa (Down i k ∷ xs) w h =
    let a = result_mute isa i k w in
    let b = idle_mute isa xs (dock.past isa (Down i k) w) h in
    record { rest = b.rest ∙ a.rest; out = b.out ∙ a.out }

pub served_past : (isa : Isa) (i : ℕ) (p : Passenger) (w : dock.Dock) → ahead.has_served p ≡ true →
    ((dock.past isa (Up i p) w).rest ≡ (after_step (step_at isa w.path.machine p.pc) w.path.machine).rest)
    × ((dock.past isa (Up i p) w).out ≡ (after_step (step_at isa w.path.machine p.pc) w.path.machine).output)
unfolding dock.past
served_past isa i p w e = (rw e refl, rw e refl)

pub some_cell : (cells : List Cell) (n : ℕ) → length cells ≡ suc n → (c : Cell) × (slice_get cells n ≡ Some c)
some_cell [] n e = absurd (cc)
some_cell (c ∷ cells) zero e = (c, refl)
some_cell (c ∷ cells) (suc n) e = some_cell cells n (omega arith)

no_riders : (i n : ℕ) (m : Bool) (k : Option Packet) → Riders (λ j. j < n) (in_order m (passenger_in i None) (packet_in i k))
no_riders i n true None = tt
no_riders i n true (Some k) = tt
no_riders i n false None = tt
no_riders i n false (Some k) = tt

served_none : (l : Plan) (s : State) → l.stages ≡ zero → served_count l s ≡ 0
served_none l s e = rw e refl

-- no instruction was served: input and output are the machine's
pub record Silent (l : Plan) (s : State) (x : Machine) (rest out : List ℕ) : Type 0 where
  pub count : served_count l s ≡ 0
  pub is_rest : rest ≡ x.rest
  pub is_out : out ≡ x.output

-- the instruction of the highest stage was served: it is sure, no instruction is above it, and input and output are
-- those after its step
pub record Served (l : Plan) (s : State) (x : Machine) (rest out : List ℕ) : Type 0 where
  pub above : List Item
  pub below : List Item
  pub who : Passenger
  pub was : column s ≡ above ++ (Up l.stages who ∷ below)
  pub idle : Idle above
  pub count : served_count l s ≡ 1
  pub sure : trail.is_sure who (walk (trail.past (isa_of l)) above (trail.top s x)) ≡ true
  pub pc : who.pc ≡ x.hart.pc
  pub goes : step_at (isa_of l) x who.pc ≡ Goes (after_step (step_at (isa_of l) x who.pc) x)
  pub is_rest : rest ≡ (after_step (step_at (isa_of l) x who.pc) x).rest
  pub is_out : out ≡ (after_step (step_at (isa_of l) x who.pc) x).output

alive : (p : Passenger) → ahead.has_served p ≡ true → p.dead ≡ false
alive p g = go p.dead refl
  where
    go : (b : Bool) → p.dead ≡ b → p.dead ≡ false
    go false e = e
    go true e = absurd (grind arith)

pub heard : {rest out : List ℕ} (l : Plan) (s : State) (x : Machine) → Sound l s rest out x → Silent l s x rest out ⊎ Served l s x rest out
heard {rest} {out} l s x h = go l.stages refl h.size
  where
    silent : Riders (λ j. j < l.stages) (column s) → served_count l s ≡ 0 → Silent l s x rest out ⊎ Served l s x rest out
    silent r z =
        let e = mute l (column s) (dock.top l s x) r h.stands in
        inl (record { count = z; is_rest = h.port_ends.is_rest ∙ e.rest; is_out = h.port_ends.is_out ∙ e.out })

    rides : (c : Cell) (p : Passenger) → cell_at s.cells l.stages ≡ Some c → c.passenger ≡ Some p → (b : Bool) → ahead.has_served p ≡ b →
        Silent l s x rest out ⊎ Served l s x rest out
    rides c p e f false g =
        let q = spot s l.stages c p e f in
        let z : served_count l s ≡ 0 = rw (e, f, g) refl in
        let each = subst (Each l) q.was h.stands in
        let all = subst (Riders (λ j. j < suc l.stages)) q.was (riders_below (suc l.stages) 1 s.cells (omega (arith, h.size))) in
        let up = idle_of l.stages q.above q.over (riders_front (λ j. j < suc l.stages) q.above ((Up l.stages p ∷ []) ++ q.below) all) in
        let u = idle_mute (isa_of l) q.above (dock.top l s x) up in
        let w = walk (dock.past (isa_of l)) q.above (dock.top l s x) in
        let v = rider_mute (isa_of l) l.stages p w g in
        let d = mute l q.below (dock.past (isa_of l) (Up l.stages p) w) q.under (each_back l (Up l.stages p ∷ []) q.below
        (each_back l q.above ((Up l.stages p ∷ []) ++ q.below) each)) in
        let ends = subst (λ (z : dock.Dock). dock.Ends z s.mem rest out) (ap (λ (z : List Item). walk (dock.past (isa_of l)) z (dock.top l s x)) q.was
        ∙ walk_append (dock.past (isa_of l)) q.above ((Up l.stages p ∷ []) ++ q.below) (dock.top l s x)) h.port_ends in
        inl (record { count = z; is_rest = ends.is_rest ∙ d.rest ∙ v.rest ∙ u.rest; is_out = ends.is_out ∙ d.out ∙ v.out ∙ u.out })
    rides c p e f true g =
        let q = spot s l.stages c p e f in
        let z : served_count l s ≡ 1 = rw (e, f, g) refl in
        let each = subst (Each l) q.was h.stands in
        let all = subst (Riders (λ j. j < suc l.stages)) q.was (riders_below (suc l.stages) 1 s.cells (omega (arith, h.size))) in
        let up = idle_of l.stages q.above q.over (riders_front (λ j. j < suc l.stages) q.above ((Up l.stages p ∷ []) ++ q.below) all) in
        let w = walk (dock.past (isa_of l)) q.above (dock.top l s x) in
        let k = here l s x q.above (Up l.stages p ∷ []) q.below q.was h in
        let calm = served_calm (isa_of l) p w (docked_of (isa_of l) l.stages p w k.port_fit.0) g in
        let live : p.dead ≡ false = alive p g in
        let certain = sure_at (isa_of l) l.stages p w.path live (open_of w k.safe calm) (subst (λ (z : trail.Walk). sure.Fits (isa_of l) (Up l.stages p) z)
        (sym k.same) k.path_fit.0) in
        let same = idle_path (isa_of l) q.above (trail.top s x) up in
        let goto : w.path.goto ≡ Some x.hart.pc = ap (λ (z : trail.Walk). z.goto) k.same ∙ same.1 in
        let mach : w.path.machine ≡ x = ap (λ (z : trail.Walk). z.machine) k.same ∙ same.0 in
        let pc = sure_pc (isa_of l) p w.path x.hart.pc goto certain in
        let st = subst (λ (z : Machine). step_at (isa_of l) z p.pc ≡ Goes (after_step (step_at (isa_of l) z p.pc) z)) mach
        (done_goes (isa_of l) p w.path g certain) in
        let v = served_past (isa_of l) l.stages p w g in
        let d = mute l q.below (dock.past (isa_of l) (Up l.stages p) w) q.under (each_back l (Up l.stages p ∷ []) q.below
        (each_back l q.above ((Up l.stages p ∷ []) ++ q.below) each)) in
        let ends = subst (λ (z : dock.Dock). dock.Ends z s.mem rest out) (ap (λ (z : List Item). walk (dock.past (isa_of l)) z (dock.top l s x)) q.was
        ∙ walk_append (dock.past (isa_of l)) q.above ((Up l.stages p ∷ []) ++ q.below) (dock.top l s x)) h.port_ends in
        inr (record {
          above = q.above;
          below = q.below;
          who = p;
          was = q.was;
          idle = up;
          count = z;
          sure = ap (trail.is_sure p) (sym k.same) ∙ sure_is p w.path live (open_of w k.safe calm);
          pc = pc;
          goes = st;
          is_rest = ends.is_rest ∙ d.rest ∙ v.0 ∙ ap (λ (z : Machine). (after_step (step_at (isa_of l) z p.pc) z).rest) mach;
          is_out = ends.is_out ∙ d.out ∙ v.1 ∙ ap (λ (z : Machine). (after_step (step_at (isa_of l) z p.pc) z).output) mach;
        })

    inner : (c : Cell) (o : Option Passenger) → cell_at s.cells l.stages ≡ Some c → c.passenger ≡ o → Silent l s x rest out ⊎ Served l s x rest out
    inner c (Some p) e f = rides c p e f (ahead.has_served p) refl
    inner c None e f =
        let t = top_cell s.cells l.stages c h.size e in
        let z : served_count l s ≡ 0 = rw (e, f) refl in
        let r = riders_append (λ j. j < l.stages) (items l.stages c) (column_from 1 t.below)
        (subst (λ (o : Option Passenger). Riders (λ j. j < l.stages) (in_order c.met (passenger_in l.stages o) (packet_in l.stages c.packet))) (sym f)
        (no_riders l.stages l.stages c.met c.packet)) (riders_below l.stages 1 t.below (omega (arith, t.number))) in
        silent (subst (Riders (λ j. j < l.stages)) (sym t.was) r) z

    go : (n : ℕ) → l.stages ≡ n → length s.cells ≡ l.stages → Silent l s x rest out ⊎ Served l s x rest out
    go zero e f = silent (subst (λ (q : List Cell). Riders (λ j. j < l.stages) (column_from 1 q)) (sym (nothing s.cells (f ∙ e))) tt) (served_none l s e)
      where
        nothing : (q : List Cell) → length q ≡ 0 → q ≡ []
        nothing [] e = refl
        nothing (c ∷ q) e = absurd (cc)
    go (suc n) e f = let c = some_cell s.cells n (f ∙ e) in inner c.0 c.0.passenger (ap (cell_at s.cells) e ∙ c.1) refl

pub output_ahead : {rest out : List ℕ} (l : Plan) (m : Machine) (s : State) (x : Machine) → after (isa_of l) m (gained m s) ≡ Some x → Sound l s rest out x →
    Spoke (isa_of l) m (gained m s + served_count l s) (record { state = s; rest = rest; output = out })
output_ahead {rest} {out} l m s x a h = go (heard l s x h)
  where
    count : (c : ℕ) → served_count l s ≡ c → after (isa_of l) m (gained m s + served_count l s) ≡ after (isa_of l) m (gained m s + c)
    count c e = ap (λ (z : ℕ). after (isa_of l) m (gained m s + z)) e

    go : Silent l s x rest out ⊎ Served l s x rest out → Spoke (isa_of l) m (gained m s + served_count l s) (record { state = s; rest = rest; output = out })
    go (inl q) = let n : gained m s + 0 ≡ gained m s = omega arith in
        record { at = x; count = count 0 q.count ∙ ap (after (isa_of l) m) n ∙ a; rest = q.is_rest; output = q.is_out }
    go (inr q) =
        let y = after_step (step_at (isa_of l) x q.who.pc) x in
        let n : gained m s + 1 ≡ suc (gained m s) = omega arith in
        let st : step_here (isa_of l) x ≡ Goes y = ap (step_at (isa_of l) x) (sym q.pc) ∙ q.goes in
        record {
          at = y;
          count = count 1 q.count ∙ ap (after (isa_of l) m) n ∙ after_more (isa_of l) m x y (gained m s) a st;
          rest = q.is_rest;
          output =
              q.is_out;
        }
