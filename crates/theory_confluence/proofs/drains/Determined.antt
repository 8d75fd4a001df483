-- With Issue held back the count and the kind of the end are determined by where the run began.
use Rattle.std.proofs.Common.{◌≡◌, ℕ, suc, ◌+◌, List, [], ◌∷◌, ◌++◌, Option, Some, None, Bool, true, false, ◌&&◌, ◌==◌, refl, sym, ap, subst, ◌∙◌, arith, ◌⊎◌, inl, inr}
use Rattle.std.specs.Prelude.{slice_index}
use Rattle.cf_bind.specs.declared.cell.Cell.{Cell}
use Rattle.cf_bind.specs.declared.moves.Move.{Move}
use Rattle.cf_bind.specs.declared.moves.Move.TheVariants.{Access, Climb, Emit, Execute, Exit, Fall, Issue, Launch, Leave, Meet, Recover, Send, Serve, Slide}
use Rattle.cf_bind.specs.declared.packet.Packet.{Packet}
use Rattle.cf_bind.specs.declared.packet.Packet.TheVariants.{Value}
use Rattle.cf_bind.specs.declared.passenger.End.{End}
use Rattle.cf_bind.specs.declared.passenger.Passenger.{Passenger}
use Rattle.cf_layout.specs.Layout.{Plan}
use Rattle.theory_refinement.proofs.claims.Ahead.{sure_pc}
use Rattle.theory_refinement.proofs.column.Column.{Top, rider_first, rider_gone, top_cell}
use Rattle.theory_confluence.proofs.weight.Bound.{sound_at}
use Rattle.theory_confluence.proofs.drains.Rested.{after_gained, rested, retired_is}
use Rattle.theory_confluence.proofs.drains.Tidy.{IsTidy, tidy_run}
use Rattle.theory_refinement.proofs.moves.Emit.{emit_is, emit_path, emit_ready, next_emit}
use Rattle.theory_refinement.proofs.moves.Exit.{above_exit, exit_ready, exit_was, next_exit}
use Rattle.theory_refinement.proofs.column.Fold.{walk_append, walk_follows}
use Rattle.theory_refinement.proofs.moves.Rows.{bar_row}
use Rattle.theory_refinement.proofs.moves.Leave.{Leaves, at_top, dead_path, leave_kept, leave_ready, left_dead, left_on, left_over, live_path, next_leave, sure_goes, sure_stops}
use Rattle.theory_confluence.proofs.drains.Right.{Fits, Follows, past_path, way_walk}
use Rattle.theory_confluence.proofs.drains.Steadies.{access_steady, climb_steady, execute_steady, fall_steady, launch_steady, meet_steady, recover_steady, send_steady, serve_steady, slide_steady}
use Rattle.theory_confluence.proofs.drains.Ways.{Steady, fits_way}
use Rattle.theory_refinement.proofs.invariant.Invariant.{HoldsAfter, HoldsAt, IsOver, Sound}
use Rattle.theory_refinement.proofs.invariant.Suited.{Suits}
use Rattle.cf_semantics.specs.claims.Ahead.{one}
use Rattle.cf_semantics.specs.moves.Bars.{bar}
use Rattle.cf_semantics.specs.state.Column.{Down, Item, Up, column, column_from, packet_in}
use Rattle.cf_semantics.specs.claims.Determined.{Drains, EndsAs, EndsAt, IsDrainedAt, IsEndedAt}
use Rattle.cf_semantics.specs.claims.Refines.{gained}
use Rattle.cf_semantics.specs.moves.Instructions.{Goes, Stops, after_step, step_at, step_here}
use Rattle.cf_semantics.specs.state.Layouts.{isa_of}
use Rattle.cf_semantics.specs.runs.Lines.{lines_at, retires}
use Rattle.cf_semantics.specs.moves.Moves.{left, moved, next, without_passenger, written}
use Rattle.cf_semantics.specs.claims.Right.{Way, begin, follows, goes, past, past_passenger, stops, way}
use Rattle.cf_semantics.specs.runs.Runs.{IsRun, run}
use Rattle.cf_semantics.specs.state.State.{Moment, State, put_cell}
use Rattle.cf_semantics.specs.claims.Walks.{Everywhere, walk}
use Rattle.cf_semantics.specs.claims.Weight.{counts, is_issue, issues}
use Rattle.rv_inst.specs.declared.isa.Isa.{Isa}
use Rattle.rv_machine.specs.After.{after}
use Rattle.rv_machine.specs.Machine.{Machine}
use Rattle.theory_refinement.proofs.walks.Path as paths
use Rattle.theory_refinement.proofs.claims.Runs as runs
use Rattle.theory_refinement.proofs.invariant.Sure as sure
use Rattle.cf_semantics.specs.claims.Path as trail
use Rattle.theory_refinement.proofs.walks.Path.{sure_at}
use Rattle.theory_refinement.proofs.claims.Lines.{gained_is}

-- Emit
emit_way : (isa : Isa) (s t : State) (x : Machine) (n r v : ℕ) → paths.Follows (trail.top s x) (trail.past isa (Down n (Value r v)) (trail.top t x)) →
    Follows (begin s x) (past isa (Down n (Value r v)) (begin t x))
unfolding past trail.past
emit_way isa s t x n r v f = record { path = f; count = refl; stop = refl; on = λ _. refl; lost = λ a b. absurd (cc) }

emit_steady : {rest out : List ℕ} (l : Plan) (s : State) (x : Machine) → bar l s Emit ≡ None → Sound l s rest out x →
    Steady (way (isa_of l) s x) (way (isa_of l) (moved l s Emit) x)
emit_steady {rest} {out} l s x e h =
    let r = emit_ready l s (bar_row l s Emit e) in
    let n = l.stages in
    let v = slice_index s.regs r.asked in
    let k : Packet = Value r.asked v in
    let d : Cell = record r.here { packet = Some k; met = false } in
    let t : State = record s { cells = put_cell s.cells n d; lane = r.others } in
    let is : column t ≡ Down n k ∷ column s = emit_is l s r k h.size in
    let f = emit_way (isa_of l) s t x n r.asked v (emit_path (isa_of l) s t x n r.asked v r.others r.lane refl) in
    let q = walk_follows _ (Fits (isa_of l)) (past (isa_of l)) Follows (way_walk (isa_of l)) (column s) _ _ f
    (fits_way (isa_of l) (column s) (trail.top s x) (begin s x) refl h.path_fit) in
    let w : way (isa_of l) t x ≡ walk (past (isa_of l)) (column s) (past (isa_of l) (Down n k) (begin t x)) =
    ap (λ (z : List Item). walk (past (isa_of l)) z (begin t x)) is in
    rw (next_emit l s r.here r.asked r.others r.at_here r.lane)
    (record { count = ap (λ (z : Way). z.count) w ∙ q.count; stop = ap (λ (z : Way). z.stop) w ∙ q.stop })

-- Exit
result_way : (isa : Isa) (k : Packet) (w : Way) → ((past isa (Down 1 k) w).count ≡ w.count) × ((past isa (Down 1 k) w).stop ≡ w.stop)
unfolding past
result_way isa k w = (refl, refl)

exit_steady : {rest out : List ℕ} (l : Plan) (s : State) (x : Machine) → bar l s Exit ≡ None → Sound l s rest out x →
    Steady (way (isa_of l) s x) (way (isa_of l) (moved l s Exit) x)
exit_steady {rest} {out} l s x e h =
    let r = exit_ready l s (bar_row l s Exit e) in
    let k = r.what in
    let above = above_exit r in
    let w : way (isa_of l) s x ≡ past (isa_of l) (Down 1 k) (walk (past (isa_of l)) above (begin s x)) =
    ap (λ (z : List Item). walk (past (isa_of l)) z (begin s x)) (exit_was s r) ∙ walk_append (past (isa_of l)) above (Down 1 k ∷ []) (begin s x) in
    let c = result_way (isa_of l) k (walk (past (isa_of l)) above (begin s x)) in
    rw (next_exit l s r.here r.others k r.cells r.lies) (record
    { count = sym (ap (λ (z : Way). z.count) w ∙ c.0); stop = sym (ap (λ (z : Way). z.stop) w ∙ c.1) })

-- Leave
dead_way : (isa : Isa) (s t : State) (x : Machine) (n : ℕ) (p : Passenger) → p.dead ≡ true →
    paths.Follows (trail.past isa (Up n p) (trail.top s x)) (trail.top t x) → Follows (past isa (Up n p) (begin s x)) (begin t x)
unfolding past
dead_way isa s t x n p d f = record { path = by f; count = grind arith; stop = grind arith; on = λ _. grind arith; lost = λ a b. absurd (cc) }
  where
    by : paths.Follows (trail.past isa (Up n p) (trail.top s x)) (trail.top t x) → paths.Follows (past isa (Up n p) (begin s x)).path (begin t x).path
    by f = rw (past_path isa (Up n p) (begin s x)) f

-- one more was counted
abbrev pub counted : State → Machine → Way
counted t y = record (begin t y) { count = 1 }

live_way : (isa : Isa) (s t : State) (x y : Machine) (n : ℕ) (p : Passenger) → p.dead ≡ false → p.pc ≡ x.hart.pc → step_at isa x p.pc ≡ Goes y →
    paths.Follows (trail.past isa (Up n p) (trail.top s x)) (trail.top t y) → Follows (past isa (Up n p) (begin s x)) (counted t y)
unfolding past follows stops
live_way isa s t x y n p d c g f =
    let e : (p.pc == x.hart.pc) ≡ true = grind (arith, c) in
    let u : goes (step_at isa x p.pc) ≡ true = rw g refl in
    record { path = by f; count = grind arith; stop = grind arith; on = λ _. grind arith; lost = λ a b. absurd (cc) }
  where
    by : paths.Follows (trail.past isa (Up n p) (trail.top s x)) (trail.top t y) → paths.Follows (past isa (Up n p) (begin s x)).path (counted t y).path
    by f = rw (past_path isa (Up n p) (begin s x)) f

shift_rider : (isa : Isa) (b : Bool) (p : Passenger) (q : trail.Walk) (w : Way) → past_passenger isa b p q (record w { count = suc w.count })
    ≡ record (past_passenger isa b p q w) { count = suc (past_passenger isa b p q w).count }
shift_rider isa true p q w = let e : suc w.count + one (follows isa p w.path.machine) ≡ suc (w.count + one (follows isa p w.path.machine)) = omega arith in
    ap (λ (n : ℕ). record (past_passenger isa true p q w) { count = n }) e
shift_rider isa false p q w = refl

shift_item : (isa : Isa) (i : Item) (w : Way) → past isa i (record w { count = suc w.count }) ≡ record (past isa i w) { count = suc (past isa i w).count }
unfolding past
shift_item isa (Up i p) w = shift_rider isa (trail.is_sure p w.path && w.on) p (trail.past isa (Up i p) w.path) w
shift_item isa (Down i k) w = refl

shift : (isa : Isa) (xs : List Item) (w : Way) → walk (past isa) xs (record w { count = suc w.count })
    ≡ record (walk (past isa) xs w) { count = suc (walk (past isa) xs w).count }
shift isa [] w = refl
shift isa (i ∷ xs) w = ap (λ (z : Way). walk (past isa) xs z) (shift_item isa i w) ∙ shift isa xs (past isa i w)

-- a step that ends the program, in the walk
ended_way : (isa : Isa) (s : State) (x : Machine) (n : ℕ) (p : Passenger) (e : End) → p.dead ≡ false → p.pc ≡ x.hart.pc → step_at isa x p.pc ≡ Stops e →
    ((past isa (Up n p) (begin s x)).count ≡ 0) × ((past isa (Up n p) (begin s x)).on ≡ false) × ((past isa (Up n p) (begin s x)).stop ≡ true)
unfolding past follows stops
ended_way isa s x n p e d c g =
    let q : (p.pc == x.hart.pc) ≡ true = grind (arith, c) in
    let u : goes (step_at isa x p.pc) ≡ false = rw g refl in
    (grind arith, grind arith, grind arith)

off_item : (isa : Isa) (i : Item) (w : Way) → w.on ≡ false → ((past isa i w).count ≡ w.count) × ((past isa i w).on ≡ false) × ((past isa i w).stop ≡ w.stop)
unfolding past
off_item isa i w o = (grind arith, grind arith, grind arith)

off : (isa : Isa) (xs : List Item) (w : Way) → w.on ≡ false → ((walk (past isa) xs w).count ≡ w.count) × ((walk (past isa) xs w).stop ≡ w.stop)
off isa [] w o = (refl, refl)
off isa (i ∷ xs) w o = let a = off_item isa i w o in let b = off isa xs (past isa i w) a.1 in (b.0 ∙ a.0, b.1 ∙ a.2)

-- for a state over its machine: what has retired and what is on the path, together, and whether the walk comes to an
-- end
pub record Total (isa : Isa) (s : State) (x : Machine) (n : ℕ) (b : Bool) : Type 0 where
  pub sum : s.retired + (way isa s x).count ≡ n
  pub stop : (way isa s x).stop ≡ b

-- for a state that has ended, the count itself
abbrev pub EndsSo : Isa → State → Machine → Option End → ℕ → Bool → Type 0
EndsSo isa s x None n b = Total isa s x n b
EndsSo isa s x (Some e) n b = (s.retired ≡ n) × (b ≡ true)

pub record GoesSo (l : Plan) (x0 : Machine) (m : Moment) (n : ℕ) (b : Bool) : Type 0 where
  pub held : HoldsAfter l x0 m
  pub total : EndsSo (isa_of l) m.state held.machine m.state.ending n b

pub some_same : (x y : Machine) → Some x ≡ Some y → x ≡ y
some_same x y e = cc

-- the same number of steps from the same machine leads to the same machine
pub one_machine : (l : Plan) (x0 : Machine) (m t : Moment) → t.state.retired ≡ m.state.retired → (h : HoldsAfter l x0 m) (k : HoldsAfter l x0 t) →
    k.machine ≡ h.machine
one_machine l x0 m t r h k =
    let a = h.count in
    let b = k.count in
    let n : k.gained ≡ h.gained = omega (arith, a, b, r) in
    some_same k.machine h.machine (sym k.after ∙ ap (after (isa_of l) x0) n ∙ h.after)

steady_total : (l : Plan) (x0 : Machine) (m t : Moment) (n : ℕ) (b : Bool) → m.state.ending ≡ None → runs.Counts m.state t.state → (h : HoldsAfter l x0 m) →
    HoldsAfter l x0 t → Steady (way (isa_of l) m.state h.machine) (way (isa_of l) t.state h.machine) → Total (isa_of l) m.state h.machine n b →
    GoesSo l x0 t n b
steady_total l x0 m t n b e c h k w f =
    let same = one_machine l x0 m t c.retired h k in
    let total : Total (isa_of l) t.state h.machine n b = record { sum = sum c.retired w.count ∙ f.sum; stop = w.stop ∙ f.stop } in
    record {
      held = k;
      total = subst (λ (o : Option End). EndsSo (isa_of l) t.state k.machine o n b) (sym (c.ending ∙ e))
          (subst (λ (y : Machine). Total (isa_of l) t.state y n b) (sym same) total);
    }
  where
    sum : {a b c d : ℕ} → a ≡ b → c ≡ d → a + c ≡ b + d
    sum f g = rw (f, g) refl

-- Leave, by what becomes of the machine
abbrev pub LeftSo : Plan → State → Machine → State → List ℕ → List ℕ → Type 0
LeftSo l s x t rest out = ((t.ending ≡ s.ending) × (t.retired ≡ s.retired) × (retires l s Leave ≡ []) × Sound l t rest out x)
    ⊎ (((y : Machine) × (step_here (isa_of l) x ≡ Goes y) × (t.ending ≡ s.ending) × (t.retired ≡ suc s.retired) × (retires l s Leave ≡ lines_at (isa_of l) x)
    × Sound l t rest out y) ⊎ ((e : End) × (t.ending ≡ Some e) × (t.retired ≡ s.retired) × (retires l s Leave ≡ []) × IsOver l t rest out x e))

-- the total of the walk, over the machine to which the state goes on
pub record LeftTotal (l : Plan) (s t : State) (x : Machine) (n : ℕ) (b : Bool) : Type 0 where
  pub how : ((t.ending ≡ s.ending) × (t.retired ≡ s.retired) × Total (isa_of l) t x n b) ⊎
      (((y : Machine) × (step_here (isa_of l) x ≡ Goes y) × (t.ending ≡ s.ending) × (t.retired ≡ suc s.retired) × Total (isa_of l) t y n b)
      ⊎ ((e : End) × (t.ending ≡ Some e) × (t.retired ≡ s.retired) × (t.retired ≡ n) × (b ≡ true)))

leave_total : {rest out : List ℕ} (l : Plan) (s : State) (x : Machine) (n : ℕ) (b : Bool) → s.ending ≡ None → bar l s Leave ≡ None → Sound l s rest out x →
    Total (isa_of l) s x n b → LeftTotal l s (moved l s Leave) x n b
leave_total {rest} {out} l s x n b z e h k = go (leave_ready l s (bar_row l s Leave e))
  where
    go : Leaves l s → LeftTotal l s (moved l s Leave) x n b
    go r = by r.who.dead r.who.ending refl refl (leave_kept l s x e h).how
      where
        p : Passenger
        p = r.who

        t : State
        t = moved l s Leave

        here : moved l s Leave ≡ left s l.stages r.here p
        here = next_leave l s r.here p r.at_here r.sits

        c : Top s.cells l.stages r.here
        c = top_cell s.cells l.stages r.here h.size r.at_here

        below : List Item
        below = packet_in l.stages r.here.packet ++ column_from 1 c.below

        was : column s ≡ Up l.stages p ∷ below
        was = c.was ∙ ap (λ (q : List Item). q ++ column_from 1 c.below) (rider_first l.stages r.here p r.sits r.clear)

        is : column_from 1 (put_cell s.cells l.stages (without_passenger r.here)) ≡ below
        is = c.set (without_passenger r.here) ∙ ap (λ (q : List Item). q ++ column_from 1 c.below) (rider_gone l.stages r.here)

        fits : Everywhere (sure.Fits (isa_of l)) (trail.past (isa_of l)) (Up l.stages p ∷ below) (trail.top s x)
        fits = subst (λ (q : List Item). Everywhere (sure.Fits (isa_of l)) (trail.past (isa_of l)) q (trail.top s x)) was h.path_fit

        ways : Everywhere (Fits (isa_of l)) (past (isa_of l)) (Up l.stages p ∷ below) (begin s x)
        ways = fits_way (isa_of l) (Up l.stages p ∷ below) (trail.top s x) (begin s x) refl fits

        from : way (isa_of l) s x ≡ walk (past (isa_of l)) below (past (isa_of l) (Up l.stages p) (begin s x))
        from = ap (λ (q : List Item). walk (past (isa_of l)) q (begin s x)) was

        none_some : (e : End) → None ≡ Some e → ⊥
        none_some e f = cc

        How : Type 0
        How = LeftSo l s x t rest out

        dead : p.dead ≡ true → How → LeftTotal l s t x n b
        dead d (inl q) =
            let same : t ≡ record s { cells = put_cell s.cells l.stages (without_passenger r.here) } = here ∙ left_dead s l.stages r.here p d in
            let u : State = record s { cells = put_cell s.cells l.stages (without_passenger r.here) } in
            let f = dead_way (isa_of l) s u x l.stages p d (dead_path (isa_of l) s u l.stages p x refl d) in
            let g = walk_follows _ (Fits (isa_of l)) (past (isa_of l)) Follows (way_walk (isa_of l)) below _ _ f ways.1 in
            let w : way (isa_of l) u x ≡ walk (past (isa_of l)) below (begin u x) = ap (λ (q : List Item). walk (past (isa_of l)) q (begin u x)) is in
            let count : (way (isa_of l) u x).count ≡ (way (isa_of l) s x).count = ap (λ (v : Way). v.count) w ∙ g.count
            ∙ ap (λ (v : Way). v.count) (sym from) in
            let stop : (way (isa_of l) u x).stop ≡ (way (isa_of l) s x).stop = ap (λ (v : Way). v.stop) w ∙ g.stop ∙ ap (λ (v : Way). v.stop) (sym from) in
            let total : Total (isa_of l) u x n b = record { sum = let y = k.sum in omega (arith, count, y); stop = stop ∙ k.stop } in
            record { how = inl (q.0, q.1, subst (λ (v : State). Total (isa_of l) v x n b) (sym same) total) }
        dead d (inr (inl q)) = absurd (let w : t.retired ≡ s.retired = ap (λ (v : State). v.retired) (here ∙ left_dead s l.stages r.here p d) in
            omega (arith, w, q.3))
        dead d (inr (inr q)) = absurd (let w : t.ending ≡ s.ending = ap (λ (v : State). v.ending) (here ∙ left_dead s l.stages r.here p d) in
            none_some q.0 (sym z ∙ sym w ∙ q.1))

        certain : p.dead ≡ false → sure.SureAt (isa_of l) p (trail.top s x)
        certain d = sure_at (isa_of l) l.stages p (trail.top s x) d refl fits.0

        live : p.dead ≡ false → p.ending ≡ None → How → LeftTotal l s t x n b
        live d o (inl q) = absurd (let w : t.retired ≡ s.retired + 1 = ap (λ (v : State). v.retired) (here ∙ left_on s l.stages r.here p d o) in
            omega (arith, w, q.1))
        live d o (inr (inr q)) = absurd (let w : t.ending ≡ s.ending = ap (λ (v : State). v.ending) (here ∙ left_on s l.stages r.here p d o) in
            none_some q.0 (sym z ∙ sym w ∙ q.1))
        live d o (inr (inl q)) =
            let y = q.0 in
            let u : State = record s { cells = put_cell s.cells l.stages (without_passenger r.here); regs = written s.regs p.dst; retired = s.retired + 1 } in
            let same : t ≡ u = here ∙ left_on s l.stages r.here p d o in
            let st : step_at (isa_of l) x p.pc ≡ Goes y = sym (at_top (isa_of l) p (trail.top s x) refl (certain d)) ∙ q.1 in
            let beh : y ≡ after_step (step_at (isa_of l) x p.pc) x = rw st refl in
            let nx : p.next ≡ Some y.hart.pc = (sure_goes (isa_of l) p (trail.top s x) (r.over d) o (certain d)).1
            ∙ ap (λ (v : Machine). Some v.hart.pc) (sym beh) in
            let f = live_way (isa_of l) s u x y l.stages p d (sure_pc (isa_of l) p (trail.top s x) x.hart.pc refl (certain d)) st
            (live_path (isa_of l) s u l.stages p x y beh refl d (r.over d) o r.nothing nx) in
            let g = walk_follows _ (Fits (isa_of l)) (past (isa_of l)) Follows (way_walk (isa_of l)) below _ _ f ways.1 in
            let w : way (isa_of l) u y ≡ walk (past (isa_of l)) below (begin u y) = ap (λ (v : List Item). walk (past (isa_of l)) v (begin u y)) is in
            let sh = shift (isa_of l) below (begin u y) in
            let count : (way (isa_of l) s x).count ≡ suc (way (isa_of l) u y).count = ap (λ (v : Way). v.count) from ∙ sym g.count
            ∙ ap (λ (v : Way). v.count) sh ∙ ap (λ (v : Way). suc v.count) (sym w) in
            let stop : (way (isa_of l) s x).stop ≡ (way (isa_of l) u y).stop = ap (λ (v : Way). v.stop) from ∙ sym g.stop ∙ ap (λ (v : Way). v.stop) sh
            ∙ ap (λ (v : Way). v.stop) (sym w) in
            let total : Total (isa_of l) t y n b =
            record {
              sum = let c2 : (way (isa_of l) t y).count ≡ (way (isa_of l) u y).count = ap (λ (v : State). (way (isa_of l) v y).count) same in
                  omega (arith, q.3, c2, count, k.sum);
              stop = ap (λ (v : State). (way (isa_of l) v y).stop) same ∙ sym stop ∙ k.stop;
            } in
            record { how = inr (inl (y, q.1, q.2, q.3, total)) }

        ended : (v : End) → p.dead ≡ false → p.ending ≡ Some v → How → LeftTotal l s t x n b
        ended v d o (inl q) = absurd (let w : t.ending ≡ Some v = ap (λ (u : State). u.ending) (here ∙ left_over s l.stages r.here p v d o) in
            none_some v (sym z ∙ sym q.0 ∙ w))
        ended v d o (inr (inl q)) = absurd (let w : t.ending ≡ Some v = ap (λ (u : State). u.ending) (here ∙ left_over s l.stages r.here p v d o) in
            none_some v (sym z ∙ sym q.2 ∙ w))
        ended v d o (inr (inr q)) =
            let st = sure_stops (isa_of l) p (trail.top s x) v o (certain d) in
            let f = ended_way (isa_of l) s x l.stages p v d (sure_pc (isa_of l) p (trail.top s x) x.hart.pc refl (certain d)) st in
            let g = off (isa_of l) below (past (isa_of l) (Up l.stages p) (begin s x)) f.1 in
            let count : (way (isa_of l) s x).count ≡ 0 = ap (λ (u : Way). u.count) from ∙ g.0 ∙ f.0 in
            let stop : (way (isa_of l) s x).stop ≡ true = ap (λ (u : Way). u.stop) from ∙ g.1 ∙ f.2 in
            record { how = inr (inr (q.0, q.1, q.2, (let s1 = k.sum in omega (arith, q.2, count, s1)), sym k.stop ∙ stop)) }

        by : (d : Bool) (o : Option End) → p.dead ≡ d → p.ending ≡ o → How → LeftTotal l s t x n b
        by true o f g q = dead f q
        by false None f g q = live f g q
        by false (Some v) f g q = ended v f g q

leave_so : (l : Plan) (x0 : Machine) (m t : Moment) (n : ℕ) (b : Bool) → m.state.ending ≡ None → (h : HoldsAfter l x0 m) → HoldsAfter l x0 t →
    LeftTotal l m.state t.state h.machine n b → GoesSo l x0 t n b
leave_so l x0 m t n b z h k w = go w.how
  where
    over : (o : Option End) → t.state.ending ≡ o → EndsSo (isa_of l) t.state k.machine o n b → GoesSo l x0 t n b
    over o e f = record { held = k; total = subst (λ (v : Option End). EndsSo (isa_of l) t.state k.machine v n b) (sym e) f }

    one_more : (y : Machine) → t.state.retired ≡ suc m.state.retired → step_here (isa_of l) h.machine ≡ Goes y → k.machine ≡ y
    one_more y r g =
        let a = h.count in
        let c = k.count in
        let n : k.gained ≡ suc h.gained = omega (arith, a, c, r) in
        some_same k.machine y (sym k.after ∙ ap (after (isa_of l) x0) n ∙ runs.after_more (isa_of l) x0 h.machine y h.gained h.after g)

    go : ((t.state.ending ≡ m.state.ending) × (t.state.retired ≡ m.state.retired) × Total (isa_of l) t.state h.machine n b)
        ⊎ (((y : Machine) × (step_here (isa_of l) h.machine ≡ Goes y) × (t.state.ending ≡ m.state.ending) × (t.state.retired ≡ suc m.state.retired)
        × Total (isa_of l) t.state y n b) ⊎ ((e : End) × (t.state.ending ≡ Some e) × (t.state.retired ≡ m.state.retired) × (t.state.retired ≡ n)
        × (b ≡ true))) → GoesSo l x0 t n b
    go (inl q) = over None (q.0 ∙ z) (subst (λ (y : Machine). Total (isa_of l) t.state y n b) (sym (one_machine l x0 m t q.1 h k)) q.2)
    go (inr (inl q)) = over None (q.2 ∙ z) (subst (λ (y : Machine). Total (isa_of l) t.state y n b) (sym (one_more q.0 q.3 q.1)) q.4)
    go (inr (inr q)) = over (Some q.0) q.1 (q.3, q.4)

-- one move
pub so_kept : (l : Plan) (x0 : Machine) (m : Moment) (mv : Move) (n : ℕ) (b : Bool) → Suits l → is_issue mv ≡ false → bar l m.state mv ≡ None →
    GoesSo l x0 m n b → GoesSo l x0 (next l m mv) n b
unfolding next
so_kept l x0 m mv n b acc i e h = go mv i e (runs.kept l x0 m mv acc e h.held) (runs.going l m.state mv e) (sound_at l x0 m mv e h.held)
    (subst (λ (o : Option End). EndsSo (isa_of l) m.state h.held.machine o n b) (runs.going l m.state mv e) h.total)
  where
    s : State
    s = m.state

    x : Machine
    x = h.held.machine

    by : (t : Moment) → m.state.ending ≡ None → runs.Counts m.state t.state → HoldsAfter l x0 t →
        Steady (way (isa_of l) m.state h.held.machine) (way (isa_of l) t.state h.held.machine) → Total (isa_of l) m.state h.held.machine n b → GoesSo l x0 t n b
    by t z c k w f = steady_total l x0 m t n b z c h.held k w f

    go : (mv : Move) → is_issue mv ≡ false → bar l m.state mv ≡ None → HoldsAfter l x0 (next l m mv) → m.state.ending ≡ None →
        Sound l m.state m.rest m.output h.held.machine → Total (isa_of l) m.state h.held.machine n b → GoesSo l x0 (next l m mv) n b
    go (Issue g) i e k z q f = absurd (cc)
    go Emit i e k z q f = by _ z (runs.emit_counts l s) k (emit_steady l s x e q) f
    go (Climb j) i e k z q f = by _ z (runs.climb_counts l s j) k (climb_steady l s x j e q) f
    go (Fall j) i e k z q f = by _ z (runs.fall_counts l s j) k (fall_steady l s x j e q) f
    go (Meet j) i e k z q f = by _ z (runs.meet_counts l s j) k (meet_steady l s x j e q) f
    go (Execute j) i e k z q f = by _ z (runs.execute_counts l s j) k (execute_steady l s x j acc e q) f
    go (Send j) i e k z q f = by _ z (runs.send_counts l s j) k (send_steady l s x j e q) f
    go (Launch j) i e k z q f = by _ z (runs.launch_counts l s j) k (launch_steady l s x j e q) f
    go (Slide j c) i e k z q f = by _ z (runs.slide_counts l s j c) k (slide_steady l s x j c e) f
    go Access i e k z q f = by _ z (runs.access_counts l s) k (access_steady l s x e) f
    go (Recover j) i e k z q f = by _ z (runs.recover_counts l s j) k (recover_steady l s x j acc e q) f
    go Leave i e k z q f = leave_so l x0 m _ n b z h.held k (leave_total l s x n b z e q f)
    go Exit i e k z q f = by _ z (runs.exit_counts l s) k (exit_steady l s x e q) f
    go Serve i e k z q f = by _ z (runs.serve_counts l m) k (serve_steady l m x e q) f

no_issue : (mv : Move) (moves : List Move) → issues (mv ∷ moves) ≡ 0 → (is_issue mv ≡ false) × (issues moves ≡ 0)
no_issue mv moves e = go (is_issue mv) e
  where
    go : (b : Bool) → counts b 1 + issues moves ≡ 0 → (b ≡ false) × (issues moves ≡ 0)
    go true e = absurd (omega (arith, e))
    go false e = (refl, omega (arith, e))

so_runs : (l : Plan) (x0 : Machine) (m : Moment) (moves : List Move) (n : ℕ) (b : Bool) → Suits l → issues moves ≡ 0 → IsRun l m moves → GoesSo l x0 m n b →
    GoesSo l x0 (run l m moves) n b
unfolding IsRun run
so_runs l x0 m [] n b acc i r h = h
so_runs l x0 m (mv ∷ moves) n b acc i r h = let q = no_issue mv moves i in so_runs l x0 (next l m mv) moves n b acc q.1 r.1
    (so_kept l x0 m mv n b acc q.0 r.0 h)

-- the end is determined by where the run began
ended_at : (l : Plan) (t : Moment) (x : Machine) (e : End) → t.state.ending ≡ Some e → t.state.retired ≡ x.hart.retired → IsOver l t.state t.rest t.output x e →
    IsEndedAt l x t
ended_at l t x e f r h = record { end = e; ending = f; stops = h.stops; retired = r; regs = h.regs; mem = h.mem; rest = h.input; output = h.output }

pub ends_as : (l : Plan) (x0 : Machine) (m t : Moment) → Suits l → IsTidy l m.state → (h : HoldsAfter l x0 m) → m.state.ending ≡ None → Drains l m t →
    EndsAs l x0 m t
ends_as l x0 m t acc tidy h z d = go k.held.machine refl t.state.ending refl
  where
    x : Machine
    x = h.machine

    w : Way
    w = way (isa_of l) m.state h.machine

    k : GoesSo l x0 t (m.state.retired + (way (isa_of l) m.state h.machine).count) (way (isa_of l) m.state h.machine).stop
    k = subst (λ (u : Moment). GoesSo l x0 u (m.state.retired + w.count) w.stop) (sym d.is)
        (so_runs l x0 m d.moves _ _ acc d.held d.allowed (record {
          held = h;
          total = subst (λ (o : Option End). EndsSo (isa_of l) m.state h.machine o (m.state.retired + w.count) w.stop) (sym z)
              (record { sum = refl; stop = refl });
        }))

    tidy_end : IsTidy l t.state
    tidy_end = subst (λ (u : Moment). IsTidy l u.state) (sym d.is) (tidy_run l m d.moves d.allowed tidy)

    ends : (y : Machine) → k.held.machine ≡ y → t.state.retired ≡ m.state.retired + (way (isa_of l) m.state h.machine).count →
        EndsAt (way (isa_of l) m.state h.machine).stop l y t → EndsAs l x0 m t
    ends y e n f =
        let a = gained_is l x0 m h in
        let b = h.count in
        let c = k.held.count in
        let sum : k.held.gained ≡ gained x0 m.state + w.count = omega (arith, a, b, c, n) in
        record {
          at = h.machine;
          count = after_gained l x0 m h;
          final = y;
          more = ap (after (isa_of l) x0) (sym sum) ∙ k.held.after ∙ ap Some e;
          ends = f;
        }

    go : (y : Machine) → k.held.machine ≡ y → (o : Option End) → t.state.ending ≡ o → EndsAs l x0 m t
    go y f (Some e) q =
        let n = subst (λ (o : Option End). EndsSo (isa_of l) t.state k.held.machine o (m.state.retired + w.count) w.stop) q k.total in
        let over : IsOver l t.state t.rest t.output k.held.machine e = subst (HoldsAt l t.state t.rest t.output k.held.machine) q k.held.stage in
        let over_at = ended_at l t k.held.machine e q (retired_is l x0 t k.held) over in
        ends y f n.0 (subst (λ (b : Bool). EndsAt b l y t) (sym n.1) (subst (λ (v : Machine). IsEndedAt l v t) f over_at))
    go y f None q =
        let n = subst (λ (o : Option End). EndsSo (isa_of l) t.state k.held.machine o (m.state.retired + w.count) w.stop) q k.total in
        let r = rested l x0 t acc tidy_end k.held q d.stuck in
        let v : way (isa_of l) t.state k.held.machine ≡ begin t.state k.held.machine = ap (λ (u : List Item). walk (past (isa_of l)) u
        (begin t.state k.held.machine)) r.column in
        let c : (way (isa_of l) t.state k.held.machine).count ≡ 0 = ap (λ (u : Way). u.count) v in
        let stop : w.stop ≡ false = sym n.stop ∙ ap (λ (u : Way). u.stop) v in
        let sum = n.sum in
        ends y f (omega (arith, sum, c)) (subst (λ (b : Bool). EndsAt b l y t) (sym stop) (subst (λ (v : Machine). IsDrainedAt l v t) f r.drained))
