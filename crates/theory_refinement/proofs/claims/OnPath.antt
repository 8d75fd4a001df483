-- Only instructions on the sequential path change memory, registers, output, or end the program.
use Rattle.std.proofs.Common.{◌≡◌, ◌≢◌, ℕ, ◌≤◌, ◌<◌, List, [], ◌∷◌, ◌++◌, Some, None, Bool, true, false, ◌==◌, ◌&&◌, not, refl, sym, ap, subst, ◌∙◌, arith, length, ◌⊎◌, inl, inr}
use Rattle.cf_bind.specs.declared.moves.Move.{Move}
use Rattle.cf_bind.specs.declared.moves.Move.TheVariants.{Access, Climb, Emit, Execute, Exit, Fall, Issue, Launch, Leave, Meet, Recover, Send, Serve, Slide}
use Rattle.cf_bind.specs.declared.packet.Packet.{Packet}
use Rattle.cf_bind.specs.declared.passenger.Passenger.{Passenger}
use Rattle.cf_layout.specs.Layout.{Plan, launch_stage}
use Rattle.theory_refinement.proofs.walks.Answering.{Landed, walk_risky}
use Rattle.theory_refinement.proofs.moves.Access.{access_scene}
use Rattle.theory_refinement.proofs.claims.Ahead.{dead_past, docked_of, result_past, risk_past, still, still_low, sure_past, sure_pc}
use Rattle.theory_refinement.proofs.column.Change.{here, past_safe}
use Rattle.theory_refinement.proofs.column.Column.{rider_first, top_cell}
use Rattle.theory_refinement.proofs.column.Fold.{fit_front}
use Rattle.theory_refinement.proofs.walks.Goes.{quiet_on}
use Rattle.theory_refinement.proofs.moves.Rows.{bar_row}
use Rattle.theory_refinement.proofs.claims.Lines.{gained_is}
use Rattle.theory_refinement.proofs.moves.Leave.{Leaves, leave_ready, left_dead, next_leave}
use Rattle.theory_refinement.proofs.claims.Runs.{going, holds_after}
use Rattle.theory_refinement.proofs.moves.Serve.{serve_ready}
use Rattle.theory_refinement.proofs.column.Sorted.{Riders, Sorted, over, sorted}
use Rattle.theory_refinement.proofs.walks.Stands.{each_front}
use Rattle.cf_semantics.specs.claims.OnPath.{Acted, KeepsOrActsOnPath, OnWay, Unmoved, as_launched}
use Rattle.cf_semantics.specs.claims.Refines.{gained}
use Rattle.theory_refinement.proofs.invariant.Invariant.{HoldsAt, Sound}
use Rattle.theory_refinement.proofs.invariant.Stands.{Each}
use Rattle.theory_refinement.proofs.invariant.Suited.{Suits}
use Rattle.cf_semantics.specs.moves.Bars.{bar}
use Rattle.cf_semantics.specs.state.Column.{Down, Item, Up, column, column_from, packet_in}
use Rattle.cf_semantics.specs.moves.Instructions.{Goes, after_step, is_memory, step_at}
use Rattle.cf_semantics.specs.state.Layouts.{isa_of, port}
use Rattle.cf_semantics.specs.moves.Moves.{moved, next, without_passenger}
use Rattle.cf_semantics.specs.state.Passengers.{kind}
use Rattle.cf_semantics.specs.claims.Right.{begin}
use Rattle.cf_semantics.specs.runs.Runs.{IsRun, run, start}
use Rattle.cf_semantics.specs.state.State.{Moment, State, with_cell}
use Rattle.cf_semantics.specs.claims.Walks.{Everywhere, walk}
use Rattle.rv_inst.specs.declared.isa.Isa.{Isa}
use Rattle.rv_machine.specs.After.{after}
use Rattle.rv_machine.specs.Machine.{Machine}
use Rattle.theory_refinement.proofs.invariant.Port as dock
use Rattle.theory_refinement.proofs.walks.Order as order
use Rattle.cf_semantics.specs.claims.Right as right
use Rattle.theory_refinement.proofs.invariant.Sure as sure
use Rattle.cf_semantics.specs.claims.Path as trail
use Rattle.cf_semantics.specs.claims.Soundness.{NoneFlies, may_turn}
use Rattle.theory_refinement.proofs.walks.Path.{sure_at}
use Rattle.theory_refinement.proofs.walks.Port.{open_of}

way_path : (isa : Isa) (i : Item) (w : right.Way) → (right.past isa i w).path ≡ trail.past isa i w.path
unfolding right.past
way_path isa (Up i p) w = by (trail.is_sure p w.path && w.on)
  where
    by : (b : Bool) → (right.past_passenger isa b p (trail.past isa (Up i p) w.path) w).path ≡ trail.past isa (Up i p) w.path
    by true = refl
    by false = refl
way_path isa (Down i k) w = refl

-- none of these is a memory operation that is still to be launched
abbrev pub Out : List Item → Type 0
Out [] = Unit {0}
Out (Up i p ∷ xs) = (still p ≡ false) × Out xs
Out (Down i k ∷ xs) = Out xs

pub out_above : (l : Plan) (i : ℕ) (xs : List Item) → Suits l → launch_stage l (port l) ≤ i → Riders (λ j. i < j) xs → Each l xs → Out xs
out_above l i [] acc e r h = tt
out_above l i (Up j p ∷ xs) acc e r h = (go (still p) refl, out_above l i xs acc e r.1 h.1)
  where
    go : (b : Bool) → still p ≡ b → still p ≡ false
    go false f = f
    go true f = absurd (let z = still_low l j p acc h.0 f in omega (arith, r.0))
out_above l i (Down j k ∷ xs) acc e r h = out_above l i xs acc e r h

live_way : (isa : Isa) (i : ℕ) (p : Passenger) (v : right.Way) → trail.is_sure p v.path ≡ true → v.on ≡ true → p.pc ≡ v.path.machine.hart.pc →
    step_at isa v.path.machine p.pc ≡ Goes (after_step (step_at isa v.path.machine p.pc) v.path.machine) → (right.past isa (Up i p) v).on ≡ true
unfolding right.past right.follows
live_way isa i p v s o c g =
    let e : (p.pc == v.path.machine.hart.pc) ≡ true = grind (arith, c) in
    let f : right.goes (step_at isa v.path.machine p.pc) ≡ true = rw g refl in
    grind arith

dead_way : (isa : Isa) (i : ℕ) (p : Passenger) (v : right.Way) → p.dead ≡ true → v.on ≡ true → (right.past isa (Up i p) v).on ≡ true
unfolding right.past
dead_way isa i p v d o = grind arith

result_way : (isa : Isa) (i : ℕ) (k : Packet) (v : right.Way) → v.on ≡ true → (right.past isa (Down i k) v).on ≡ true
unfolding right.past
result_way isa i k v o = o

pub way_on : (l : Plan) (xs : List Item) (w : dock.Dock) (v : right.Way) → Each l xs → Everywhere (sure.Fits (isa_of l)) (trail.past (isa_of l)) xs w.path →
    Everywhere (dock.Fits (isa_of l)) (dock.past (isa_of l)) xs w → (w.path.barred ≡ true → w.risky ≡ true) → v.path ≡ w.path → v.on ≡ true →
    w.path.goto ≡ Some w.path.machine.hart.pc → Out xs → (walk (dock.past (isa_of l)) xs w).risky ≡ false →
    ((walk (right.past (isa_of l)) xs v).on ≡ true) × ((walk (dock.past (isa_of l)) xs w).path.goto
    ≡ Some (walk (dock.past (isa_of l)) xs w).path.machine.hart.pc) × ((walk (right.past (isa_of l)) xs v).path ≡ (walk (dock.past (isa_of l)) xs w).path)
way_on l [] w v ea fp fd g q o e out r = (o, e, q)
way_on l (Up i p ∷ xs) w v ea fp fd g q o e out r =
    let risk = risk_past (isa_of l) (Up i p) w (walk_risky (isa_of l) xs (dock.past (isa_of l) (Up i p) w) r) in
    let next' = go p.dead refl risk in
    way_on l xs (dock.past (isa_of l) (Up i p) w) (right.past (isa_of l) (Up i p) v) ea.1 (rw (order.past_path (isa_of l) (Up i p) w) fp.1) fd.1
    (past_safe (isa_of l) (Up i p) w g) (way_path (isa_of l) (Up i p) v ∙ ap (trail.past (isa_of l) (Up i p)) q
    ∙ sym (order.past_path (isa_of l) (Up i p) w)) next'.0 next'.1 out.1 r
  where
    go : (d : Bool) → p.dead ≡ d → (w.risky ≡ false) × (may_turn (Up i p) ≡ false) → ((right.past (isa_of l) (Up i p) v).on ≡ true)
        × ((dock.past (isa_of l) (Up i p) w).path.goto ≡ Some (dock.past (isa_of l) (Up i p) w).path.machine.hart.pc)
    go true d risk = let z = dead_past (isa_of l) i p w d in (dead_way (isa_of l) i p v d o, z.1 ∙ e ∙ ap (λ (y : Machine). Some y.hart.pc) (sym z.0))
    go false d risk =
        let b = open_of w g risk.0 in
        let certain = sure_at (isa_of l) i p w.path d b fp.0 in
        let c = sure_pc (isa_of l) p w.path w.path.machine.hart.pc e certain in
        let z = quiet_on l i p w ea.0 certain (docked_of (isa_of l) i p w fd.0) d risk.1 (off d) in
        let s : trail.is_sure p v.path ≡ true = rw (q, d, b) refl in
        let y = sure_past (isa_of l) i p w d b in (
          live_way (isa_of l) i p v s o (c ∙ ap (λ (u : trail.Walk). u.machine.hart.pc) (sym q))
              (subst (λ (u : trail.Walk). step_at (isa_of l) u.machine p.pc ≡ Goes (after_step (step_at (isa_of l) u.machine p.pc) u.machine)) (sym q) z.goes),
          y.1 ∙ z.next ∙ ap (λ (u : Machine). Some u.hart.pc) (sym y.0),
        )
      where
        off : p.dead ≡ false → (is_memory (kind p) && not p.done && not p.launched) ≡ false
        off d = let z = out.0 in grind arith
way_on l (Down i k ∷ xs) w v ea fp fd g q o e out r =
    let z = result_past (isa_of l) i k w (record { live = 0; ported = 0; answer = None }) in
    way_on l xs (dock.past (isa_of l) (Down i k) w) (right.past (isa_of l) (Down i k) v) ea (rw (order.past_path (isa_of l) (Down i k) w) fp.1) fd.1
    (past_safe (isa_of l) (Down i k) w g) (way_path (isa_of l) (Down i k) v ∙ ap (trail.past (isa_of l) (Down i k)) q
    ∙ sym (order.past_path (isa_of l) (Down i k) w)) (result_way (isa_of l) i k v o) (z.1 ∙ e ∙ ap (λ (y : Machine). Some y.hart.pc) (sym z.0)) out r

-- the highest instruction
top_way : (isa : Isa) (s : State) (x : Machine) (n : ℕ) (p : Passenger) → p.dead ≡ false → sure.Fits isa (Up n p) (trail.top s x) → OnWay isa s x [] p
top_way isa s x n p d f =
    let certain = sure_at isa n p (trail.top s x) d refl f in
    record { sure = rw d refl; on = refl; pc = sure_pc isa p (trail.top s x) x.hart.pc refl certain }

-- registers, memory and ending of a state
pub record Untouched (s t : State) : Type 0 where
  pub regs : t.regs ≡ s.regs
  pub mem : t.mem ≡ s.mem
  pub ending : t.ending ≡ s.ending

climb_unmoved : (l : Plan) (s : State) (i : ℕ) → Untouched s (moved l s (Climb i))
unfolding moved
climb_unmoved l s i = record { regs = grind arith; mem = grind arith; ending = grind arith }

fall_unmoved : (l : Plan) (s : State) (i : ℕ) → Untouched s (moved l s (Fall i))
unfolding moved
fall_unmoved l s i = record { regs = grind arith; mem = grind arith; ending = grind arith }

meet_unmoved : (l : Plan) (s : State) (i : ℕ) → Untouched s (moved l s (Meet i))
unfolding moved
meet_unmoved l s i = record { regs = grind arith; mem = grind arith; ending = grind arith }

execute_unmoved : (l : Plan) (s : State) (i : ℕ) → Untouched s (moved l s (Execute i))
unfolding moved
execute_unmoved l s i = record { regs = grind arith; mem = grind arith; ending = grind arith }

send_unmoved : (l : Plan) (s : State) (i : ℕ) → Untouched s (moved l s (Send i))
unfolding moved
send_unmoved l s i = record { regs = grind arith; mem = grind arith; ending = grind arith }

launch_unmoved : (l : Plan) (s : State) (i : ℕ) → Untouched s (moved l s (Launch i))
unfolding moved
launch_unmoved l s i = record { regs = grind arith; mem = grind arith; ending = grind arith }

recover_unmoved : (l : Plan) (s : State) (i : ℕ) → Untouched s (moved l s (Recover i))
unfolding moved
recover_unmoved l s i = record { regs = grind arith; mem = grind arith; ending = grind arith }

slide_unmoved : (l : Plan) (s : State) (k c : ℕ) → Untouched s (moved l s (Slide k c))
unfolding moved
slide_unmoved l s k c = record { regs = grind arith; mem = grind arith; ending = grind arith }

emit_unmoved : (l : Plan) (s : State) → Untouched s (moved l s Emit)
unfolding moved
emit_unmoved l s = record { regs = grind arith; mem = grind arith; ending = grind arith }

exit_unmoved : (l : Plan) (s : State) → Untouched s (moved l s Exit)
unfolding moved
exit_unmoved l s = record { regs = grind arith; mem = grind arith; ending = grind arith }

issue_unmoved : (l : Plan) (s : State) (g : _) → Untouched s (moved l s (Issue g))
unfolding moved
issue_unmoved l s g = record { regs = grind arith; mem = grind arith; ending = grind arith }

-- the moves that leave registers, memory and ending
pub quiet_unmoved : (l : Plan) (s : State) (mv : Move) → mv ≢ Access → mv ≢ Leave → mv ≢ Serve → Untouched s (moved l s mv)
quiet_unmoved l s (Issue g) a b c = issue_unmoved l s g
quiet_unmoved l s Emit a b c = emit_unmoved l s
quiet_unmoved l s (Climb i) a b c = climb_unmoved l s i
quiet_unmoved l s (Fall i) a b c = fall_unmoved l s i
quiet_unmoved l s (Meet i) a b c = meet_unmoved l s i
quiet_unmoved l s (Execute i) a b c = execute_unmoved l s i
quiet_unmoved l s (Send i) a b c = send_unmoved l s i
quiet_unmoved l s (Launch i) a b c = launch_unmoved l s i
quiet_unmoved l s (Slide j k) a b c = slide_unmoved l s j k
quiet_unmoved l s Access a b c = absurd (a refl)
quiet_unmoved l s (Recover i) a b c = recover_unmoved l s i
quiet_unmoved l s Leave a b c = absurd (b refl)
quiet_unmoved l s Exit a b c = exit_unmoved l s
quiet_unmoved l s Serve a b c = absurd (c refl)

dead_unmoved : (s : State) (n : ℕ) (c : _) → Untouched s (with_cell s n (without_passenger c))
dead_unmoved s n c = record { regs = refl; mem = refl; ending = refl }

moment_unmoved : (m : Moment) (t : State) → Untouched m.state t → Unmoved m (record m { state = t })
moment_unmoved m t u = record { regs = u.regs; mem = u.mem; rest = refl; output = refl; ending = u.ending }

leave_acts : {rest out : List ℕ} (l : Plan) (s : State) (x : Machine) → bar l s Leave ≡ None → Sound l s rest out x →
    Untouched s (moved l s Leave) ⊎ Acted l s x Leave
leave_acts {rest} {out} l s x e h = go (leave_ready l s (bar_row l s Leave e))
  where
    go : Leaves l s → Untouched s (moved l s Leave) ⊎ Acted l s x Leave
    go r =
        let c = top_cell s.cells l.stages r.here h.size r.at_here in
        let under = packet_in l.stages r.here.packet ++ column_from 1 c.below in
        let was : column s ≡ Up l.stages r.who ∷ under = c.was ∙ ap (λ (q : List Item). q ++ column_from 1 c.below)
        (rider_first l.stages r.here r.who r.sits r.clear) in
        let f = rw was at h.path_fit in
        by r.who.dead refl under was f.0
      where
        by : (d : Bool) → r.who.dead ≡ d → (under : List Item) → column s ≡ Up l.stages r.who ∷ under →
            sure.Fits (isa_of l) (Up l.stages r.who) (trail.top s x) → Untouched s (moved l s Leave) ⊎ Acted l s x Leave
        by true d under was f = inl (rw (next_leave l s r.here r.who r.at_here r.sits, left_dead s l.stages r.here r.who d) (dead_unmoved s l.stages r.here))
        by false d under was f =
            inr (record { above = []; below = under; stage = l.stages; who = r.who; was = was; acts = refl; way = top_way (isa_of l) s x l.stages r.who d f })

serve_acts : {rest out : List ℕ} (l : Plan) (s : State) (x : Machine) → bar l s Serve ≡ None → Sound l s rest out x → Acted l s x Serve
serve_acts {rest} {out} l s x e h =
    let r = serve_ready l s (bar_row l s Serve e) in
    let c = top_cell s.cells l.stages r.here h.size r.at_here in
    let under = packet_in l.stages r.here.packet ++ column_from 1 c.below in
    let was : column s ≡ Up l.stages r.who ∷ under = c.was ∙ ap (λ (q : List Item). q ++ column_from 1 c.below)
    (rider_first l.stages r.here r.who r.sits r.clear) in
    let f = rw was at h.path_fit in
    record { above = []; below = under; stage = l.stages; who = r.who; was = was; acts = refl; way = top_way (isa_of l) s x l.stages r.who r.live f.0 }

access_acts : {rest out : List ℕ} (l : Plan) (s : State) (x : Machine) → Suits l → bar l s Access ≡ None → Sound l s rest out x → Acted l s x Access
access_acts {rest} {out} l s x acc e h =
    let c = access_scene l s x acc e h in
    let f = c.first in
    let p = f.who in
    let i = f.stage in
    let was : column s ≡ f.above ++ ((Up i p ∷ []) ++ f.below) = f.was in
    let y = here l s x f.above (Up i p ∷ []) f.below was h in
    let ea = each_front l f.above ((Up i p ∷ []) ++ f.below) (rw was at h.stands) in
    let out = out_above l i f.above acc c.range.0 (over f.above f.below i p (subst Sorted was (sorted 1 s.cells))) ea in
    let w = walk (dock.past (isa_of l)) f.above (dock.top l s x) in
    let z = way_on l f.above (dock.top l s x) (begin s x) ea (fit_front _ (sure.Fits (isa_of l)) (trail.past (isa_of l)) f.above ((Up i p ∷ []) ++ f.below) _
    (rw was at h.path_fit)) (fit_front _ (dock.Fits (isa_of l)) (dock.past (isa_of l)) f.above ((Up i p ∷ []) ++ f.below) _ (rw was at h.port_fit))
    (λ b. absurd (cc)) refl refl refl out c.calm in
    record {
      above = f.above;
      below = f.below;
      stage = i;
      who = p;
      was = f.was;
      acts = (c.flies, none_flies f.above c.landed, ap as_launched c.ready.lies ∙ ap Some (sym f.op));
      way = record {
        sure = ap (λ (u : trail.Walk). trail.is_sure p u) z.2 ∙ both p.dead w.path.barred c.live (open_of w y.safe c.calm);
        on = z.0;
        pc =
            sure_pc (isa_of l) p w.path w.path.machine.hart.pc z.1 c.certain ∙ ap (λ (u : trail.Walk). u.machine.hart.pc) (sym z.2);
      };
    }
  where
    none_flies : (xs : List Item) → Landed xs → NoneFlies xs
    none_flies [] h = tt
    none_flies (Up i p ∷ xs) h = (h.0, none_flies xs h.1)
    none_flies (Down i k ∷ xs) h = none_flies xs h

    both : (a b : Bool) → a ≡ false → b ≡ false → (not a && not b) ≡ true
    both a b e f = rw (e, f) refl

pub heeds : (l : Plan) (x0 : Machine) (m : Moment) (x : Machine) (mv : Move) → Suits l → after (isa_of l) x0 (gained x0 m.state) ≡ Some x →
    bar l m.state mv ≡ None → Sound l m.state m.rest m.output x → KeepsOrActsOnPath l x0 m mv
unfolding next
heeds l x0 m x (Issue g) acc a e h = inl (moment_unmoved m _ (issue_unmoved l m.state g))
heeds l x0 m x Emit acc a e h = inl (moment_unmoved m _ (emit_unmoved l m.state))
heeds l x0 m x (Climb i) acc a e h = inl (moment_unmoved m _ (climb_unmoved l m.state i))
heeds l x0 m x (Fall i) acc a e h = inl (moment_unmoved m _ (fall_unmoved l m.state i))
heeds l x0 m x (Meet i) acc a e h = inl (moment_unmoved m _ (meet_unmoved l m.state i))
heeds l x0 m x (Execute i) acc a e h = inl (moment_unmoved m _ (execute_unmoved l m.state i))
heeds l x0 m x (Send i) acc a e h = inl (moment_unmoved m _ (send_unmoved l m.state i))
heeds l x0 m x (Launch i) acc a e h = inl (moment_unmoved m _ (launch_unmoved l m.state i))
heeds l x0 m x (Slide j c) acc a e h = inl (moment_unmoved m _ (slide_unmoved l m.state j c))
heeds l x0 m x Access acc a e h = inr (x, a, access_acts l m.state x acc e h)
heeds l x0 m x (Recover i) acc a e h = inl (moment_unmoved m _ (recover_unmoved l m.state i))
heeds l x0 m x Leave acc a e h = go (leave_acts l m.state x e h)
  where
    go : Untouched m.state (moved l m.state Leave) ⊎ Acted l m.state x Leave → KeepsOrActsOnPath l x0 m Leave
    go (inl u) = inl (moment_unmoved m _ u)
    go (inr u) = inr (x, a, u)
heeds l x0 m x Exit acc a e h = inl (moment_unmoved m _ (exit_unmoved l m.state))
heeds l x0 m x Serve acc a e h = inr (x, a, serve_acts l m.state x e h)

-- off the sequential path nothing is changed
pub run_heeds : (l : Plan) (x0 : Machine) (moves : List Move) (mv : Move) → Suits l → length x0.hart.regs ≡ 32 → IsRun l (start l x0) moves →
    bar l (run l (start l x0) moves).state mv ≡ None → KeepsOrActsOnPath l x0 (run l (start l x0) moves) mv
run_heeds l x0 moves mv acc w r e =
    let m = run l (start l x0) moves in
    let h = holds_after l x0 moves acc w r in
    heeds l x0 m h.machine mv acc (ap (after (isa_of l) x0) (gained_is l x0 m h) ∙ h.after) e
    (subst (HoldsAt l m.state m.rest m.output h.machine) (going l m.state mv e) h.stage)
