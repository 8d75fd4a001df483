-- Each move but Issue keeps the sum of what has retired and what is on the path.
use Rattle.std.proofs.Common.{◌≡◌, ℕ, zero, suc, List, [], ◌∷◌, Option, Some, None, Bool, true, false, ◌&&◌, refl, sym, ap, subst, ◌∙◌, arith, length, add-one, sub-one}
use Rattle.std.specs.Prelude.{slice_set}
use Rattle.cf_bind.specs.Meeting.{meeting}
use Rattle.cf_bind.specs.declared.cell.Cell.{Cell}
use Rattle.cf_bind.specs.declared.cell.Op.{Op}
use Rattle.cf_bind.specs.declared.moves.Move.TheVariants.{Access, Climb, Execute, Fall, Launch, Meet, Recover, Send, Serve, Slide}
use Rattle.cf_bind.specs.declared.packet.Packet.{Packet}
use Rattle.cf_bind.specs.declared.passenger.End.{End}
use Rattle.cf_bind.specs.declared.passenger.Passenger.{Passenger}
use Rattle.cf_layout.specs.Layout.{Plan}
use Rattle.theory_refinement.proofs.walks.Answering.{walk_landed}
use Rattle.theory_refinement.proofs.moves.Access.{access_ready, next_access}
use Rattle.theory_refinement.proofs.walks.Returning.{back, back_at, back_fits, back_past, goto_class}
use Rattle.theory_refinement.proofs.walks.Bounds.{core_bounds}
use Rattle.theory_refinement.proofs.column.Change.{Here, here}
use Rattle.theory_refinement.proofs.moves.Execute.{execute_ready, goes_straight, next_execute, sure_finishes}
use Rattle.theory_refinement.proofs.moves.Fall.{cells_fallen, fall_ready, fall_stretch, next_fall, no_fall}
use Rattle.theory_refinement.proofs.moves.Climb.{cells_climbed, climb_ready, climb_stretch, next_climb}
use Rattle.theory_refinement.proofs.moves.Meet.{meet_ready, meet_stretch, next_meet}
use Rattle.theory_refinement.proofs.moves.Rows.{bar_row}
use Rattle.theory_refinement.proofs.walks.Launching.{launch_path, sent_out}
use Rattle.theory_refinement.proofs.moves.Launch.{Launches, in_port, launch_ready, launched_out, launched_trap, next_launch, refused, trap_at, trap_path}
use Rattle.theory_refinement.proofs.walks.Loading.{memory_goes}
use Rattle.theory_refinement.proofs.instructions.Memory.{memory_steps}
use Rattle.theory_refinement.proofs.walks.PathFinish.{Finishes}
use Rattle.theory_refinement.proofs.moves.Recovering.{Recovers, hauls, next_recover, recover_ready}
use Rattle.theory_refinement.proofs.moves.Recover.{docked_live, in_dead, in_live, landed, other_port, plain_class, sure_loads}
use Rattle.theory_confluence.proofs.drains.Right.{Fits, Follows, finish_way, past_path}
use Rattle.theory_confluence.proofs.drains.RightMoves.{launch_count, serve_ahead, trap_ahead}
use Rattle.theory_refinement.proofs.moves.Send.{next_send, send_ready, send_stretch}
use Rattle.theory_refinement.proofs.moves.Serve.{Scene, Serves, gave_at, gave_path, next_serve, quit, quit_at, quit_path, scene, serial_nowhere, serve_ready}
use Rattle.theory_refinement.proofs.column.Sidings.{last_answer, plain_last}
use Rattle.theory_refinement.proofs.moves.Slide.{next_slide, slide_ready}
use Rattle.theory_refinement.proofs.column.Spot.{Spot, spot}
use Rattle.theory_confluence.proofs.drains.Ways.{Steady, finished_way, follows_self, meet_way, packet_relabel, rider_relabel, send_way, walk_way, way_changed}
use Rattle.theory_refinement.proofs.invariant.Invariant.{Sound}
use Rattle.theory_refinement.proofs.invariant.Stands.{Stands}
use Rattle.theory_refinement.proofs.invariant.Suited.{Suits}
use Rattle.cf_semantics.specs.moves.Bars.{bar}
use Rattle.cf_semantics.specs.state.Column.{Down, Item, Up}
use Rattle.cf_semantics.specs.moves.Instructions.{Stops, access_trap, after_step, is_memory, serve_of, step_at}
use Rattle.cf_semantics.specs.state.Layouts.{isa_of}
use Rattle.cf_semantics.specs.moves.Moves.{answered, next, back_in, cell_met, launch_trap, launched, moved, operation, set_last, with_passenger}
use Rattle.cf_semantics.specs.state.Options.{on}
use Rattle.cf_semantics.specs.state.Passengers.{finish, goto_undone, guessed, instruction, kind, missing, trapped, value_in}
use Rattle.cf_semantics.specs.claims.Right.{way, Way, begin, follows, past, past_passenger, stops}
use Rattle.cf_semantics.specs.state.State.{Moment, State, put_cell, siding_at, with_cell, with_siding}
use Rattle.cf_semantics.specs.claims.Walks.{Everywhere, walk}
use Rattle.mem_regions.specs.Access.{Bounds, bounds_of}
use Rattle.rv_inst.specs.declared.isa.Isa.{Isa}
use Rattle.rv_machine.specs.Call.{Called}
use Rattle.rv_machine.specs.Call as called
use Rattle.rv_machine.specs.Machine.{Machine}
use Rattle.cf_semantics.specs.claims.Ahead as ahead
use Rattle.theory_refinement.proofs.invariant.Port as dock
use Rattle.theory_refinement.proofs.walks.PathMeet as pathmeet
use Rattle.theory_refinement.proofs.walks.Path as paths
use Rattle.theory_refinement.proofs.invariant.Sure as sure
use Rattle.cf_semantics.specs.claims.Path as trail
use Rattle.cf_semantics.specs.claims.Soundness.{IsAnswer}
use Rattle.theory_refinement.proofs.walks.Path.{sure_at}

pub climb_steady : {rest out : List ℕ} (l : Plan) (s : State) (x : Machine) (i : ℕ) → bar l s (Climb i) ≡ None → Sound l s rest out x →
    Steady (way (isa_of l) s x) (way (isa_of l) (moved l s (Climb i)) x)
climb_steady {rest} {out} l s x i e h =
    let r = climb_ready l s i (bar_row l s (Climb i) e) in
    let q = climb_stretch l s i r in
    let t : State = record s { cells = cells_climbed s i r.low r.high } in
    rw (next_climb l s i r.low r.high r.at_low r.at_high, add-one) (way_changed (isa_of l) s t x q.above (Up i r.who ∷ []) (Up (suc i) r.who
    ∷ []) q.below q.was q.is refl h.path_fit (λ _. rider_relabel (isa_of l) i (suc i) r.who _))

fall_up : {rest out : List ℕ} (l : Plan) (s : State) (x : Machine) (i : ℕ) → bar l s (Fall (suc i)) ≡ None → Sound l s rest out x →
    Steady (way (isa_of l) s x) (way (isa_of l) (moved l s (Fall (suc i))) x)
fall_up {rest} {out} l s x i e h =
    let r = fall_ready l s i (bar_row l s (Fall (suc i)) e) in
    let q = fall_stretch s i r in
    let t : State = record s { cells = cells_fallen s i r.low r.high } in
    rw (next_fall l s i r.high r.low r.at_high r.at_low, sub-one) (way_changed (isa_of l) s t x q.above (Down (suc i) r.what ∷ []) (Down i r.what
    ∷ []) q.below q.was q.is refl h.path_fit (λ _. packet_relabel (isa_of l) (suc i) i r.what _))

pub fall_steady : {rest out : List ℕ} (l : Plan) (s : State) (x : Machine) (i : ℕ) → bar l s (Fall i) ≡ None → Sound l s rest out x →
    Steady (way (isa_of l) s x) (way (isa_of l) (moved l s (Fall i)) x)
fall_steady {rest} {out} l s x zero e h = absurd (no_fall l s (bar_row l s (Fall zero) e))
fall_steady {rest} {out} l s x (suc i) e h = fall_up l s x i e h

pub meet_steady : {rest out : List ℕ} (l : Plan) (s : State) (x : Machine) (i : ℕ) → bar l s (Meet i) ≡ None → Sound l s rest out x →
    Steady (way (isa_of l) s x) (way (isa_of l) (moved l s (Meet i)) x)
meet_steady {rest} {out} l s x i e h =
    let r = meet_ready l s i (bar_row l s (Meet i) e) in
    let p = meet_stretch s i r in
    let old : List Item = Down i r.what ∷ Up i r.who ∷ [] in
    let new = pathmeet.met_items i (meeting r.who r.what).passenger (meeting r.who r.what).packet in
    let k = here l s x p.above old p.below p.was h in
    rw (next_meet l s i r.here r.who r.what r.at_here r.sits r.lies) (way_changed (isa_of l) s
    (with_cell s i (cell_met r.here r.who r.what)) x p.above old new p.below p.was p.is refl h.path_fit
    (λ _. meet_way (isa_of l) i r.who r.what _ (subst (λ (w : trail.Walk). Everywhere (sure.Fits (isa_of l)) (trail.past (isa_of l)) old w)
    (sym (walk_way (isa_of l) p.above (begin s x))) k.path_fit)))

pub send_steady : {rest out : List ℕ} (l : Plan) (s : State) (x : Machine) (i : ℕ) → bar l s (Send i) ≡ None → Sound l s rest out x →
    Steady (way (isa_of l) s x) (way (isa_of l) (moved l s (Send i)) x)
send_steady {rest} {out} l s x i e h =
    let r = send_ready l s i (bar_row l s (Send i) e) in
    let q : Passenger = record r.who { owes = None } in
    let d : Cell = record { passenger = Some q; packet = Some r.what; met = true } in
    let p = send_stretch s i r in
    rw (next_send l s i r.here r.who r.what r.at_here r.sits r.owes) (way_changed (isa_of l) s (with_cell s i d) x p.above (Up i r.who ∷ []) (Up i q
    ∷ Down i r.what ∷ []) p.below p.was p.is refl h.path_fit (send_way (isa_of l) i r.who r.what _ r.owes))

owes_nothing : (l : Plan) (i : ℕ) (p : Passenger) → p.done ≡ false → Stands l i p → p.owes ≡ None
owes_nothing l i p d h = go p.owes refl
  where
    go : (o : Option Packet) → p.owes ≡ o → p.owes ≡ None
    go None e = e
    go (Some k) e = absurd (let z = h.owes_done (rw e refl) in cc)

pub execute_steady : {rest out : List ℕ} (l : Plan) (s : State) (x : Machine) (i : ℕ) → Suits l → bar l s (Execute i) ≡ None → Sound l s rest out x →
    Steady (way (isa_of l) s x) (way (isa_of l) (moved l s (Execute i)) x)
execute_steady {rest} {out} l s x i acc e h =
    let r = execute_ready l s i (bar_row l s (Execute i) e) in
    let p = r.who in
    let q = spot s i r.here p r.at_here r.sits in
    let k = here l s x q.above (Up i p ∷ []) q.below q.was h in
    let c = acc.plain (kind p) i r.unit in
    let u = walk (past (isa_of l)) q.above (begin s x) in
    let fits : sure.Fits (isa_of l) (Up i p) u.path = subst (λ (w : trail.Walk). sure.Fits (isa_of l) (Up i p) w)
    (sym (walk_way (isa_of l) q.above (begin s x))) k.path_fit.0 in
    rw (next_execute l s i r.here p r.at_here r.sits) (way_changed (isa_of l) s (with_cell s i (with_passenger r.here (finish p None))) x q.above (Up i p ∷ [])
    (Up i (finish p None) ∷ []) q.below q.was (q.is (finish p None)) refl h.path_fit (finished_way (isa_of l) i p None u r.undone
    (owes_nothing l i p r.undone k.stands.0) (goes_straight p c) (λ d b. sure_finishes (isa_of l) p u.path r.undone r.has1 r.has2 c
    (sure_at (isa_of l) i p u.path d b fits))))

-- the column and the lane are unchanged
pub slide_steady : (l : Plan) (s : State) (x : Machine) (k c : ℕ) → bar l s (Slide k c) ≡ None →
    Steady (way (isa_of l) s x) (way (isa_of l) (moved l s (Slide k c)) x)
slide_steady l s x k c e =
    let r = slide_ready l s k c (bar_row l s (Slide k c) e) in
    rw (next_slide l s k c r.what r.here) (record { count = refl; stop = refl })

pub access_steady : (l : Plan) (s : State) (x : Machine) → bar l s Access ≡ None → Steady (way (isa_of l) s x) (way (isa_of l) (moved l s Access) x)
access_steady l s x e =
    let r = access_ready l s (bar_row l s Access e) in
    rw (next_access l s r.what r.lies) (record { count = refl; stop = refl })

-- Launch
launch_lost : (isa : Isa) (i : ℕ) (p : Passenger) (u : Way) → (past isa (Up i p) u).path.barred ≡ false → (past isa (Up i (sent_out p)) u).path.barred ≡ true →
    ⊥
unfolding past trail.past
launch_lost isa i p u a b = grind arith

out_way : (isa : Isa) (i : ℕ) (p : Passenger) (u : Way) → Everywhere (Fits isa) (past isa) (Up i p ∷ []) u →
    Follows (past isa (Up i p) u) (past isa (Up i (sent_out p)) u)
out_way isa i p u h =
    let c = launch_count isa i p u in
    let q : paths.Follows (past isa (Up i p) u).path (past isa (Up i (sent_out p)) u).path =
    rw (past_path isa (Up i p) u, past_path isa (Up i (sent_out p)) u) ((launch_path isa i p u.path).follows (h.0, tt)) in
    record { path = q; count = c.0; stop = c.2; on = λ _. c.1; lost = λ a b. absurd (launch_lost isa i p u a b) }

sure_traps : (isa : Isa) (p : Passenger) (w : trail.Walk) (e : End) → is_memory (kind p) ≡ true → missing p.src1 ≡ None → missing p.src2 ≡ None →
    access_trap (instruction p) p.pc (value_in p.src1) (bounds_of w.machine.hart.mem) ≡ Some e → sure.SureAt isa p w → step_at isa w.machine p.pc ≡ Stops e
unfolding sure.SureAt
sure_traps isa p w e m m1 m2 t h = let q = memory_steps isa p w.machine w.goto m m1 m2 h.0 in rw t at q.1

pub launch_steady : {rest out : List ℕ} (l : Plan) (s : State) (x : Machine) (i : ℕ) → bar l s (Launch i) ≡ None → Sound l s rest out x →
    Steady (way (isa_of l) s x) (way (isa_of l) (moved l s (Launch i)) x)
launch_steady {rest} {out} l s x i e h = go (launch_ready l s i (bar_row l s (Launch i) e))
  where
    go : Launches l s i → Steady (way (isa_of l) s x) (way (isa_of l) (moved l s (Launch i)) x)
    go r = rw (next_launch l s i r.here r.who r.at_here r.sits) (by (launch_trap s r.who) refl)
      where
        by : (o : Option End) → launch_trap s r.who ≡ o → Steady (way (isa_of l) s x) (way (isa_of l) (launched l s i r.here r.who) x)
        by None f =
            let p = r.who in
            let q = spot s i r.here p r.at_here r.sits in
            rw (launched_out l s i r.here p r.number f r.siding) (way_changed (isa_of l) s
            (with_siding (with_cell s i (with_passenger r.here (sent_out p))) r.number (slice_set (siding_at s r.number) 0 (Some (operation p)))) x q.above
            (Up i p ∷ []) (Up i (sent_out p) ∷ []) q.below q.was (q.is (sent_out p)) refl h.path_fit (out_way (isa_of l) i p _))
        by (Some b) f =
            let p = r.who in
            let q = spot s i r.here p r.at_here r.sits in
            let k = here l s x q.above (Up i p ∷ []) q.below q.was h in
            let no = refused s p b f in
            let u = walk (past (isa_of l)) q.above (begin s x) in
            let same = walk_way (isa_of l) q.above (begin s x) in
            let trap : access_trap (instruction p) p.pc (value_in p.src1) (bounds_of u.path.machine.hart.mem) ≡ Some b =
            subst (λ (n : List Bounds). access_trap (instruction p) p.pc (value_in p.src1) n ≡ Some b) (core_bounds l s x q.above h
            ∙ ap (λ (w : trail.Walk). bounds_of w.machine.hart.mem) (sym same)) no.1 in
            let fits : sure.Fits (isa_of l) (Up i p) u.path = subst (λ (w : trail.Walk). sure.Fits (isa_of l) (Up i p) w) (sym same) k.path_fit.0 in
            let fw = (trap_path (isa_of l) i p u.path b r.live (trap_at (isa_of l) p u.path b r.undone no.0 r.has1 r.has2 trap)).follows (fits, tt) in
            let quiet : trail.turns p.owes ≡ false = rw (owes_nothing l i p r.undone k.stands.0) refl in
            rw (launched_trap l s i r.here p b f) (way_changed (isa_of l) s (with_cell s i (with_passenger r.here (trapped p b))) x q.above (Up i p ∷ [])
            (Up i (trapped p b) ∷ []) q.below q.was (q.is (trapped p b)) refl h.path_fit
            (λ _. finish_way (isa_of l) i p (trapped p b) u refl refl fw (λ a d _. trap_ahead (isa_of l) i p u b d a
            (sure_traps (isa_of l) p u.path b no.0 r.has1 r.has2 trap (sure_at (isa_of l) i p u.path d a fits))) quiet))

-- Recover
back_way : (isa : Isa) (i : ℕ) (p : Passenger) (w : Way) → past isa (Up i p) w ≡ past isa (Up i (back p)) w
unfolding past follows stops
back_way isa i p w = ap (λ (q : trail.Walk). past_passenger isa (trail.is_sure p w.path && w.on) p q w) (back_past isa i p w.path)
    ∙ go (trail.is_sure p w.path && w.on) (trail.past isa (Up i (back p)) w.path)
  where
    go : (b : Bool) (q : trail.Walk) → past_passenger isa b p q w ≡ past_passenger isa b (back p) q w
    go true q = refl
    go false q = refl

pub recover_steady : {rest out : List ℕ} (l : Plan) (s : State) (x : Machine) (i : ℕ) → Suits l → bar l s (Recover i) ≡ None → Sound l s rest out x →
    Steady (way (isa_of l) s x) (way (isa_of l) (moved l s (Recover i)) x)
recover_steady {rest} {out} l s x i acc e h = go (recover_ready l s i (bar_row l s (Recover i) e))
  where
    go : Recovers l s i → Steady (way (isa_of l) s x) (way (isa_of l) (moved l s (Recover i)) x)
    go r = rw (next_recover l s i r.here r.who r.number r.what r.at_here r.sits r.siding r.lies)
        (by r.who.dead (is_memory (kind r.who)) r.what.answer refl refl refl)
      where
        p : Passenger
        p = r.who

        q : Spot s i r.here r.who
        q = spot s i r.here r.who r.at_here r.sits

        k : Here l s x q.above (Up i p ∷ [])
        k = here l s x q.above (Up i p ∷ []) q.below q.was h

        u : Way
        u = walk (past (isa_of l)) q.above (begin s x)

        same : u.path ≡ walk (trail.past (isa_of l)) q.above (trail.top s x)
        same = walk_way (isa_of l) q.above (begin s x)

        fits : sure.Fits (isa_of l) (Up i p) u.path
        fits = subst (λ (w : trail.Walk). sure.Fits (isa_of l) (Up i p) w) (sym same) k.path_fit.0

        put : (b : Passenger) → Follows (past (isa_of l) (Up i p) u) (past (isa_of l) (Up i b) u) →
            Steady (way (isa_of l) s x) (way (isa_of l) (with_siding (with_cell s i (with_passenger r.here b)) r.number (set_last (siding_at s r.number) None))
            x)
        put b f = way_changed (isa_of l) s (with_siding (with_cell s i (with_passenger r.here b)) r.number (set_last (siding_at s r.number) None)) x q.above
            (Up i p ∷ []) (Up i b ∷ []) q.below q.was (q.is b) refl h.path_fit (λ _. f)

        done : (a : Option ℕ) → p.dead ≡ false → goto_undone (kind p) p ≡ guessed p.guess (instruction p) p.pc →
            (u.path.barred ≡ false → Finishes (back p) u.path.machine (step_at (isa_of l) u.path.machine p.pc) a) →
            Follows (past (isa_of l) (Up i p) u) (past (isa_of l) (Up i (finish (back p) a)) u)
        done a d g f =
            let n = k.stands.0.out_undone d r.out r.never in
            subst (λ (z : Way). Follows z (past (isa_of l) (Up i (finish (back p) a)) u)) (sym (back_way (isa_of l) i p u))
            (finished_way (isa_of l) i (back p) a u n (owes_nothing l i p n k.stands.0) (sym (goto_class (kind p) p) ∙ g) (λ _ b. f b)
            (back_fits (isa_of l) i p u.path fits, tt))

        had : (o : Option ℕ) → r.what.answer ≡ o → Steady (way (isa_of l) s x) (way (isa_of l)
            (with_siding (with_cell s i (with_passenger r.here (back_in p o))) r.number (set_last (siding_at s r.number) None)) x) →
            Steady (way (isa_of l) s x) (way (isa_of l) (with_siding (with_cell s i (with_passenger r.here (back_in p r.what.answer))) r.number
            (set_last (siding_at s r.number) None)) x)
        had o e w = subst (λ (o : Option ℕ). Steady (way (isa_of l) s x) (way (isa_of l) (with_siding
            (with_cell s i (with_passenger r.here (back_in p o))) r.number (set_last (siding_at s r.number) None)) x)) (sym e) w

        by : (d m : Bool) (o : Option ℕ) → p.dead ≡ d → is_memory (kind p) ≡ m → r.what.answer ≡ o →
            Steady (way (isa_of l) s x) (way (isa_of l) (with_siding (with_cell s i (with_passenger r.here (back_in p r.what.answer))) r.number
            (set_last (siding_at s r.number) None)) x)
        by true m o d f g = rw (in_dead p r.what.answer d) (put (back p) (subst (λ (z : Way). Follows (past (isa_of l) (Up i p) u) z)
            (back_way (isa_of l) i p u) (follows_self (past (isa_of l) (Up i p) u))))
        by false false o d f g =
            let z : r.what.answer ≡ None = plain_last (siding_at s r.number) r.what (h.moored.plain r.number
            (λ y. other_port l p r.number acc r.siding f (sym y))) r.lies in
            let n = k.stands.0.out_undone d r.out r.never in
            let c = plain_class l p r.number acc r.siding f in
            had None z (rw (in_live p None d) (put (finish (back p) None) (done None d (goes_straight p c)
            (λ b. sure_finishes (isa_of l) (back p) u.path n (k.stands.0.sourced1 r.out) (k.stands.0.sourced2 r.out) c
            (back_at (isa_of l) p u.path (sure_at (isa_of l) i p u.path d b fits))))))
        by false true None d f g = absurd (let z = rw g at (r.answered f) in cc)
        by false true (Some a) d f g =
            let n = in_port l p r.number acc r.siding f in
            let w0 = dock.top l s x in
            let w = walk (dock.past (isa_of l)) q.above w0 in
            let known = docked_live (isa_of l) p i w k.port_fit.0 r.out f in
            let haul = hauls l s x i acc r q h in
            let land = landed l acc q.above (rw n at haul.above) in
            let answer : w0.answer ≡ Some a = ap last_answer (ap (siding_at s) (sym n)) ∙ ap (λ (o : Option Op). on o None (λ z. z.answer)) r.lies ∙ g in
            let at : w.answer ≡ Some a = ap (λ (z : dock.Dock). z.answer) (walk_landed (isa_of l) q.above w0 w0.answer land) ∙ answer in
            let flies : ahead.flies p ≡ true = let o = r.out in let c = r.never in grind arith in
            let both : w.path ≡ u.path = k.same ∙ sym same in
            let given : IsAnswer p.dst (after_step (step_at (isa_of l) u.path.machine p.pc) u.path.machine).hart.regs a =
            subst (λ (z : trail.Walk). IsAnswer p.dst (after_step (step_at (isa_of l) z.machine p.pc) z.machine).hart.regs a) both (known.3 flies a at) in
            let permit : access_trap (instruction p) p.pc (value_in p.src1) (bounds_of u.path.machine.hart.mem) ≡ None =
            subst (λ (z : trail.Walk). access_trap (instruction p) p.pc (value_in p.src1) (bounds_of z.machine.hart.mem) ≡ None) both known.2 in
            let wide : length u.path.machine.hart.regs ≡ 32 = subst (λ (z : trail.Walk). length z.machine.hart.regs ≡ 32) (sym same) k.wide in
            had (Some a) g (rw (in_live p (Some a) d) (put (finish (back p) (Some a)) (done (Some a) d (memory_goes p f)
            (λ b. sure_loads (isa_of l) (back p) u.path a wide f (k.stands.0.sourced1 r.out) (k.stands.0.sourced2 r.out) permit given
            (back_at (isa_of l) p u.path (sure_at (isa_of l) i p u.path d b fits))))))

-- Serve
pub serve_steady : (l : Plan) (m : Moment) (x : Machine) → bar l m.state Serve ≡ None → Sound l m.state m.rest m.output x →
    Steady (way (isa_of l) m.state x) (way (isa_of l) (next l m Serve).state x)
serve_steady l m x e h = go (serve_ready l m.state (bar_row l m.state Serve e))
  where
    s : State
    s = m.state

    go : Serves l m.state → Steady (way (isa_of l) m.state x) (way (isa_of l) (next l m Serve).state x)
    go r = by (serve_of (instruction r.who) m.state.regs m.state.mem m.rest) refl
      where
        c : Scene l m.state m.rest m.output x r
        c = scene l m.state x r h

        p : Passenger
        p = r.who

        asks : (a : Called) → serve_of (instruction r.who) m.state.regs m.state.mem m.rest ≡ a → serve_of (instruction r.who) x.hart.regs x.hart.mem x.rest ≡ a
        asks a f = rw (← h.regs, ← c.mem, ← c.input) f

        quiet : trail.turns p.owes ≡ false
        quiet = rw (owes_nothing l l.stages p r.undone c.stands) refl

        fits : sure.Fits (isa_of l) (Up l.stages p) (trail.top m.state x)
        fits = let z = rw c.was at h.path_fit in z.0

        by : (a : Called) → serve_of (instruction r.who) m.state.regs m.state.mem m.rest ≡ a →
            Steady (way (isa_of l) m.state x) (way (isa_of l) (next l m Serve).state x)
        by (called.Value a) f =
            let g = asks (called.Value a) f in
            let fw = (gave_path (isa_of l) l.stages p (trail.top s x) a.value r.live refl (gave_at (isa_of l) p
            (trail.top s x) a h.wide r.serial r.undone g)).follows (fits, tt) in
            rw (next_serve l m r.here p (called.Value a) r.at_here r.sits f) (way_changed (isa_of l) s
            (record s { cells = put_cell s.cells l.stages (with_passenger r.here (answered p a.value)); mem = a.mem }) x [] (Up l.stages p ∷ [])
            (Up l.stages (answered p a.value) ∷ []) c.below c.was (c.is (answered p a.value)) refl h.path_fit
            (λ _. finish_way (isa_of l) l.stages p (answered p a.value) (begin s x) refl refl fw
            (λ a d _. serve_ahead (isa_of l) l.stages p (begin s x) d a (serial_nowhere p r.serial r.undone)) quiet))
        by (called.Exit z) f =
            let g = asks (called.Exit z) f in
            let fw = (quit_path (isa_of l) l.stages p (trail.top s x) z r.live refl r.undone r.serial (c.stands.unended r.undone)
            (quit_at (isa_of l) p (trail.top s x) z r.serial r.undone g)).follows (fits, tt) in
            rw (next_serve l m r.here p (called.Exit z) r.at_here r.sits f) (way_changed (isa_of l) s
            (record s { cells = put_cell s.cells l.stages (with_passenger r.here (quit p z)) }) x [] (Up l.stages p ∷ []) (Up l.stages (quit p z)
            ∷ []) c.below c.was (c.is (quit p z)) refl h.path_fit (λ _. finish_way (isa_of l) l.stages p (quit p z) (begin s x) refl refl fw
            (λ a d t. absurd (let y = sym quiet ∙ t in cc)) quiet))
