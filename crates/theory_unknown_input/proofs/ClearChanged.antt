-- The moves that leave the column, or replace a stretch of it, keep what is still to be answered clear.
use Rattle.std.proofs.Common.{◌≡◌, ℕ, zero, suc, List, [], ◌∷◌, Option, Some, None, Bool, true, false, refl, arith, add-one, sub-one}
use Rattle.std.specs.Prelude.{slice_set}
use Rattle.cf_bind.specs.Meeting.{meeting}
use Rattle.cf_bind.specs.declared.moves.Move.TheVariants.{Access, Climb, Execute, Fall, Launch, Meet, Recover, Serve, Slide}
use Rattle.cf_bind.specs.declared.passenger.End.{End}
use Rattle.cf_bind.specs.declared.passenger.Passenger.{Passenger}
use Rattle.cf_layout.specs.Layout.{Plan}
use Rattle.theory_refinement.proofs.moves.Access.{access_ready, next_access}
use Rattle.theory_refinement.proofs.walks.Returning.{back}
use Rattle.theory_refinement.proofs.column.Change.{here}
use Rattle.theory_refinement.proofs.walks.Finishing.{finish_done}
use Rattle.theory_refinement.proofs.moves.Execute.{execute_ready, next_execute}
use Rattle.theory_refinement.proofs.moves.Fall.{cells_fallen, fall_ready, fall_stretch, next_fall, no_fall}
use Rattle.theory_refinement.proofs.moves.Climb.{cells_climbed, climb_ready, climb_stretch, next_climb}
use Rattle.theory_refinement.proofs.moves.Meet.{meet_ready, meet_stretch, next_meet}
use Rattle.theory_refinement.proofs.moves.Rows.{bar_row}
use Rattle.theory_refinement.proofs.walks.Launching.{sent_out}
use Rattle.theory_refinement.proofs.moves.Launch.{Launches, launch_ready, launched_out, launched_trap, next_launch}
use Rattle.theory_refinement.proofs.walks.PathMeet.{met_items}
use Rattle.theory_refinement.proofs.moves.Recovering.{next_recover, recover_ready}
use Rattle.theory_refinement.proofs.moves.Recover.{in_dead, in_live}
use Rattle.theory_refinement.proofs.moves.Serve.{Serves, next_serve, quit, serve_ready}
use Rattle.theory_refinement.proofs.moves.Slide.{next_slide, slide_ready}
use Rattle.theory_refinement.proofs.column.Spot.{spot}
use Rattle.theory_refinement.proofs.invariant.Invariant.{Sound}
use Rattle.cf_semantics.specs.moves.Bars.{bar, row_bar}
use Rattle.cf_semantics.specs.state.Column.{Down, Item, Up}
use Rattle.cf_semantics.specs.moves.Instructions.{serve_of}
use Rattle.cf_semantics.specs.moves.Moves.{answered, back_in, cell_met, launch_trap, launched, moved, next, operation, served, set_last, with_passenger}
use Rattle.cf_semantics.specs.state.Passengers.{finish, instruction, trapped}
use Rattle.cf_semantics.specs.state.State.{Moment, State, siding_at, with_cell, with_siding}
use Rattle.rv_machine.specs.Call.{Called}
use Rattle.rv_machine.specs.Call as called
use Rattle.rv_machine.specs.Machine.{Machine}
use Rattle.theory_unknown_input.proofs.Clear.{IsClear, awaits, clear_replaced, met_clear, packet_clear, quiet_clear, rider_clear}

-- Climb: an instruction is one stage higher
pub climb_clear : (l : Plan) (s : State) (i : ℕ) → bar l s (Climb i) ≡ None → IsClear s → IsClear (moved l s (Climb i))
climb_clear l s i e h =
    let r = climb_ready l s i (bar_row l s (Climb i) e) in
    let q = climb_stretch l s i r in
    rw (next_climb l s i r.low r.high r.at_low r.at_high, add-one) (clear_replaced s (record s { cells = cells_climbed s i r.low r.high }) q.above (Up i r.who
    ∷ []) (Up (suc i) r.who ∷ []) q.below q.was q.is refl (rider_clear i (suc i) r.who r.who _ (λ n g. g)) h)

-- Fall to the stage i, from the one above it
fall_above : (l : Plan) (s : State) (i : ℕ) → row_bar l s (Fall (suc i)) ≡ None → IsClear s → IsClear (moved l s (Fall (suc i)))
fall_above l s i e h =
    let r = fall_ready l s i e in
    let q = fall_stretch s i r in
    rw (next_fall l s i r.high r.low r.at_high r.at_low, sub-one) (clear_replaced s (record s { cells = cells_fallen s i r.low r.high }) q.above
    (Down (suc i) r.what ∷ []) (Down i r.what ∷ []) q.below q.was q.is refl (packet_clear (suc i) i r.what _) h)

-- Fall: a result is one stage lower
pub fall_clear : (l : Plan) (s : State) (i : ℕ) → bar l s (Fall i) ≡ None → IsClear s → IsClear (moved l s (Fall i))
fall_clear l s zero e h = absurd (no_fall l s (bar_row l s (Fall zero) e))
fall_clear l s (suc i) e h = fall_above l s i (bar_row l s (Fall (suc i)) e) h

-- Meet: a value of the register that the instruction is to give does not pass it
pub meet_clear : {rest out : List ℕ} (l : Plan) (s : State) (x : Machine) (i : ℕ) → bar l s (Meet i) ≡ None → Sound l s rest out x → IsClear s →
    IsClear (moved l s (Meet i))
meet_clear {rest} {out} l s x i e h n =
    let r = meet_ready l s i (bar_row l s (Meet i) e) in
    let p = meet_stretch s i r in
    let old : List Item = Down i r.what ∷ Up i r.who ∷ [] in
    let new = met_items i (meeting r.who r.what).passenger (meeting r.who r.what).packet in
    let k = here l s x p.above old p.below p.was h in
    rw (next_meet l s i r.here r.who r.what r.at_here r.sits r.lies) (clear_replaced s (with_cell s i (cell_met r.here r.who r.what)) p.above old new p.below
    p.was p.is refl (met_clear i r.who r.what _ k.stands.0.blank) n)

-- what is executed is not waited for
done_quiet : (p : Passenger) → p.done ≡ true → awaits p ≡ false
done_quiet p e = grind arith

-- Execute: the instruction is executed
pub execute_clear : (l : Plan) (s : State) (i : ℕ) → bar l s (Execute i) ≡ None → IsClear s → IsClear (moved l s (Execute i))
execute_clear l s i e h =
    let r = execute_ready l s i (bar_row l s (Execute i) e) in
    let q = spot s i r.here r.who r.at_here r.sits in
    let f = finish r.who None in
    rw (next_execute l s i r.here r.who r.at_here r.sits) (clear_replaced s (with_cell s i (with_passenger r.here f)) q.above (Up i r.who ∷ []) (Up i f
    ∷ []) q.below q.was (q.is f) refl (quiet_clear i i r.who f _ (done_quiet f (finish_done r.who None))) h)

-- Launch: the instruction is launched, or it traps
pub launch_clear : (l : Plan) (s : State) (i : ℕ) → bar l s (Launch i) ≡ None → IsClear s → IsClear (moved l s (Launch i))
launch_clear l s i e h =
    let r = launch_ready l s i (bar_row l s (Launch i) e) in
    rw (next_launch l s i r.here r.who r.at_here r.sits) (go r (launch_trap s r.who) refl)
  where
    go : (r : Launches l s i) (o : Option End) → launch_trap s r.who ≡ o → IsClear (launched l s i r.here r.who)
    go r None f =
        let q = spot s i r.here r.who r.at_here r.sits in
        let p = sent_out r.who in
        rw (launched_out l s i r.here r.who r.number f r.siding) (clear_replaced s (with_siding (with_cell s i (with_passenger r.here p)) r.number
        (slice_set (siding_at s r.number) 0 (Some (operation r.who)))) q.above (Up i r.who ∷ []) (Up i p ∷ []) q.below q.was (q.is p) refl
        (rider_clear i i r.who p _ (λ n g. g)) h)
    go r (Some b) f =
        let q = spot s i r.here r.who r.at_here r.sits in
        let p = trapped r.who b in
        rw (launched_trap l s i r.here r.who b f) (clear_replaced s (with_cell s i (with_passenger r.here p)) q.above (Up i r.who ∷ []) (Up i p
        ∷ []) q.below q.was (q.is p) refl (quiet_clear i i r.who p _ (done_quiet p refl)) h)

-- what has taken its operation back is not waited for
back_quiet : (p : Passenger) (o : Option ℕ) → awaits (back_in p o) ≡ false
back_quiet p o = go p.dead refl
  where
    go : (b : Bool) → p.dead ≡ b → awaits (back_in p o) ≡ false
    go true d = rw (in_dead p o d) (grind arith)
    go false d = rw (in_live p o d) (done_quiet (finish (back p) o) (finish_done (back p) o))

-- Recover: the instruction takes its operation back
pub recover_clear : (l : Plan) (s : State) (i : ℕ) → bar l s (Recover i) ≡ None → IsClear s → IsClear (moved l s (Recover i))
recover_clear l s i e h =
    let r = recover_ready l s i (bar_row l s (Recover i) e) in
    let q = spot s i r.here r.who r.at_here r.sits in
    let p = back_in r.who r.what.answer in
    rw (next_recover l s i r.here r.who r.number r.what r.at_here r.sits r.siding r.lies) (clear_replaced s
    (with_siding (with_cell s i (with_passenger r.here p)) r.number (set_last (siding_at s r.number) None)) q.above (Up i r.who ∷ []) (Up i p
    ∷ []) q.below q.was (q.is p) refl (quiet_clear i i r.who p _ (back_quiet r.who r.what.answer)) h)

-- Serve: the instruction is answered, or ends the program
pub serve_clear : (l : Plan) (m : Moment) → bar l m.state Serve ≡ None → IsClear m.state → IsClear (next l m Serve).state
serve_clear l m e h =
    let r = serve_ready l m.state (bar_row l m.state Serve e) in
    let a = serve_of (instruction r.who) m.state.regs m.state.mem m.rest in
    rw (next_serve l m r.here r.who a r.at_here r.sits refl) (go r a)
  where
    go : (r : Serves l m.state) (a : Called) → IsClear (served m l.stages r.here r.who a).state
    go r (called.Value a) =
        let q = spot m.state l.stages r.here r.who r.at_here r.sits in
        let p = answered r.who a.value in
        clear_replaced m.state (record (with_cell m.state l.stages (with_passenger r.here p)) { mem = a.mem }) q.above (Up l.stages r.who ∷ []) (Up l.stages p
        ∷ []) q.below q.was (q.is p) refl (quiet_clear l.stages l.stages r.who p _ (done_quiet p refl)) h
    go r (called.Exit z) =
        let q = spot m.state l.stages r.here r.who r.at_here r.sits in
        let p = quit r.who z in
        clear_replaced m.state (with_cell m.state l.stages (with_passenger r.here p)) q.above (Up l.stages r.who ∷ []) (Up l.stages p ∷ []) q.below q.was
        (q.is p) refl (quiet_clear l.stages l.stages r.who p _ (done_quiet p refl)) h

-- Slide: the column is unchanged
pub slide_clear : (l : Plan) (s : State) (k c : ℕ) → bar l s (Slide k c) ≡ None → IsClear s → IsClear (moved l s (Slide k c))
slide_clear l s k c e h =
    let r = slide_ready l s k c (bar_row l s (Slide k c) e) in
    rw (next_slide l s k c r.what r.here) (record { fit = h.fit; ends = h.ends })

-- Access: the column is unchanged
pub access_clear : (l : Plan) (s : State) → bar l s Access ≡ None → IsClear s → IsClear (moved l s Access)
access_clear l s e h =
    let r = access_ready l s (bar_row l s Access e) in
    rw (next_access l s r.what r.lies) (record { fit = h.fit; ends = h.ends })
