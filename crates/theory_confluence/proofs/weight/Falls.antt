-- Each move but Issue lowers the weight.
use Rattle.std.proofs.Common.{◌≡◌, ℕ, zero, suc, ◌+◌, ◌*◌, ◌<◌, ◌≤◌, List, [], ◌∷◌, Option, Some, None, Bool, true, false, ◌&&◌, not, refl, sym, ap, subst, ◌∙◌, arith, length, add-one, sub-one}
use Rattle.std.specs.Prelude.{slice_get, slice_set, slice_index, unwrap_or}
use Rattle.cf_bind.specs.Meeting.{meeting}
use Rattle.cf_bind.specs.declared.cell.Cell.{Cell}
use Rattle.cf_bind.specs.declared.cell.Op.{Op}
use Rattle.cf_bind.specs.declared.moves.Move.TheVariants.{Access, Climb, Emit, Execute, Exit, Fall, Launch, Leave, Meet, Recover, Send, Serve, Slide}
use Rattle.cf_bind.specs.declared.packet.Packet.{Packet}
use Rattle.cf_bind.specs.declared.packet.Packet.TheVariants.{Value}
use Rattle.cf_bind.specs.declared.passenger.End.{End}
use Rattle.cf_bind.specs.declared.passenger.Passenger.{Passenger}
use Rattle.cf_layout.specs.Layout.{Plan, SidingPlan, cells_of, no_siding, unit_at}
use Rattle.theory_refinement.proofs.moves.Access.{access_ready, first_out, next_access}
use Rattle.theory_refinement.proofs.walks.Returning.{back}
use Rattle.theory_refinement.proofs.moves.Emit.{emit_ready, next_emit}
use Rattle.theory_refinement.proofs.moves.Execute.{execute_ready, next_execute}
use Rattle.theory_refinement.proofs.moves.Exit.{exit_ready, next_exit}
use Rattle.theory_refinement.proofs.moves.Fall.{fall_ready, next_fall, no_fall}
use Rattle.theory_refinement.proofs.column.Flown.{operations_last}
use Rattle.theory_refinement.proofs.moves.Climb.{climb_ready, next_climb}
use Rattle.theory_refinement.proofs.moves.Meet.{meet_ready, next_meet}
use Rattle.theory_refinement.proofs.moves.Rows.{bar_row}
use Rattle.theory_refinement.proofs.walks.Launching.{flies_out, sent_out}
use Rattle.theory_refinement.proofs.moves.Launch.{Launches, first_free, launch_ready, launched_out, launched_trap, next_launch}
use Rattle.theory_refinement.proofs.moves.Leave.{Leaves, leave_ready, left_dead, left_on, left_over, next_leave}
use Rattle.theory_refinement.proofs.moves.Recovering.{next_recover, recover_ready}
use Rattle.theory_refinement.proofs.moves.Recover.{in_dead, in_live}
use Rattle.theory_refinement.proofs.moves.Send.{next_send, send_ready}
use Rattle.theory_refinement.proofs.moves.Serve.{Serves, next_serve, serve_ready}
use Rattle.theory_refinement.proofs.column.Sidings.{berthed, set_last_size, some_cells}
use Rattle.theory_refinement.proofs.moves.Slide.{next_slide, slide_ready, slide_size}
use Rattle.theory_confluence.proofs.weight.Weighs.{cell_weighs, last_weighs, pair_weighs, siding_weighs, slide_weight}
use Rattle.theory_refinement.proofs.invariant.Invariant.{Sound}
use Rattle.theory_refinement.proofs.invariant.Suited.{Suits}
use Rattle.cf_semantics.specs.moves.Bars.{bar, is_full, last_op}
use Rattle.cf_semantics.specs.state.Column.{column}
use Rattle.cf_semantics.specs.moves.Instructions.{answer_of, is_memory, kind_of, serve_of}
use Rattle.cf_semantics.specs.state.Layouts.{port}
use Rattle.cf_semantics.specs.moves.Moves.{back_in, cell_met, launch_trap, launched, left, moved, next, operation, set_last, with_passenger, without_packet, without_passenger}
use Rattle.cf_semantics.specs.state.Passengers.{finish, instruction, kind, trapped}
use Rattle.cf_semantics.specs.state.State.{Moment, State, cell_at, put_cell, siding_at, with_siding}
use Rattle.cf_semantics.specs.claims.Weight.{cell_weight, cells_weight, counts, most_cells, op_weight, siding_weight, sidings_weight, weight}
use Rattle.cf_semantics.specs.claims.Soundness.{operations_in}
use Rattle.rv_inst.specs.declared.classes.Class.TheVariants.{Memory}
use Rattle.rv_machine.specs.Call.{Called}
use Rattle.rv_machine.specs.Call as called
use Rattle.rv_machine.specs.Machine.{Machine}

-- the cells alone
climb_cells : (n d i : ℕ) (a b : Cell) (p : Passenger) → i < n → a.passenger ≡ Some p → b.passenger ≡ None → is_full a ≡ false →
    cell_weight n d i (without_passenger a) + cell_weight n d (suc i) (record b { passenger = a.passenger; met = false }) < cell_weight n d i a + cell_weight n
    d (suc i) b
unfolding cell_weight
climb_cells n d i a b p l e f g = grind arith

fall_cells : (n d i : ℕ) (a b : Cell) (k : Packet) → 0 < i → a.packet ≡ None → b.packet ≡ Some k → is_full b ≡ false →
    cell_weight n d i (record a { packet = b.packet; met = false }) + cell_weight n d (suc i) (without_packet b) < cell_weight n d i a + cell_weight n d
    (suc i) b
unfolding cell_weight
fall_cells n d i a b k l e f g = grind arith

send_cell : (n d i : ℕ) (c : Cell) (p : Passenger) (k : Packet) → 0 < i → i ≤ n → c.passenger ≡ Some p → p.owes ≡ Some k → c.packet ≡ None →
    cell_weight n d i (record { passenger = Some (record p { owes = None }); packet = Some k; met = true }) < cell_weight n d i c
unfolding cell_weight
send_cell n d i c p k l m e f g = grind arith

meet_cell : (n d i : ℕ) (c : Cell) (p : Passenger) (k : Packet) → 0 < i → c.passenger ≡ Some p → c.packet ≡ Some k → c.met ≡ false →
    cell_weight n d i (cell_met c p k) < cell_weight n d i c
unfolding cell_weight meeting
meet_cell n d i c p k l e f g = grind arith

execute_cell : (n d i : ℕ) (c : Cell) (p : Passenger) (a : Option ℕ) → c.passenger ≡ Some p → p.dead ≡ false → p.done ≡ false →
    cell_weight n d i (with_passenger c (finish p a)) ≤ cell_weight n d i c
unfolding cell_weight finish
execute_cell n d i c p a e f g = grind arith

finish_cell : (n d i : ℕ) (c : Cell) (p : Passenger) → c.passenger ≡ Some p → p.dead ≡ false → p.done ≡ false → p.launched ≡ false →
    cell_weight n d i (with_passenger c (finish p None)) < cell_weight n d i c
unfolding cell_weight finish
finish_cell n d i c p e f g h = grind arith

back_cell : (n d i : ℕ) (c : Cell) (p : Passenger) (a : Option ℕ) → c.passenger ≡ Some p → p.dead ≡ false → p.done ≡ false →
    cell_weight n d i (with_passenger c (finish (back p) a)) ≤ cell_weight n d i c
unfolding cell_weight finish
back_cell n d i c p a e f g = grind arith

same_cell : (n d i : ℕ) (c : Cell) (p : Passenger) → c.passenger ≡ Some p → p.dead ≡ true → cell_weight n d i (with_passenger c (back p)) ≤ cell_weight n d i c
unfolding cell_weight
same_cell n d i c p e f = grind arith

launch_cell : (n d i : ℕ) (c : Cell) (p : Passenger) → c.passenger ≡ Some p → p.dead ≡ false → p.done ≡ false → p.launched ≡ false →
    cell_weight n d i (with_passenger c (sent_out p)) + (d + 3) ≤ cell_weight n d i c
unfolding cell_weight
launch_cell n d i c p e f g h = grind arith

trap_cell : (n d i : ℕ) (c : Cell) (p : Passenger) (e : End) → c.passenger ≡ Some p → p.dead ≡ false → p.done ≡ false → p.launched ≡ false →
    cell_weight n d i (with_passenger c (trapped p e)) < cell_weight n d i c
unfolding cell_weight
trap_cell n d i c p e f g h k = grind arith

leave_cell : (n d i : ℕ) (c : Cell) (p : Passenger) → c.passenger ≡ Some p → is_full c ≡ false → cell_weight n d i (without_passenger c) < cell_weight n d i c
unfolding cell_weight
leave_cell n d i c p e f = grind arith

exit_cell : (n d : ℕ) (c : Cell) (k : Packet) → c.packet ≡ Some k → cell_weight n d 1 (without_packet c) < cell_weight n d 1 c
unfolding cell_weight
exit_cell n d c k e = grind arith

emit_cell : (n d : ℕ) (c : Cell) (k : Packet) → 0 < n → c.packet ≡ None → cell_weight n d n (record c { packet = Some k; met = false }) < cell_weight n d n c +
    (2 * n + 1)
unfolding cell_weight
emit_cell n d c k l e = grind arith

-- a sum with one part that falls
less_within : (a b c x : ℕ) → x < a → (x + b) + c < (a + b) + c
less_within a b c x h = omega arith

-- the cells fall and all else is unchanged
cells_fall : (l : Plan) (s : State) (cells : List Cell) → cells_weight l.stages (most_cells l.sidings) 1 cells < cells_weight l.stages
    (most_cells l.sidings) 1 s.cells → weight l (record s { cells = cells }) < weight l s
unfolding weight
cells_fall l s cells h = less_within (cells_weight l.stages (most_cells l.sidings) 1 s.cells) (sidings_weight s.sidings) ((2 * l.stages + 1) * length s.lane)
    (cells_weight l.stages (most_cells l.sidings) 1 cells) h

put_falls : (l : Plan) (s : State) (i : ℕ) (c e : Cell) → cell_at s.cells i ≡ Some c → cell_weight l.stages (most_cells l.sidings) i e < cell_weight l.stages
    (most_cells l.sidings) i c → cells_weight l.stages (most_cells l.sidings) 1 (put_cell s.cells i e) < cells_weight l.stages (most_cells l.sidings) 1 s.cells
put_falls l s i c e f h =
    let w = cell_weighs l.stages (most_cells l.sidings) s.cells i c f in
    omega (arith, w.now, w.put e, h)

put_most : (l : Plan) (s : State) (i : ℕ) (c e : Cell) → cell_at s.cells i ≡ Some c → cell_weight l.stages (most_cells l.sidings) i e ≤ cell_weight l.stages
    (most_cells l.sidings) i c → cells_weight l.stages (most_cells l.sidings) 1 (put_cell s.cells i e) ≤ cells_weight l.stages (most_cells l.sidings) 1 s.cells
put_most l s i c e f h =
    let w = cell_weighs l.stages (most_cells l.sidings) s.cells i c f in
    omega (arith, w.now, w.put e, h)

pub climb_falls : (l : Plan) (s : State) (i : ℕ) → length s.cells ≡ l.stages → bar l s (Climb i) ≡ None → weight l (moved l s (Climb i)) < weight l s
climb_falls l s i z e =
    let r = climb_ready l s i (bar_row l s (Climb i) e) in
    let w = pair_weighs l.stages (most_cells l.sidings) s.cells i r.low r.high r.at_low r.at_high in
    let c = climb_cells l.stages (most_cells l.sidings) i r.low r.high r.who (omega (arith, w.high)) r.sits r.empty r.clear in
    rw (next_climb l s i r.low r.high r.at_low r.at_high, add-one) (cells_fall l s _ (omega
    (arith, w.now, w.up (without_passenger r.low) (record r.high { passenger = r.low.passenger; met = false }), c)))

fall_up : (l : Plan) (s : State) (i : ℕ) → bar l s (Fall (suc i)) ≡ None → weight l (moved l s (Fall (suc i))) < weight l s
fall_up l s i e =
    let r = fall_ready l s i (bar_row l s (Fall (suc i)) e) in
    let w = pair_weighs l.stages (most_cells l.sidings) s.cells i r.low r.high r.at_low r.at_high in
    let c = fall_cells l.stages (most_cells l.sidings) i r.low r.high r.what w.low r.empty r.lies r.clear in
    rw (next_fall l s i r.high r.low r.at_high r.at_low, sub-one) (cells_fall l s _ (omega
    (arith, w.now, w.down (record r.low { packet = r.high.packet; met = false }) (without_packet r.high), c)))

pub fall_falls : (l : Plan) (s : State) (i : ℕ) → bar l s (Fall i) ≡ None → weight l (moved l s (Fall i)) < weight l s
fall_falls l s zero e = absurd (no_fall l s (bar_row l s (Fall zero) e))
fall_falls l s (suc i) e = fall_up l s i e

pub send_falls : (l : Plan) (s : State) (i : ℕ) → length s.cells ≡ l.stages → bar l s (Send i) ≡ None → weight l (moved l s (Send i)) < weight l s
send_falls l s i z e =
    let r = send_ready l s i (bar_row l s (Send i) e) in
    let w = cell_weighs l.stages (most_cells l.sidings) s.cells i r.here r.at_here in
    rw (next_send l s i r.here r.who r.what r.at_here r.sits r.owes) (cells_fall l s _ (put_falls l s i r.here _ r.at_here
    (send_cell l.stages (most_cells l.sidings) i r.here r.who r.what w.low (omega (arith, w.high)) r.sits r.owes r.free)))

pub meet_falls : (l : Plan) (s : State) (i : ℕ) → bar l s (Meet i) ≡ None → weight l (moved l s (Meet i)) < weight l s
meet_falls l s i e =
    let r = meet_ready l s i (bar_row l s (Meet i) e) in
    let w = cell_weighs l.stages (most_cells l.sidings) s.cells i r.here r.at_here in
    rw (next_meet l s i r.here r.who r.what r.at_here r.sits r.lies) (cells_fall l s _ (put_falls l s i r.here _ r.at_here
    (meet_cell l.stages (most_cells l.sidings) i r.here r.who r.what w.low r.sits r.lies r.apart)))

pub execute_falls : (l : Plan) (s : State) (i : ℕ) → ((p : Passenger) (c : Cell) → cell_at s.cells i ≡ Some c → c.passenger ≡ Some p →
    unit_at l (kind p) i ≡ true → p.dead ≡ false → p.done ≡ false → p.launched ≡ false) → bar l s (Execute i) ≡ None →
    weight l (moved l s (Execute i)) < weight l s
execute_falls l s i a e =
    let r = execute_ready l s i (bar_row l s (Execute i) e) in
    rw (next_execute l s i r.here r.who r.at_here r.sits) (cells_fall l s _ (put_falls l s i r.here _ r.at_here
    (finish_cell l.stages (most_cells l.sidings) i r.here r.who r.sits r.live r.undone (a r.who r.here r.at_here r.sits r.unit r.live r.undone))))

pub leave_falls : (l : Plan) (s : State) → bar l s Leave ≡ None → weight l (moved l s Leave) < weight l s
unfolding weight
leave_falls l s e = go (leave_ready l s (bar_row l s Leave e))
  where
    go : Leaves l s → weight l (moved l s Leave) < weight l s
    go r = rw (next_leave l s r.here r.who r.at_here r.sits) (by r.who.dead r.who.ending refl refl)
      where
        cells : cells_weight l.stages (most_cells l.sidings) 1 (put_cell s.cells l.stages (without_passenger r.here)) < cells_weight l.stages
            (most_cells l.sidings) 1 s.cells
        cells = put_falls l s l.stages r.here _ r.at_here (leave_cell l.stages (most_cells l.sidings) l.stages r.here r.who r.sits r.clear)

        by : (d : Bool) (o : Option End) → r.who.dead ≡ d → r.who.ending ≡ o → weight l (left s l.stages r.here r.who) < weight l s
        by true o f g = rw (left_dead s l.stages r.here r.who f) (cells_fall l s _ cells)
        by false None f g = rw (left_on s l.stages r.here r.who f g) (cells_fall l s _ cells)
        by false (Some b) f g = rw (left_over s l.stages r.here r.who b f g) (cells_fall l s _ cells)

served_cells : (n d i : ℕ) (c : Cell) (p q : Passenger) → c.passenger ≡ Some p → p.dead ≡ false → p.done ≡ false → p.launched ≡ false → q.dead ≡ false →
    q.done ≡ true → cell_weight n d i (with_passenger c q) < cell_weight n d i c
unfolding cell_weight
served_cells n d i c p q e f g h a b = grind arith

pub serve_falls : (l : Plan) (m : Moment) → ((r : Serves l m.state) → r.who.launched ≡ false) → bar l m.state Serve ≡ None →
    weight l (next l m Serve).state < weight l m.state
unfolding weight
serve_falls l m u e = go (serve_ready l m.state (bar_row l m.state Serve e))
  where
    s : State
    s = m.state

    go : Serves l m.state → weight l (next l m Serve).state < weight l m.state
    go r = by (serve_of (instruction r.who) s.regs s.mem m.rest) refl
      where
        cells : (q : Passenger) → q.dead ≡ false → q.done ≡ true → cells_weight l.stages (most_cells l.sidings) 1
            (put_cell s.cells l.stages (with_passenger r.here q)) < cells_weight l.stages (most_cells l.sidings) 1 s.cells
        cells q f g = put_falls l s l.stages r.here _ r.at_here (served_cells l.stages (most_cells l.sidings) l.stages r.here r.who q r.sits r.live r.undone
            (u r) f g)

        by : (a : Called) → serve_of (instruction r.who) s.regs s.mem m.rest ≡ a → weight l (next l m Serve).state < weight l m.state
        by (called.Value a) f = rw (next_serve l m r.here r.who (called.Value a) r.at_here r.sits f) (cells_fall l s _ (cells _ r.live refl))
        by (called.Exit z) f = rw (next_serve l m r.here r.who (called.Exit z) r.at_here r.sits f) (cells_fall l s _ (cells _ r.live refl))

pub exit_falls : (l : Plan) (s : State) → bar l s Exit ≡ None → weight l (moved l s Exit) < weight l s
unfolding weight
exit_falls l s e =
    let r = exit_ready l s (bar_row l s Exit e) in
    let h = exit_cell l.stages (most_cells l.sidings) r.here r.what r.lies in
    let f : cells_weight l.stages (most_cells l.sidings) 1 (without_packet r.here ∷ r.others) < cells_weight l.stages (most_cells l.sidings) 1 s.cells =
    subst (λ (q : List Cell). cells_weight l.stages (most_cells l.sidings) 1 (without_packet r.here ∷ r.others) < cells_weight l.stages
    (most_cells l.sidings) 1 q) (sym r.cells) (omega (arith, h)) in
    rw (next_exit l s r.here r.others r.what r.cells r.lies) (cells_fall l s (without_packet r.here ∷ r.others) f)

less_with_one : (a x b k n : ℕ) → x < a + k → (x + b) + k * n < (a + b) + k * suc n
less_with_one a x b k n h = let e : k * suc n ≡ k * n + k = grind arith in omega (arith, e)

pub emit_falls : (l : Plan) (s : State) → length s.cells ≡ l.stages → bar l s Emit ≡ None → weight l (moved l s Emit) < weight l s
unfolding weight
emit_falls l s z e =
    let r = emit_ready l s (bar_row l s Emit e) in
    let k : Packet = Value r.asked (slice_index s.regs r.asked) in
    let d : Cell = record r.here { packet = Some k; met = false } in
    let w = cell_weighs l.stages (most_cells l.sidings) s.cells l.stages r.here r.at_here in
    let c = emit_cell l.stages (most_cells l.sidings) r.here k w.low r.free in
    let h : cells_weight l.stages (most_cells l.sidings) 1 (put_cell s.cells l.stages d) < cells_weight l.stages (most_cells l.sidings) 1 s.cells +
    (2 * l.stages + 1) = omega (arith, w.now, w.put d, c) in
    let all = less_with_one (cells_weight l.stages (most_cells l.sidings) 1 s.cells) (cells_weight l.stages (most_cells l.sidings) 1
    (put_cell s.cells l.stages d)) (sidings_weight s.sidings) (2 * l.stages + 1) (length r.others) h in
    rw (next_emit l s r.here r.asked r.others r.at_here r.lane) (subst (λ (q : List ℕ). (cells_weight l.stages (most_cells l.sidings) 1
    (put_cell s.cells l.stages d) + sidings_weight s.sidings) + (2 * l.stages + 1) * length r.others <
    (cells_weight l.stages (most_cells l.sidings) 1 s.cells + sidings_weight s.sidings) + (2 * l.stages + 1) * length q) (sym r.lane) all)

-- with a siding changed as well
both_fall : (l : Plan) (s : State) (cells : List Cell) (k n : ℕ) (q : List (Option Op)) → length (siding_at s k) ≡ suc n → length q ≡ length (siding_at s k) →
    cells_weight l.stages (most_cells l.sidings) 1 cells + siding_weight (length (siding_at s k)) 0 q < cells_weight l.stages
    (most_cells l.sidings) 1 s.cells + siding_weight (length (siding_at s k)) 0 (siding_at s k) →
    weight l (with_siding (record s { cells = cells }) k q) < weight l s
unfolding weight
both_fall l s cells k n q e z h =
    let w = siding_weighs s.sidings k n e in
    less_both (cells_weight l.stages (most_cells l.sidings) 1 s.cells) (cells_weight l.stages (most_cells l.sidings) 1 cells) (sidings_weight s.sidings)
    (sidings_weight (slice_set s.sidings k q)) ((2 * l.stages + 1) * length s.lane) (omega (arith, w.now, w.put q z, h))
  where
    less_both : (a x b y c : ℕ) → x + y < a + b → (x + y) + c < (a + b) + c
    less_both a x b y c h = omega arith

deep_enough : (q : List SidingPlan) (k : ℕ) → (unwrap_or (slice_get q k) no_siding).cells ≤ most_cells q
unfolding most_cells
deep_enough [] k = omega arith
deep_enough (m ∷ q) zero = grind arith
deep_enough (m ∷ q) (suc k) = let h = deep_enough q k in grind arith

deep : (l : Plan) (k : ℕ) → cells_of l k ≤ most_cells l.sidings
unfolding cells_of
deep l k = deep_enough l.sidings k

first_weight : (n : ℕ) (p : Passenger) (r : List (Option Op)) → siding_weight n 0 (Some (operation p) ∷ r) ≤ (n + 1) + siding_weight n 0 (None ∷ r)
first_weight n p r = let h = new_weight n p in omega (arith, h)
  where
    bit : (b : Bool) → counts b 1 ≤ 1
    bit true = omega arith
    bit false = omega arith

    new_weight : (n : ℕ) (p : Passenger) → op_weight n 0 (Some (operation p)) ≤ n + 1
    new_weight n p = unfold op_weight in let h = bit (is_memory (kind_of (instruction p)) && not false) in omega (arith, h)

pub launch_falls : {rest out : List ℕ} (l : Plan) (s : State) (x : Machine) (i : ℕ) → Suits l → bar l s (Launch i) ≡ None → Sound l s rest out x →
    weight l (moved l s (Launch i)) < weight l s
launch_falls {rest} {out} l s x i acc e h = go (launch_ready l s i (bar_row l s (Launch i) e))
  where
    go : Launches l s i → weight l (moved l s (Launch i)) < weight l s
    go r = rw (next_launch l s i r.here r.who r.at_here r.sits) (by (launch_trap s r.who) refl)
      where
        by : (o : Option End) → launch_trap s r.who ≡ o → weight l (launched l s i r.here r.who) < weight l s
        by (Some b) f = rw (launched_trap l s i r.here r.who b f) (cells_fall l s _ (put_falls l s i r.here _ r.at_here
            (trap_cell l.stages (most_cells l.sidings) i r.here r.who b r.sits r.live r.undone r.aboard)))
        by None f =
            let k = r.number in
            let n = berthed l acc s (column s) k h.moored (kind r.who) r.siding in
            let q = first_free (siding_at s k) n.0 n.1 r.free in
            let set : slice_set (siding_at s k) 0 (Some (operation r.who)) ≡ Some (operation r.who) ∷ q.0 =
            ap (λ (z : List (Option Op)). slice_set z 0 (Some (operation r.who))) q.1 in
            let c = launch_cell l.stages (most_cells l.sidings) i r.here r.who r.sits r.live r.undone r.aboard in
            let w = cell_weighs l.stages (most_cells l.sidings) s.cells i r.here r.at_here in
            let deepest = deep l k in
            let size : length (siding_at s k) ≡ cells_of l k = h.moored.berths k in
            let op = first_weight (length (siding_at s k)) r.who q.0 in
            let was : siding_weight (length (siding_at s k)) 0 (siding_at s k) ≡ siding_weight (length (siding_at s k)) 0 (None ∷ q.0) =
            ap (siding_weight (length (siding_at s k)) 0) q.1 in
            let is : siding_weight (length (siding_at s k)) 0 (slice_set (siding_at s k) 0 (Some (operation r.who)))
            ≡ siding_weight (length (siding_at s k)) 0 (Some (operation r.who) ∷ q.0) = ap (siding_weight (length (siding_at s k)) 0) set in
            rw (launched_out l s i r.here r.who k f r.siding) (both_fall l s (put_cell s.cells i (with_passenger r.here (sent_out r.who))) k n.0
            (slice_set (siding_at s k) 0 (Some (operation r.who))) n.1 (ap length set ∙ ap length (sym q.1))
            (omega (arith, c, w.now, w.put (with_passenger r.here (sent_out r.who)), deepest, size, op, was, is)))

pub slide_falls : (l : Plan) (s : State) (k c : ℕ) → bar l s (Slide k c) ≡ None → weight l (moved l s (Slide k c)) < weight l s
slide_falls l s k c e =
    let r = slide_ready l s k c (bar_row l s (Slide k c) e) in
    let n = some_cells (siding_at s k) c (Some r.what) r.here in
    let w = slide_weight (length (siding_at s k)) 0 (siding_at s k) c r.what (omega arith) r.here r.there in
    rw (next_slide l s k c r.what r.here) (both_fall l s s.cells k n.0 (slice_set (slice_set (siding_at s k) c None) (suc c) (Some r.what)) n.1
    (slide_size (siding_at s k) c r.what) (omega (arith, w)))

answer_weight : (n c : ℕ) (op : Op) (a : ℕ) → is_memory (kind_of op.instr) ≡ true → op.answer ≡ None →
    op_weight n c (Some (record op { answer = Some a })) < op_weight n c (Some op)
unfolding op_weight
answer_weight n c op a m e = rw (m, e) (omega arith)

memory_word : (p : Passenger) → is_memory (kind p) ≡ true → is_memory (kind_of (instruction p)) ≡ true
memory_word p m = grind arith

pub access_falls : {rest out : List ℕ} (l : Plan) (s : State) (x : Machine) → Suits l → bar l s Access ≡ None → Sound l s rest out x →
    weight l (moved l s Access) < weight l s
unfolding weight
access_falls {rest} {out} l s x acc e h =
    let r = access_ready l s (bar_row l s Access e) in
    let k = (port l) in
    let q = siding_at s k in
    let n = berthed l acc s (column s) k h.moored Memory acc.memory in
    let f = first_out l k (column s) (record r.what { answer = None }) (operations_in (set_last q None)) (sym (h.moored.operations k)
    ∙ operations_last q r.what r.lies) in
    let flies = flies_out l acc f.who f.out in
    let m : is_memory (kind f.who) ≡ true = grind arith in
    let class : is_memory (kind_of r.what.instr) ≡ true = ap (λ (o : Op). is_memory (kind_of o.instr)) (sym f.op) ∙ memory_word f.who m in
    let a = answer_of r.what.instr r.what.a r.what.b s.mem in
    let w = last_weighs (length q) 0 n.0 q n.1 in
    let lies : op_weight (length q) (0 + n.0) (last_op q) ≡ op_weight (length q) (0 + n.0) (Some r.what) = ap (op_weight (length q) (0 + n.0)) r.lies in
    let less = answer_weight (length q) (0 + n.0) r.what a class r.unanswered in
    rw (next_access l s r.what r.lies) (both_fall l s s.cells k n.0 (set_last q (Some (record r.what { answer = Some a }))) n.1
    (set_last_size q (Some (record r.what { answer = Some a }))) (omega (arith, w.now, w.put (Some (record r.what { answer = Some a })), lies, less)))

gone_weight : (n c : ℕ) (op : Op) → c < n → op_weight n c None < op_weight n c (Some op)
unfolding op_weight
gone_weight n c op e = omega arith

pub recover_falls : {rest out : List ℕ} (l : Plan) (s : State) (x : Machine) (i : ℕ) → Suits l → bar l s (Recover i) ≡ None → Sound l s rest out x →
    ((p : Passenger) → p.dead ≡ false → p.launched ≡ true → p.recovered ≡ false → (c : Cell) → cell_at s.cells i ≡ Some c → c.passenger ≡ Some p →
    p.done ≡ false) → weight l (moved l s (Recover i)) < weight l s
recover_falls {rest} {out} l s x i acc e h u =
    let r = recover_ready l s i (bar_row l s (Recover i) e) in
    let k = r.number in
    let q = siding_at s k in
    let n = berthed l acc s (column s) k h.moored (kind r.who) r.siding in
    let w = last_weighs (length q) 0 n.0 q n.1 in
    let lies : op_weight (length q) (0 + n.0) (last_op q) ≡ op_weight (length q) (0 + n.0) (Some r.what) = ap (op_weight (length q) (0 + n.0)) r.lies in
    let less = gone_weight (length q) (0 + n.0) r.what (omega (arith, n.1)) in
    let cells = at_most r.who r.here r.what.answer r.at_here r.sits (λ d. u r.who d r.out r.never r.here r.at_here r.sits) r.who.dead refl in
    rw (next_recover l s i r.here r.who k r.what r.at_here r.sits r.siding r.lies) (both_fall l s
    (put_cell s.cells i (with_passenger r.here (back_in r.who r.what.answer))) k n.0 (set_last q None) n.1 (set_last_size q None)
    (omega (arith, w.now, w.put None, lies, less, cells)))
  where
    at_most : (p : Passenger) (c : Cell) (a : Option ℕ) → cell_at s.cells i ≡ Some c → c.passenger ≡ Some p → (p.dead ≡ false → p.done ≡ false) → (d : Bool) →
        p.dead ≡ d → cells_weight l.stages (most_cells l.sidings) 1 (put_cell s.cells i (with_passenger c (back_in p a))) ≤ cells_weight l.stages
        (most_cells l.sidings) 1 s.cells
    at_most p c a f g v true d = rw (in_dead p a d) (put_most l s i c _ f (same_cell l.stages (most_cells l.sidings) i c p g d))
    at_most p c a f g v false d = rw (in_live p a d) (put_most l s i c _ f (back_cell l.stages (most_cells l.sidings) i c p a g d (v d)))
