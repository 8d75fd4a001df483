-- No more instructions retire than are issued: each move preserves the number of instructions in the stages plus that
-- of retired ones, except Issue, which adds one, and moves that replace one instruction by another.
use Rattle.std.proofs.Common.{◌≡◌, ℕ, zero, suc, ◌+◌, ◌-◌, ◌<◌, ◌≤◌, List, [], ◌∷◌, get_or, Option, Some, None, Bool, true, false, cond, refl, ap, ◌∙◌, arith, length}
use Rattle.std.specs.Prelude.{slice_get, slice_index, slice_set}
use Rattle.std.proofs.lemmas.List.Sums.{sum_by-set}
use Rattle.std.proofs.lemmas.Option.{slice_get_within, get_or_from_slice_get}
use Rattle.rv_machine.specs.Call.{Called}
use Rattle.rv_machine.specs.Call as called
use Rattle.cf_layout.specs.Layout.{Plan, siding_of}
use Rattle.cf_bind.specs.declared.cell.Cell.{Cell}
use Rattle.cf_bind.specs.declared.moves.Move.{Move}
use Rattle.cf_bind.specs.declared.moves.Move.TheVariants.{Issue, Emit, Climb, Fall, Meet, Execute, Send, Launch, Slide, Access, Recover, Leave, Exit, Serve}
use Rattle.cf_bind.specs.declared.packet.Packet.TheVariants.{Value}
use Rattle.cf_bind.specs.declared.passenger.End.TheVariants as ending
use Rattle.cf_bind.specs.declared.passenger.Passenger.{Passenger}
use Rattle.cf_semantics.specs.claims.Weight.{counts, is_issue}
use Rattle.cf_semantics.specs.moves.Bars.{last_op, running}
use Rattle.cf_semantics.specs.moves.Instructions.{serve_of}
use Rattle.cf_semantics.specs.moves.Moves.{accessed, answered, asked, climbed, emitted, exited, fallen, issued, launch_trap, launched, left_live, moved, next, sent, served, with_passenger, without_passenger, without_packet}
use Rattle.cf_semantics.specs.state.Options.{is_some, on}
use Rattle.cf_semantics.specs.state.Passengers.{finish, instruction, kind, trapped}
use Rattle.cf_semantics.specs.state.Layouts.{port}
use Rattle.cf_semantics.specs.state.State.{State, Moment, cell_at, put_cell, siding_at, with_cell, with_siding}
use Rattle.theory_confluence.proofs.sites.Touches.{cell_other}
use Rattle.order_rules.specs.declared.rule.Rule.{Rule}
use Rattle.order_model.specs.RuleMoves.{cell_met_without, leaving_without, left_without, moved_without, next_without, recovered_without}
use Rattle.order_claims.specs.MoveLists.{moment_after_without}
use Rattle.order_claims.specs.Claims.{instructions_held, RetiresWhatWasIssued}

-- one, if the stage has an instruction
abbrev one : Cell → ℕ
one c = cond (is_some c.passenger) 1 0

-- how many instructions are in the stages or have retired
abbrev count_in : State → ℕ
count_in s = instructions_held s.cells + s.retired

-- a stage with other contents
put_held : (cells : List Cell) (i : ℕ) (c e : Cell) → cell_at cells i ≡ Some c →
    instructions_held (put_cell cells i e) + one c ≡ instructions_held cells + one e
put_held cells zero c e there = absurd (cc)
put_held cells (suc k) c e there =
    let inside : k < length cells = slice_get_within cells k c there in
    let same : get_or cells k c ≡ c = get_or_from_slice_get cells k c c there in
    let sum = sum_by-set (λ d. cond (is_some d.passenger) 1 0) cells k e c inside in
    let here = ap one same in omega (arith, sum, here)

-- a stage with at most this many instructions more
replaced : (s : State) (i : ℕ) (c e : Cell) (n : ℕ) → cell_at s.cells i ≡ Some c → one e ≤ one c + n →
    instructions_held (put_cell s.cells i e) + s.retired ≤ count_in s + n
replaced s i c e n there few = omega (arith, put_held s.cells i c e there, few)

-- a stage with an instruction
ridden : (c : Cell) (p : Passenger) → c.passenger ≡ Some p → one c ≡ 1
ridden c p sits = ap {B = ℕ} (λ o. cond (is_some o) 1 0) sits

one_most : (c : Cell) → one c ≤ 1
one_most c = by (is_some c.passenger)
  where
    by : (b : Bool) → cond b 1 0 ≤ 1
    by true = omega arith
    by false = omega arith

above_none : (cells : List Cell) (i : ℕ) (c : Cell) → cell_at cells i ≡ Some c → 0 < i
above_none cells zero c there = absurd (cc)
above_none cells (suc k) c there = omega arith

-- the state that a choice leads to is bounded if it is in both cases
chosen : {A : Type 0} (o : Option A) (d : State) (f : A → State) (bound : ℕ) → count_in d ≤ bound →
    ((a : A) → o ≡ Some a → count_in (f a) ≤ bound) → count_in (on o d f) ≤ bound
chosen None d f bound h k = h
chosen (Some a) d f bound h k = k a refl

either : (b : Bool) (x y : State) (bound : ℕ) → count_in x ≤ bound → count_in y ≤ bound → count_in (cond b x y) ≤ bound
either true x y bound h k = h
either false x y bound h k = k

-- for a stage, and for a stage and its instruction; if one is missing, nothing changes
at_stage : (s : State) (i n : ℕ) (f : Cell → State) → ((c : Cell) → cell_at s.cells i ≡ Some c → count_in (f c) ≤ count_in s + n) →
    count_in (on (cell_at s.cells i) s f) ≤ count_in s + n
at_stage s i n f h = chosen (cell_at s.cells i) s f (count_in s + n) (omega arith) h

at_rider : (s : State) (i n : ℕ) (f : Cell → Passenger → State) →
    ((c : Cell) (p : Passenger) → cell_at s.cells i ≡ Some c → c.passenger ≡ Some p → count_in (f c p) ≤ count_in s + n) →
    count_in (on (cell_at s.cells i) s (λ c. on c.passenger s (f c))) ≤ count_in s + n
at_rider s i n f h = at_stage s i n (λ c. on c.passenger s (f c))
    (λ c there. chosen c.passenger s (f c) (count_in s + n) (omega arith) (λ p sits. h c p there sits))

issue_held : (plan : Plan) (s : State) (g : _) → count_in (moved plan s (Issue g)) ≤ count_in s + 1
unfolding moved
issue_held plan s g = at_stage s 1 1 (λ c. on (running s.fetch) s (issued plan s g c))
    (λ c there. chosen (running s.fetch) s (issued plan s g c) (count_in s + 1) (omega arith) (λ pc runs. replaced s 1 c _ 1 there (omega arith)))

emitting : (s : State) (n : ℕ) (lane : List ℕ) (c : Cell) → cell_at s.cells n ≡ Some c → count_in (emitted s n lane c) ≤ count_in s + 0
emitting s n [] c there = omega arith
emitting s n (r ∷ lane) c there = replaced s n c (record c { packet = Some (Value r (slice_index s.regs r)); met = false }) 0 there (omega arith)

emit_held : (plan : Plan) (s : State) → count_in (moved plan s Emit) ≤ count_in s + 0
unfolding moved
emit_held plan s = at_stage s plan.stages 0 (emitted s plan.stages s.lane) (λ c there. emitting s plan.stages s.lane c there)

climbing : (s : State) (i : ℕ) (c d : Cell) → cell_at s.cells i ≡ Some c → cell_at s.cells (i + 1) ≡ Some d → count_in (climbed s i c d) ≤ count_in s + 0
climbing s i c d low high =
    let apart : i + 1 ≡ i → ⊥ = λ e. omega (arith, e) in
    let first = put_held s.cells i c (without_passenger c) low in
    let second = put_held (put_cell s.cells i (without_passenger c)) (i + 1) d (record d { passenger = c.passenger; met = false })
    (cell_other s.cells i (i + 1) (without_passenger c) apart ∙ high) in omega (arith, first, second)

climb_held : (plan : Plan) (s : State) (i : ℕ) → count_in (moved plan s (Climb i)) ≤ count_in s + 0
unfolding moved
climb_held plan s i = at_stage s i 0 (λ c. on (cell_at s.cells (i + 1)) s (climbed s i c))
    (λ c low. at_stage s (i + 1) 0 (climbed s i c) (λ d high. climbing s i c d low high))

falling : (s : State) (i : ℕ) (c d : Cell) → cell_at s.cells i ≡ Some c → cell_at s.cells (i - 1) ≡ Some d → count_in (fallen s i c d) ≤ count_in s + 0
falling s i c d high low =
    let above = above_none s.cells i c high in
    let apart : i - 1 ≡ i → ⊥ = λ e. omega (arith, e, above) in
    let first = put_held s.cells i c (without_packet c) high in
    let second = put_held (put_cell s.cells i (without_packet c)) (i - 1) d (record d { packet = c.packet; met = false })
    (cell_other s.cells i (i - 1) (without_packet c) apart ∙ low) in omega (arith, first, second)

fall_held : (plan : Plan) (s : State) (i : ℕ) → count_in (moved plan s (Fall i)) ≤ count_in s + 0
unfolding moved
fall_held plan s i = at_stage s i 0 (λ c. on (cell_at s.cells (i - 1)) s (fallen s i c))
    (λ c high. at_stage s (i - 1) 0 (fallen s i c) (λ d low. falling s i c d high low))

-- a stage whose instruction is replaced by another one
rider_replaced : (s : State) (i : ℕ) (c : Cell) (p : Passenger) (e : Cell) → cell_at s.cells i ≡ Some c → c.passenger ≡ Some p →
    instructions_held (put_cell s.cells i e) + s.retired ≤ count_in s + 0
rider_replaced s i c p e there sits = replaced s i c e 0 there (omega (arith, ridden c p sits, one_most e))

meet_held : (away : Option Rule) (plan : Plan) (s : State) (i : ℕ) → count_in (moved_without away plan s (Meet i)) ≤ count_in s + 0
unfolding moved_without
meet_held away plan s i = at_rider s i 0 (λ c p. on c.packet s (λ k. with_cell s i (cell_met_without away c p k)))
    (λ c p there sits. chosen c.packet s (λ k. with_cell s i (cell_met_without away c p k)) (count_in s + 0) (omega arith)
    (λ k lies. rider_replaced s i c p (cell_met_without away c p k) there sits))

execute_held : (plan : Plan) (s : State) (i : ℕ) → count_in (moved plan s (Execute i)) ≤ count_in s + 0
unfolding moved
execute_held plan s i = at_rider s i 0 (λ c p. with_cell s i (with_passenger c (finish p None)))
    (λ c p there sits. rider_replaced s i c p (with_passenger c (finish p None)) there sits)

send_held : (plan : Plan) (s : State) (i : ℕ) → count_in (moved plan s (Send i)) ≤ count_in s + 0
unfolding moved
send_held plan s i = at_rider s i 0 (λ c p. with_cell s i (sent p)) (λ c p there sits. rider_replaced s i c p (sent p) there sits)

launching : (plan : Plan) (s : State) (i : ℕ) (c : Cell) (p : Passenger) → cell_at s.cells i ≡ Some c → c.passenger ≡ Some p →
    count_in (launched plan s i c p) ≤ count_in s + 0
launching plan s i c p there sits = chosen (launch_trap s p) _ _ (count_in s + 0)
    (chosen (siding_of plan (kind p)) s _ (count_in s + 0) (omega arith)
    (λ k is. rider_replaced s i c p (with_passenger c (record p { launched = true })) there sits))
    (λ e is. rider_replaced s i c p (with_passenger c (trapped p e)) there sits)

launch_held : (plan : Plan) (s : State) (i : ℕ) → count_in (moved plan s (Launch i)) ≤ count_in s + 0
unfolding moved
launch_held plan s i = at_rider s i 0 (launched plan s i) (λ c p there sits. launching plan s i c p there sits)

slide_held : (plan : Plan) (s : State) (k c : ℕ) → count_in (moved plan s (Slide k c)) ≤ count_in s + 0
unfolding moved
slide_held plan s k c =
    let same : count_in s ≤ count_in s + 0 = omega arith in
    chosen (slice_get (siding_at s k) c) s (λ o. with_siding s k (slice_set (slice_set (siding_at s k) c None) (c + 1) o)) (count_in s + 0) same (λ o is. same)

access_held : (plan : Plan) (s : State) → count_in (moved plan s Access) ≤ count_in s + 0
unfolding moved
access_held plan s =
    let same : count_in s ≤ count_in s + 0 = omega arith in
    chosen (last_op (siding_at s (port plan))) s (accessed plan s) (count_in s + 0) same (λ op is. same)

recovering : (away : Option Rule) (plan : Plan) (s : State) (i : ℕ) (c : Cell) (p : Passenger) → cell_at s.cells i ≡ Some c → c.passenger ≡ Some p →
    count_in (recovered_without away plan s i c p) ≤ count_in s + 0
recovering away plan s i c p there sits = chosen (siding_of plan (kind p)) s _ (count_in s + 0) (omega arith)
    (λ k is. chosen (last_op (siding_at s k)) s _ (count_in s + 0) (omega arith) (λ op lies. rider_replaced s i c p _ there sits))

recover_held : (away : Option Rule) (plan : Plan) (s : State) (i : ℕ) → count_in (moved_without away plan s (Recover i)) ≤ count_in s + 0
unfolding moved_without
recover_held away plan s i = at_rider s i 0 (recovered_without away plan s i) (λ c p there sits. recovering away plan s i c p there sits)

-- an instruction that leaves is in no stage, and may have retired
leaves_one : (t : State) (p : Passenger) (bound : ℕ) → count_in t + 1 ≤ bound → count_in (cond p.dead t (left_live t p)) ≤ bound
leaves_one t p bound h = either p.dead t (left_live t p) bound (omega (arith, h))
    (chosen p.ending _ _ bound (omega (arith, h)) (λ e is. omega (arith, h)))

leaving : (away : Option Rule) (s : State) (n : ℕ) (c : Cell) (p : Passenger) → cell_at s.cells n ≡ Some c → c.passenger ≡ Some p →
    count_in (left_without away s n c p) ≤ count_in s + 0
leaving away s n c p there sits = leaves_one (with_cell s n (without_passenger c)) (leaving_without away p) (count_in s + 0)
    (omega (arith, put_held s.cells n c (without_passenger c) there, ridden c p sits))

leave_held : (away : Option Rule) (plan : Plan) (s : State) → count_in (moved_without away plan s Leave) ≤ count_in s + 0
unfolding moved_without
leave_held away plan s = at_rider s plan.stages 0 (left_without away s plan.stages) (λ c p there sits. leaving away s plan.stages c p there sits)

exit_held : (plan : Plan) (s : State) → count_in (moved plan s Exit) ≤ count_in s + 0
unfolding moved
exit_held plan s = at_stage s 1 0 (exited plan s)
    (λ c there. chosen c.packet s _ (count_in s + 0) (omega arith) (λ k lies. replaced s 1 c (without_packet c) 0 there (omega arith)))

-- the same for a moment
chosen_moment : {A : Type 0} (o : Option A) (d : Moment) (f : A → Moment) (bound : ℕ) → count_in d.state ≤ bound →
    ((a : A) → o ≡ Some a → count_in (f a).state ≤ bound) → count_in (on o d f).state ≤ bound
chosen_moment None d f bound h k = h
chosen_moment (Some a) d f bound h k = k a refl

serving : (m : Moment) (n : ℕ) (c : Cell) (p : Passenger) (o : Called) → cell_at m.state.cells n ≡ Some c → c.passenger ≡ Some p →
    count_in (served m n c p o).state ≤ count_in m.state + 0
serving m n c p (called.Value a) there sits = rider_replaced m.state n c p (with_passenger c (answered p a.value)) there sits
serving m n c p (called.Exit status) there sits =
    rider_replaced m.state n c p (with_passenger c (record p { done = true; ending = Some (ending.Exit status) })) there sits

serve_held : (plan : Plan) (m : Moment) → count_in (next plan m Serve).state ≤ count_in m.state + 0
unfolding next
serve_held plan m = chosen_moment (cell_at m.state.cells plan.stages) m (λ c. on c.passenger m (asked m plan.stages c)) (count_in m.state + 0) (omega arith)
    (λ c there. chosen_moment c.passenger m (asked m plan.stages c) (count_in m.state + 0) (omega arith)
    (λ p sits. serving m plan.stages c p (serve_of (instruction p) m.state.regs m.state.mem m.rest) there sits))

-- each move
move_held : (away : Option Rule) (plan : Plan) (m : Moment) (mv : Move) → count_in (next_without away plan m mv).state ≤ count_in m.state + counts
    (is_issue mv) 1
unfolding next_without next
move_held away plan m (Issue g) = issue_held plan m.state g
move_held away plan m Emit = emit_held plan m.state
move_held away plan m (Climb i) = climb_held plan m.state i
move_held away plan m (Fall i) = fall_held plan m.state i
move_held away plan m (Meet i) = meet_held away plan m.state i
move_held away plan m (Execute i) = execute_held plan m.state i
move_held away plan m (Send i) = send_held plan m.state i
move_held away plan m (Launch i) = launch_held plan m.state i
move_held away plan m (Slide k c) = slide_held plan m.state k c
move_held away plan m Access = access_held plan m.state
move_held away plan m (Recover i) = recover_held away plan m.state i
move_held away plan m Leave = leave_held away plan m.state
move_held away plan m Exit = exit_held plan m.state
move_held away plan m Serve = serve_held plan m

pub holding_all : RetiresWhatWasIssued
unfolding moment_after_without
holding_all away plan m [] = omega arith
holding_all away plan m (mv ∷ moves) = omega (arith, move_held away plan m mv, holding_all away plan (next_without away plan m mv) moves)

pub ruleset holding = (holding_all)
