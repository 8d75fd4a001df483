-- A move by which nothing enters at the bottom or leaves leaves something where it was made: an instruction, a result or an
-- operation. So the processor is not drained then, and the pace is unchanged.
use Rattle.std.proofs.Common.{◌≡◌, ◌∙◌, sym, refl, ap, ℕ, zero, suc, ◌+◌, ◌-◌, ◌≤◌, ◌<◌, List, [], ◌∷◌, length, length-set, Bool, true, false, Option, Some, None, arith, add-one, sub-one}
use Rattle.std.specs.Prelude.{◌&&◌, ◌||◌, if◌then◌else◌, not, slice_get, slice_set}
use Rattle.std.specs.List.{list_any}
use Rattle.std.proofs.lemmas.Option.{slice_get_within}
use Rattle.cf_layout.specs.Layout.{Plan, siding_of}
use Rattle.cf_bind.specs.declared.cell.Cell.{Cell}
use Rattle.cf_bind.specs.declared.cell.Op.{Op}
use Rattle.cf_bind.specs.declared.packet.Packet.{Packet}
use Rattle.cf_bind.specs.declared.passenger.End.{End}
use Rattle.cf_bind.specs.declared.passenger.Passenger.{Passenger}
use Rattle.cf_bind.specs.declared.moves.Move.{Move}
use Rattle.cf_bind.specs.declared.moves.Move.TheVariants.{Issue, Emit, Climb, Fall, Meet, Execute, Send, Launch, Slide, Access, Recover, Leave, Exit, Serve}
use Rattle.cf_bind.specs.Meeting.{meeting}
use Rattle.cf_semantics.specs.declared.event.Event.{Event}
use Rattle.cf_semantics.specs.declared.event.Event.TheVariants as event
use Rattle.cf_semantics.specs.claims.Weight.{is_issue}
use Rattle.cf_semantics.specs.moves.Bars.{bar, last_op}
use Rattle.cf_semantics.specs.moves.Events.{IsEvent, meeting_event}
use Rattle.cf_semantics.specs.moves.Holding.{is_retirement, paced}
use Rattle.cf_semantics.specs.moves.Moves.{accessed, climbed, fallen, launch_trap, launched, moved, set_last, without_packet, without_passenger}
use Rattle.cf_semantics.specs.state.Drained.{is_drained, is_empty, is_occupied}
use Rattle.cf_semantics.specs.state.Layouts.{port}
use Rattle.cf_semantics.specs.state.Options.{is_some, on}
use Rattle.cf_semantics.specs.state.Passengers.{kind}
use Rattle.cf_semantics.specs.state.State.{State, cell_at, put_cell, siding_at, with_siding}
use Rattle.theory_refinement.proofs.moves.Access.{access_ready, next_access}
use Rattle.theory_refinement.proofs.moves.Climb.{climb_ready, next_climb}
use Rattle.theory_refinement.proofs.moves.Emit.{emit_ready, next_emit}
use Rattle.theory_refinement.proofs.moves.Execute.{execute_ready, next_execute}
use Rattle.theory_refinement.proofs.moves.Fall.{fall_ready, next_fall}
use Rattle.theory_refinement.proofs.moves.Issue.{issue_ready, next_issue}
use Rattle.theory_refinement.proofs.moves.Launch.{launch_ready, launched_out, launched_trap, next_launch}
use Rattle.theory_refinement.proofs.moves.Meet.{meet_ready, next_meet}
use Rattle.theory_refinement.proofs.moves.Recovering.{next_recover, recover_ready}
use Rattle.theory_refinement.proofs.moves.Rows.{bar_row}
use Rattle.theory_refinement.proofs.moves.Send.{next_send, send_ready}
use Rattle.theory_refinement.proofs.moves.Slide.{next_slide, slide_ready}
use Rattle.cf_stages.proofs.Parts.{cell-put-other}
use Rattle.cf_index.specs.Order.{kind_place}
use Rattle.cf_sched.specs.Paces.{PaceCount, saw, stopped}

-- Something is there --

or_true : (b : Bool) → (b || true) ≡ true
or_true true = refl
or_true false = refl

any_set : {A : Type 0} (p : A → Bool) (xs : List A) (k : ℕ) (x : A) → k < length xs → p x ≡ true → list_any p (slice_set xs k x) ≡ true
any_set p [] k x within e = absurd (omega (arith, within))
any_set p (y ∷ xs) zero x within e = rw e refl
any_set p (y ∷ xs) (suc k) x within e = rw (any_set p xs k x (omega (arith, within)) e) (or_true (p y))

put_there : (cells : List Cell) (i : ℕ) (c d : Cell) → cell_at cells i ≡ Some c → is_occupied d ≡ true → list_any is_occupied (put_cell cells i d) ≡ true
put_there cells zero c d there e = absurd (cc)
put_there cells (suc k) c d there e = any_set is_occupied cells k d (slice_get_within cells k c there) e

any_get : {A : Type 0} (p : A → Bool) (xs : List A) (k : ℕ) (x : A) → slice_get xs k ≡ Some x → p x ≡ true → list_any p xs ≡ true
any_get p [] k x there e = absurd (cc)
any_get p (y ∷ xs) zero x there e = let same : y ≡ x = cc in rw (same, e) refl
any_get p (y ∷ xs) (suc k) x there e = rw (any_get p xs k x there e) (or_true (p y))

-- in a stage
some_in_cells : (s : State) → list_any is_occupied s.cells ≡ true → is_drained s ≡ false
unfolding is_drained
some_in_cells s e = rw e refl

-- in a siding
three_false : (a b c : Bool) → c ≡ true → (a && b && not c) ≡ false
three_false a b c e = grind arith

some_in_sidings : (s : State) → list_any (list_any is_some) s.sidings ≡ true → is_drained s ≡ false
unfolding is_drained
some_in_sidings s e = three_false (not (list_any is_occupied s.cells)) (is_empty s.lane) (list_any (list_any is_some) s.sidings) e

siding_there : (sidings : List (List (Option Op))) (k : ℕ) (c : ℕ) (o : Option Op) → slice_get (on (slice_get sidings k) [] (λ ops. ops)) c ≡ Some o →
    k < length sidings
siding_there [] k c o there = absurd (cc)
siding_there (ops ∷ sidings) zero c o there = omega arith
siding_there (ops ∷ sidings) (suc k) c o there = let rest = siding_there sidings k c o there in omega (arith, rest)

op_in_siding : (s : State) (k : ℕ) (ops : List (Option Op)) → k < length s.sidings → list_any is_some ops ≡ true → is_drained (with_siding s k ops) ≡ false
op_in_siding s k ops within e = some_in_sidings (with_siding s k ops) (any_set (list_any is_some) s.sidings k ops within e)

last_set : (ops : List (Option Op)) (op new : Op) → last_op ops ≡ Some op → list_any is_some (set_last ops (Some new)) ≡ true
last_set [] op new e = absurd (cc)
last_set (o ∷ []) op new e = refl
last_set (o ∷ q ∷ ops) op new e = rw (last_set (q ∷ ops) op new e) (or_true (is_some o))

last_there : (sidings : List (List (Option Op))) (k : ℕ) (op : Op) → last_op (on (slice_get sidings k) [] (λ ops. ops)) ≡ Some op → k < length sidings
last_there [] k op e = absurd (cc)
last_there (ops ∷ sidings) zero op e = omega arith
last_there (ops ∷ sidings) (suc k) op e = let rest = last_there sidings k op e in omega (arith, rest)

-- After each of these moves --

pub issue_there : (plan : Plan) (s : State) (m : Move) → kind_place m ≡ 0 → bar plan s m ≡ None → is_drained (moved plan s m) ≡ false
issue_there plan s (Issue g) is free =
    let r = issue_ready plan s g (bar_row plan s (Issue g) free) in
    rw (next_issue plan s g r.here r.others r.pc _ r.cells r.runs refl) (some_in_cells _ refl)
issue_there plan s m is free = absurd (omega (arith, is))

emit_there : (plan : Plan) (s : State) → bar plan s Emit ≡ None → is_drained (moved plan s Emit) ≡ false
emit_there plan s free =
    let r = emit_ready plan s (bar_row plan s Emit free) in
    rw (next_emit plan s r.here r.asked r.others r.at_here r.lane) (some_in_cells _ (put_there s.cells plan.stages r.here _ r.at_here (or_true _)))

climb_there : (plan : Plan) (s : State) (i : ℕ) → bar plan s (Climb i) ≡ None → is_drained (moved plan s (Climb i)) ≡ false
climb_there plan s i free =
    let r = climb_ready plan s i (bar_row plan s (Climb i) free) in
    let above : cell_at s.cells (i + 1) ≡ Some r.high = rw add-one r.at_high in
    let kept = cell-put-other s.cells i (i + 1) (without_passenger r.low) (λ e. absurd (omega (arith, e))) in
    let there : is_occupied (record r.high { passenger = r.low.passenger; met = false }) ≡ true = rw r.sits refl in
    ap is_drained (next_climb plan s i r.low r.high r.at_low r.at_high)
    ∙ some_in_cells (climbed s i r.low r.high) (put_there (put_cell s.cells i (without_passenger r.low)) (i + 1) r.high _ (kept ∙ above) there)

fall_there : (plan : Plan) (s : State) (i : ℕ) → bar plan s (Fall i) ≡ None → is_drained (moved plan s (Fall i)) ≡ false
fall_there plan s zero free = let row = bar_row plan s (Fall zero) free in absurd (cc)
fall_there plan s (suc i) free =
    let r = fall_ready plan s i (bar_row plan s (Fall (suc i)) free) in
    let below : cell_at s.cells (suc i - 1) ≡ Some r.low = rw sub-one r.at_low in
    let kept = cell-put-other s.cells (suc i) (suc i - 1) (without_packet r.high) (λ e. absurd (omega (arith, e))) in
    let there : is_occupied (record r.low { packet = r.high.packet; met = false }) ≡ true = rw r.lies (or_true (is_some r.low.passenger)) in
    ap is_drained (next_fall plan s i r.high r.low r.at_high r.at_low)
    ∙ some_in_cells (fallen s (suc i) r.high r.low) (put_there (put_cell s.cells (suc i) (without_packet r.high)) (suc i - 1) r.low _ (kept ∙ below) there)

meet_there : (plan : Plan) (s : State) (i : ℕ) → bar plan s (Meet i) ≡ None → is_drained (moved plan s (Meet i)) ≡ false
meet_there plan s i free =
    let r = meet_ready plan s i (bar_row plan s (Meet i) free) in
    ap is_drained (next_meet plan s i r.here r.who r.what r.at_here r.sits r.lies) ∙ some_in_cells _ (put_there s.cells i r.here _ r.at_here refl)

execute_there : (plan : Plan) (s : State) (i : ℕ) → bar plan s (Execute i) ≡ None → is_drained (moved plan s (Execute i)) ≡ false
execute_there plan s i free =
    let r = execute_ready plan s i (bar_row plan s (Execute i) free) in
    ap is_drained (next_execute plan s i r.here r.who r.at_here r.sits) ∙ some_in_cells _ (put_there s.cells i r.here _ r.at_here refl)

send_there : (plan : Plan) (s : State) (i : ℕ) → bar plan s (Send i) ≡ None → is_drained (moved plan s (Send i)) ≡ false
send_there plan s i free =
    let r = send_ready plan s i (bar_row plan s (Send i) free) in
    ap is_drained (next_send plan s i r.here r.who r.what r.at_here r.sits r.owes) ∙ some_in_cells _ (put_there s.cells i r.here _ r.at_here refl)

launch_there : (plan : Plan) (s : State) (i : ℕ) → bar plan s (Launch i) ≡ None → is_drained (moved plan s (Launch i)) ≡ false
launch_there plan s i free =
    let r = launch_ready plan s i (bar_row plan s (Launch i) free) in
    ap is_drained (next_launch plan s i r.here r.who r.at_here r.sits) ∙ by r.here r.who r.number r.at_here r.siding (launch_trap s r.who) refl
  where
    by : (c : Cell) (p : Passenger) (k : ℕ) → cell_at s.cells i ≡ Some c → siding_of plan (kind p) ≡ Some k → (trap : Option End) → launch_trap s p ≡ trap →
        is_drained (launched plan s i c p) ≡ false
    by c p k there siding None is =
        ap is_drained (launched_out plan s i c p k is siding) ∙ some_in_cells _ (put_there s.cells i c _ there refl)
    by c p k there siding (Some e) is =
        ap is_drained (launched_trap plan s i c p e is) ∙ some_in_cells _ (put_there s.cells i c _ there refl)

slide_there : (plan : Plan) (s : State) (k c : ℕ) → bar plan s (Slide k c) ≡ None → is_drained (moved plan s (Slide k c)) ≡ false
slide_there plan s k c free =
    let r = slide_ready plan s k c (bar_row plan s (Slide k c) free) in
    let size : length (slice_set (siding_at s k) c None) ≡ length (siding_at s k) = length-set (siding_at s k) c None in
    let within = slice_get_within (siding_at s k) (suc c) None r.there in
    ap is_drained (next_slide plan s k c r.what r.here)
    ∙ op_in_siding s k _ (siding_there s.sidings k c (Some r.what) r.here)
    (any_set is_some (slice_set (siding_at s k) c None) (suc c) (Some r.what) (omega (arith, size, within)) refl)

access_there : (plan : Plan) (s : State) → bar plan s Access ≡ None → is_drained (moved plan s Access) ≡ false
access_there plan s free =
    let r = access_ready plan s (bar_row plan s Access free) in
    ap is_drained (next_access plan s r.what r.lies)
    ∙ some_in_sidings (accessed plan s r.what)
    (any_set (list_any is_some) s.sidings (port plan) _ (last_there s.sidings (port plan) r.what r.lies) (last_set (siding_at s (port plan)) r.what _ r.lies))

recover_there : (plan : Plan) (s : State) (i : ℕ) → bar plan s (Recover i) ≡ None → is_drained (moved plan s (Recover i)) ≡ false
recover_there plan s i free =
    let r = recover_ready plan s i (bar_row plan s (Recover i) free) in
    ap is_drained (next_recover plan s i r.here r.who r.number r.what r.at_here r.sits r.siding r.lies)
    ∙ some_in_cells _ (put_there s.cells i r.here _ r.at_here refl)

still_there : (plan : Plan) (s : State) (m : Move) → 1 ≤ kind_place m → kind_place m ≤ 10 → bar plan s m ≡ None → is_drained (moved plan s m) ≡ false
still_there plan s (Issue g) after before free = absurd (omega (arith, after))
still_there plan s Emit after before free = emit_there plan s free
still_there plan s (Climb i) after before free = climb_there plan s i free
still_there plan s (Fall i) after before free = fall_there plan s i free
still_there plan s (Meet i) after before free = meet_there plan s i free
still_there plan s (Execute i) after before free = execute_there plan s i free
still_there plan s (Send i) after before free = send_there plan s i free
still_there plan s (Launch i) after before free = launch_there plan s i free
still_there plan s (Slide k c) after before free = slide_there plan s k c free
still_there plan s Access after before free = access_there plan s free
still_there plan s (Recover i) after before free = recover_there plan s i free
still_there plan s Leave after before free = absurd (omega (arith, before))
still_there plan s Exit after before free = absurd (omega (arith, before))
still_there plan s Serve after before free = absurd (omega (arith, before))

-- So the pace is unchanged --

-- none of them is an Issue
no_issue : (m : Move) → 1 ≤ kind_place m → is_issue m ≡ false
no_issue (Issue g) after = absurd (omega (arith, after))
no_issue Emit after = refl
no_issue (Climb i) after = refl
no_issue (Fall i) after = refl
no_issue (Meet i) after = refl
no_issue (Execute i) after = refl
no_issue (Send i) after = refl
no_issue (Launch i) after = refl
no_issue (Slide k c) after = refl
no_issue Access after = refl
no_issue (Recover i) after = refl
no_issue Leave after = refl
no_issue Exit after = refl
no_issue Serve after = refl

-- and with none of them an instruction retires
meeting_plain : (p : Passenger) (k : Packet) → is_retirement (meeting_event p k) ≡ false
meeting_plain p k = by (not (is_some (meeting p k).packet)) (not p.dead && (meeting p k).passenger.dead)
  where
    by : (killed died : Bool) → is_retirement (if killed then event.Killed else (if died then event.Died else event.Plain)) ≡ false
    by true died = refl
    by false true = refl
    by false false = refl

met_plain : (o : Option Cell) → is_retirement (on o event.Plain (λ c. on c.passenger event.Plain (λ p. on c.packet event.Plain (meeting_event p)))) ≡ false
met_plain None = refl
met_plain (Some c) = by c.passenger c.packet
  where
    by : (a : Option Passenger) (b : Option Packet) → is_retirement (on a event.Plain (λ p. on b event.Plain (meeting_event p))) ≡ false
    by None b = refl
    by (Some p) None = refl
    by (Some p) (Some k) = meeting_plain p k

no_retirement : (plan : Plan) (s : State) (m : Move) (e : Event) → kind_place m ≤ 10 → IsEvent plan s m e → is_retirement e ≡ false
no_retirement plan s (Issue g) e before is = ap is_retirement is
no_retirement plan s Emit e before is = ap is_retirement is
no_retirement plan s (Climb i) e before is = ap is_retirement is
no_retirement plan s (Fall i) e before is = ap is_retirement is
no_retirement plan s (Meet i) e before is = ap is_retirement is ∙ met_plain (cell_at s.cells i)
no_retirement plan s (Execute i) e before is = ap is_retirement is
no_retirement plan s (Send i) e before is = ap is_retirement is
no_retirement plan s (Launch i) e before is = ap is_retirement is
no_retirement plan s (Slide k c) e before is = ap is_retirement is
no_retirement plan s Access e before is = ap is_retirement is
no_retirement plan s (Recover i) e before is = ap is_retirement is
no_retirement plan s Leave e before is = absurd (omega (arith, before))
no_retirement plan s Exit e before is = ap is_retirement is
no_retirement plan s Serve e before is = ap is_retirement is

paced_same : (count : ℕ) (m : Move) (e : Event) → is_retirement e ≡ false → is_issue m ≡ false → paced count m e false ≡ count
unfolding paced
paced_same count m e retires issues = rw (retires, issues) refl

abbrev count_of : PaceCount → ℕ → PaceCount
count_of pace count = record pace { count = count }

-- a count that has stopped stops where it is
pub same-pace : (plan : Plan) (s : State) (pace : PaceCount) (m : Move) (e : Event) → 1 ≤ kind_place m → kind_place m ≤ 10 → bar plan s m ≡ None →
    IsEvent plan s m e → stopped pace.stages pace.count ≡ pace.count → pace ≡ saw pace m e (is_drained (moved plan s m))
same-pace plan s pace m e after before free is stops =
    let same : stopped pace.stages (paced pace.count m e (is_drained (moved plan s m))) ≡ pace.count =
    ap (λ (b : Bool). stopped pace.stages (paced pace.count m e b)) (still_there plan s m after before free)
    ∙ ap (stopped pace.stages) (paced_same pace.count m e (no_retirement plan s m e before is) (no_issue m after)) ∙ stops in
    ap (count_of pace) (sym same)
