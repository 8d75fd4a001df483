-- The words after each kind of move, by what it changes in them.
use Rattle.std.proofs.Common.{◌≡◌, ◌≢◌, ◌∙◌, ℕ, ◌+◌, ◌-◌, ◌<◌, ◌≤◌, suc, length, Bool, List, [], ◌∷◌, Option, Some, None, true, false, refl, sym, ap, arith}
use Rattle.std.specs.Prelude.{slice_get, slice_index, slice_set}
use Rattle.cf_bind.specs.declared.cell.Cell.{Cell}
use Rattle.cf_bind.specs.declared.cell.Op.{Op}
use Rattle.cf_bind.specs.declared.moves.Bar.TheVariants.{NoSuchSite}
use Rattle.cf_bind.specs.declared.packet.Packet.{Packet}
use Rattle.cf_bind.specs.declared.packet.Packet.TheVariants.{Value}
use Rattle.cf_bind.specs.declared.passenger.End.{End}
use Rattle.cf_bind.specs.declared.passenger.Passenger.{Passenger}
use Rattle.cf_bind.specs.declared.moves.Move.TheVariants.{Access, Emit, Execute, Fall, Launch, Recover, Send, Slide}
use Rattle.cf_semantics.specs.moves.Bars.{access_bar, cell_is_taken, emit_bar, fall_bar, last_op, launch_bar, recover_bar, row_bar}
use Rattle.cf_semantics.specs.moves.Moves.{accessed, back_in, emitted, fallen, launch_trap, launched, moved, operation, recovered, set_last, with_passenger, without_packet}
use Rattle.cf_semantics.specs.state.Options.{on}
use Rattle.cf_semantics.specs.state.State.{State, cell_at, siding_at, with_cell, with_siding}
use Rattle.cf_layout.specs.Layout.{Plan, launch_stage, recover_stage, siding_of}
use Rattle.cf_layout.specs.Accepted.{IsAccepted}
use Rattle.cf_semantics.specs.state.Passengers.{kind, trapped}
use Rattle.cf_semantics.specs.moves.Instructions.{answer_of}
use Rattle.cf_semantics.specs.state.Layouts.{launches, port}
use Rattle.cf_stages.specs.Words.{with_bit}
use Rattle.cf_stages.proofs.Parts.{cell-put-other}
use Rattle.cf_core.specs.Marks.{Within, mark_at, marked, marks_of, one_stage, resited, resting, row_allows, sites, touched, with_launch, with_recover}
use Rattle.cf_core.specs.Processors.{IsProcessor, Processor, after_move}
use Rattle.cf_core.specs.declared.marks.Marks.{Marks}
use Rattle.cf_core.specs.declared.marks.StageMark.{StageMark}
use Rattle.cf_core.specs.declared.touching.Touched.{Touched}
use Rattle.cf_core.proofs.FieldMarks.{launch-only, launches-only, marks-one, owes-only, recover-kept, recovers-only, resited-kept, siding-marks}
use Rattle.cf_core.proofs.KeptMarks.{marks-same}
use Rattle.cf_core.proofs.MoveMarks.{back-rests, execute-mark, launch_tests, launched-rests, rider_put, send-mark, trapped-rests}
use Rattle.cf_core.proofs.SameMarks.{cell-but, entry-launch, mark_by, mark_is, rest-same}
use Rattle.cf_core.proofs.SameStages.{Same, mark_put}
use Rattle.cf_core.proofs.Sites.{fall-high, fall-low, launch-high, launch-low, touched-within}
use Rattle.cf_core.proofs.StillMarks.{fall_tests, packet_gone}
use Rattle.cf_core.proofs.Touched.{launch_site, moved-but, recover_site}

-- Moves of an instruction in its stage --

pub send-marks : (old new : Processor) (marks : Marks) (i : ℕ) → IsProcessor old.plan old.state → row_bar old.plan old.state (Send i) ≡ None →
    new ≡ after_move old (Send i) → marks ≡ marks_of old.plan old.state →
    record marks { owes = with_bit marks.owes (i - 1) false } ≡ marks_of new.plan new.state
unfolding touched
send-marks old new marks i h free made is =
    let w = touched-within old.plan old.state (Send i) h free in
    rw (made, is) (owes-only old.plan old.state (moved old.plan old.state (Send i)) i false h.accepted.stages.1 w.low w.low_in
    (moved-but old.plan old.state (Send i) free) (send-mark old.plan old.state i free))

pub execute-marks : (old new : Processor) (marks : Marks) (i : ℕ) → IsProcessor old.plan old.state → row_bar old.plan old.state (Execute i) ≡ None →
    new ≡ after_move old (Execute i) → marks ≡ marks_of old.plan old.state → marked marks i (resting new.state i) ≡ marks_of new.plan new.state
unfolding touched
execute-marks old new marks i h free made is =
    let w = touched-within old.plan old.state (Execute i) h free in
    let t = moved old.plan old.state (Execute i) in
    rw (made, is) (ap (marked (marks_of old.plan old.state) i) (sym (execute-mark old.plan old.state i h.accepted free))
    ∙ marks-one old.plan old.state t i h.accepted.stages.1 w.low w.low_in (moved-but old.plan old.state (Execute i) free))

-- Moves of an operation in its siding --

slid_marks : (plan : Plan) (s : State) (k n : ℕ) → plan.stages ≤ 32 → Within plan (sites plan k) →
    resited plan (moved plan s (Slide k n)) (marks_of plan s) (sites plan k) ≡ marks_of plan (moved plan s (Slide k n))
unfolding moved
slid_marks plan s k n few w = by_cell (slice_get (siding_at s k) n)
  where
    by_cell : (o : Option (Option Op)) →
        resited plan (on o s (λ op. with_siding s k (slice_set (slice_set (siding_at s k) n None) (n + 1) op))) (marks_of plan s) (sites plan k)
        ≡ marks_of plan (on o s (λ op. with_siding s k (slice_set (slice_set (siding_at s k) n None) (n + 1) op)))
    by_cell None = resited-kept plan s k few w
    by_cell (Some op) = siding-marks plan s k (slice_set (slice_set (siding_at s k) n None) (n + 1) op) few w

pub slide-marks : (old new : Processor) (marks : Marks) (k n : ℕ) (t : Touched) → IsProcessor old.plan old.state →
    row_bar old.plan old.state (Slide k n) ≡ None → new ≡ after_move old (Slide k n) → marks ≡ marks_of old.plan old.state →
    t ≡ touched old.plan old.state (Slide k n) → resited new.plan new.state marks t ≡ marks_of new.plan new.state
unfolding touched
slide-marks old new marks k n t h free made is at =
    let w = touched-within old.plan old.state (Slide k n) h free in
    rw (at, made, is) (slid_marks old.plan old.state k n h.accepted.stages.1 w)

-- an operation that is answered stays where it was
first_kept : (ops : List (Option Op)) (op answered : Op) → last_op ops ≡ Some op →
    cell_is_taken (slice_get (set_last ops (Some answered)) 0) ≡ cell_is_taken (slice_get ops 0)
first_kept [] op answered e = absurd (cc)
first_kept (o ∷ []) op answered e = rw e refl
first_kept (o ∷ p ∷ ops) op answered e = refl

some_cells : (ops : List (Option Op)) (op : Op) → last_op ops ≡ Some op → (n : ℕ) × (length ops ≡ suc n)
some_cells [] op e = absurd (cc)
some_cells (o ∷ ops) op e = (length ops, refl)

accessed_marks : (plan : Plan) (s : State) (op : Op) → last_op (siding_at s (port plan)) ≡ Some op → plan.stages ≤ 32 → Within plan (sites plan (port plan)) →
    with_recover plan (accessed plan s op) (marks_of plan s) (recover_stage plan (port plan)) ≡ marks_of plan (accessed plan s op)
unfolding mark_at
accessed_marks plan s op e few w =
    let k = port plan in
    let ops = siding_at s k in
    let answered : Op = record op { answer = Some (answer_of op.instr op.a op.b s.mem) } in
    let u = with_siding s k (set_last ops (Some answered)) in
    let t = accessed plan s op in
    let same : Same plan u t = rest-same plan u t refl refl in
    let n = some_cells ops op e in
    let launch = entry-launch plan s k n.0 (set_last ops (Some answered)) (launch_stage plan k) n.1 (first_kept ops op answered e) in
    ap (λ (b : Bool). record (marks_of plan s) { recover = with_bit (marks_of plan s).recover (recover_stage plan k - 1) b })
    (ap (λ (m : StageMark). m.recover) (same (recover_stage plan k)))
    ∙ recovers-only plan s k (set_last ops (Some answered)) few w launch
    ∙ marks-same plan u t same

pub access-marks : (old new : Processor) (marks : Marks) (t : Touched) → IsProcessor old.plan old.state → row_bar old.plan old.state Access ≡ None →
    new ≡ after_move old Access → marks ≡ marks_of old.plan old.state → t ≡ touched old.plan old.state Access →
    with_recover new.plan new.state marks t.high ≡ marks_of new.plan new.state
unfolding touched moved
access-marks old new marks t h free made is at =
    let w = touched-within old.plan old.state Access h free in
    rw (at, made, is) (by_op (last_op (siding_at old.state (port old.plan))) refl free w)
  where
    by_op : (o : Option Op) → last_op (siding_at old.state (port old.plan)) ≡ o → access_bar o ≡ None → Within old.plan (sites old.plan (port old.plan)) →
        with_recover old.plan (on o old.state (accessed old.plan old.state)) (marks_of old.plan old.state) (recover_stage old.plan (port old.plan))
        ≡ marks_of old.plan (on o old.state (accessed old.plan old.state))
    by_op None e row w = absurd (cc)
    by_op (Some op) e row w = accessed_marks old.plan old.state op e h.accepted.stages.1 w

-- Moves of an operation out of its siding and into it --

-- the instruction of a stage has other contents, and rests there
rested_marks : (plan : Plan) (s : State) (i : ℕ) (c : Cell) (q : Passenger) → plan.stages ≤ 32 → 0 < i → i ≤ plan.stages →
    mark_at plan (with_cell s i (with_passenger c q)) i ≡ resting (with_cell s i (with_passenger c q)) i →
    marked (marks_of plan s) i (resting (with_cell s i (with_passenger c q)) i) ≡ marks_of plan (with_cell s i (with_passenger c q))
rested_marks plan s i c q few low within rests =
    ap (marked (marks_of plan s) i) (sym rests)
    ∙ marks-one plan s (with_cell s i (with_passenger c q)) i few low within (cell-but plan s i i (with_passenger c q))

-- so has that of the stage where the siding recovers
recovered_siding : (plan : Plan) (s : State) (i k : ℕ) (c : Cell) (p : Passenger) (op : Op) → IsAccepted plan → Within plan (sites plan k) →
    cell_at s.cells i ≡ Some c → recover_stage plan k ≡ i →
    let t = with_siding (with_cell s i (with_passenger c (back_in p op.answer))) k (set_last (siding_at s k) None) in
    with_launch plan t (marked (marks_of plan s) i (resting t i)) (launch_stage plan k) ≡ marks_of plan t
unfolding mark_at
recovered_siding plan s i k c p op a w here site =
    let q = back_in p op.answer in
    let u = with_cell s i (with_passenger c q) in
    let ops = set_last (siding_at s k) None in
    let t = with_siding u k ops in
    let rides = rider_put s i c c q here in
    let before = back-rests plan u i p op.answer rides in
    let after = back-rests plan t i p op.answer rides in
    let low : 0 < i = rw (← site) w.high in
    let within : i ≤ plan.stages = rw (← site) w.high_in in
    let off : row_allows plan t (Recover i) ≡ row_allows plan u (Recover i) = ap (λ (m : StageMark). m.recover) (after ∙ sym before) in
    let still : row_allows plan t (Recover (recover_stage plan k)) ≡ row_allows plan u (Recover (recover_stage plan k)) = rw site off in
    ap (λ (m : Marks). with_launch plan t m (launch_stage plan k)) (rested_marks plan s i c q a.stages.1 low within before)
    ∙ launches-only plan u k ops a.stages.1 w still

recovered_marks : (plan : Plan) (s : State) (i : ℕ) (c : Cell) (p : Passenger) (home : Option ℕ) → IsAccepted plan →
    Within plan (on home (one_stage i) (sites plan)) → cell_at s.cells i ≡ Some c → c.passenger ≡ Some p → recover_bar plan s c i ≡ None →
    siding_of plan (kind p) ≡ home →
    let t = recovered plan s i c p in
    with_launch plan t (marked (marks_of plan s) i (resting t i)) (on home (one_stage i) (sites plan)).low ≡ marks_of plan t
recovered_marks plan s i c p None a w here rides free home = absurd (grind arith)
recovered_marks plan s i c p (Some k) a w here rides free home = by_op (last_op (siding_at s k)) refl
  where
    site : recover_stage plan k ≡ i
    site = recover_site plan s i c p k free rides home

    by_op : (o : Option Op) → last_op (siding_at s k) ≡ o →
        let t = recovered plan s i c p in
        with_launch plan t (marked (marks_of plan s) i (resting t i)) (launch_stage plan k) ≡ marks_of plan t
    by_op None e = absurd (grind arith)
    by_op (Some op) e = rw (home, e) (recovered_siding plan s i k c p op a w here site)

pub recover-marks : (old new : Processor) (marks : Marks) (i : ℕ) (t : Touched) → IsProcessor old.plan old.state →
    row_bar old.plan old.state (Recover i) ≡ None → new ≡ after_move old (Recover i) → marks ≡ marks_of old.plan old.state →
    t ≡ touched old.plan old.state (Recover i) → with_launch new.plan new.state (marked marks i (resting new.state i)) t.low ≡ marks_of new.plan new.state
unfolding touched moved
recover-marks old new marks i t h free made is at =
    let w = touched-within old.plan old.state (Recover i) h free in
    rw (at, made, is) (by_cell (cell_at old.state.cells i) refl free w)
  where
    plan : Plan
    plan = old.plan

    s : State
    s = old.state

    by_rider : (c : Cell) (o : Option Passenger) → cell_at s.cells i ≡ Some c → c.passenger ≡ o → recover_bar plan s c i ≡ None →
        Within plan (on (on o None (λ p. siding_of plan (kind p))) (one_stage i) (sites plan)) →
        let t = on o s (recovered plan s i c) in
        with_launch plan t (marked (marks_of plan s) i (resting t i)) (on (on o None (λ p. siding_of plan (kind p))) (one_stage i) (sites plan)).low
        ≡ marks_of plan t
    by_rider c None here rides row w = absurd (grind arith)
    by_rider c (Some p) here rides row w = recovered_marks plan s i c p (siding_of plan (kind p)) h.accepted w here rides row refl

    by_cell : (o : Option Cell) → cell_at s.cells i ≡ o → on o (Some NoSuchSite) (λ c. recover_bar plan s c i) ≡ None →
        Within plan (on (on (on o None (λ c. c.passenger)) None (λ p. siding_of plan (kind p))) (one_stage i) (sites plan)) →
        let t = on o s (λ c. on c.passenger s (recovered plan s i c)) in
        with_launch plan t (marked (marks_of plan s) i (resting t i))
        (on (on (on o None (λ c. c.passenger)) None (λ p. siding_of plan (kind p))) (one_stage i) (sites plan)).low ≡ marks_of plan t
    by_cell None here row w = absurd (cc)
    by_cell (Some c) here row w = by_rider c c.passenger here refl row w

-- the stage from which an operation is launched
launched_siding : (plan : Plan) (s : State) (i k : ℕ) (c : Cell) (p : Passenger) (ops : List (Option Op)) → IsAccepted plan → Within plan (sites plan k) →
    cell_at s.cells i ≡ Some c → siding_of plan (kind p) ≡ Some k → launch_stage plan k ≡ i →
    let t = with_siding (with_cell s i (with_passenger c (record p { launched = true }))) k ops in
    with_recover plan t (marked (marks_of plan s) i (resting t i)) (recover_stage plan k) ≡ marks_of plan t
unfolding mark_at
launched_siding plan s i k c p ops a w here home site =
    let q : Passenger = record p { launched = true } in
    let u = with_cell s i (with_passenger c q) in
    let t = with_siding u k ops in
    let rides = rider_put s i c c q here in
    let before = launched-rests plan u i k p a rides home site in
    let after = launched-rests plan t i k p a rides home site in
    let low : 0 < i = rw (← site) w.low in
    let within : i ≤ plan.stages = rw (← site) w.low_in in
    let off : row_allows plan t (Launch i) ≡ row_allows plan u (Launch i) = ap (λ (m : StageMark). m.launch) (after ∙ sym before) in
    let still : row_allows plan t (Launch (launch_stage plan k)) ≡ row_allows plan u (Launch (launch_stage plan k)) = rw site off in
    ap (λ (m : Marks). with_recover plan t m (recover_stage plan k)) (rested_marks plan s i c q a.stages.1 low within before)
    ∙ recovers-only plan u k ops a.stages.1 w still

-- or the one where the instruction traps instead
trapped_marks : (plan : Plan) (s : State) (i j : ℕ) (c : Cell) (p : Passenger) (end : End) → plan.stages ≤ 32 → 0 < i → i ≤ plan.stages → 0 < j →
    j ≤ plan.stages → cell_at s.cells i ≡ Some c → p.launched ≡ false →
    let t = with_cell s i (with_passenger c (trapped p end)) in
    with_recover plan t (marked (marks_of plan s) i (resting t i)) j ≡ marks_of plan t
trapped_marks plan s i j c p end few low within from to here never =
    let q = trapped p end in
    let t = with_cell s i (with_passenger c q) in
    ap (λ (m : Marks). with_recover plan t m j) (rested_marks plan s i c q few low within (trapped-rests plan t i p end never (rider_put s i c c q here)))
    ∙ recover-kept plan t j few from to

launched_marks : (plan : Plan) (s : State) (i : ℕ) (c : Cell) (p : Passenger) (home : Option ℕ) → IsAccepted plan → 0 < i → i ≤ plan.stages →
    Within plan (on home (one_stage i) (sites plan)) → cell_at s.cells i ≡ Some c → c.passenger ≡ Some p → launch_bar plan s c i ≡ None →
    siding_of plan (kind p) ≡ home →
    let t = launched plan s i c p in
    with_recover plan t (marked (marks_of plan s) i (resting t i)) (on home (one_stage i) (sites plan)).high ≡ marks_of plan t
launched_marks plan s i c p home a low within w here rides free at = by_trap home w at (launch_trap s p) refl
  where
    tests : (launches plan (kind p) i ≡ true) × (p.launched ≡ false)
    tests = launch_tests plan s i c p rides free

    by_trap : (home : Option ℕ) → Within plan (on home (one_stage i) (sites plan)) → siding_of plan (kind p) ≡ home → (o : Option End) → launch_trap s p ≡ o →
        let t = launched plan s i c p in
        with_recover plan t (marked (marks_of plan s) i (resting t i)) (on home (one_stage i) (sites plan)).high ≡ marks_of plan t
    by_trap home w at (Some end) trap =
        rw trap (trapped_marks plan s i (on home (one_stage i) (sites plan)).high c p end a.stages.1 low within w.high w.high_in here tests.1)
    by_trap None w at None trap = let from = tests.0 in absurd (grind arith)
    by_trap (Some k) w at None trap =
        let from = launch_site plan s i c p k free rides at in
        rw (trap, at) (launched_siding plan s i k c p (slice_set (siding_at s k) 0 (Some (operation p))) a w here at from)

pub launch-marks : (old new : Processor) (marks : Marks) (i : ℕ) (t : Touched) → IsProcessor old.plan old.state →
    row_bar old.plan old.state (Launch i) ≡ None → new ≡ after_move old (Launch i) → marks ≡ marks_of old.plan old.state →
    t ≡ touched old.plan old.state (Launch i) → with_recover new.plan new.state (marked marks i (resting new.state i)) t.high ≡ marks_of new.plan new.state
unfolding touched moved
launch-marks old new marks i t h free made is at =
    let w = touched-within old.plan old.state (Launch i) h free in
    rw (at, made, is) (by_cell (cell_at old.state.cells i) refl free w)
  where
    plan : Plan
    plan = old.plan

    s : State
    s = old.state

    low : 0 < i
    low = launch-low plan s i h free

    within : i ≤ plan.stages
    within = launch-high plan s i h free

    by_rider : (c : Cell) (o : Option Passenger) → cell_at s.cells i ≡ Some c → c.passenger ≡ o → launch_bar plan s c i ≡ None →
        Within plan (on (on o None (λ p. siding_of plan (kind p))) (one_stage i) (sites plan)) →
        let t = on o s (launched plan s i c) in
        with_recover plan t (marked (marks_of plan s) i (resting t i)) (on (on o None (λ p. siding_of plan (kind p))) (one_stage i) (sites plan)).high
        ≡ marks_of plan t
    by_rider c None here rides row w = absurd (grind arith)
    by_rider c (Some p) here rides row w = launched_marks plan s i c p (siding_of plan (kind p)) h.accepted low within w here rides row refl

    by_cell : (o : Option Cell) → cell_at s.cells i ≡ o → on o (Some NoSuchSite) (λ c. launch_bar plan s c i) ≡ None →
        Within plan (on (on (on o None (λ c. c.passenger)) None (λ p. siding_of plan (kind p))) (one_stage i) (sites plan)) →
        let t = on o s (λ c. on c.passenger s (launched plan s i c)) in
        with_recover plan t (marked (marks_of plan s) i (resting t i))
        (on (on (on o None (λ c. c.passenger)) None (λ p. siding_of plan (kind p))) (one_stage i) (sites plan)).high ≡ marks_of plan t
    by_cell None here row w = absurd (cc)
    by_cell (Some c) here row w = by_rider c c.passenger here refl row w

-- Moves of a result --

-- a stage with another result
packet_marks : (plan : Plan) (s : State) (j : ℕ) (d : Cell) (q : Option Packet) (met : Bool) → plan.stages ≤ 32 → cell_at s.cells j ≡ Some d → 0 < j →
    j ≤ plan.stages →
    let t = with_cell s j (record d { packet = q; met = met }) in
    with_launch plan t (marks_of plan s) j ≡ marks_of plan t
unfolding mark_at mark_by
packet_marks plan s j d q met few here low within =
    let c : Cell = record d { packet = q; met = met } in
    let t = with_cell s j c in
    let m = mark_by plan s j (Some d) in
    let put = mark_put plan s j d c here in
    let launch : (mark_by plan s j (Some c)).launch ≡ row_allows plan t (Launch j) = sym (ap (λ (m : StageMark). m.launch) put) in
    let after : mark_by plan s j (Some c) ≡ record m { launch = row_allows plan t (Launch j) } =
    λ x. record { owes = m.owes; stops = m.stops; execute = m.execute; launch = launch x; recover = m.recover } in
    let before = sym (mark_is plan s j ∙ ap (mark_by plan s j) here) in
    launch-only plan s t j (row_allows plan t (Launch j)) few low within (cell-but plan s j j c)
    (put ∙ after ∙ ap (λ (m : StageMark). record m { launch = row_allows plan t (Launch j) }) before)

-- a result comes to the stage below
pub fall-marks : (old new : Processor) (marks : Marks) (i : ℕ) → IsProcessor old.plan old.state → row_bar old.plan old.state (Fall i) ≡ None →
    new ≡ after_move old (Fall i) → marks ≡ marks_of old.plan old.state → with_launch new.plan new.state marks (i - 1) ≡ marks_of new.plan new.state
unfolding moved
fall-marks old new marks i h free made is = rw (made, is) (by_cells (cell_at old.state.cells i) (cell_at old.state.cells (i - 1)) refl refl free)
  where
    plan : Plan
    plan = old.plan

    s : State
    s = old.state

    low : 0 < i - 1
    low = fall-low plan s i h free

    within : i - 1 ≤ plan.stages
    within = fall-high plan s i h free

    by_cells : (o a : Option Cell) → cell_at s.cells i ≡ o → cell_at s.cells (i - 1) ≡ a → on o (Some NoSuchSite) (λ c. fall_bar c a) ≡ None →
        let t = on o s (λ c. on a s (fallen s i c)) in
        with_launch plan t (marks_of plan s) (i - 1) ≡ marks_of plan t
    by_cells None a e f row = absurd (cc)
    by_cells (Some c) None e f row = absurd (cc)
    by_cells (Some c) (Some d) e f row =
        let off : i - 1 ≢ i = λ g. absurd (omega (arith, g, low)) in
        let u = with_cell s i (without_packet c) in
        let t = fallen s i c d in
        let below = cell-put-other s.cells i (i - 1) (without_packet c) off ∙ f in
        ap (λ (m : Marks). with_launch plan t m (i - 1)) (marks-same plan s u (packet_gone plan s i c e (fall_tests c d row).0))
        ∙ packet_marks plan u (i - 1) d c.packet false h.accepted.stages.1 below low within

-- a result comes to the highest stage
emitted_marks : (plan : Plan) (s : State) (n : ℕ) (lane : List ℕ) (c : Cell) → plan.stages ≤ 32 → cell_at s.cells n ≡ Some c → 0 < n → n ≤ plan.stages →
    emit_bar lane c ≡ None →
    let t = emitted s n lane c in
    with_launch plan t (marks_of plan s) n ≡ marks_of plan t
unfolding mark_at
emitted_marks plan s n [] c few here low within row = absurd (cc)
emitted_marks plan s n (r ∷ lane) c few here low within row =
    let t = emitted s n (r ∷ lane) c in
    let u : State = record t { lane = s.lane } in
    let same : Same plan u t = rest-same plan u t refl refl in
    ap (λ (b : Bool). record (marks_of plan s) { launch = with_bit (marks_of plan s).launch (n - 1) b }) (ap (λ (m : StageMark). m.launch) (same n))
    ∙ packet_marks plan s n c (Some (Value r (slice_index s.regs r))) false few here low within
    ∙ marks-same plan u t same

pub emit-marks : (old new : Processor) (marks : Marks) (top : ℕ) → IsProcessor old.plan old.state → row_bar old.plan old.state Emit ≡ None →
    new ≡ after_move old Emit → marks ≡ marks_of old.plan old.state → top ≡ old.plan.stages →
    with_launch new.plan new.state marks top ≡ marks_of new.plan new.state
unfolding moved touched
emit-marks old new marks top h free made is at =
    let w = touched-within old.plan old.state Emit h free in
    rw (at, made, is) (by_cell (cell_at old.state.cells old.plan.stages) refl free w)
  where
    n : ℕ
    n = old.plan.stages

    by_cell : (o : Option Cell) → cell_at old.state.cells n ≡ o → on o (Some NoSuchSite) (emit_bar old.state.lane) ≡ None → Within old.plan (one_stage n) →
        let t = on o old.state (emitted old.state n old.state.lane) in
        with_launch old.plan t (marks_of old.plan old.state) n ≡ marks_of old.plan t
    by_cell None here row w = absurd (cc)
    by_cell (Some c) here row w = emitted_marks old.plan old.state n old.state.lane c h.accepted.stages.1 here w.low w.low_in row
