-- The moves that leave what holds of each stage as it is: those of an instruction that is spent, meetings that leave
-- the instruction as it was, and those of a result.
use Rattle.std.proofs.Common.{◌≡◌, ◌≢◌, ◌∙◌, ℕ, suc, ◌+◌, ◌-◌, ◌<◌, ◌≤◌, List, [], ◌∷◌, Option, Some, None, Bool, true, false, refl, sym, ap, subst, arith}
use Rattle.std.specs.Prelude.{◌&&◌, ◌||◌, ◌==◌, not, if◌then◌else◌}
use Rattle.cf_bind.specs.declared.binding.Binding.{Binding}
use Rattle.cf_bind.specs.declared.cell.Cell.{Cell}
use Rattle.cf_bind.specs.declared.moves.Bar.{Bar}
use Rattle.cf_bind.specs.declared.moves.Bar.TheVariants.{AlreadyDone, Dead, NoPassenger, NoPacket, NoSuchSite, NotDone, NotMet, NoUnit, Occupied, Owes}
use Rattle.cf_bind.specs.declared.moves.Move.{Move}
use Rattle.cf_bind.specs.declared.moves.Move.TheVariants.{Issue, Emit, Climb, Fall, Meet, Execute, Send, Launch, Slide, Access, Recover, Leave, Exit, Serve}
use Rattle.cf_bind.specs.declared.packet.Packet.{Packet}
use Rattle.cf_bind.specs.declared.packet.Packet.TheVariants.{Value, Turn, Halt}
use Rattle.cf_bind.specs.declared.passenger.End.{End}
use Rattle.cf_bind.specs.declared.passenger.Passenger.{Passenger}
use Rattle.cf_bind.specs.Meeting.{Met, garnered, meeting, or_value, packet_met, passenger_met}
use Rattle.cf_layout.specs.Layout.{Plan}
use Rattle.cf_layout.specs.Words.{has_bit}
use Rattle.cf_semantics.specs.moves.Bars.{climb_bar, emit_bar, entry_bar, exit_bar, fall_bar, first, first_bar_of, is_full, launch_bar, leave_bar, row_bar, source_bar, stops_at}
use Rattle.cf_semantics.specs.moves.Instructions.{is_memory}
use Rattle.cf_semantics.specs.state.Layouts.{ends_units, launches, recovers}
use Rattle.cf_semantics.specs.moves.Moves.{cell_met, climbed, emitted, exited, fallen, left, left_live, moved, without_packet, without_passenger}
use Rattle.cf_semantics.specs.state.Options.{on, is_some}
use Rattle.cf_semantics.specs.state.Passengers.{kind}
use Rattle.cf_semantics.specs.state.State.{State, cell_at, with_cell}
use Rattle.cf_stages.specs.Changes.{passenger_at}
use Rattle.cf_stages.proofs.Bits.{word-bit}
use Rattle.cf_stages.proofs.Parts.{cell-put, cell-put-other, stage-high, stage-low}
use Rattle.cf_core.specs.Marks.{row_allows, keeps_marks, mark_at, marks_of, no_mark, passes_by, waits_on}
use Rattle.cf_core.specs.Masks.{rides, stops_there}
use Rattle.cf_core.specs.Riders.{awaits, is_idle, is_out, is_passed_by, is_spent, is_undone}
use Rattle.cf_core.specs.declared.marks.Marks.{Marks}
use Rattle.cf_core.proofs.Rides.{mark-idle, mark-none}
use Rattle.cf_core.proofs.Lacking.{waiting-keeps}
use Rattle.cf_core.proofs.SameMarks.{cell-but, mark_by, rest-same}
use Rattle.cf_core.proofs.SameStages.{Same, both, one_stage, put_same, unchanged}

-- Moves of a result --

-- the row of Launch for an instruction, whether or not it has still to meet a result
abbrev pub entry_row : Plan → State → Bool → ℕ → Passenger → Option Bar
entry_row plan s full i p = first_bar_of (
    (p.dead, Dead) ∷
    (p.done || p.launched, AlreadyDone) ∷
    (not (launches plan (kind p) i), NoUnit) ∷
    (is_memory (kind p) && full, NotMet) ∷ []) (source_bar p (entry_bar plan s p))

-- another result changes at most whether an operation can be launched
packet_mark : (plan : Plan) (s : State) (i : ℕ) (c : Cell) (q : Option Packet) (met : Bool) →
    not (is_some (launch_bar plan s (record c { packet = q; met = met }) i)) ≡ not (is_some (launch_bar plan s c i)) →
    mark_by plan s i (Some (record c { packet = q; met = met })) ≡ mark_by plan s i (Some c)
unfolding mark_by
packet_mark plan s i c q met launch =
    let m = mark_by plan s i (Some c) in
    λ x. record { owes = m.owes; stops = m.stops; execute = m.execute; launch = launch x; recover = m.recover }

-- if both stages are full, or both are not, it does not change
as_full : (plan : Plan) (s : State) (i : ℕ) (o : Option Passenger) (f g : Bool) → f ≡ g →
    not (is_some (on o (Some NoPassenger) (entry_row plan s f i))) ≡ not (is_some (on o (Some NoPassenger) (entry_row plan s g i)))
as_full plan s i o f g e = ap (λ (b : Bool). not (is_some (on o (Some NoPassenger) (entry_row plan s b i)))) e

gone_full : (c : Cell) → is_full c ≡ false → is_full (without_packet c) ≡ is_full c
gone_full c e = grind arith

pub packet_gone : (plan : Plan) (s : State) (i : ℕ) (c : Cell) → cell_at s.cells i ≡ Some c → is_full c ≡ false → Same plan s (with_cell s i (without_packet c))
packet_gone plan s i c here clear =
    put_same plan s i c (without_packet c) here (packet_mark plan s i c None false (as_full plan s i c.passenger (is_full (without_packet c)) (is_full c)
    (gone_full c clear)))

-- nor does it change if no operation can be launched
still_barred : (dead done site memory full : Bool) (rest : Option Bar) →
    not (is_some (first dead Dead (first done AlreadyDone (first (not site) NoUnit (first (memory && false) NotMet rest))))) ≡ false →
    not (is_some (first dead Dead (first done AlreadyDone (first (not site) NoUnit (first (memory && full) NotMet rest))))) ≡ false
still_barred true done site memory full rest e = refl
still_barred false true site memory full rest e = refl
still_barred false false false memory full rest e = refl
still_barred false false true true true rest e = refl
still_barred false false true true false rest e = e
still_barred false false true false full rest e = e

rider_barred : (plan : Plan) (s : State) (i : ℕ) (o : Option Passenger) (full : Bool) →
    not (is_some (on o (Some NoPassenger) (entry_row plan s false i))) ≡ false → not (is_some (on o (Some NoPassenger) (entry_row plan s full i))) ≡ false
rider_barred plan s i None full e = refl
rider_barred plan s i (Some p) full e = still_barred p.dead (p.done || p.launched) (launches plan (kind p) i) (is_memory (kind p)) full
    (source_bar p (entry_bar plan s p)) e

no_packet : (c : Cell) → is_some c.packet ≡ false → is_full c ≡ false
no_packet c e = grind arith

packet_comes : (plan : Plan) (s : State) (i : ℕ) (c : Cell) (q : Option Packet) → cell_at s.cells i ≡ Some c → is_some c.packet ≡ false →
    not (is_some (launch_bar plan s c i)) ≡ false →
    Same plan s (with_cell s i (record c { packet = q; met = false }))
packet_comes plan s i c q here none barred =
    let clear = no_packet c none in
    let before : not (is_some (on c.passenger (Some NoPassenger) (entry_row plan s false i))) ≡ false =
    as_full plan s i c.passenger false (is_full c) (sym clear) ∙ barred in
    let after = rider_barred plan s i c.passenger (is_full (record c { packet = q; met = false })) before in
    put_same plan s i c (record c { packet = q; met = false }) here (packet_mark plan s i c q false (after ∙ sym barred))

unset : (b : Bool) → not b ≡ true → b ≡ false
unset true e = absurd (cc)
unset false e = refl

pub fall_tests : (c d : Cell) → fall_bar c (Some d) ≡ None → (is_full c ≡ false) × (is_some d.packet ≡ false)
fall_tests c d e = tests (is_some c.packet) (is_full c) (is_some d.packet) e
  where
    tests : (k f o : Bool) → first (not k) NoPacket (first f NotMet (first o Occupied None)) ≡ None → (f ≡ false) × (o ≡ false)
    tests false f o g = absurd (cc)
    tests true true o g = absurd (cc)
    tests true false true g = absurd (cc)
    tests true false false g = (refl, refl)

fall_keeps : (plan : Plan) (s : State) (i : ℕ) → row_bar plan s (Fall i) ≡ None → row_allows plan s (Launch (i - 1)) ≡ false →
    Same plan s (moved plan s (Fall i))
unfolding moved
fall_keeps plan s i free barred = by_cells (cell_at s.cells i) (cell_at s.cells (i - 1)) refl refl free barred
  where
    by_cells : (o a : Option Cell) → cell_at s.cells i ≡ o → cell_at s.cells (i - 1) ≡ a → on o (Some NoSuchSite) (λ c. fall_bar c a) ≡ None →
        not (is_some (on a (Some NoSuchSite) (λ d. launch_bar plan s d (i - 1)))) ≡ false → Same plan s (on o s (λ c. on a s (fallen s i c)))
    by_cells None a e f row bars = unchanged plan s
    by_cells (Some c) None e f row bars = unchanged plan s
    by_cells (Some c) (Some d) e f row bars =
        let tests = fall_tests c d row in
        let low = stage-low s.cells i c e in
        let off : i - 1 ≢ i = λ g. absurd (omega (arith, g, low)) in
        let t = with_cell s i (without_packet c) in
        both plan s t (fallen s i c d) (packet_gone plan s i c e tests.0) (packet_comes plan t (i - 1) d c.packet
        (cell-put-other s.cells i (i - 1) (without_packet c) off ∙ f) tests.1 bars)

emit_tests : (r : ℕ) (lane : List ℕ) (c : Cell) → emit_bar (r ∷ lane) c ≡ None → is_some c.packet ≡ false
emit_tests r lane c e = tests (is_some c.packet) e
  where
    tests : (o : Bool) → first o Occupied None ≡ None → o ≡ false
    tests true g = absurd (cc)
    tests false g = refl

emit_keeps : (plan : Plan) (s : State) → row_bar plan s Emit ≡ None → row_allows plan s (Launch plan.stages) ≡ false → Same plan s (moved plan s Emit)
unfolding moved
emit_keeps plan s free barred = by_cell (cell_at s.cells plan.stages) s.lane refl free barred
  where
    n : ℕ
    n = plan.stages

    by_cell : (o : Option Cell) (lane : List ℕ) → cell_at s.cells n ≡ o → on o (Some NoSuchSite) (emit_bar lane) ≡ None →
        not (is_some (on o (Some NoSuchSite) (λ c. launch_bar plan s c n))) ≡ false → Same plan s (on o s (emitted s n lane))
    by_cell None lane e row bars = unchanged plan s
    by_cell (Some c) [] e row bars = unchanged plan s
    by_cell (Some c) (r ∷ lane) e row bars =
        let t = emitted s n (r ∷ lane) c in
        both plan s (record t { lane = s.lane }) t (packet_comes plan s n c _ e (emit_tests r lane c row) bars)
        (rest-same plan (record t { lane = s.lane }) t refl refl)

exit_tests : (c : Cell) → exit_bar c ≡ None → is_full c ≡ false
exit_tests c e = tests (is_some c.packet) (is_full c) e
  where
    tests : (k f : Bool) → first (not k) NoPacket (first f NotMet None) ≡ None → f ≡ false
    tests false f g = absurd (cc)
    tests true true g = absurd (cc)
    tests true false g = refl

exit_keeps : (plan : Plan) (s : State) → row_bar plan s Exit ≡ None → Same plan s (moved plan s Exit)
unfolding moved
exit_keeps plan s free = by_cell (cell_at s.cells 1) refl free
  where
    by_packet : (c : Cell) (o : Option Packet) → c.packet ≡ o → Same plan s (with_cell s 1 (without_packet c)) → Same plan s (exited plan s c)
    by_packet c None e same = rw e (unchanged plan s)
    by_packet c (Some k) e same = rw e (both plan s (with_cell s 1 (without_packet c)) _ same (rest-same plan (with_cell s 1 (without_packet c)) _ refl refl))

    by_cell : (o : Option Cell) → cell_at s.cells 1 ≡ o → on o (Some NoSuchSite) exit_bar ≡ None → Same plan s (on o s (exited plan s))
    by_cell None e row = unchanged plan s
    by_cell (Some c) e row = by_packet c c.packet refl (packet_gone plan s 1 c e (exit_tests c row))

-- Moves of an instruction that is spent --

spent_parts : (idle owes : Bool) → (idle && not owes) ≡ true → (idle ≡ true) × (owes ≡ false)
spent_parts true false e = (refl, refl)
spent_parts true true e = absurd (cc)
spent_parts false owes e = absurd (cc)

-- there is no instruction, or one that is spent
abbrev is_blank : Option Passenger → Bool
is_blank o = on o true is_spent

blank_mark : (plan : Plan) (s : State) (i : ℕ) (o : Option Passenger) → passenger_at s.cells i ≡ o → is_blank o ≡ true → mark_at plan s i ≡ no_mark
blank_mark plan s i None e blank = sym (mark-none plan s i e)
blank_mark plan s i (Some p) e blank =
    let parts = spent_parts (is_idle p) (is_some p.owes) blank in
    sym (mark-idle plan s i p e parts.0) ∙ ap (λ (b : Bool). record no_mark { owes = b }) parts.1

blank_same : (plan : Plan) (s : State) (i : ℕ) (b c : Cell) → cell_at s.cells i ≡ Some b → is_blank b.passenger ≡ true → is_blank c.passenger ≡ true →
    Same plan s (with_cell s i c)
blank_same plan s i b c here before after =
    let there = cell-put s.cells i c (stage-low s.cells i b here) (stage-high s.cells i b here) in
    let riders = λ (o : Option Cell). on o None (λ (d : Cell). d.passenger) in
    one_stage plan s (with_cell s i c) i (cell-but plan s i i c) (
    blank_mark plan (with_cell s i c) i c.passenger (ap riders there) after
    ∙ sym (blank_mark plan s i b.passenger (ap riders here) before))

climb_tests : (plan : Plan) (c d : Cell) (i : ℕ) (p : Passenger) → c.passenger ≡ Some p → climb_bar plan c i (Some d) ≡ None → d.passenger ≡ None
climb_tests plan c d i p e free = grind arith

-- an instruction that is spent goes to another stage
pub lift-keeps : (plan : Plan) (s : State) (i j : ℕ) (c d : Cell) (p : Passenger) → j ≢ i → cell_at s.cells i ≡ Some c → cell_at s.cells j ≡ Some d →
    c.passenger ≡ Some p → d.passenger ≡ None → is_spent p ≡ true →
    Same plan s (with_cell (with_cell s i (without_passenger c)) j (record d { passenger = c.passenger; met = false }))
lift-keeps plan s i j c d p off e f rides room spent =
    let t = with_cell s i (without_passenger c) in
    let to : Cell = record d { passenger = c.passenger; met = false } in
    let first = blank_same plan s i c (without_passenger c) e (rw rides spent) refl in
    let free : is_blank d.passenger ≡ true = rw room refl in
    let second = blank_same plan t j d to (cell-put-other s.cells i j (without_passenger c) off ∙ f) free (rw rides spent) in
    both plan s t (with_cell t j to) first second

climb_keeps : (plan : Plan) (s : State) (i : ℕ) → row_bar plan s (Climb i) ≡ None → on (cell_at s.cells i) false (λ c. on c.passenger false is_spent) ≡ true →
    Same plan s (moved plan s (Climb i))
unfolding moved
climb_keeps plan s i free spent = by_cells (cell_at s.cells i) (cell_at s.cells (i + 1)) refl refl free spent
  where
    by_rider : (c d : Cell) (o : Option Passenger) → cell_at s.cells i ≡ Some c → cell_at s.cells (i + 1) ≡ Some d → c.passenger ≡ o →
        climb_bar plan c i (Some d) ≡ None → on o false is_spent ≡ true → Same plan s (climbed s i c d)
    by_rider c d None e f rides row spent = absurd (cc)
    by_rider c d (Some p) e f rides row spent =
        let off : i + 1 ≢ i = λ g. absurd (omega (arith, g)) in
        lift-keeps plan s i (i + 1) c d p off e f rides (climb_tests plan c d i p rides row) spent

    by_cells : (o a : Option Cell) → cell_at s.cells i ≡ o → cell_at s.cells (i + 1) ≡ a → on o (Some NoSuchSite) (λ c. climb_bar plan c i a) ≡ None →
        on o false (λ c. on c.passenger false is_spent) ≡ true → Same plan s (on o s (λ c. on a s (climbed s i c)))
    by_cells None a e f row spent = unchanged plan s
    by_cells (Some c) None e f row spent = unchanged plan s
    by_cells (Some c) (Some d) e f row spent = by_rider c d c.passenger e f refl row spent

-- an instruction that is spent is still spent after a meeting
cancelled_spent : (dead done out owes : Bool) → ((not (not dead && not done) && not out) && not owes) ≡ true →
    ((not (not true && not done) && not out) && not false) ≡ true
cancelled_spent dead done out owes e = grind arith

abbrev IsSpentIn : Met → Type 0
IsSpentIn m = is_spent m.passenger ≡ true

met_spent : (p : Passenger) (k : Packet) → is_spent p ≡ true → is_spent (meeting p k).passenger ≡ true
unfolding meeting
met_spent p k spent = by_dead p.dead
  where
    by_packet : (k : Packet) → is_spent (passenger_met k p) ≡ true
    by_packet (Value r v) = spent
    by_packet (Turn pc) = cancelled_spent p.dead p.done (is_out p) (is_some p.owes) spent
    by_packet Halt = cancelled_spent p.dead p.done (is_out p) (is_some p.owes) spent

    by_dead : (dead : Bool) → IsSpentIn (if dead then record { passenger = p; packet = Some k } else
        record { passenger = passenger_met k p; packet = packet_met k p })
    by_dead true = spent
    by_dead false = by_packet k

meet_keeps : (plan : Plan) (s : State) (i : ℕ) → on (cell_at s.cells i) false (λ c. on c.passenger false is_spent) ≡ true → Same plan s (moved plan s (Meet i))
unfolding moved
meet_keeps plan s i spent = by_cell (cell_at s.cells i) refl spent
  where
    by_packet : (c : Cell) (p : Passenger) (o : Option Packet) → cell_at s.cells i ≡ Some c → c.passenger ≡ Some p → is_spent p ≡ true →
        Same plan s (on o s (λ k. with_cell s i (cell_met c p k)))
    by_packet c p None e rides spent = unchanged plan s
    by_packet c p (Some k) e rides spent = blank_same plan s i c (cell_met c p k) e (rw rides spent) (met_spent p k spent)

    by_rider : (c : Cell) (o : Option Passenger) → cell_at s.cells i ≡ Some c → c.passenger ≡ o → on o false is_spent ≡ true →
        Same plan s (on o s (λ p. on c.packet s (λ k. with_cell s i (cell_met c p k))))
    by_rider c None e rides spent = unchanged plan s
    by_rider c (Some p) e rides spent = by_packet c p c.packet e rides spent

    by_cell : (o : Option Cell) → cell_at s.cells i ≡ o → on o false (λ c. on c.passenger false is_spent) ≡ true →
        Same plan s (on o s (λ c. on c.passenger s (λ p. on c.packet s (λ k. with_cell s i (cell_met c p k)))))
    by_cell None e spent = unchanged plan s
    by_cell (Some c) e spent = by_rider c c.passenger e refl spent

-- Meetings that leave the instruction as it was --

kept_value : (same : Bool) (w : Option ℕ) (v : ℕ) → (not (is_some w) && same) ≡ false → (if same then or_value w v else w) ≡ w
kept_value true None v e = absurd (cc)
kept_value true (Some x) v e = refl
kept_value false None v e = refl
kept_value false (Some x) v e = refl

kept_source : (r v : ℕ) (o : Option Binding) → awaits r o ≡ false → garnered r v o ≡ o
kept_source r v None e = refl
kept_source r v (Some b) e = ap (λ (w : Option ℕ). Some (record b { value = w })) (kept_value (b.reg == r) b.value v e)

neither : (a b : Bool) → (not a && not b) ≡ true → (a ≡ false) × (b ≡ false)
neither true b e = absurd (cc)
neither false true e = absurd (cc)
neither false false e = (refl, refl)

abbrev KeepsRider : Passenger → Met → Type 0
KeepsRider p m = m.passenger ≡ p

met_passing : (p : Passenger) (k : Packet) → is_passed_by p k ≡ true → (meeting p k).passenger ≡ p
unfolding meeting
met_passing p (Turn pc) passed = absurd (cc)
met_passing p Halt passed = absurd (cc)
met_passing p (Value r v) passed = by_dead p.dead
  where
    garners : record p { src1 = garnered r v p.src1; src2 = garnered r v p.src2 } ≡ p
    garners =
        let none = neither (awaits r p.src1) (awaits r p.src2) passed in
        ap (λ (o : Option Binding). record p { src1 = o; src2 = garnered r v p.src2 }) (kept_source r v p.src1 none.0)
        ∙ ap (λ (o : Option Binding). record p { src2 = o }) (kept_source r v p.src2 none.1)

    by_dead : (dead : Bool) → KeepsRider p (if dead then record { passenger = p; packet = Some (Value r v) } else
        record { passenger = passenger_met (Value r v) p; packet = packet_met (Value r v) p })
    by_dead true = refl
    by_dead false = garners

-- an instruction that does not stop there cannot be launched there
unlaunched : (dead done launched out ends site memory full : Bool) (rest : Option Bar) → (out || (not dead && not done && not launched && (ends || site)))
    ≡ false →
    not (is_some (first_bar_of ((dead, Dead) ∷ (done || launched, AlreadyDone) ∷ (not site, NoUnit) ∷ (memory && full, NotMet) ∷ []) rest)) ≡ false
unlaunched true done launched out ends site memory full rest e = refl
unlaunched false true launched out ends site memory full rest e = refl
unlaunched false false true out ends site memory full rest e = refl
unlaunched false false false out ends false memory full rest e = refl
unlaunched false false false true ends true memory full rest e = absurd (cc)
unlaunched false false false false true true memory full rest e = absurd (cc)
unlaunched false false false false false true memory full rest e = absurd (cc)

pub rider-unlaunched : (plan : Plan) (s : State) (i : ℕ) (p : Passenger) (full : Bool) → stops_at plan p i ≡ false →
    not (is_some (entry_row plan s full i p)) ≡ false
rider-unlaunched plan s i p full stays =
    unlaunched p.dead p.done p.launched (p.launched && not p.recovered && recovers plan (kind p) i) (ends_units plan (kind p) i) (launches plan (kind p) i)
    (is_memory (kind p)) full (source_bar p (entry_bar plan s p)) stays

passing_keeps : (plan : Plan) (s : State) (i : ℕ) → stops_there plan s i ≡ false → passes_by s i ≡ true → Same plan s (moved plan s (Meet i))
unfolding moved
passing_keeps plan s i stays passed = by_cell (cell_at s.cells i) refl stays passed
  where
    by_packet : (c : Cell) (p : Passenger) (o : Option Packet) → cell_at s.cells i ≡ Some c → c.passenger ≡ Some p → stops_at plan p i ≡ false →
        on o false (is_passed_by p) ≡ true →
        Same plan s (on o s (λ k. with_cell s i (cell_met c p k)))
    by_packet c p None e rides stays passed = unchanged plan s
    by_packet c p (Some k) e rides stays passed =
        let m = meeting p k in
        let other : Cell = record c { packet = m.packet; met = is_some m.packet } in
        let is : cell_met c p k ≡ other = ap (λ (o : Option Passenger). record other { passenger = o }) (ap Some (met_passing p k passed) ∙ sym rides) in
        let before = riding (is_full c) c.passenger rides in
        let after = riding (is_full other) c.passenger rides in
        subst (λ (d : Cell). Same plan s (with_cell s i d)) (sym is) (put_same plan s i c other e
        (packet_mark plan s i c m.packet (is_some m.packet) (after ∙ sym before)))
      where
        riding : (full : Bool) (o : Option Passenger) → o ≡ Some p → not (is_some (on o (Some NoPassenger) (entry_row plan s full i))) ≡ false
        riding full o is = rw is (rider-unlaunched plan s i p full stays)

    by_rider : (c : Cell) (o : Option Passenger) → cell_at s.cells i ≡ Some c → c.passenger ≡ o → on o false (λ p. stops_at plan p i) ≡ false →
        on o false (λ p. on c.packet false (is_passed_by p)) ≡ true →
        Same plan s (on o s (λ p. on c.packet s (λ k. with_cell s i (cell_met c p k))))
    by_rider c None e rides stays passed = unchanged plan s
    by_rider c (Some p) e rides stays passed = by_packet c p c.packet e rides stays passed

    by_cell : (o : Option Cell) → cell_at s.cells i ≡ o → on o false (λ c. on c.passenger false (λ p. stops_at plan p i)) ≡ false →
        on (on o None (λ c. c.passenger)) false (λ p. on (on o None (λ c. c.packet)) false (is_passed_by p)) ≡ true →
        Same plan s (on o s (λ c. on c.passenger s (λ p. on c.packet s (λ k. with_cell s i (cell_met c p k)))))
    by_cell None e stays passed = unchanged plan s
    by_cell (Some c) e stays passed = by_rider c c.passenger e refl stays passed

meeting_keeps : (plan : Plan) (s : State) (i : ℕ) (spent waits passes stops : Bool) → rides s i is_spent ≡ spent → waits_on s i ≡ waits →
    passes_by s i ≡ passes → stops_there plan s i ≡ stops → (spent || (waits || (passes && not stops))) ≡ true → Same plan s (moved plan s (Meet i))
meeting_keeps plan s i true waits passes stops e f g h keeps = meet_keeps plan s i e
meeting_keeps plan s i false true passes stops e f g h keeps = waiting-keeps plan s i f
meeting_keeps plan s i false false false stops e f g h keeps = absurd (cc)
meeting_keeps plan s i false false true true e f g h keeps = absurd (cc)
meeting_keeps plan s i false false true false e f g h keeps = passing_keeps plan s i h g

-- an instruction that leaves is spent
leave_spent : (c : Cell) (p : Passenger) → c.passenger ≡ Some p → leave_bar c ≡ None → is_spent p ≡ true
leave_spent c p rides free = tests (is_some c.packet && not c.met) (is_some p.owes) (is_undone p) (is_out p) (rw rides at free)
  where
    tests : (full owes undone out : Bool) → first full NotMet (first owes Owes (first (undone || out) NotDone None)) ≡ None →
        ((not undone && not out) && not owes) ≡ true
    tests true owes undone out g = absurd (cc)
    tests false true undone out g = absurd (cc)
    tests false false true out g = absurd (cc)
    tests false false false true g = absurd (cc)
    tests false false false false g = refl

leave_keeps : (plan : Plan) (s : State) → row_bar plan s Leave ≡ None → Same plan s (moved plan s Leave)
unfolding moved
leave_keeps plan s free = by_cell (cell_at s.cells plan.stages) refl free
  where
    n : ℕ
    n = plan.stages

    by_ending : (t : State) (p : Passenger) (o : Option End) → p.ending ≡ o → Same plan t (left_live t p)
    by_ending t p None e = rw e (rest-same plan t _ refl refl)
    by_ending t p (Some end) e = rw e (rest-same plan t _ refl refl)

    by_dead : (t : State) (p : Passenger) (dead : Bool) → Same plan t (if dead then t else left_live t p)
    by_dead t p true = unchanged plan t
    by_dead t p false = by_ending t p p.ending refl

    by_rider : (c : Cell) (o : Option Passenger) → cell_at s.cells n ≡ Some c → c.passenger ≡ o → leave_bar c ≡ None → Same plan s (on o s (left s n c))
    by_rider c None e rides row = unchanged plan s
    by_rider c (Some p) e rides row =
        let t = with_cell s n (without_passenger c) in
        both plan s t (left s n c p) (blank_same plan s n c (without_passenger c) e (rw rides (leave_spent c p rides row)) refl) (by_dead t p p.dead)

    by_cell : (o : Option Cell) → cell_at s.cells n ≡ o → on o (Some NoSuchSite) leave_bar ≡ None → Same plan s (on o s (λ c. on c.passenger s (left s n c)))
    by_cell None e row = unchanged plan s
    by_cell (Some c) e row = by_rider c c.passenger e refl row

-- so each of these moves leaves all marks as they are
pub moved-same : (plan : Plan) (s : State) (mv : Move) → row_bar plan s mv ≡ None → keeps_marks plan s mv ≡ true → Same plan s (moved plan s mv)
unfolding keeps_marks
moved-same plan s (Climb i) free keeps = climb_keeps plan s i free keeps
moved-same plan s (Meet i) free keeps = meeting_keeps plan s i (rides s i is_spent) (waits_on s i) (passes_by s i) (stops_there plan s i)
    refl refl refl refl keeps
moved-same plan s (Fall i) free keeps = fall_keeps plan s i free (unset (row_allows plan s (Launch (i - 1))) keeps)
moved-same plan s Emit free keeps = emit_keeps plan s free (unset (row_allows plan s (Launch plan.stages)) keeps)
moved-same plan s Leave free keeps = leave_keeps plan s free
moved-same plan s Exit free keeps = exit_keeps plan s free
moved-same plan s (Issue g) free keeps = absurd (cc)
moved-same plan s (Execute i) free keeps = absurd (cc)
moved-same plan s (Send i) free keeps = absurd (cc)
moved-same plan s (Launch i) free keeps = absurd (cc)
moved-same plan s (Slide k c) free keeps = absurd (cc)
moved-same plan s Access free keeps = absurd (cc)
moved-same plan s (Recover i) free keeps = absurd (cc)
moved-same plan s Serve free keeps = absurd (cc)

-- the bit of a stage says whether an operation can be launched there
pub launch-bit : (plan : Plan) (s : State) (marks : Marks) (i : ℕ) → marks ≡ marks_of plan s → 0 < i → i ≤ plan.stages →
    has_bit marks.launch (i - 1) ≡ row_allows plan s (Launch i)
unfolding marks_of mark_at
launch-bit plan s marks i is low within =
    let bit = word-bit (λ k. (mark_at plan s k).launch) plan.stages (i - 1) (omega (arith, low, within)) in
    let z : suc (i - 1) ≡ i = omega (arith, low) in
    rw is (bit ∙ ap (λ (n : ℕ). (mark_at plan s n).launch) z)

-- and whether the instruction stops there
pub stop-bit : (plan : Plan) (s : State) (marks : Marks) (i : ℕ) → marks ≡ marks_of plan s → 0 < i → i ≤ plan.stages →
    has_bit marks.stops (i - 1) ≡ stops_there plan s i
unfolding marks_of mark_at
stop-bit plan s marks i is low within =
    let bit = word-bit (λ k. (mark_at plan s k).stops) plan.stages (i - 1) (omega (arith, low, within)) in
    let z : suc (i - 1) ≡ i = omega (arith, low) in
    rw is (bit ∙ ap (λ (n : ℕ). (mark_at plan s n).stops) z)

pub ruleset launch_bits = (launch-bit)

pub ruleset stop_bits = (stop-bit)
