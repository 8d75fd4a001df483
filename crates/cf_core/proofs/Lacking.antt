-- A meeting after which the instruction still waits for the value of a source: it could be neither executed nor
-- launched, and still cannot.
use Rattle.std.proofs.Common.{◌≡◌, ◌∙◌, ℕ, Option, Some, None, Bool, true, false, refl, sym, ap}
use Rattle.std.specs.Prelude.{◌&&◌, ◌||◌, ◌==◌, not, if◌then◌else◌}
use Rattle.cf_bind.specs.declared.binding.Binding.{Binding}
use Rattle.cf_bind.specs.declared.cell.Cell.{Cell}
use Rattle.cf_bind.specs.declared.moves.Bar.{Bar}
use Rattle.cf_bind.specs.declared.moves.Bar.TheVariants.{AlreadyDone, Dead, NotMet, NoUnit, SourceMissing}
use Rattle.cf_bind.specs.declared.moves.Move.TheVariants.{Meet}
use Rattle.cf_bind.specs.declared.packet.Packet.{Packet}
use Rattle.cf_bind.specs.declared.packet.Packet.TheVariants.{Value, Turn, Halt}
use Rattle.cf_bind.specs.declared.passenger.Passenger.{Passenger}
use Rattle.cf_bind.specs.Meeting.{Met, garnered, meeting, or_value, packet_met, passenger_met}
use Rattle.cf_layout.specs.Layout.{Plan, unit_at}
use Rattle.cf_semantics.specs.moves.Bars.{entry_bar, execute_bar, first, is_full, launch_bar, source_bar}
use Rattle.cf_semantics.specs.moves.Instructions.{is_memory}
use Rattle.cf_semantics.specs.moves.Moves.{cell_met, moved}
use Rattle.cf_semantics.specs.state.Layouts.{launches}
use Rattle.cf_semantics.specs.state.Options.{on, is_some}
use Rattle.cf_semantics.specs.state.Passengers.{kind, missing, unknown}
use Rattle.cf_semantics.specs.state.State.{State, cell_at, with_cell}
use Rattle.cf_core.specs.Marks.{waits_on}
use Rattle.cf_core.specs.Riders.{is_left_waiting, lacks}
use Rattle.cf_core.proofs.SameMarks.{mark_by}
use Rattle.cf_core.proofs.SameStages.{Same, put_same, unchanged}

-- a source that is not given its value has none before and after
still_unknown : (same : Bool) (w : Option ℕ) (r v : ℕ) → (not (is_some w) && not same) ≡ true →
    (is_some (unknown r w) ≡ true) × (is_some (unknown r (if same then or_value w v else w)) ≡ true)
still_unknown true None r v e = absurd (cc)
still_unknown true (Some x) r v e = absurd (cc)
still_unknown false None r v e = (refl, refl)
still_unknown false (Some x) r v e = absurd (cc)

still_missing : (r v : ℕ) (o : Option Binding) → lacks r o ≡ true → (is_some (missing o) ≡ true) × (is_some (missing (garnered r v o)) ≡ true)
still_missing r v None e = absurd (cc)
still_missing r v (Some b) e = still_unknown (b.reg == r) b.value b.reg v e

-- one of two sources has no value
abbrev IsLacking : Option Binding → Option Binding → Type 0
IsLacking a b = is_some (on (missing a) (missing b) Some) ≡ true

one_of : (x y : Option ℕ) → (is_some x || is_some y) ≡ true → is_some (on x y Some) ≡ true
one_of None y e = e
one_of (Some r) y e = refl

first_lacks : (x : Option ℕ) (y : Bool) → is_some x ≡ true → (is_some x || y) ≡ true
first_lacks None y e = absurd (cc)
first_lacks (Some r) y e = refl

second_lacks : (x : Bool) (y : Option ℕ) → is_some y ≡ true → (x || is_some y) ≡ true
second_lacks true y e = refl
second_lacks false y e = e

both_lack : (r v : ℕ) (a b : Option Binding) (one two : Bool) → lacks r a ≡ one → lacks r b ≡ two → (one || two) ≡ true →
    IsLacking a b × IsLacking (garnered r v a) (garnered r v b)
both_lack r v a b true two e f g =
    let h = still_missing r v a e in (
      one_of (missing a) (missing b) (first_lacks (missing a) (is_some (missing b)) h.0),
      one_of (missing (garnered r v a)) (missing (garnered r v b)) (first_lacks (missing (garnered r v a)) (is_some (missing (garnered r v b))) h.1),
    )
both_lack r v a b false true e f g =
    let h = still_missing r v b f in (
      one_of (missing a) (missing b) (second_lacks (is_some (missing a)) (missing b) h.0),
      one_of (missing (garnered r v a)) (missing (garnered r v b)) (second_lacks (is_some (missing (garnered r v a))) (missing (garnered r v b)) h.1),
    )
both_lack r v a b false false e f g = absurd (cc)

-- without it nothing is executed or launched
sources_bar : (x y : Option ℕ) (rest : Option Bar) → is_some (on x y Some) ≡ true →
    is_some (on x (on y rest (λ r. Some (SourceMissing r))) (λ r. Some (SourceMissing r))) ≡ true
sources_bar None None rest e = absurd (cc)
sources_bar None (Some r) rest e = refl
sources_bar (Some r) y rest e = refl

no_execute : (dead done unit : Bool) (rest : Option Bar) → is_some rest ≡ true →
    not (is_some (first dead Dead (first done AlreadyDone (first (not unit) NoUnit rest)))) ≡ false
no_execute true done unit rest e = refl
no_execute false true unit rest e = refl
no_execute false false false rest e = refl
no_execute false false true rest e = ap not e

no_launch : (dead done site full : Bool) (rest : Option Bar) → is_some rest ≡ true →
    not (is_some (first dead Dead (first done AlreadyDone (first (not site) NoUnit (first full NotMet rest))))) ≡ false
no_launch true done site full rest e = refl
no_launch false true site full rest e = refl
no_launch false false false full rest e = refl
no_launch false false true true rest e = refl
no_launch false false true false rest e = ap not e

execute_barred : (plan : Plan) (c : Cell) (i : ℕ) (p : Passenger) → c.passenger ≡ Some p → IsLacking p.src1 p.src2 →
    not (is_some (execute_bar plan c i)) ≡ false
execute_barred plan c i p rides lack =
    rw rides (no_execute p.dead p.done (unit_at plan (kind p) i) (source_bar p None) (sources_bar (missing p.src1) (missing p.src2) None lack))

launch_barred : (plan : Plan) (s : State) (c : Cell) (i : ℕ) (p : Passenger) → c.passenger ≡ Some p → IsLacking p.src1 p.src2 →
    not (is_some (launch_bar plan s c i)) ≡ false
launch_barred plan s c i p rides lack =
    rw rides (no_launch p.dead (p.done || p.launched) (launches plan (kind p) i) (is_memory (kind p) && is_full (record c { passenger = Some p }))
    (source_bar p (entry_bar plan s p)) (sources_bar (missing p.src1) (missing p.src2) (entry_bar plan s p) lack))

-- the stage after a meeting
abbrev met_in : Met → Cell
met_in m = record { passenger = Some m.passenger; packet = m.packet; met = is_some m.packet }

-- with other values of its sources the same holds of the stage, if one is unknown before and after
waiting_mark : (plan : Plan) (s : State) (i : ℕ) (c : Cell) (p : Passenger) (a b : Option Binding) (k : Option Packet) → c.passenger ≡ Some p →
    IsLacking p.src1 p.src2 → IsLacking a b →
    mark_by plan s i (Some (met_in (record { passenger = record p { src1 = a; src2 = b }; packet = k }))) ≡ mark_by plan s i (Some c)
unfolding mark_by
waiting_mark plan s i c p a b k rides lack lacks =
    let q : Passenger = record p { src1 = a; src2 = b } in
    let d = met_in (record { passenger = q; packet = k }) in
    let old = mark_by plan s i (Some c) in
    let new = mark_by plan s i (Some d) in
    let owes : new.owes ≡ old.owes = rw rides refl in
    let stops : new.stops ≡ old.stops = rw rides refl in
    let execute : new.execute ≡ old.execute = execute_barred plan d i q refl lacks ∙ sym (execute_barred plan c i p rides lack) in
    let launch : new.launch ≡ old.launch = launch_barred plan s d i q refl lacks ∙ sym (launch_barred plan s c i p rides lack) in
    let recover : new.recover ≡ old.recover = rw rides refl in
    λ x. record { owes = owes x; stops = stops x; execute = execute x; launch = launch x; recover = recover x }

waiting_met : (plan : Plan) (s : State) (i : ℕ) (c : Cell) (p : Passenger) (k : Packet) → c.passenger ≡ Some p → is_left_waiting p k ≡ true →
    mark_by plan s i (Some (met_in (meeting p k))) ≡ mark_by plan s i (Some c)
unfolding meeting
waiting_met plan s i c p (Turn pc) rides waits = absurd (cc)
waiting_met plan s i c p Halt rides waits = absurd (cc)
waiting_met plan s i c p (Value r v) rides waits = by_dead p.dead
  where
    lack : IsLacking p.src1 p.src2 × IsLacking (garnered r v p.src1) (garnered r v p.src2)
    lack = both_lack r v p.src1 p.src2 (lacks r p.src1) (lacks r p.src2) refl refl waits

    by_dead : (dead : Bool) → mark_by plan s i (Some (met_in (if dead then record { passenger = p; packet = Some (Value r v) } else
        record { passenger = passenger_met (Value r v) p; packet = packet_met (Value r v) p }))) ≡ mark_by plan s i (Some c)
    by_dead true = waiting_mark plan s i c p p.src1 p.src2 (Some (Value r v)) rides lack.0 lack.0
    by_dead false = waiting_mark plan s i c p (garnered r v p.src1) (garnered r v p.src2) (packet_met (Value r v) p) rides lack.0 lack.1

pub waiting-keeps : (plan : Plan) (s : State) (i : ℕ) → waits_on s i ≡ true → Same plan s (moved plan s (Meet i))
unfolding moved
waiting-keeps plan s i waits = by_cell (cell_at s.cells i) refl waits
  where
    by_packet : (c : Cell) (p : Passenger) (o : Option Packet) → cell_at s.cells i ≡ Some c → c.passenger ≡ Some p → on o false (is_left_waiting p) ≡ true →
        Same plan s (on o s (λ k. with_cell s i (cell_met c p k)))
    by_packet c p None e rides waits = unchanged plan s
    by_packet c p (Some k) e rides waits = put_same plan s i c (cell_met c p k) e (waiting_met plan s i c p k rides waits)

    by_rider : (c : Cell) (o : Option Passenger) → cell_at s.cells i ≡ Some c → c.passenger ≡ o →
        on o false (λ p. on c.packet false (is_left_waiting p)) ≡ true →
        Same plan s (on o s (λ p. on c.packet s (λ k. with_cell s i (cell_met c p k))))
    by_rider c None e rides waits = unchanged plan s
    by_rider c (Some p) e rides waits = by_packet c p c.packet e rides waits

    by_cell : (o : Option Cell) → cell_at s.cells i ≡ o →
        on (on o None (λ c. c.passenger)) false (λ p. on (on o None (λ c. c.packet)) false (is_left_waiting p)) ≡ true →
        Same plan s (on o s (λ c. on c.passenger s (λ p. on c.packet s (λ k. with_cell s i (cell_met c p k)))))
    by_cell None e waits = unchanged plan s
    by_cell (Some c) e waits = by_rider c c.passenger e refl waits
