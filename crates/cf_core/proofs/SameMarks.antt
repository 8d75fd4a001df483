-- What holds of a stage depends on what is there, and on the first and the last cell of the siding of its instruction.
use Rattle.std.proofs.Common.{◌≡◌, ◌≢◌, ◌∙◌, ℕ, suc, length, List, Option, Some, None, Bool, true, false, refl, sym, ap, arith}
use Rattle.std.specs.Prelude.{◌==◌, ◌&&◌, ◌||◌, [], ◌∷◌, nat_eq, not, slice_get}
use Rattle.std.proofs.lemmas.Bool.Decides.{nat_tests}
use Rattle.cf_bind.specs.declared.cell.Cell.{Cell}
use Rattle.cf_bind.specs.declared.cell.Op.{Op}
use Rattle.cf_bind.specs.declared.moves.Bar.{Bar}
use Rattle.cf_bind.specs.declared.moves.Bar.TheVariants.{Dead, AlreadyDone, NoUnit, NotMet, NoSuchSite, NoPassenger, Occupied}
use Rattle.cf_bind.specs.declared.moves.Move.TheVariants.{Launch, Recover}
use Rattle.cf_bind.specs.declared.passenger.Passenger.{Passenger}
use Rattle.cf_layout.specs.Layout.{Plan, launch_stage, recover_stage, siding_of}
use Rattle.theory_refinement.proofs.column.Sidings.{put_here, put_other}
use Rattle.cf_semantics.specs.moves.Bars.{cell_is_taken, entry_bar, execute_bar, exit_op_bar, first_bar_of, is_full, launch_bar, recover_bar, source_bar, stops_at}
use Rattle.cf_semantics.specs.moves.Instructions.{is_memory}
use Rattle.cf_semantics.specs.state.Layouts.{launches, recovers}
use Rattle.cf_semantics.specs.state.Options.{on, is_some}
use Rattle.cf_semantics.specs.state.Passengers.{kind}
use Rattle.cf_semantics.specs.state.State.{State, cell_at, put_cell, siding_at, with_cell, with_siding}
use Rattle.cf_stages.proofs.Parts.{cell-put-other}
use Rattle.cf_core.specs.Marks.{mark_at, row_allows}
use Rattle.cf_core.specs.declared.marks.StageMark.{StageMark}
use Rattle.cf_core.proofs.Bits.{SameBut}

-- what holds of a stage with these contents
unfoldable pub mark_by : Plan → State → ℕ → Option Cell → StageMark
mark_by plan s i o = record {
  owes = on o false (λ c. on c.passenger false (λ p. is_some p.owes));
  stops = on o false (λ c. on c.passenger false (λ p. stops_at plan p i));
  execute = not (is_some (on o (Some NoSuchSite) (λ c. execute_bar plan c i)));
  launch = not (is_some (on o (Some NoSuchSite) (λ c. launch_bar plan s c i)));
  recover = not (is_some (on o (Some NoSuchSite) (λ c. recover_bar plan s c i)));
}

pub mark_is : (plan : Plan) (s : State) (i : ℕ) → mark_at plan s i ≡ mark_by plan s i (cell_at s.cells i)
unfolding mark_at mark_by
mark_is plan s i = refl

pub beside : (plan : Plan) (s : State) (cells : List Cell) (i : ℕ) (o : Option Cell) → mark_by plan (record s { cells = cells }) i o ≡ mark_by plan s i o
unfolding mark_by
beside plan s cells i o = refl

-- other contents of one stage change no other stage
pub cell-but : (plan : Plan) (s : State) (i j : ℕ) (c : Cell) → SameBut plan s (with_cell s i c) i j
cell-but plan s i j c k off far =
    mark_is plan (with_cell s i c) k
    ∙ ap (mark_by plan (with_cell s i c) k) (cell-put-other s.cells i k c off)
    ∙ beside plan s (put_cell s.cells i c) k (cell_at s.cells k)
    ∙ sym (mark_is plan s k)

-- two functions of an option agree if they agree on each value
on_same : {A B : Type 0} (o : Option A) (d : B) (f g : A → B) → ((a : A) → f a ≡ g a) → on o d f ≡ on o d g
on_same None d f g same = refl
on_same (Some a) d f g same = same a

-- if no siding of the class launches there, the first cell does not matter
no_launch : (a b l m : Bool) (r q : Option Bar) → l ≡ false → first_bar_of ((a, Dead) ∷ (b, AlreadyDone) ∷ (not l, NoUnit) ∷ (m, NotMet) ∷ []) r
    ≡ first_bar_of ((a, Dead) ∷ (b, AlreadyDone) ∷ (not l, NoUnit) ∷ (m, NotMet) ∷ []) q
no_launch true b l m r q e = refl
no_launch false true l m r q e = refl
no_launch false false l m r q e = rw e refl

-- if none recovers there, the last cell does not matter
no_return : (l b : Bool) (r q : Option Bar) → l ≡ false → first_bar_of ((not l, NoUnit) ∷ (b, AlreadyDone) ∷ []) r
    ≡ first_bar_of ((not l, NoUnit) ∷ (b, AlreadyDone) ∷ []) q
no_return l b r q e = rw e refl

-- the rows of Launch and Recover for an instruction
launch_row : Plan → State → Cell → ℕ → Passenger → Option Bar
launch_row plan s c i p = first_bar_of (
    (p.dead, Dead) ∷
    (p.done || p.launched, AlreadyDone) ∷
    (not (launches plan (kind p) i), NoUnit) ∷
    (is_memory (kind p) && is_full c, NotMet) ∷ []) (source_bar p (entry_bar plan s p))

return_row : Plan → State → ℕ → Passenger → Option Bar
return_row plan s i p = first_bar_of (
    (not (recovers plan (kind p) i), NoUnit) ∷
    (not p.launched || p.recovered, AlreadyDone) ∷ []) (exit_op_bar plan s p)

-- a siding of another number still has its cells
other_siding : (s : State) (k h : ℕ) (ops : List (Option Op)) → h ≢ k → siding_at (with_siding s k ops) h ≡ siding_at s h
other_siding s k h ops off = put_other s.sidings k h ops off

pub elsewhere : (a b : ℕ) → b ≢ a → (a == b) ≡ false
elsewhere a b off = grind (arith, nat_tests)

launch_row_same : (plan : Plan) (s : State) (k : ℕ) (ops : List (Option Op)) (c : Cell) (j : ℕ) (p : Passenger) → j ≢ launch_stage plan k → (h : Option ℕ) →
    siding_of plan (kind p) ≡ h → launch_row plan (with_siding s k ops) c j p ≡ launch_row plan s c j p
unfolding launch_row
launch_row_same plan s k ops c j p off None e = rw e refl
launch_row_same plan s k ops c j p off (Some h) e = by_number (nat_eq h k) refl
  where
    by_number : (b : Bool) → nat_eq h k ≡ b → launch_row plan (with_siding s k ops) c j p ≡ launch_row plan s c j p
    by_number true f =
        let at : h ≡ k = grind (arith, nat_tests) in
        let far : launches plan (kind p) j ≡ false = rw (e, at) (elsewhere (launch_stage plan k) j off) in
        no_launch p.dead (p.done || p.launched) (launches plan (kind p) j) (is_memory (kind p) && is_full c)
        (source_bar p (entry_bar plan (with_siding s k ops) p)) (source_bar p (entry_bar plan s p)) far
    by_number false f =
        let other : h ≢ k = grind (arith, nat_tests) in
        rw (e, other_siding s k h ops other) refl

return_row_same : (plan : Plan) (s : State) (k : ℕ) (ops : List (Option Op)) (j : ℕ) (p : Passenger) → j ≢ recover_stage plan k → (h : Option ℕ) →
    siding_of plan (kind p) ≡ h → return_row plan (with_siding s k ops) j p ≡ return_row plan s j p
unfolding return_row
return_row_same plan s k ops j p off None e = rw e refl
return_row_same plan s k ops j p off (Some h) e = by_number (nat_eq h k) refl
  where
    by_number : (b : Bool) → nat_eq h k ≡ b → return_row plan (with_siding s k ops) j p ≡ return_row plan s j p
    by_number true f =
        let at : h ≡ k = grind (arith, nat_tests) in
        let far : recovers plan (kind p) j ≡ false = rw (e, at) (elsewhere (recover_stage plan k) j off) in
        no_return (recovers plan (kind p) j) (not p.launched || p.recovered) (exit_op_bar plan (with_siding s k ops) p) (exit_op_bar plan s p) far
    by_number false f =
        let other : h ≢ k = grind (arith, nat_tests) in
        rw (e, other_siding s k h ops other) refl

launch_same : (plan : Plan) (s : State) (k : ℕ) (ops : List (Option Op)) (j : ℕ) (c : Cell) → j ≢ launch_stage plan k →
    launch_bar plan (with_siding s k ops) c j ≡ launch_bar plan s c j
unfolding launch_row
launch_same plan s k ops j c off = on_same c.passenger (Some NoPassenger) (launch_row plan (with_siding s k ops) c j) (launch_row plan s c j)
    (λ p. launch_row_same plan s k ops c j p off (siding_of plan (kind p)) refl)

return_same : (plan : Plan) (s : State) (k : ℕ) (ops : List (Option Op)) (j : ℕ) (c : Cell) → j ≢ recover_stage plan k →
    recover_bar plan (with_siding s k ops) c j ≡ recover_bar plan s c j
unfolding return_row
return_same plan s k ops j c off = on_same c.passenger (Some NoPassenger) (return_row plan (with_siding s k ops) j) (return_row plan s j)
    (λ p. return_row_same plan s k ops j p off (siding_of plan (kind p)) refl)

-- other cells in a siding change no stage but those at which it launches and recovers
pub siding-launch : (plan : Plan) (s : State) (k : ℕ) (ops : List (Option Op)) (j : ℕ) → j ≢ launch_stage plan k →
    row_allows plan (with_siding s k ops) (Launch j) ≡ row_allows plan s (Launch j)
siding-launch plan s k ops j off = ap (λ (b : Option Bar). not (is_some b)) (on_same (cell_at s.cells j) (Some NoSuchSite)
    (λ c. launch_bar plan (with_siding s k ops) c j) (λ c. launch_bar plan s c j) (λ c. launch_same plan s k ops j c off))

pub siding-recover : (plan : Plan) (s : State) (k : ℕ) (ops : List (Option Op)) (j : ℕ) → j ≢ recover_stage plan k →
    row_allows plan (with_siding s k ops) (Recover j) ≡ row_allows plan s (Recover j)
siding-recover plan s k ops j off = ap (λ (b : Option Bar). not (is_some b)) (on_same (cell_at s.cells j) (Some NoSuchSite)
    (λ c. recover_bar plan (with_siding s k ops) c j) (λ c. recover_bar plan s c j) (λ c. return_same plan s k ops j c off))

pub siding-but : (plan : Plan) (s : State) (k : ℕ) (ops : List (Option Op)) → SameBut plan s (with_siding s k ops) (launch_stage plan k) (recover_stage plan k)
unfolding mark_at
siding-but plan s k ops j off far =
    let launch = siding-launch plan s k ops j off in
    let recover = siding-recover plan s k ops j far in
    let m = mark_at plan s j in
    λ x. record { owes = m.owes; stops = m.stops; execute = m.execute; launch = launch x; recover = recover x }

-- no stage launches otherwise if the first cell of the siding is taken as before
taken_same : (s : State) (k n : ℕ) (ops : List (Option Op)) (h : ℕ) → length (siding_at s k) ≡ suc n →
    cell_is_taken (slice_get ops 0) ≡ cell_is_taken (slice_get (siding_at s k) 0) → (b : Bool) → nat_eq h k ≡ b →
    cell_is_taken (slice_get (siding_at (with_siding s k ops) h) 0) ≡ cell_is_taken (slice_get (siding_at s h) 0)
taken_same s k n ops h some same true e =
    let at : h ≡ k = grind (arith, nat_tests) in
    rw (at, put_here s.sidings k ops n some) same
taken_same s k n ops h some same false e =
    let other : h ≢ k = grind (arith, nat_tests) in
    ap (λ (l : List (Option Op)). cell_is_taken (slice_get l 0)) (other_siding s k h ops other)

pub entry-launch : (plan : Plan) (s : State) (k n : ℕ) (ops : List (Option Op)) (j : ℕ) → length (siding_at s k) ≡ suc n →
    cell_is_taken (slice_get ops 0) ≡ cell_is_taken (slice_get (siding_at s k) 0) →
    row_allows plan (with_siding s k ops) (Launch j) ≡ row_allows plan s (Launch j)
unfolding launch_row
entry-launch plan s k n ops j some same =
    let t = with_siding s k ops in
    let entry = λ (p : Passenger). on_same (siding_of plan (kind p)) None
    (λ h. first_bar_of ((cell_is_taken (slice_get (siding_at t h) 0), Occupied) ∷ []) None)
    (λ h. first_bar_of ((cell_is_taken (slice_get (siding_at s h) 0), Occupied) ∷ []) None)
    (λ h. ap (λ (b : Bool). first_bar_of ((b, Occupied) ∷ []) None) (taken_same s k n ops h some same (nat_eq h k) refl)) in
    let row = λ (c : Cell). on_same c.passenger (Some NoPassenger) (launch_row plan t c j) (launch_row plan s c j)
    (λ p. ap (λ (b : Option Bar). first_bar_of (
    (p.dead, Dead) ∷
    (p.done || p.launched, AlreadyDone) ∷
    (not (launches plan (kind p) j), NoUnit) ∷
    (is_memory (kind p) && is_full c, NotMet) ∷ []) (source_bar p b)) (entry p)) in
    ap (λ (b : Option Bar). not (is_some b)) (on_same (cell_at s.cells j) (Some NoSuchSite) (λ c. launch_bar plan t c j) (λ c. launch_bar plan s c j) row)

-- nor does a change of what is beside the pipes and the sidings
among : (plan : Plan) (s : State) (sidings : List (List (Option Op))) (i : ℕ) (o : Option Cell) → sidings ≡ s.sidings →
    mark_by plan (record s { sidings = sidings }) i o ≡ mark_by plan s i o
among plan s sidings i o same = ap (λ (x : List (List (Option Op))). mark_by plan (record s { sidings = x }) i o) same

pub rest-same : (plan : Plan) (s t : State) → t.cells ≡ s.cells → t.sidings ≡ s.sidings → (k : ℕ) → mark_at plan t k ≡ mark_at plan s k
unfolding mark_by
rest-same plan s t same kept k =
    mark_is plan t k
    ∙ ap (λ (cells : List Cell). mark_by plan t k (cell_at cells k)) same
    ∙ among plan s t.sidings k (cell_at s.cells k) kept
    ∙ sym (mark_is plan s k)

pub rest-but : (plan : Plan) (s t : State) (i j : ℕ) → t.cells ≡ s.cells → t.sidings ≡ s.sidings → SameBut plan s t i j
rest-but plan s t i j same kept k off far = rest-same plan s t same kept k
