-- A move leaves each move that shares no site with it as it is: allowed or not, and of the same class.
use Rattle.std.proofs.Common.{◌≡◌, ◌∙◌, refl, sym, ap, ℕ, zero, suc, List, map, length, [], ◌∷◌, Option, Some, None, Bool, true, false, cond, nat_eq, arith}
use Rattle.std.specs.Prelude.{◌||◌, ◌&&◌, not, slice_get, unwrap_or}
use Rattle.std.proofs.lemmas.Bool.Decides.{nat_tests}
use Rattle.cf_layout.specs.Layout.{Plan, SidingPlan, cells_of, no_siding}
use Rattle.cf_bind.specs.declared.cell.Cell.{Cell}
use Rattle.cf_bind.specs.declared.cell.Op.{Op}
use Rattle.cf_bind.specs.declared.passenger.End.{End}
use Rattle.cf_bind.specs.declared.passenger.Passenger.{Passenger}
use Rattle.cf_bind.specs.declared.moves.Move.{Move}
use Rattle.cf_bind.specs.declared.moves.Move.TheVariants.{Issue, Emit, Climb, Fall, Meet, Execute, Send, Launch, Slide, Access, Recover, Leave, Exit, Serve}
use Rattle.cf_bind.specs.declared.moves.Bar.TheVariants.{Failed, Halted, NoSuchSite}
use Rattle.cf_semantics.specs.moves.Bars.{bar, first_bar_of}
use Rattle.cf_semantics.specs.moves.Moves.{left, moved, next}
use Rattle.cf_semantics.specs.moves.Sites.{Ended, Failure, OfEnding, OfFailure, OfStage, Stage, writes}
use Rattle.cf_semantics.specs.state.Options.{is_some, on}
use Rattle.cf_semantics.specs.state.State.{Moment, State, cell_at}
use Rattle.theory_confluence.proofs.Laws.{move_local}
use Rattle.cf_core.specs.Processors.{IsProcessor}
use Rattle.cf_index.specs.Allowed.{is_allowed}
use Rattle.cf_index.specs.Alone.{HasSidings, stands_alone}
use Rattle.cf_index.specs.Sites.{shares, uses_place}
use Rattle.cf_index.proofs.Independence.{bar_kept}
use Rattle.cf_index.proofs.SharedSites.{shared_at}
use Rattle.cf_timed.specs.DelayedRuns.{class_in, class_of_move}
use Rattle.cf_timed.specs.DueMoves.{is_serve}

-- a processor has the cells of its layout
sizes : (sidings : List (List (Option Op))) (plans : List SidingPlan) (k : ℕ) → map length sidings ≡ map (λ siding. siding.cells) plans →
    length (on (slice_get sidings k) [] (λ ops. ops)) ≡ (unwrap_or (slice_get plans k) no_siding).cells
sizes [] [] k e = refl
sizes [] (p ∷ plans) k e = absurd (cc)
sizes (s ∷ sidings) [] k e = absurd (cc)
sizes (s ∷ sidings) (p ∷ plans) zero e = cc
sizes (s ∷ sidings) (p ∷ plans) (suc k) e = sizes sidings plans k (cc)

pub has_sidings : (plan : Plan) (s : State) → IsProcessor plan s → HasSidings plan s
unfolding cells_of
has_sidings plan s h k = sizes s.sidings plan.sidings k h.sidings

-- a move does not write a stage that it does not use
unwritten : (plan : Plan) (s : State) (n : ℕ) (mv : Move) → uses_place plan mv (Stage n) ≡ false → writes plan s mv (Stage n) ≡ false
unfolding uses_place
unwritten plan s n (Issue g) e = grind (arith, nat_tests)
unwritten plan s n Emit e = grind (arith, nat_tests)
unwritten plan s n (Climb i) e = grind (arith, nat_tests)
unwritten plan s n (Fall i) e = grind (arith, nat_tests)
unwritten plan s n (Meet i) e = grind (arith, nat_tests)
unwritten plan s n (Execute i) e = grind (arith, nat_tests)
unwritten plan s n (Send i) e = grind (arith, nat_tests)
unwritten plan s n (Launch i) e = grind (arith, nat_tests)
unwritten plan s n (Slide k c) e = refl
unwritten plan s n Access e = refl
unwritten plan s n (Recover i) e = grind (arith, nat_tests)
unwritten plan s n Leave e = grind (arith, nat_tests)
unwritten plan s n Exit e = grind (arith, nat_tests)
unwritten plan s n Serve e = grind (arith, nat_tests)

-- nor whether the program has ended or a call has failed, unless it is made alone
never_ends : (plan : Plan) (s : State) (mv : Move) → stands_alone plan s mv ≡ false → (writes plan s mv Ended ≡ false) × (writes plan s mv Failure ≡ false)
never_ends plan s (Issue g) e = (refl, refl)
never_ends plan s Emit e = (refl, refl)
never_ends plan s (Climb i) e = (refl, refl)
never_ends plan s (Fall i) e = (refl, refl)
never_ends plan s (Meet i) e = (refl, refl)
never_ends plan s (Execute i) e = (refl, refl)
never_ends plan s (Send i) e = (refl, refl)
never_ends plan s (Launch i) e = (refl, refl)
never_ends plan s (Slide k c) e = (refl, refl)
never_ends plan s Access e = (refl, refl)
never_ends plan s (Recover i) e = (refl, refl)
never_ends plan s Leave e = (rw e refl, rw e refl)
never_ends plan s Exit e = (refl, refl)
never_ends plan s Serve e = absurd (cc)

-- the stage of a move that shares no site with it is unchanged
cell_stays : (plan : Plan) (m : Moment) (a b : Move) (n : ℕ) → bar plan m.state a ≡ None → shares plan a b ≡ false → uses_place plan b (Stage n) ≡ true →
    cell_at (next plan m a).state.cells n ≡ cell_at m.state.cells n
cell_stays plan m a b n free apart there = by (uses_place plan a (Stage n)) refl
  where
    inside : (c d : Option Cell) → OfStage c ≡ OfStage d → c ≡ d
    inside c d e = cc

    by : (used : Bool) → uses_place plan a (Stage n) ≡ used → cell_at (next plan m a).state.cells n ≡ cell_at m.state.cells n
    by true e = absurd (let both = shared_at plan a b (Stage n) e there in cc)
    by false e = inside (cell_at (next plan m a).state.cells n) (cell_at m.state.cells n)
        ((move_local plan m a).leaves free (Stage n) (unwritten plan m.state n a e))

itself : (n : ℕ) (b : Bool) → (nat_eq n n || b) ≡ true
itself n b = grind (arith, nat_tests)

-- so a move at the highest stage that may be made alone is barred as before
record IsStill (plan : Plan) (s t : State) : Type 0 where
  cell : cell_at t.cells plan.stages ≡ cell_at s.cells plan.stages
  ending : t.ending ≡ s.ending
  failed : t.failed ≡ s.failed

still_there : (plan : Plan) (m : Moment) (a b : Move) → bar plan m.state a ≡ None → stands_alone plan m.state a ≡ false → shares plan a b ≡ false →
    uses_place plan b (Stage plan.stages) ≡ true → IsStill plan m.state (next plan m a).state
still_there plan m a b free plain apart there =
    let n = never_ends plan m.state a plain in
    record {
      cell = cell_stays plan m a b plan.stages free apart there;
      ending = of_ending (next plan m a).state.ending m.state.ending ((move_local plan m a).leaves free Ended n.0);
      failed = of_failure (next plan m a).state.failed m.state.failed ((move_local plan m a).leaves free Failure n.1);
    }
  where
    of_ending : (c d : Option End) → OfEnding c ≡ OfEnding d → c ≡ d
    of_ending c d e = cc

    of_failure : (c d : Bool) → OfFailure c ≡ OfFailure d → c ≡ d
    of_failure c d e = cc

leave_still : (plan : Plan) (s t : State) → IsStill plan s t → bar plan t Leave ≡ bar plan s Leave
unfolding bar
leave_still plan s t h = rw (h.cell, h.ending, h.failed) refl

serve_still : (plan : Plan) (s t : State) → IsStill plan s t → bar plan t Serve ≡ bar plan s Serve
unfolding bar
serve_still plan s t h = rw (h.cell, h.ending, h.failed) refl

-- there is no lowest stage but the first
no_launch : (plan : Plan) (s : State) → is_allowed plan s (Launch 0) ≡ false
unfolding bar
no_launch plan s = by (is_some s.ending) s.failed
  where
    by : (e f : Bool) → not (is_some (first_bar_of ((e, Halted) ∷ (f, Failed) ∷ []) (Some NoSuchSite))) ≡ false
    by true f = refl
    by false true = refl
    by false false = refl

no_recover : (plan : Plan) (s : State) → is_allowed plan s (Recover 0) ≡ false
unfolding bar
no_recover plan s = by (is_some s.ending) s.failed
  where
    by : (e f : Bool) → not (is_some (first_bar_of ((e, Halted) ∷ (f, Failed) ∷ []) (Some NoSuchSite))) ≡ false
    by true f = refl
    by false true = refl
    by false false = refl

-- a move that shares no site with it is allowed after it if and only if it was before
pub allowed_stays : (plan : Plan) (m : Moment) (a b : Move) → HasSidings plan m.state → bar plan m.state a ≡ None → stands_alone plan m.state a ≡ false →
    shares plan a b ≡ false → is_allowed plan (next plan m a).state b ≡ is_allowed plan m.state b
unfolding uses_place
allowed_stays plan m a (Issue g) h free plain apart = ap (λ o. not (is_some o)) (bar_kept plan m a (Issue g) h free tt plain refl apart)
allowed_stays plan m a Emit h free plain apart = ap (λ o. not (is_some o)) (bar_kept plan m a Emit h free tt plain refl apart)
allowed_stays plan m a (Climb i) h free plain apart = ap (λ o. not (is_some o)) (bar_kept plan m a (Climb i) h free tt plain refl apart)
allowed_stays plan m a (Fall i) h free plain apart = ap (λ o. not (is_some o)) (bar_kept plan m a (Fall i) h free tt plain refl apart)
allowed_stays plan m a (Meet i) h free plain apart = ap (λ o. not (is_some o)) (bar_kept plan m a (Meet i) h free tt plain refl apart)
allowed_stays plan m a (Execute i) h free plain apart = ap (λ o. not (is_some o)) (bar_kept plan m a (Execute i) h free tt plain refl apart)
allowed_stays plan m a (Send i) h free plain apart = ap (λ o. not (is_some o)) (bar_kept plan m a (Send i) h free tt plain refl apart)
allowed_stays plan m a (Launch zero) h free plain apart = no_launch plan (next plan m a).state ∙ sym (no_launch plan m.state)
allowed_stays plan m a (Launch (suc i)) h free plain apart =
    ap (λ o. not (is_some o)) (bar_kept plan m a (Launch (suc i)) h free (omega arith) plain refl apart)
allowed_stays plan m a (Slide k c) h free plain apart = ap (λ o. not (is_some o)) (bar_kept plan m a (Slide k c) h free tt plain refl apart)
allowed_stays plan m a Access h free plain apart = ap (λ o. not (is_some o)) (bar_kept plan m a Access h free tt plain refl apart)
allowed_stays plan m a (Recover zero) h free plain apart = no_recover plan (next plan m a).state ∙ sym (no_recover plan m.state)
allowed_stays plan m a (Recover (suc i)) h free plain apart =
    ap (λ o. not (is_some o)) (bar_kept plan m a (Recover (suc i)) h free (omega arith) plain refl apart)
allowed_stays plan m a Leave h free plain apart =
    ap (λ o. not (is_some o)) (leave_still plan m.state (next plan m a).state (still_there plan m a Leave free plain apart (itself plan.stages _)))
allowed_stays plan m a Exit h free plain apart = ap (λ o. not (is_some o)) (bar_kept plan m a Exit h free tt plain refl apart)
allowed_stays plan m a Serve h free plain apart =
    ap (λ o. not (is_some o)) (serve_still plan m.state (next plan m a).state (still_there plan m a Serve free plain apart (itself plan.stages _)))

-- and has the same class
pub class_stays : (plan : Plan) (m : Moment) (a b : Move) → bar plan m.state a ≡ None → shares plan a b ≡ false →
    class_of_move (next plan m a).state b ≡ class_of_move m.state b
unfolding class_of_move uses_place
class_stays plan m a (Execute i) free apart = ap class_in (cell_stays plan m a (Execute i) i free apart (itself i _))
class_stays plan m a (Launch i) free apart = ap class_in (cell_stays plan m a (Launch i) i free apart (itself i _))
class_stays plan m a (Recover i) free apart = ap class_in (cell_stays plan m a (Recover i) i free apart (itself i _))
class_stays plan m a (Issue g) free apart = refl
class_stays plan m a Emit free apart = refl
class_stays plan m a (Climb i) free apart = refl
class_stays plan m a (Fall i) free apart = refl
class_stays plan m a (Meet i) free apart = refl
class_stays plan m a (Send i) free apart = refl
class_stays plan m a (Slide k c) free apart = refl
class_stays plan m a Access free apart = refl
class_stays plan m a Leave free apart = refl
class_stays plan m a Exit free apart = refl
class_stays plan m a Serve free apart = refl

-- a Leave that is made alone ends the program
ends_it : (s : State) (n : ℕ) (o : Option Cell) → on o false (λ c. on c.passenger false (λ p. not p.dead && is_some p.ending)) ≡ true →
    (on o s (λ c. on c.passenger s (left s n c))).ending ≡ None → ⊥
ends_it s n None alone ends = absurd (cc)
ends_it s n (Some c) alone ends = of c.passenger alone ends
  where
    live : (t u : State) (dead : Bool) (ending : Option End) → (not dead && is_some ending) ≡ true →
        (cond dead t (on ending u (λ e. record t { ending = Some e }))).ending ≡ None → ⊥
    live t u true ending alone ends = absurd (cc)
    live t u false None alone ends = absurd (cc)
    live t u false (Some e) alone ends = absurd (cc)

    of : (o : Option Passenger) → on o false (λ p. not p.dead && is_some p.ending) ≡ true → (on o s (left s n c)).ending ≡ None → ⊥
    of None alone ends = absurd (cc)
    of (Some p) alone ends = live _ _ p.dead p.ending alone ends

pub leave_ends : (plan : Plan) (m : Moment) → stands_alone plan m.state Leave ≡ true → (next plan m Leave).state.ending ≡ None → ⊥
unfolding next moved
leave_ends plan m alone ends = ends_it m.state plan.stages (cell_at m.state.cells plan.stages) alone ends

-- a move that is made alone is a Serve or such a Leave
pub alone_ends : (plan : Plan) (m : Moment) (mv : Move) → stands_alone plan m.state mv ≡ true → is_serve mv ≡ false → (next plan m mv).state.ending ≡ None → ⊥
alone_ends plan m Leave alone other ends = leave_ends plan m alone ends
alone_ends plan m Serve alone other ends = absurd (cc)
alone_ends plan m _ alone other ends = absurd (cc)
