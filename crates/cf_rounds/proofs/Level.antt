-- After each round the run is level with the count at its limit, and the program ends below that, so it ends as the
-- sequential machine does.
use Rattle.std.proofs.Common.{◌≡◌, ℕ, ◌<◌, List, [], ◌∷◌, Bool, true, false, Option, None, inl, inr, ◌⊎◌, refl, sym, ap, subst, ◌∙◌, arith}
use Rattle.std.specs.List.{AllByRecursion}
use Rattle.std.proofs.lemmas.Bool.Decides.{nat_tests}
use Rattle.cf_layout.specs.Layout.{Plan}
use Rattle.cf_bind.specs.declared.cell.Cell.{Cell}
use Rattle.cf_bind.specs.declared.moves.Move.{Move}
use Rattle.cf_bind.specs.declared.moves.Move.TheVariants.{Issue, Emit, Climb, Fall, Meet, Execute, Send, Launch, Slide, Access, Recover, Leave, Exit, Serve}
use Rattle.cf_semantics.specs.declared.event.Event.{Event}
use Rattle.cf_semantics.specs.claims.Ahead.{served_count}
use Rattle.cf_semantics.specs.moves.Bars.{bar}
use Rattle.cf_semantics.specs.moves.Events.{IsEvent}
use Rattle.cf_semantics.specs.moves.Moves.{next}
use Rattle.cf_semantics.specs.moves.Sites.{OfStage, Stage, content, writes}
use Rattle.cf_semantics.specs.state.State.{State, Moment, cell_at}
use Rattle.theory_confluence.proofs.Laws.{move_local}
use Rattle.theory_refinement.proofs.claims.Runs.{Counts}
use Rattle.cf_core.specs.Stepping.{Makes}
use Rattle.cf_index.specs.Alone.{HasSidings}
use Rattle.cf_index.specs.Sites.{shares, uses_place}
use Rattle.cf_index.proofs.SharedSites.{shared_at}
use Rattle.cf_run.specs.Made.{Made, moves_of}
use Rattle.cf_run.specs.Moving.{RunPlace}
use Rattle.cf_run.proofs.Ending.{Over, over-made}
use Rattle.cf_rounds.specs.Firing.{MakesAll}
use Rattle.cf_rounds.specs.Rounds.{IsRound}
use Rattle.cf_rounds.proofs.Chosen.{Form, alone, together, round_form}
use Rattle.cf_rounds.proofs.Free.{IsFree, free_step}
use Rattle.cf_rounds.proofs.Making.{both_leave, is_leave, kept_counts, leave_one, leave_there}

-- a move does not write a stage that it does not use
unwritten : (plan : Plan) (s : State) (n : ℕ) (mv : Move) → uses_place plan mv (Stage n) ≡ false → writes plan s mv (Stage n) ≡ false
unfolding uses_place
unwritten plan s n (Issue g) e = grind (arith, nat_tests)
unwritten plan s n Emit e = grind (arith, nat_tests)
unwritten plan s n (Climb i) e = grind (arith, nat_tests)
unwritten plan s n (Fall i) e = grind (arith, nat_tests)
unwritten plan s n (Meet i) e = grind (arith, nat_tests)
unwritten plan s n (Execute i) e = grind (arith, nat_tests)
unwritten plan s n (Send i) e = grind (arith, nat_tests)
unwritten plan s n (Launch i) e = grind (arith, nat_tests)
unwritten plan s n (Slide k c) e = refl
unwritten plan s n Access e = refl
unwritten plan s n (Recover i) e = grind (arith, nat_tests)
unwritten plan s n Leave e = grind (arith, nat_tests)
unwritten plan s n Exit e = grind (arith, nat_tests)
unwritten plan s n Serve e = grind (arith, nat_tests)

-- a move that shares no site with a Leave does not use the highest stage
unused_top : (plan : Plan) (mv : Move) → shares plan Leave mv ≡ false → uses_place plan mv (Stage plan.stages) ≡ false
unused_top plan mv apart = by (uses_place plan mv (Stage plan.stages)) refl
  where
    by : (t : Bool) → uses_place plan mv (Stage plan.stages) ≡ t → uses_place plan mv (Stage plan.stages) ≡ false
    by false e = e
    by true e = absurd (let both : shares plan Leave mv ≡ true = shared_at plan Leave mv (Stage plan.stages) (leave_there plan) e in cc)

-- and is not a Leave
other_than_leave : (plan : Plan) (mv : Move) → shares plan Leave mv ≡ false → is_leave mv ≡ false
other_than_leave plan mv apart = by (is_leave mv) refl
  where
    by : (t : Bool) → is_leave mv ≡ t → is_leave mv ≡ false
    by false e = e
    by true e = absurd (let both : shares plan Leave mv ≡ true = ap (shares plan Leave) (leave_one mv e) ∙ both_leave plan in cc)

-- so a call there was served or not, as before
served_stays : (plan : Plan) (m : Moment) (mv : Move) → bar plan m.state mv ≡ None → shares plan Leave mv ≡ false →
    served_count plan (next plan m mv).state ≡ served_count plan m.state
served_stays plan m mv free apart =
    let same : content (next plan m mv) (Stage plan.stages) ≡ content m (Stage plan.stages) =
    (move_local plan m mv).leaves free (Stage plan.stages) (unwritten plan m.state plan.stages mv (unused_top plan mv apart)) in
    let cells : cell_at (next plan m mv).state.cells plan.stages ≡ cell_at m.state.cells plan.stages =
    of_stage (cell_at (next plan m mv).state.cells plan.stages) (cell_at m.state.cells plan.stages) same in
    rw cells refl
  where
    of_stage : (c d : Option Cell) → OfStage c ≡ OfStage d → c ≡ d
    of_stage c d e = cc

level_stays : (plan : Plan) (limit : ℕ) (m : Moment) (mv : Move) → bar plan m.state mv ≡ None → shares plan Leave mv ≡ false → Over plan limit m.state →
    Over plan limit (next plan m mv).state
level_stays plan limit m mv free apart over =
    let kept : Counts m.state (next plan m mv).state = kept_counts plan m mv (other_than_leave plan mv apart) in
    record {
      full = λ there. served_stays plan m mv free apart ∙ over.full (sym kept.retired ∙ there);
      below = λ e ended. let low = over.below e (sym kept.ending ∙ ended) in let count = kept.retired in omega (arith, low, count);
    }

-- where the moves of a round lead: the count is below the limit; or the run is level there, and none of the remaining
-- moves shares a site with a Leave
abbrev Stands : Plan → ℕ → State → List Move → Type 0
Stands plan limit s round = (s.retired < limit) ⊎ (Over plan limit s × AllByRecursion (λ other. shares plan Leave other ≡ false) round)

stands_over : (plan : Plan) (limit : ℕ) (s : State) (round : List Move) → Stands plan limit s round → Over plan limit s
stands_over plan limit s round (inl low) = record { full = λ there. absurd (omega (arith, low, there)); below = λ e ended. low }
stands_over plan limit s round (inr (over, rest)) = over

-- with one more of them
stands_on : (plan : Plan) (limit : ℕ) (m : Moment) (mv : Move) (e : Event) (round : List Move) → IsFree plan m.state (mv ∷ round) → IsEvent plan m.state mv e →
    Stands plan limit m.state (mv ∷ round) → Stands plan limit (next plan m mv).state round
stands_on plan limit m mv e round f is (inl low) = by (is_leave mv) refl
  where
    by : (b : Bool) → is_leave mv ≡ b → Stands plan limit (next plan m mv).state round
    by false other = inl (let count = (kept_counts plan m mv other).retired in omega (arith, count, low))
    by true leaves = inr (
      over-made plan limit m mv e f.plain.0.allowed is low,
      subst (λ (a : Move). AllByRecursion (λ other. shares plan a other
          ≡ false) round) (leave_one mv leaves) f.apart.0,
    )
stands_on plan limit m mv e round f is (inr (over, (one, rest))) = inr (level_stays plan limit m mv f.plain.0.allowed one over, rest)

-- all of a round whose moves share no site
free_level : (plan : Plan) (limit : ℕ) (trace : List Made) (now new : RunPlace) → now.core.plan ≡ plan → IsFree plan now.core.state (moves_of trace) →
    MakesAll trace now new → Stands plan limit now.core.state (moves_of trace) → Over plan limit new.core.state
unfolding MakesAll
free_level plan limit [] now new same f all stands = subst (λ (p : RunPlace). Over plan limit p.core.state) (sym all)
    (stands_over plan limit now.core.state [] stands)
free_level plan limit (made ∷ trace) now new same f (there, one, is, all) stands =
    let makes : Makes now.core there.core made.move now.streams there.streams = one.makes.makes in
    let m : Moment = record { state = now.core.state; rest = makes.rest; output = [] } in
    let state : (next plan m made.move).state ≡ there.core.state = ap (λ (p : Plan). (next p m made.move).state) (sym same)
    ∙ ap (λ (q : Moment). q.state) makes.is in
    let event : IsEvent plan now.core.state made.move made.event = subst (λ (p : Plan). IsEvent p now.core.state made.move made.event) same one.makes.is_event
    in
    free_level plan limit trace there new (makes.plan ∙ same)
    (subst (λ (s : State). IsFree plan s (moves_of trace)) state (free_step plan m made.move (moves_of trace) f)) all
    (subst (λ (s : State). Stands plan limit s (moves_of trace)) state (stands_on plan limit m made.move made.event (moves_of trace) f event stands))

-- a move that is made alone
alone_level : (plan : Plan) (limit : ℕ) (mv : Move) (trace : List Made) (now new : RunPlace) → now.core.plan ≡ plan → moves_of trace ≡ mv ∷ [] →
    MakesAll trace now new → now.core.state.retired < limit → Over plan limit new.core.state
unfolding MakesAll
alone_level plan limit mv [] now new same is all low = absurd (cc)
alone_level plan limit mv (made ∷ []) now new same is (there, one, at, all) low =
    let makes : Makes now.core there.core made.move now.streams there.streams = one.makes.makes in
    let m : Moment = record { state = now.core.state; rest = makes.rest; output = [] } in
    let state : (next now.core.plan m made.move).state ≡ there.core.state = ap (λ (q : Moment). q.state) makes.is in
    let over : Over now.core.plan limit (next now.core.plan m made.move).state = over-made now.core.plan limit m made.move made.event one.makes.allowed
    one.makes.is_event low in
    subst (λ (p : Plan). Over p limit new.core.state) same (subst (Over now.core.plan limit) (state ∙ ap (λ (p : RunPlace). p.core.state) (sym all)) over)
alone_level plan limit mv (made ∷ more ∷ trace) now new same is all low = absurd (cc)

-- so the run is level after each round that is made below the limit
pub round-level : (plan : Plan) (limit : ℕ) (trace : List Made) (now new : RunPlace) → now.core.plan ≡ plan → HasSidings plan now.core.state →
    IsRound plan now.core.state (moves_of trace) → MakesAll trace now new → now.core.state.retired < limit → Over plan limit new.core.state
round-level plan limit trace now new same sidings r all low = by (round_form plan now.core.state (moves_of trace) sidings r)
  where
    by : Form plan now.core.state (moves_of trace) → Over plan limit new.core.state
    by (alone mv free stands is) = alone_level plan limit mv trace now new same is all low
    by (together f) = free_level plan limit trace now new same f all (inl low)
