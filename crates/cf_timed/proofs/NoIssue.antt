-- No Issue finishes by a time: so none that is offered does, and none comes to while moves are made that finish then.
use Rattle.std.proofs.Common.{◌≡◌, ◌∙◌, refl, sym, ap, ℕ, ◌-◌, ◌^◌, ◌<◌, ◌≤◌, List, [], Some, None, Bool, true, false, arith}
use Rattle.std.specs.Prelude.{slice_get}
use Rattle.run_options.specs.declared.guess_rule.GuessRule.{GuessRule}
use Rattle.run_options.specs.declared.guess_rule.GuessRule.TheVariants.{Any}
use Rattle.cf_layout.specs.Layout.{Plan}
use Rattle.cf_bind.specs.declared.moves.Move.{Move}
use Rattle.cf_bind.specs.declared.moves.Move.TheVariants.{Issue}
use Rattle.cf_bind.specs.declared.passenger.Guess.{Guess}
use Rattle.cf_bind.specs.declared.passenger.Guess.TheVariants.{Next, Taken, Wait}
use Rattle.cf_semantics.specs.moves.Moves.{next}
use Rattle.cf_semantics.specs.state.State.{Moment, State}
use Rattle.cf_index.specs.Allowed.{is_allowed, kept_issues, unheld_issues}
use Rattle.cf_index.specs.Sites.{shares}
use Rattle.cf_index.proofs.Guided.{allowed-issue}
use Rattle.cf_timed.specs.Clocks.{AreKept, ClockedState, SiteTimes, capped, clocked, stamped}
use Rattle.cf_timed.specs.Soonest.{AreLater, NoIssueBy}
use Rattle.cf_timed.proofs.DueMoves.{IsMadeNow, allowed_then, finishes_after, finishes_then}
use Rattle.cf_timed.proofs.Sooner.{issue_time, none_allowed, none_held, none_sooner}

-- if an Issue that guesses the next instruction is not allowed, none is, and no guess rule keeps one
barred_guess : (plan : Plan) (s : State) (guess : Guess) → is_allowed plan s (Issue Next) ≡ false → is_allowed plan s (Issue guess) ≡ false
barred_guess plan s guess barred = allowed-issue plan s guess ∙ rw barred refl

none_kept : (r : GuessRule) (plan : Plan) (s : State) → is_allowed plan s (Issue Next) ≡ false → kept_issues r plan s ≡ []
none_kept r plan s barred = rw (barred, barred_guess plan s Taken barred, barred_guess plan s Wait barred) refl

none_unheld : (held : Bool) (r : GuessRule) (plan : Plan) (s : State) → is_allowed plan s (Issue Next) ≡ false → unheld_issues held r plan s ≡ []
none_unheld true r plan s barred = refl
none_unheld false r plan s barred = none_kept r plan s barred

-- What follows from it --

-- no Issue that is offered finishes by the time, under any guess rule
pub no_issue_later : (plan : Plan) (c : ClockedState) (r : GuessRule) (held : Bool) (by : ℕ) → NoIssueBy plan c by →
    AreLater c (unheld_issues held r plan c.state) by
no_issue_later plan c r held by none = of (is_allowed plan c.state (Issue Next)) refl
  where
    of : (b : Bool) → is_allowed plan c.state (Issue Next) ≡ b → AreLater c (unheld_issues held r plan c.state) by
    of true there = none_sooner c r plan c.state held by (capped c (Issue Next)) refl (none Next there)
    of false barred = none_allowed c r plan c.state held by (none_unheld held r plan c.state barred)

-- nor if Issue is held back
pub no_offer_later : (plan : Plan) (c : ClockedState) (r : GuessRule) (held : Bool) (by : ℕ) → (held ≡ false → NoIssueBy plan c by) →
    AreLater c (unheld_issues held r plan c.state) by
no_offer_later plan c r true by none = none_held c r plan c.state true by refl
no_offer_later plan c r false by none = no_issue_later plan c r false by (none refl)

-- While moves are made --

-- a clock keeps the times of the sites that an Issue uses
issue_kept : (plan : Plan) (guess : Guess) → AreKept plan (Issue guess)
issue_kept plan guess = (omega arith, (tt, (tt, (tt, tt))))

-- an Issue that shares no site with the move is allowed if it was, and finishes when it did; another finishes later
pub no_issue_stays : (plan : Plan) (m : Moment) (clock : SiteTimes) (mv : Move) (t : ℕ) → IsMadeNow plan m clock mv → t < 2 ^ 64 - 1 →
    NoIssueBy plan (clocked clock m.state) t → NoIssueBy plan (clocked (stamped clock mv t) (next plan m mv).state) t
no_issue_stays plan m clock mv t made below none = λ guess there. of guess there (shares plan (Issue guess) mv) refl
  where
    of : (guess : Guess) → is_allowed plan (next plan m mv).state (Issue guess) ≡ true → (met : Bool) → shares plan (Issue guess) mv ≡ met →
        t < capped (clocked (stamped clock mv t) (next plan m mv).state) (Issue guess)
    of guess there true met = finishes_after plan m clock mv (Issue guess) t made below (issue_kept plan guess) met
    of guess there false apart =
        let was = sym (allowed_then plan m clock mv (Issue guess) made apart) ∙ there in
        rw (finishes_then plan m clock mv (Issue guess) t made (issue_kept plan guess) apart) (none guess was)

-- The test --

-- none is allowed
barred_all : (plan : Plan) (c : ClockedState) (by : ℕ) → is_allowed plan c.state (Issue Next) ≡ false → NoIssueBy plan c by
barred_all plan c by barred = λ guess there. absurd (let e = barred_guess plan c.state guess barred in cc)

-- the rule that keeps each Issue keeps the one that guesses the next instruction first
next_first : (plan : Plan) (s : State) → is_allowed plan s (Issue Next) ≡ true → slice_get (kept_issues Any plan s) 0 ≡ Some (Issue Next)
next_first plan s there = rw there refl

pub no_issue_first : (plan : Plan) (c : ClockedState) (by : ℕ) → None ≡ slice_get (kept_issues Any plan c.state) 0 → NoIssueBy plan c by
no_issue_first plan c by none = of (is_allowed plan c.state (Issue Next)) refl
  where
    of : (b : Bool) → is_allowed plan c.state (Issue Next) ≡ b → NoIssueBy plan c by
    of true there = absurd (let e = none ∙ next_first plan c.state there in cc)
    of false barred = barred_all plan c by barred

-- none is offered
pub no_issue_unheld : (plan : Plan) (c : ClockedState) (by : ℕ) → unheld_issues false Any plan c.state ≡ [] → NoIssueBy plan c by
no_issue_unheld plan c by none = no_issue_first plan c by (sym (ap (λ (xs : List Move). slice_get xs 0) none))

-- all finish at one time, which is later
pub no_issue_sooner : (plan : Plan) (c : ClockedState) (by time : ℕ) → time ≡ capped c (Issue Next) → by < time → NoIssueBy plan c by
no_issue_sooner plan c by time is later = λ guess there. let same = issue_time c guess in omega (arith, same, is, later)

-- if it is not later, none is kept only if none is allowed
pub none_first : (plan : Plan) (c : ClockedState) (by time : ℕ) → time ≡ capped c (Issue Next) → time ≤ by → NoIssueBy plan c by →
    slice_get (kept_issues Any plan c.state) 0 ≡ None
none_first plan c by time is soon none = of (is_allowed plan c.state (Issue Next)) refl
  where
    of : (b : Bool) → is_allowed plan c.state (Issue Next) ≡ b → slice_get (kept_issues Any plan c.state) 0 ≡ None
    of true there = absurd (let later = none Next there in omega (arith, is, soon, later))
    of false barred = ap (λ (xs : List Move). slice_get xs 0) (none_kept Any plan c.state barred)
