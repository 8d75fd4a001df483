-- What is kept of the moves that are due is right after each turn of a run.
use Rattle.std.proofs.Common.{◌≡◌, ◌∙◌, sym, ap, subst, ℕ, [], None}
use Rattle.std.specs.Prelude.{Ok, Some, slice_get}
use Rattle.run_options.specs.declared.guess_rule.GuessRule.{GuessRule}
use Rattle.run_options.specs.declared.reporting.Reporting.{Reporting}
use Rattle.cf_layout.specs.Layout.{Plan}
use Rattle.cf_layout.specs.Accepted.{IsAccepted}
use Rattle.cf_bind.specs.declared.moves.Move.{Move}
use Rattle.cf_semantics.specs.declared.event.Event.{Event}
use Rattle.cf_semantics.specs.moves.Moves.{next}
use Rattle.cf_semantics.specs.state.State.{Moment, State}
use Rattle.cf_core.specs.Processors.{IsProcessor}
use Rattle.cf_sched.specs.Paces.{offered_by}
use Rattle.cf_run.specs.Moving.{MoveDoes, RunPlace}
use Rattle.cf_timed.specs.Clocks.{AreKept, IsClockOf, SiteTimes, clocked, stamped}
use Rattle.cf_timed.specs.Delays.{AreDelays}
use Rattle.cf_timed.specs.DueMoves.{AreDue, IsLeft, KeptMoves, kept_after}
use Rattle.cf_timed.proofs.DueMoves.{left_after}
use Rattle.cf_timed.proofs.Room.{offered_kept, one_of_all}
use Rattle.cf_timed.proofs.Untouched.{has_sidings}

-- the clock keeps the times of the sites of an offered move
pub offered-kept : (r : GuessRule) (plan : Plan) (held : ℕ) (s : State) (place : ℕ) (mv : Move) → IsAccepted plan →
    Some mv ≡ slice_get (offered_by r plan held s) place → AreKept plan mv
offered-kept r plan held s place mv acc there = one_of_all (AreKept plan) (offered_by r plan held s) place mv (offered_kept r plan held s acc) (sym there)

-- unless the program has ended
pub due-turned : (show : Reporting) (mv : Move) (event : Event) (now new : RunPlace) (clock after : SiteTimes) (time : ℕ) (kept later : KeptMoves) →
    IsProcessor now.core.plan now.core.state → IsClockOf now.core.plan clock → AreDelays clock.delays → AreKept now.core.plan mv →
    MoveDoes show mv now new (Ok event) → IsLeft now.core.plan (clocked clock now.core.state) kept mv → after ≡ stamped clock mv time →
    later ≡ kept_after kept mv time → new.core.state.ending ≡ None → AreDue new.core.plan (clocked after new.core.state) later
unfolding MoveDoes
due-turned show mv event now new clock after time kept later facts is_clock delays here does left after_is later_is unended =
    let plan : Plan = now.core.plan in
    let m : Moment = record { state = now.core.state; rest = does.makes.makes.rest; output = [] } in
    let there : (next plan m mv).state ≡ new.core.state = ap (λ (q : Moment). q.state) does.makes.makes.is in
    let right : AreDue plan (clocked (stamped clock mv time) (next plan m mv).state) (kept_after kept mv time) =
    left_after plan m clock mv time kept facts.accepted (has_sidings plan now.core.state facts) is_clock delays does.makes.allowed here left
    (ap (λ (s : State). s.ending) there ∙ unended) in
    subst (λ (p : Plan). AreDue p (clocked after new.core.state) later) (sym does.makes.makes.plan)
    (subst (λ (k : KeptMoves). AreDue plan (clocked after new.core.state) k) (sym later_is)
    (subst (λ (c : SiteTimes). AreDue plan (clocked c new.core.state) (kept_after kept mv time)) (sym after_is)
    (subst (λ (s : State). AreDue plan (clocked (stamped clock mv time) s) (kept_after kept mv time)) there right)))
