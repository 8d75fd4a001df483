-- A turn of a timed run that stops it.
use Rattle.std.proofs.Common.{◌≡◌, refl, ℕ, Some, Err, arith}
use Rattle.std.specs.Prelude.{slice_get}
use Rattle.run_options.specs.declared.guess_rule.GuessRule.{GuessRule}
use Rattle.run_options.specs.Reportings as show
use Rattle.cf_io.specs.Causes.{HasCause}
use Rattle.cf_bind.specs.declared.moves.Move.{Move}
use Rattle.cf_sched.specs.Paces.{offered_by}
use Rattle.run_finishes.specs.declared.finish.Ran.{Ran as Answer}
use Rattle.run_finishes.specs.declared.finish.Ran.TheVariants as ran
use Rattle.cf_run.specs.Moving.{MoveDoes, RunPlace, report_done}
use Rattle.cf_run.specs.Reaching.{GoesOn, IsOver}
use Rattle.cf_timed.specs.Clocks.{SiteTimes}
use Rattle.cf_timed.specs.Turns.{StopsEarliest, pick_by}

-- the run is over
pub stops-over : (limit : ℕ) (r : GuessRule) (now : RunPlace) (held : ℕ) (clock : SiteTimes) (answer : Answer) → IsOver limit now.core.state answer →
    StopsEarliest limit r now now held clock answer
stops-over limit r now held clock (ran.Exit status) over = (over, refl)
stops-over limit r now held clock (ran.Trap cause pc detail) over = (over, refl)
stops-over limit r now held clock ran.Limit over = (over, refl)
stops-over limit r now held clock ran.ReadFault over = absurd over
stops-over limit r now held clock ran.WriteFault over = absurd over
stops-over limit r now held clock ran.ReportFault over = absurd over

-- the move fails; the report does not, since its count of faults never rises
pub stops-there : (limit : ℕ) (r : GuessRule) (now new : RunPlace) (held : ℕ) (clock : SiteTimes) (mv : Move) (answer : Answer) →
    GoesOn limit now.core.state → slice_get (offered_by r now.core.plan held now.core.state) (pick_by clock r held now.core) ≡ Some mv →
    MoveDoes show.report mv now new (Err answer) → HasCause 0 0 (report_done (Err answer)) → StopsEarliest limit r now new held clock answer
unfolding MoveDoes
stops-there limit r now new held clock mv (ran.Exit status) goes chosen does cause = absurd does
stops-there limit r now new held clock mv (ran.Trap code pc detail) goes chosen does cause = absurd does
stops-there limit r now new held clock mv ran.Limit goes chosen does cause = absurd does
stops-there limit r now new held clock mv ran.ReadFault goes chosen does cause =
    record { goes = goes; move = mv; choice_is = chosen; later_is = refl; does = does }
stops-there limit r now new held clock mv ran.WriteFault goes chosen does cause =
    record { goes = goes; move = mv; choice_is = chosen; later_is = refl; does = does }
stops-there limit r now new held clock mv ran.ReportFault goes chosen does cause = absurd (let g = cause.rose in omega (arith, g))
