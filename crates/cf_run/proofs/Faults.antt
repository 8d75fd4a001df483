-- Which stream failed a run, if it is over or a move stops it.
use Rattle.std.proofs.Common.{◌≡◌, ℕ, Some, Ok, Err, refl}
use Rattle.cf_semantics.specs.state.State.{State}
use Rattle.run_finishes.specs.declared.finish.Ran.{Ran as Answer}
use Rattle.run_finishes.specs.declared.finish.Ran.TheVariants as ran
use Rattle.cf_run.specs.Moving.{input_done, output_done, report_done}
use Rattle.run_finishes.specs.Stopped.{input_stopped, output_stopped, report_stopped}
use Rattle.cf_run.specs.Reaching.{IsOver}

-- none if it is over
pub over-read : (limit : ℕ) (s : State) (answer : Answer) → IsOver limit s answer → input_stopped (Some answer) ≡ Ok tt
over-read limit s (ran.Exit status) over = refl
over-read limit s (ran.Trap cause pc detail) over = refl
over-read limit s ran.Limit over = refl
over-read limit s ran.ReadFault over = absurd over
over-read limit s ran.WriteFault over = absurd over
over-read limit s ran.ReportFault over = absurd over

pub over-written : (limit : ℕ) (s : State) (answer : Answer) → IsOver limit s answer → output_stopped (Some answer) ≡ Ok tt
over-written limit s (ran.Exit status) over = refl
over-written limit s (ran.Trap cause pc detail) over = refl
over-written limit s ran.Limit over = refl
over-written limit s ran.ReadFault over = absurd over
over-written limit s ran.WriteFault over = absurd over
over-written limit s ran.ReportFault over = absurd over

pub over-reported : (limit : ℕ) (s : State) (answer : Answer) → IsOver limit s answer → report_stopped (Some answer) ≡ Ok tt
over-reported limit s (ran.Exit status) over = refl
over-reported limit s (ran.Trap cause pc detail) over = refl
over-reported limit s ran.Limit over = refl
over-reported limit s ran.ReadFault over = absurd over
over-reported limit s ran.WriteFault over = absurd over
over-reported limit s ran.ReportFault over = absurd over

-- the one that failed the move, if one did
pub stopped-read : (answer : Answer) → input_stopped (Some answer) ≡ input_done (Err answer)
stopped-read (ran.Exit status) = refl
stopped-read (ran.Trap cause pc detail) = refl
stopped-read ran.Limit = refl
stopped-read ran.ReadFault = refl
stopped-read ran.WriteFault = refl
stopped-read ran.ReportFault = refl

pub stopped-written : (answer : Answer) → output_stopped (Some answer) ≡ output_done (Err answer)
stopped-written (ran.Exit status) = refl
stopped-written (ran.Trap cause pc detail) = refl
stopped-written ran.Limit = refl
stopped-written ran.ReadFault = refl
stopped-written ran.WriteFault = refl
stopped-written ran.ReportFault = refl

pub stopped-reported : (answer : Answer) → report_stopped (Some answer) ≡ report_done (Err answer)
stopped-reported (ran.Exit status) = refl
stopped-reported (ran.Trap cause pc detail) = refl
stopped-reported ran.Limit = refl
stopped-reported ran.ReadFault = refl
stopped-reported ran.WriteFault = refl
stopped-reported ran.ReportFault = refl
