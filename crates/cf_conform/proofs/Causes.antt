-- What the answer says about the counts of faults.
use Rattle.std.proofs.Common.{◌≡◌, ℕ, ◌≤◌, List, Some, Ok, Err, Result, refl, sym, ap, subst, ◌∙◌, arith}
use Rattle.cf_io.specs.Causes.{HasCause}
use Rattle.cf_semantics.specs.state.State.{State}
use Rattle.cf_core.specs.Processors.{Processor}
use Rattle.cf_log.specs.declared.said.ObservedPart.{ObservedPart}
use Rattle.run_finishes.specs.declared.finish.Ran.TheVariants as ran
use Rattle.cf_conform.specs.declared.answer.Conformed.{Conformed}
use Rattle.cf_conform.specs.declared.answer.Conformed.TheVariants.{Ran, LogEnd, BadLog, Differs}
use Rattle.cf_conform.specs.declared.answer.LineStop.{LineStop}
use Rattle.cf_conform.specs.declared.answer.LineStop.TheVariants as stops
use Rattle.cf_conform.specs.Conforming.{EndsLogAt, answer_at}
use Rattle.cf_conform.specs.declared.progress.LogProgress.{LogProgress}
use Rattle.cf_conform.specs.Judging.{JudgesPart, log_judged, output_judged, output_stopped_log}

still : (before now : ℕ) (result : Result (Unit {0}) (Unit {0})) → result ≡ Ok tt → now ≡ before → HasCause before now result
still before now result is same = rw is (record { never_falls = omega (arith, same); rose = tt; still = same })

-- at the end of a log
ends_log : (limit : ℕ) (s : State) (answer : Conformed) → EndsLogAt limit s answer → log_judged (Some answer) ≡ Ok tt
unfolding EndsLogAt
ends_log limit s (Ran (ran.Exit status)) h = refl
ends_log limit s (Ran (ran.Trap cause pc detail)) h = refl
ends_log limit s (Ran ran.Limit) h = refl
ends_log limit s (Ran ran.ReadFault) h = absurd h
ends_log limit s (Ran ran.WriteFault) h = refl
ends_log limit s (Ran ran.ReportFault) h = refl
ends_log limit s LogEnd h = refl
ends_log limit s (BadLog refusal) h = refl
ends_log limit s (Differs line part) h = refl

ends_output : (limit : ℕ) (s : State) (answer : Conformed) → EndsLogAt limit s answer → output_stopped_log (Some answer) ≡ Ok tt
unfolding EndsLogAt
ends_output limit s (Ran (ran.Exit status)) h = refl
ends_output limit s (Ran (ran.Trap cause pc detail)) h = refl
ends_output limit s (Ran ran.Limit) h = refl
ends_output limit s (Ran ran.ReadFault) h = refl
ends_output limit s (Ran ran.WriteFault) h = absurd h
ends_output limit s (Ran ran.ReportFault) h = refl
ends_output limit s LogEnd h = refl
ends_output limit s (BadLog refusal) h = refl
ends_output limit s (Differs line part) h = refl

pub ends-log : (limit : ℕ) (s : State) (answer : Conformed) (before now : ℕ) → EndsLogAt limit s answer → now ≡ before →
    HasCause before now (log_judged (Some answer))
ends-log limit s answer before now ends same = still before now (log_judged (Some answer)) (ends_log limit s answer ends) same

pub ends-output : (limit : ℕ) (s : State) (answer : Conformed) (before now : ℕ) → EndsLogAt limit s answer → now ≡ before →
    HasCause before now (output_stopped_log (Some answer))
ends-output limit s answer before now ends same = still before now (output_stopped_log (Some answer)) (ends_output limit s answer ends) same

-- at a line
stop_log : (lines : ℕ) (stop : LineStop) → log_judged (Some (answer_at lines stop)) ≡ Ok tt
stop_log lines (stops.Refused why) = refl
stop_log lines (stops.Differs part) = refl
stop_log lines stops.WriteFault = refl

stop_output : (lines : ℕ) (stop : LineStop) → output_stopped_log (Some (answer_at lines stop)) ≡ output_judged (Err stop)
stop_output lines (stops.Refused why) = refl
stop_output lines (stops.Differs part) = refl
stop_output lines stops.WriteFault = refl

pub stop-log : (lines : ℕ) (stop : LineStop) (answer : Conformed) (before now : ℕ) → answer ≡ answer_at lines stop → now ≡ before →
    HasCause before now (log_judged (Some answer))
stop-log lines stop answer before now is same = still before now (log_judged (Some answer))
    (ap (λ (a : Conformed). log_judged (Some a)) is ∙ stop_log lines stop) same

pub stop-output : (lines : ℕ) (stop : LineStop) (answer : Conformed) (before now : ℕ) → answer ≡ answer_at lines stop →
    HasCause before now (output_judged (Err stop)) → HasCause before now (output_stopped_log (Some answer))
stop-output lines stop answer before now is h =
    subst (λ (r : Result (Unit {0}) (Unit {0})). HasCause before now r)
    (sym (ap (λ (a : Conformed). output_stopped_log (Some a)) is ∙ stop_output lines stop)) h

-- an observation leaves the output alone
pub observed-output : (line : List ℕ) (part : ObservedPart) (core : Processor) (old new : LogProgress) (result : Result (Unit {0}) LineStop) (faults : ℕ) →
    JudgesPart line part core old new result → HasCause faults faults (output_judged result)
unfolding JudgesPart
observed-output line part core old new (Ok done) faults h = record { never_falls = omega arith; rose = tt; still = refl }
observed-output line part core old new (Err (stops.Refused why)) faults h = absurd h
observed-output line part core old new (Err (stops.Differs other)) faults h = record { never_falls = omega arith; rose = tt; still = refl }
observed-output line part core old new (Err stops.WriteFault) faults h = absurd h
