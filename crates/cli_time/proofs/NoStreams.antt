-- If a file other than the program's input is missing, the answer says neither that the input failed nor that the
-- output did, so its cause is the same whether or not the input counts as a file.
use Rattle.std.proofs.Common.{◌≡◌, ℕ, List, [], ◌∷◌, Option, Result, Ok, refl, sym, subst, inl, inr}
use Rattle.cf_io.specs.Causes.{HasCause}
use Rattle.cf_io.specs.Reads.{FilesSeen}
use Rattle.cli_arguments.specs.Arguments.{NamedLayout}
use Rattle.cli_files.specs.Causes.{files_answered, input_answered, output_answered, reading_answered}
use Rattle.cli_files.specs.declared.answer.Answer.{Answer}
use Rattle.cli_files.specs.declared.status.Status.{Status}
use Rattle.cli_files.specs.declared.status.Status.TheVariants as status
use Rattle.cli_files.specs.declared.status.Which.TheVariants as which
use Rattle.cli_files.proofs.NoStreams.{SaysNoStream, lacks-layout-says, lacks-program-says}
use Rattle.cli_time.specs.Asked.{TimeFiles}
use Rattle.cli_time.specs.DelayFiles.{LacksDelays}
use Rattle.cli_time.specs.LayoutFiles.{LacksLayouts}
use Rattle.cli_time.specs.Reading.{LacksTimeFile}

lacks-delays-says : (name : List ℕ) (before after : Option FilesSeen) (answer : Status) (report : List ℕ) →
    LacksDelays name before after answer report → SaysNoStream answer
lacks-delays-says name before after answer report (inl r) =
    let is = r.refuses.2 in
    record { input = rw is; output = rw is }
lacks-delays-says name before after answer report (inr (inl r)) =
    record { input = rw r.status_is; output = rw r.status_is }
lacks-delays-says name before after answer report (inr (inr r)) =
    record { input = rw r.status_is; output = rw r.status_is }

lacks-layouts-says : (arguments : List NamedLayout) (before after : Option FilesSeen) (answer : Status) (report : List ℕ) →
    LacksLayouts arguments before after answer report → SaysNoStream answer
lacks-layouts-says [] before after answer report h = absurd h
lacks-layouts-says (argument ∷ arguments) before after answer report (inl h) = lacks-layout-says argument before after answer report h
lacks-layouts-says (argument ∷ arguments) before after answer report (inr (inl (plan, first, (is, reports)))) =
    record { input = rw is; output = rw is }
lacks-layouts-says (argument ∷ arguments) before after answer report (inr (inr (between, plan, first, h))) =
    lacks-layouts-says arguments between after answer report h

pub lacks-file-says : (asked : TimeFiles) (before after : Option FilesSeen) (answer : Status) (report : List ℕ) →
    LacksTimeFile asked before after answer report → SaysNoStream answer
lacks-file-says asked before after answer report (inl h) = lacks-delays-says asked.delays before after answer report h
lacks-file-says asked before after answer report (inr (inl h)) =
    lacks-layouts-says asked.layouts h.between after answer report h.lacks
lacks-file-says asked before after answer report (inr (inr h)) =
    lacks-program-says asked.program h.between after answer report h.lacks

-- if the answer does not say that the input could not be read, its cause is the same whether or not the input counts as
-- a file
pub same-files : (answer : Status) → input_answered answer ≡ Ok tt → reading_answered answer ≡ files_answered answer
same-files (status.ReadFault which.Layout) h = refl
same-files (status.ReadFault which.Program) h = refl
same-files (status.ReadFault which.Script) h = refl
same-files (status.ReadFault which.Source) h = refl
same-files (status.ReadFault which.Delays) h = refl
same-files (status.ReadFault which.Trace) h = refl
same-files (status.ReadFault which.Input) h = absurd (cc)
same-files (status.Exit code) h = refl
same-files (status.Trap cause pc detail) h = refl
same-files (status.Limit limit) h = refl
same-files (status.ScriptEnd moves) h = refl
same-files status.Done h = refl
same-files (status.BadWords index) h = refl
same-files (status.BadLayout error) h = refl
same-files (status.BadProgram error) h = refl
same-files (status.BadScript fault) h = refl
same-files (status.BarredAt line bar) h = refl
same-files (status.BadSource error) h = refl
same-files (status.BadDelays fault) h = refl
same-files (status.BadTrace fault) h = refl
same-files status.BadInput h = refl
same-files (status.BadLog refusal) h = refl
same-files (status.LogEnd moves) h = refl
same-files status.Wrong h = refl
same-files (status.TooMany most) h = refl
same-files status.WriteFault h = refl
same-files status.NoMemory h = refl

-- so the count of faults of the files is the same, whether or not the input counts as a file
pub counts-file : (before now : ℕ) (asked : TimeFiles) (a b : Option FilesSeen) (answer : Answer) →
    LacksTimeFile asked a b answer.status answer.closing →
    HasCause {T = Unit {0}} {E = Unit {0}} before now (files_answered answer.status) →
    HasCause {T = Unit {0}} {E = Unit {0}} before now (reading_answered answer.status)
counts-file before now asked a b answer lacks h =
    subst (λ (r : Result (Unit {0}) (Unit {0})). HasCause before now r)
    (sym (same-files answer.status (lacks-file-says asked a b answer.status answer.closing lacks).input)) h
