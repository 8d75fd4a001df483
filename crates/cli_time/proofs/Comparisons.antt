-- The outcome for the lines of all layouts, and for the line after them.
use Rattle.std.proofs.Common.{◌≡◌, ◌∙◌, ◌≤◌, sym, ap, subst, ℕ, List, [], ◌++◌, append-nil, Option, Some, Result, Ok, Err, inl, inr, arith}
use Rattle.cf_timed.specs.declared.span.Span.{Span}
use Rattle.std.specs.Prelude.{codes, slice_get}
use Rattle.std.specs.Result.{IsErr}
use Rattle.cf_io.specs.Puts.{Writes, WritesFront}
use Rattle.cf_io.specs.Reads.{FilesSeen}
use Rattle.cf_io.specs.declared.failed.Failed.{Failed}
use Rattle.cf_io.proofs.Owing.{writes-again}
use Rattle.rv_machine.specs.Hart.{Hart}
use Rattle.rv_machine.specs.Machine.{Machine}
use Rattle.cf_layout.specs.Layout.{Plan}
use Rattle.cf_run.specs.Headline.{machine_on}
use Rattle.std.proofs.lemmas.Bool.{false≢true}
use Rattle.cf_report.specs.Putting.{PutsText}
use Rattle.texts.specs.Lines.{line}
use Rattle.cli_time.specs.declared.choices.RunChoices.{RunChoices}
use Rattle.cli_arguments.specs.Arguments.{NamedLayout, TimeChoices}
use Rattle.run_options.specs.Limits.{most_timed_limit}
use Rattle.cli_files.specs.Deciding.{Decides}
use Rattle.cli_files.specs.declared.answer.Answer.{Answer}
use Rattle.cli_files.specs.declared.status.Status.TheVariants as status
use Rattle.cli_time.specs.Asked.{TimeAsked, choices_by}
use Rattle.cli_time.specs.InputFiles.{TimeInputRead}
use Rattle.cli_time.specs.Leasts.{IsFirstLeast}
use Rattle.cli_time.specs.Lines.{least_line, time_lines}
use Rattle.cli_time.specs.Runs.{PutsAll, PutsFewer}
use Rattle.cli_time.specs.Times.{AnswersTime, BreaksTime, BreaksTimes, MeasuresAll, TimesOf}

-- the limit is that of the arguments
pub limit-chosen : (asked : TimeChoices) (options : RunChoices) → options ≡ choices_by asked → asked.limit ≤ most_timed_limit → options.limit ≤ most_timed_limit
unfolding choices_by
limit-chosen asked options is few = subst (λ (o : RunChoices). o.limit ≤ most_timed_limit) (sym is) few

-- the layout that is named is the first with the least time
measures-all : (arguments : List NamedLayout) (options : RunChoices) (delays : List Span) (plans : List Plan) (start : Machine) (blank told : Option (List ℕ))
    (times : List ℕ) (place : ℕ) (named : NamedLayout) → (h : PutsAll arguments options delays plans start blank told times) →
    IsFirstLeast times place → slice_get arguments place ≡ Some named → MeasuresAll arguments options delays plans start h.measured named
measures-all arguments options delays plans start blank told times place named h least is = record {
  each = h.each;
  all = h.all;
  place = place;
  least = subst (λ (ts : List ℕ). IsFirstLeast ts place) h.times_are least;
  named_is = is;
}

-- the layout was named
pub times-all : (arguments : List NamedLayout) (options : RunChoices) (delays : List Span) (plans : List Plan) (start : Machine)
    (blank told full : Option (List ℕ))
    (times : List ℕ) (place : ℕ) (named : NamedLayout) (answer : Answer) → PutsAll arguments options delays plans start blank told times →
    IsFirstLeast times place → slice_get arguments place ≡ Some named → Writes told full (least_line named) →
    answer.status ≡ status.Done → answer.closing ≡ [] →
    Decides (TimesOf arguments options delays plans start) (BreaksTimes arguments options delays plans start blank full) blank full (Ok answer)
times-all arguments options delays plans start blank told full times place named answer h least is put done closed =
    let text : List ℕ = time_lines options.limit arguments h.measured ++ least_line named in (
      text,
      writes-again blank told full (time_lines options.limit arguments h.measured) (least_line named) h.put put,
      inl (record {
        measured = h.measured;
        named = named;
        all = measures-all arguments options delays plans start blank told times place named h least is;
        status_is = done;
        reports = ap (λ (rest : List ℕ). text ++ rest) closed ∙ append-nil text;
      }),
    )

-- the report failed at that line
pub times-break : (arguments : List NamedLayout) (options : RunChoices) (delays : List Span) (plans : List Plan) (start : Machine)
    (blank told full : Option (List ℕ))
    (times : List ℕ) (place : ℕ) (named : NamedLayout) → PutsAll arguments options delays plans start blank told times →
    IsFirstLeast times place → slice_get arguments place ≡ Some named → WritesFront told full (least_line named) →
    BreaksTimes arguments options delays plans start blank full
times-break arguments options delays plans start blank told full times place named h least is front =
    inr (record {
      measured = h.measured;
      named = named;
      all = measures-all arguments options delays plans start blank told times place named h least is;
      told = told;
      put = h.put;
      front = front;
    })

pub times-broken : {T E : Type 0} (arguments : List NamedLayout) (options : RunChoices) (delays : List Span) (plans : List Plan) (start : Machine)
    (blank told full : Option (List ℕ)) (i j : ℕ) (times : List ℕ) (place : ℕ) (named : NamedLayout) (r : Result T E) (e : E) (result : Result Answer Failed) →
    PutsAll arguments options delays plans start blank told times → IsFirstLeast times place → slice_get arguments place ≡ Some named →
    PutsText told full i j (least_line named) r → r ≡ Err e → IsErr result →
    Decides (TimesOf arguments options delays plans start) (BreaksTimes arguments options delays plans start blank full) blank full result
times-broken arguments options delays plans start blank told full i j times place named r e (Ok answer) h least is puts was failed =
    absurd (false≢true failed)
times-broken {T = T} {E = E} arguments options delays plans start blank told full i j times place named r e (Err f) h least is puts was failed =
    let q : PutsText {T = T} {E = E} told full i j (least_line named) (Err e) = rw was at puts in
    times-break arguments options delays plans start blank told full times place named h least is q.front

-- the layout was named, and nothing else follows
pub times-named : {T E : Type 0} (arguments : List NamedLayout) (options : RunChoices) (delays : List Span) (plans : List Plan) (start : Machine)
    (blank told full : Option (List ℕ)) (i j : ℕ) (times : List ℕ) (place : ℕ) (named : NamedLayout) (r : Result T E) (t : T) (answer : Answer) →
    PutsAll arguments options delays plans start blank told times → IsFirstLeast times place → slice_get arguments place ≡ Some named →
    PutsText told full i j (least_line named) r → r ≡ Ok t → answer.status ≡ status.Done → answer.closing ≡ [] →
    Decides (TimesOf arguments options delays plans start) (BreaksTimes arguments options delays plans start blank full) blank full (Ok answer)
times-named {T = T} {E = E} arguments options delays plans start blank told full i j times place named r t answer h least is puts was done closed =
    let q : PutsText {T = T} {E = E} told full i j (least_line named) (Ok t) = rw was at puts in
    times-all arguments options delays plans start blank told full times place named answer h least is q.all done closed

-- memory was refused before that
pub times-fewer : (arguments : List NamedLayout) (options : RunChoices) (delays : List Span) (plans : List Plan) (start : Machine)
    (blank full : Option (List ℕ))
    (place : ℕ) (answer : Answer) → PutsFewer arguments options delays plans start blank full place →
    answer.status ≡ status.NoMemory → answer.closing ≡ line (codes "no memory") →
    Decides (TimesOf arguments options delays plans start) (BreaksTimes arguments options delays plans start blank full) blank full (Ok answer)
times-fewer arguments options delays plans start blank full place answer h is closed =
    let text : List ℕ = time_lines options.limit arguments h.measured in (
      text,
      h.put,
      inr (record {
        measured = h.measured;
        each = h.each;
        fewer = omega (arith, h.count, h.there);
        status_is = is;
        reports = ap (λ (rest : List ℕ). text ++ rest) closed;
      }),
    )

-- the outcome for the files is what the command answers
pub answers-time : (asked : TimeAsked) (before after : Option FilesSeen) (delays : List Span) (plans : List Plan) (hart : Hart) (bytes : List ℕ)
    (blank full : Option (List ℕ)) (result : Result Answer Failed) →
    TimeInputRead asked.files asked.input before after delays plans hart bytes →
    Decides (TimesOf asked.files.layouts asked.options delays plans (machine_on hart bytes))
    (BreaksTimes asked.files.layouts asked.options delays plans (machine_on hart bytes) blank full) blank full result →
    Decides (AnswersTime asked before after) (BreaksTime asked before after blank full) blank full result
answers-time asked before after delays plans hart bytes blank full (Ok answer) ready (lines, put, comes) =
    (lines, put, inl (record { delays = delays; plans = plans; hart = hart; bytes = bytes; ready = ready; comes = comes }))
answers-time asked before after delays plans hart bytes blank full (Err failed) ready breaks =
    record { delays = delays; plans = plans; hart = hart; bytes = bytes; ready = ready; comes = breaks }
