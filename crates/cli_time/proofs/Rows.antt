-- The runs on the first layouts and their lines, and those of the next one.
use Rattle.std.proofs.Common.{◌≡◌, ◌∙◌, sym, ap, subst, refl, ℕ, ◌+◌, ◌<◌, List, [], ◌∷◌, ◌++◌, length, map, append-nil, append_assoc}
use Rattle.std.proofs.Common.{Option, Some, inl, inr, true, false, Result, Ok, Err, Bool, arith}
use Rattle.cf_timed.specs.declared.span.Span.{Span}
use Rattle.std.specs.Prelude.{slice_get, is_err}
use Rattle.std.proofs.lemmas.List.{length-append}
use Rattle.cf_io.specs.Causes.{HasCause}
use Rattle.cf_io.specs.Puts.{Writes}
use Rattle.cf_io.proofs.Owing.{front-again, writes-again, writes-nothing}
use Rattle.rv_machine.specs.Machine.{Machine}
use Rattle.cf_layout.specs.Layout.{Plan}
use Rattle.cf_core.specs.Processors.{opened_processor}
use Rattle.cf_report.specs.Putting.{PutsText}
use Rattle.cli_time.specs.declared.choices.RunChoices.{RunChoices}
use Rattle.cli_arguments.specs.Arguments.{NamedLayout}
use Rattle.cli_time.specs.Lines.{closing_lines, layout_lines, time_lines}
use Rattle.cli_time.specs.Measures.{BreaksTaking, Measures, MeasuresFirst, TakenRun, rule_by}
use Rattle.cli_time.specs.Runs.{MeasuringStops, PutsAll, PutsFewer, PutsMoves, TimingStops, stopped_by_report}
use Rattle.cli_time.specs.declared.stop.Stop.{Stop}
use Rattle.cli_time.specs.declared.stop.Stop.TheVariants as stop
use Rattle.cli_time.specs.Times.{BreaksAtLayout}
use Rattle.cli_time.specs.declared.measuring.Measured.{Measured}
use Rattle.cli_time.proofs.Lists.{map-next}

-- one more run
pub measures-next : (delays : List Span) (options : RunChoices) (start : Machine) (plans : List Plan) (earlier : List TakenRun) (plan : Plan)
    (next : TakenRun) →
    MeasuresFirst delays options start plans earlier → slice_get plans (length earlier) ≡ Some plan → Measures delays options plan start next →
    MeasuresFirst delays options start plans (earlier ++ next ∷ [])
measures-next delays options start [] [] plan next h e m = absurd (cc)
measures-next delays options start (p ∷ plans) [] plan next h e m =
    let same : p ≡ plan = cc in
    (rw same m, tt)
measures-next delays options start [] (k ∷ earlier) plan next h e m = absurd h
measures-next delays options start (p ∷ plans) (k ∷ earlier) plan next (first, more) e m =
    (first, measures-next delays options start plans earlier plan next more e m)

-- and its line
pub lines-next : (options : RunChoices) (arguments : List NamedLayout) (earlier : List TakenRun) (argument : NamedLayout) (next : TakenRun) →
    slice_get arguments (length earlier) ≡ Some argument →
    time_lines options.limit arguments (earlier ++ next ∷ []) ≡ time_lines options.limit arguments earlier ++ layout_lines options.limit argument next
lines-next options [] [] argument next e = absurd (cc)
lines-next options (w ∷ arguments) [] argument next e =
    let same : w ≡ argument = cc in
    rw same (append-nil (layout_lines options.limit argument next))
lines-next options [] (k ∷ earlier) argument next e = absurd (cc)
lines-next options (w ∷ arguments) (k ∷ earlier) argument next e =
    ap (λ (text : List ℕ). layout_lines options.limit w k ++ text) (lines-next options arguments earlier argument next e)
    ∙ sym (append_assoc (layout_lines options.limit w k) (time_lines options.limit arguments earlier) (layout_lines options.limit argument next))

-- the runs on the first layouts, with their times, have their lines, and the report did not fail
pub record RowsPut (arguments : List NamedLayout) (options : RunChoices) (delays : List Span) (plans : List Plan) (start : Machine)
    (blank told : Option (List ℕ)) (before now : ℕ) (place : ℕ) (times : List ℕ) : Type 0 where
  pub measured : List TakenRun
  pub each : MeasuresFirst delays options start plans measured
  pub count : length measured ≡ place
  pub times_are : times ≡ map (λ m. m.measured.time) measured
  pub put : Writes blank told (time_lines options.limit arguments measured)
  pub still : now ≡ before

pub rows-start : (arguments : List NamedLayout) (options : RunChoices) (delays : List Span) (plans : List Plan) (start : Machine)
    (blank : Option (List ℕ)) (faults : ℕ) (times : List ℕ) → times ≡ [] →
    RowsPut arguments options delays plans start blank blank faults faults 0 times
rows-start arguments options delays plans start blank faults times none = record {
  measured = [];
  each = tt;
  count = refl;
  times_are = none;
  put = writes-nothing blank;
  still = refl;
}

-- the next line was written
put-next : (arguments : List NamedLayout) (options : RunChoices) (delays : List Span) (plans : List Plan) (start : Machine)
    (blank told full : Option (List ℕ)) (before now later : ℕ) (place : ℕ) (times more : List ℕ) (argument : NamedLayout) (plan : Plan) (next : TakenRun) →
    RowsPut arguments options delays plans start blank told before now place times →
    slice_get arguments place ≡ Some argument → slice_get plans place ≡ Some plan → Measures delays options plan start next →
    Writes told full (layout_lines options.limit argument next) → later ≡ now → more ≡ times ++ next.measured.time ∷ [] →
    RowsPut arguments options delays plans start blank full before later (place + 1) more
put-next arguments options delays plans start blank told full before now later place times more argument plan next h at_argument at_plan measures put
    still pushed =
    let w : slice_get arguments (length h.measured) ≡ Some argument = rw h.count at_argument in
    let p : slice_get plans (length h.measured) ≡ Some plan = rw h.count at_plan in
    record {
      measured = h.measured ++ next ∷ [];
      each = measures-next delays options start plans h.measured plan next h.each p measures;
      count = let n = length-append h.measured (next ∷ []) in let k = h.count in omega (arith, n, k);
      times_are = pushed ∙ ap (λ (ts : List ℕ). ts ++ next.measured.time ∷ []) h.times_are ∙ sym (map-next (λ (m : TakenRun). m.measured.time) h.measured next);
      put = subst (λ (text : List ℕ). Writes blank full text) (sym (lines-next options arguments h.measured argument next w))
          (writes-again blank told full (time_lines options.limit arguments h.measured) (layout_lines options.limit argument next) h.put put);
      still = still ∙ h.still;
    }

pub rows-next : {T E : Type 0} (arguments : List NamedLayout) (options : RunChoices) (delays : List Span) (plans : List Plan) (start : Machine)
    (blank told between full : Option (List ℕ)) (before now middle later : ℕ) (place : ℕ) (times more : List ℕ) (argument : NamedLayout) (plan : Plan)
    (next : Measured) (r : Result T E) (failed : Bool) →
    RowsPut arguments options delays plans start blank told before now place times →
    slice_get arguments place ≡ Some argument → slice_get plans place ≡ Some plan → PutsMoves delays options plan start told between next → middle ≡ now →
    PutsText between full middle later (closing_lines options.limit argument next) r → failed ≡ is_err r → failed ≡ false → more ≡ times ++ next.time ∷ [] →
    RowsPut arguments options delays plans start blank full before later (place + 1) more
rows-next arguments options delays plans start blank told between full before now middle later place times more argument plan next
    (Ok u) failed h at_argument at_plan measures kept puts is none pushed =
    put-next arguments options delays plans start blank told full before now later place times more argument plan
    (record { measured = next; shown = measures.shown }) h at_argument at_plan measures.measures
    (writes-again told between full measures.shown (closing_lines options.limit argument next) measures.put puts.all) (puts.cause.still ∙ kept) pushed
rows-next arguments options delays plans start blank told between full before now middle later place times more argument plan next
    (Err e) failed h at_argument at_plan measures kept puts is none pushed =
    absurd (cc)

-- all lines were written
pub rows-all : (arguments : List NamedLayout) (options : RunChoices) (delays : List Span) (plans : List Plan) (start : Machine)
    (blank told : Option (List ℕ)) (before now : ℕ) (place : ℕ) (times : List ℕ) →
    RowsPut arguments options delays plans start blank told before now place times → place ≡ length plans →
    PutsAll arguments options delays plans start blank told times
rows-all arguments options delays plans start blank told before now place times h end = record {
  measured = h.measured;
  each = h.each;
  all = h.count ∙ end;
  times_are = h.times_are;
  put = h.put;
}

-- memory was refused for the next run
pub rows-fewer : (arguments : List NamedLayout) (options : RunChoices) (delays : List Span) (plans : List Plan) (start : Machine)
    (blank told : Option (List ℕ)) (before now : ℕ) (place : ℕ) (times : List ℕ) →
    RowsPut arguments options delays plans start blank told before now place times → place < length plans →
    PutsFewer arguments options delays plans start blank told place
rows-fewer arguments options delays plans start blank told before now place times h below = record {
  measured = h.measured;
  each = h.each;
  there = below;
  count = h.count;
  put = h.put;
}

-- the report failed at the next line
pub rows-break : {T E : Type 0} (arguments : List NamedLayout) (options : RunChoices) (delays : List Span) (plans : List Plan) (start : Machine)
    (blank told between full : Option (List ℕ)) (before now middle later : ℕ) (place : ℕ) (times : List ℕ) (argument : NamedLayout) (plan : Plan)
    (next : Measured) (r : Result T E) (failed : Bool) →
    RowsPut arguments options delays plans start blank told before now place times →
    slice_get arguments place ≡ Some argument → slice_get plans place ≡ Some plan → PutsMoves delays options plan start told between next →
    PutsText between full middle later (closing_lines options.limit argument next) r → failed ≡ is_err r → failed ≡ true →
    BreaksAtLayout arguments options delays plans start blank full
rows-break arguments options delays plans start blank told between full before now middle later place times argument plan next
    (Ok u) failed h at_argument at_plan measures puts
    is some = absurd (cc)
rows-break arguments options delays plans start blank told between full before now middle later place times argument plan next
    (Err e) failed h at_argument at_plan measures puts
    is some = inl (record {
      measured = h.measured;
      each = h.each;
      argument = argument;
      plan = plan;
      next = record { measured = next; shown = measures.shown };
      argument_is = rw h.count at_argument;
      plan_is = rw h.count at_plan;
      measures = measures.measures;
      told = told;
      put = h.put;
      front = front-again told between full measures.shown (closing_lines options.limit argument next) measures.put puts.front;
    })

-- or at a line of a move of the next run
pub rows-cut : (arguments : List NamedLayout) (options : RunChoices) (delays : List Span) (plans : List Plan) (start : Machine)
    (blank told full : Option (List ℕ)) (before now : ℕ) (place : ℕ) (times : List ℕ) (plan : Plan) →
    RowsPut arguments options delays plans start blank told before now place times → slice_get plans place ≡ Some plan →
    BreaksTaking (rule_by delays options) options (opened_processor plan start.hart) start.rest told full →
    BreaksAtLayout arguments options delays plans start blank full
rows-cut arguments options delays plans start blank told full before now place times plan h at_plan cut = inr (record {
  measured = h.measured;
  each = h.each;
  plan = plan;
  plan_is = rw h.count at_plan;
  told = told;
  put = h.put;
  front = cut;
})

-- the next run was not measured
pub rows-stop : (arguments : List NamedLayout) (options : RunChoices) (delays : List Span) (plans : List Plan) (start : Machine)
    (blank told full : Option (List ℕ)) (before now : ℕ) (place : ℕ) (times : List ℕ) (plan : Plan) (stops : Stop) →
    RowsPut arguments options delays plans start blank told before now place times → place < length plans → slice_get plans place ≡ Some plan →
    MeasuringStops place delays options plan start told full stops → TimingStops arguments options delays plans start blank full stops
rows-stop arguments options delays plans start blank told full before now place times plan (stop.NoMemory at) h below at_plan (here, same) =
    subst (PutsFewer arguments options delays plans start blank full) (sym here)
    (rows-fewer arguments options delays plans start blank full before now place times
    (rw same (record { measured = h.measured; each = h.each; count = h.count; times_are = h.times_are; put = h.put; still = h.still })) below)
rows-stop arguments options delays plans start blank told full before now place times plan stop.Failed h below at_plan cut =
    rows-cut arguments options delays plans start blank told full before now place times plan h at_plan cut

pub rows-stopped : (before now later : ℕ) (stops : Stop) → now ≡ before →
    HasCause {T = Unit {0}} {E = Unit {0}} now later (stopped_by_report {T = Unit {0}} (Err stops)) →
    HasCause {T = Unit {0}} {E = Unit {0}} before later (stopped_by_report {T = Unit {0}} (Err stops))
rows-stopped before now later stops still h = rw (← still) h

-- the count of the report's faults rose there
pub rows-cause : {T E : Type 0} (told full : Option (List ℕ)) (before now later : ℕ) (text : List ℕ) (r : Result T E) (failed : Bool) →
    PutsText told full now later text r → failed ≡ is_err r → failed ≡ true → now ≡ before → HasCause {T = Unit {0}} {E = Unit {0}} before later (Err tt)
rows-cause told full before now later text (Ok u) failed puts is some still = absurd (cc)
rows-cause told full before now later text (Err e) failed puts is some still = record {
  never_falls = let n = puts.cause.never_falls in omega (arith, n, still);
  rose = let r = puts.cause.rose in rw (sym still) r;
  still = tt;
}

-- and is unchanged if it did not fail
pub rows-still : (before now : ℕ) → now ≡ before → HasCause {T = Unit {0}} {E = Unit {0}} before now (Ok tt)
rows-still before now still = record { never_falls = omega (arith, still); rose = tt; still = still }
