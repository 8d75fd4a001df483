-- The runs on some layouts, one after another, each with its line.
use Rattle.std.specs.Prelude.{◌≡◌, ◌<◌, ℕ, List, length, map, Option, Result, Ok, Err}
use Rattle.cf_timed.specs.declared.span.Span.{Span}
use Rattle.cf_io.specs.Puts.{Writes}
use Rattle.rv_machine.specs.Machine.{Machine}
use Rattle.cf_layout.specs.Layout.{Plan}
use Rattle.cf_core.specs.Processors.{Processor, opened_processor}
use Rattle.cli_time.specs.declared.choices.RunChoices.{RunChoices}
use Rattle.cli_arguments.specs.Arguments.{NamedLayout}
use Rattle.cli_time.specs.Lines.{time_lines}
use Rattle.cli_time.specs.Measures.{BreaksTaking, Measures, MeasuresFirst, MeasuresRun, TakenRun, rule_by}
use Rattle.cf_timed.specs.DelayedRuns.{DelayRule}
use Rattle.cli_time.specs.Times.{BreaksAtLayout}
use Rattle.cli_time.specs.declared.measuring.Measured.{Measured}
use Rattle.cli_time.specs.declared.stop.Stop.{Stop}
use Rattle.cli_time.specs.declared.stop.Stop.TheVariants as stop

-- the program was run on each layout, with these times, and each has its line
pub record PutsAll (arguments : List NamedLayout) (options : RunChoices) (delays : List Span) (plans : List Plan) (start : Machine)
    (blank full : Option (List ℕ)) (times : List ℕ) : Type 0 where
  pub measured : List TakenRun
  pub each : MeasuresFirst delays options start plans measured
  pub all : length measured ≡ length plans
  pub times_are : times ≡ map (λ m. m.measured.time) measured
  pub put : Writes blank full (time_lines options.limit arguments measured)

-- memory was refused before the first move of the run on the layout with this index; each layout before it has its line
pub record PutsFewer (arguments : List NamedLayout) (options : RunChoices) (delays : List Span) (plans : List Plan) (start : Machine)
    (blank full : Option (List ℕ)) (place : ℕ) : Type 0 where
  pub measured : List TakenRun
  pub each : MeasuresFirst delays options start plans measured
  pub there : place < length plans
  pub count : length measured ≡ place
  pub put : Writes blank full (time_lines options.limit arguments measured)

-- why not every layout has its line
abbrev pub TimingStops : List NamedLayout → RunChoices → List Span → List Plan → Machine → Option (List ℕ) → Option (List ℕ) → Stop → Type 0
TimingStops arguments options delays plans start blank full (stop.NoMemory place) = PutsFewer arguments options delays plans start blank full place
TimingStops arguments options delays plans start blank full stop.Failed = BreaksAtLayout arguments options delays plans start blank full

-- an error if the report failed
abbrev pub stopped_by_report : {T : Type 0} → Result T Stop → Result (Unit {0}) (Unit {0})
stopped_by_report (Ok times) = Ok tt
stopped_by_report (Err (stop.NoMemory place)) = Ok tt
stopped_by_report (Err stop.Failed) = Err tt

-- a run of an opened processor was measured, and the report got the lines of its moves if these are shown
pub record PutsRun (rule : DelayRule) (options : RunChoices) (plan : Plan) (core : Processor) (bytes : List ℕ) (blank full : Option (List ℕ))
    (measured : Measured) : Type 0 where
  pub shown : List ℕ
  pub takes : MeasuresRun rule options plan core bytes (record { measured = measured; shown = shown })
  pub put : Writes blank full shown

-- the same for the processor of a layout
pub record PutsMoves (delays : List Span) (options : RunChoices) (plan : Plan) (start : Machine) (blank full : Option (List ℕ)) (measured : Measured) : Type 0
  where
    pub shown : List ℕ
    pub measures : Measures delays options plan start (record { measured = measured; shown = shown })
    pub put : Writes blank full shown

-- why the layout with this index was not measured: memory was refused for its run, or the report failed
abbrev pub MeasuringStops : (place : ℕ) → List Span → RunChoices → Plan → Machine → (blank full : Option (List ℕ)) → Stop → Type 0
MeasuringStops place delays options plan start blank full (stop.NoMemory at) = (at ≡ place) × (full ≡ blank)
MeasuringStops place delays options plan start blank full stop.Failed =
    BreaksTaking (rule_by delays options) options (opened_processor plan start.hart) start.rest blank full
