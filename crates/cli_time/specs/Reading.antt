-- The files that `time` reads, in turn: that of the delays, those of the layouts in their order, and the program's.
use Rattle.std.specs.Prelude.{◌⊎◌, ℕ, List, Option}
use Rattle.cf_timed.specs.declared.span.Span.{Span}
use Rattle.cf_io.specs.Reads.{FilesSeen}
use Rattle.rv_machine.specs.Hart.{Hart}
use Rattle.cf_layout.specs.Layout.{Plan}
use Rattle.cli_arguments.specs.Arguments.{NamedLayout}
use Rattle.cli_files.specs.Programs.{IsProgramAt, LacksProgram}
use Rattle.cli_files.specs.declared.status.Status.{Status}
use Rattle.cli_time.specs.Asked.{TimeFiles}
use Rattle.cli_time.specs.DelayFiles.{IsDelaysAt, LacksDelays}
use Rattle.cli_time.specs.LayoutFiles.{AreLayoutsAt, LacksLayouts}

-- the delays of this name and the layouts of these arguments were found
pub record DelaysAndLayoutsRead (name : List ℕ) (arguments : List NamedLayout) (before after : Option FilesSeen) (delays : List Span)
    (plans : List Plan) : Type 0 where
  pub between : Option FilesSeen
  pub delays_at : IsDelaysAt name before between delays
  pub layouts : AreLayoutsAt arguments between after plans

-- and after them the program, which begins on this hart
pub record TimeFilesRead (asked : TimeFiles) (before after : Option FilesSeen) (delays : List Span) (plans : List Plan)
    (hart : Hart) : Type 0 where
  pub between : Option FilesSeen
  pub laid : DelaysAndLayoutsRead asked.delays asked.layouts before between delays plans
  pub program : IsProgramAt asked.program between after hart

-- the delays were found, and not all layouts
pub record StopsAtLayout (name : List ℕ) (arguments : List NamedLayout) (before after : Option FilesSeen) (answer : Status)
    (report : List ℕ) : Type 0 where
  pub delays : List Span
  pub between : Option FilesSeen
  pub delays_at : IsDelaysAt name before between delays
  pub lacks : LacksLayouts arguments between after answer report

-- the first of these that is missing, the status that says why, and the report
abbrev pub LacksDelaysOrLayouts : List ℕ → List NamedLayout → Option FilesSeen → Option FilesSeen → Status → List ℕ → Type 0
LacksDelaysOrLayouts name arguments before after answer report =
    LacksDelays name before after answer report
    ⊎ StopsAtLayout name arguments before after answer report

-- the delays and the layouts were found, and no program
pub record TimingStopsAtProgram (asked : TimeFiles) (before after : Option FilesSeen) (answer : Status) (report : List ℕ) : Type 0 where
  pub delays : List Span
  pub plans : List Plan
  pub between : Option FilesSeen
  pub laid : DelaysAndLayoutsRead asked.delays asked.layouts before between delays plans
  pub lacks : LacksProgram asked.program between after answer report

-- the first of all files that is missing
abbrev pub LacksTimeFile : TimeFiles → Option FilesSeen → Option FilesSeen → Status → List ℕ → Type 0
LacksTimeFile asked before after answer report =
    LacksDelays asked.delays before after answer report
    ⊎ (StopsAtLayout asked.delays asked.layouts before after answer report
    ⊎ TimingStopsAtProgram asked before after answer report)
