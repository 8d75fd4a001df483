-- How a run of the sequential machine finishes, its effect on the outside, and what it shows.
use Rattle.std.specs.Prelude.{◌≡◌, ◌⊎◌, ◌<◌, ◌+◌, ℕ, List, [], true, Option, unwrap_or}
use Rattle.rv_inst.specs.declared.isa.Isa.{Isa}
use Rattle.rv_machine.specs.Hart.{Hart}
use Rattle.rv_machine.specs.Machine.{Machine}
use Rattle.rv_machine.specs.declared.outcome.Retired.{Retired}
use Rattle.rv_machine.specs.Outcome.{Next, Trap, Exit}
use Rattle.rv_machine.specs.Step.{step}
use Rattle.rv_machine.specs.Streams.{Streams, Leaves}
use Rattle.rv_machine.specs.Faults.{FailsReading, FailsWriting}
use Rattle.rv_machine.specs.Acts.{CallsHere}
use Rattle.cf_io.specs.Puts.{Writes, WritesFront}
use Rattle.run_finishes.specs.declared.finish.Ran.{Ran}
use Rattle.run_finishes.specs.declared.finish.Ran.TheVariants as ran
use Rattle.cli_machine.specs.Options.{Chosen, is_shown, shown_text}
use Rattle.cli_machine.specs.Lines.{ReachesBy}

-- the machine before its first step: it has all that the input exposes, and has written nothing
abbrev pub opening : Hart → Option (List ℕ) → Machine
opening hart left = record { hart = hart; rest = unwrap_or left []; output = [] }

-- this is what is shown of n instructions: n is below the limit, and the next instruction ends the program or traps; or
-- n is below the limit, and a stream fails the next one, as `Closes` says; or n is the limit, and no further
-- instruction is tried
abbrev pub Finishes : Chosen → Option (List ℕ) → Machine → Ran → ℕ → Machine → List ℕ → Type 0
Finishes chosen left start (ran.Exit status) n m text =
    (n < chosen.limit) × ReachesBy chosen left start n m text
    × (step chosen.isa m ≡ Exit status)
Finishes chosen left start (ran.Trap cause pc detail) n m text =
    (n < chosen.limit) × ReachesBy chosen left start n m text
    × (step chosen.isa m ≡ Trap cause pc detail)
Finishes chosen left start ran.Limit n m text =
    (n ≡ chosen.limit) × ReachesBy chosen left start n m text
Finishes chosen left start ran.ReadFault n m text =
    (n < chosen.limit) × ReachesBy chosen left start n m text
Finishes chosen left start ran.WriteFault n m text =
    (n < chosen.limit) × ReachesBy chosen left start n m text
Finishes chosen left start ran.ReportFault n m text = ⊥

-- how the finish changes the hart and what the streams expose: not at all, or like an environment call that one of the
-- streams failed
abbrev pub Closes : Isa → Ran → Hart → Hart → Streams → Streams → Type 0
Closes isa (ran.Exit status) last new before after = (new ≡ last) × (after ≡ before)
Closes isa (ran.Trap cause pc detail) last new before after = (new ≡ last) × (after ≡ before)
Closes isa ran.Limit last new before after = (new ≡ last) × (after ≡ before)
Closes isa ran.ReadFault last new before after =
    CallsHere isa last × FailsReading last.regs last.mem new.mem before after
    × (new ≡ record last { mem = new.mem })
Closes isa ran.WriteFault last new before after =
    CallsHere isa last × FailsWriting last.regs last.mem before after × (new ≡ last)
Closes isa ran.ReportFault last new before after = ⊥

-- a run from one hart to another with these options: what it shows, what it takes from the input and writes to the
-- output
pub record Runs (chosen : Chosen) (start new : Hart) (before after : Streams) (finish : Ran)
    (text : List ℕ) : Type 0 where
  pub count : ℕ
  pub last : Machine
  pub finishes : Finishes chosen before.input (opening start before.input) finish count last text
  pub retired : new.retired ≡ start.retired + count
  pub between : Streams
  pub streams : Leaves before between last.rest last.output
  pub closes : Closes chosen.isa finish last.hart new between after

-- a run that ended because the report failed at what is shown of an instruction: what is shown of earlier ones was
-- written, and then a prefix of that; the instruction has retired
pub record BreaksOff (chosen : Chosen) (start new : Hart) (before after : Streams)
    (blank full : Option (List ℕ)) : Type 0 where
  pub count : ℕ
  pub within : count < chosen.limit
  pub last : Machine
  pub text : List ℕ
  pub reaches : ReachesBy chosen before.input (opening start before.input) count last text
  pub next : Machine
  pub line : Retired
  pub is : step chosen.isa last ≡ Next next line
  pub hart : new ≡ next.hart
  pub streams : Leaves before after next.rest next.output
  pub half : Option (List ℕ)
  pub put : Writes blank half text
  pub shows : is_shown chosen.shows chosen.every next.hart.retired ≡ true
  pub breaks : WritesFront half full (shown_text chosen.shows chosen.every next.hart.retired line)

-- a run that ended because the report failed to pass on what it had gathered before an instruction: what is shown of
-- earlier ones was written, and the instruction was not executed
pub record StopsBefore (chosen : Chosen) (start new : Hart) (before after : Streams)
    (blank full : Option (List ℕ)) : Type 0 where
  pub count : ℕ
  pub within : count < chosen.limit
  pub last : Machine
  pub text : List ℕ
  pub reaches : ReachesBy chosen before.input (opening start before.input) count last text
  pub hart : new ≡ last.hart
  pub streams : Leaves before after last.rest last.output
  pub put : Writes blank full text

-- the report failed during the run, at what is shown of an instruction or before one
abbrev pub ReportFails : Chosen → Hart → Hart → Streams → Streams → Option (List ℕ) → Option (List ℕ) → Type 0
ReportFails chosen start new before after blank full =
    BreaksOff chosen start new before after blank full ⊎ StopsBefore chosen start new before after blank full

-- the run finished in this way, and what it shows was written; or the report failed
abbrev pub RunsToFinish : Chosen → Hart → Hart → Streams → Streams → Option (List ℕ) → Option (List ℕ) → Ran → Type 0
RunsToFinish chosen start new before after blank full ran.ReportFault =
    ReportFails chosen start new before after blank full
RunsToFinish chosen start new before after blank full finish =
    (text : List ℕ) × Runs chosen start new before after finish text × Writes blank full text
