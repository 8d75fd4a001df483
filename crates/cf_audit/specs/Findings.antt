-- Traces over an input whose remaining bytes are unknown: what an audit says of such a trace holds of the runs whose
-- moves find the same of the input as its own moves did.
use Rattle.std.specs.Prelude.{◌≡◌, ℕ, ◌+◌, ◌<◌, List, [], ◌∷◌, ◌++◌, length, Some}
use Rattle.run_options.specs.Reportings as show
use Rattle.cf_layout.specs.Layout.{Plan}
use Rattle.cf_semantics.specs.moves.Moves.{next}
use Rattle.cf_semantics.specs.state.State.{Moment}
use Rattle.cf_core.specs.Processors.{Processor}
use Rattle.cf_run.specs.Going.{moment_of, IsMade}
use Rattle.cf_run.specs.Made.{Made, all_shown}
use Rattle.run_scripts.specs.declared.trace_refusal.TraceKind.{TraceKind}
use Rattle.cf_audit.specs.Traces.{most_retired, line_of_byte, AreReadBack, TraceFails}

-- what each move finds of the input, by the number of the move
abbrev pub Findings : Type 0
Findings = ℕ → List ℕ

-- the moment at which this is left of the input
abbrev pub finding_at : Findings → ℕ → Moment → Moment
finding_at found n m = record m { rest = found n }

-- the moves lead from one moment to another; the first has this number, and each finds its part of the findings
unfoldable pub LeadsFinding : Findings → ℕ → Plan → Moment → List Made → Moment → Type 0
LeadsFinding found n plan m [] last = last ≡ m
LeadsFinding found n plan m (made ∷ trace) last =
    IsMade plan most_retired (finding_at found n m) made
    × LeadsFinding found (n + 1) plan (next plan (finding_at found n m) made.move) trace last

-- the text is the trace of a run of n moves from the processor, each of which finds what `found` says; it leads to this
-- moment
pub record IsTraceFinding (found : Findings) (core : Processor) (text : List ℕ) (n : ℕ) (last : Moment) : Type 0 where
  pub trace : List Made
  pub leads : LeadsFinding found 1 core.plan (moment_of core []) trace last
  pub read_back : AreReadBack trace
  pub count : length trace ≡ n
  pub is : text ≡ all_shown show.moves core.plan 1 trace

-- the text is not the trace of such a run: after the groups of some moves a test fails, in this line, if the next move
-- finds what `found` says; the moves that are made lead to the moment `stop`
pub record GoesWrongFinding (found : Findings) (core : Processor) (text : List ℕ) (line : ℕ) (kind : TraceKind) (stop : Moment) : Type 0 where
  pub front : List ℕ
  pub left : List ℕ
  pub parts : text ≡ front ++ left
  pub some : 0 < length left
  pub n : ℕ
  pub last : Moment
  pub is : IsTraceFinding found core front n last
  pub place : ℕ
  pub fails : TraceFails core.plan (Some (found (n + 1))) (finding_at found (n + 1) last) (n + 1) left place kind stop
  pub line_is : line ≡ line_of_byte text (length front + place)
