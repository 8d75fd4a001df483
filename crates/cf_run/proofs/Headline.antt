-- A run is a run of the sequential machine on which its processor was opened, whatever chose its moves, whatever stops
-- it, and whether or not the input's remaining bytes are known.
use Rattle.std.proofs.Common.{◌≡◌, ℕ, ◌+◌, List, Option, Some, None, refl, sym, ap, subst, ◌∙◌, length}
use Rattle.run_options.specs.declared.reporting.Reporting.{Reporting}
use Rattle.rv_machine.specs.Hart.{Hart}
use Rattle.rv_machine.specs.Machine.{Machine}
use Rattle.cf_layout.specs.Accepted.{IsAccepted}
use Rattle.cf_layout.specs.Layout.{Plan}
use Rattle.cf_bind.specs.declared.moves.Move.{Move}
use Rattle.cf_semantics.specs.runs.Runs.{opened as opened_on}
use Rattle.cf_core.specs.Processors.{Processor, opened_processor}
use Rattle.run_finishes.specs.declared.finish.Scripted.{Scripted}
use Rattle.cf_run.specs.Headline.{machine_on, moment_after, lines_after, RunsAs, RunsOverUnknownInput, RunsOver, RunsSequentially}
use Rattle.cf_run.specs.Moving.{RunPlace}
use Rattle.cf_run.specs.Made.{moves_of}
use Rattle.cf_run.specs.Scripts.{ScriptRun, RunsScript, first_moves}
use Rattle.cf_run.proofs.Arrived.{ArrivesBy, arrives-by}
use Rattle.cf_run.proofs.ByScript.{comes-to}
use Rattle.cf_run.proofs.Stopping.{IsStopped, ComesTo}
use Rattle.cf_run.proofs.Throughout.{right-throughout}
use Rattle.cf_run.proofs.UnknownInput.{ArrivesAnew, arrives-anew}

-- a run on an opened processor, over an input whose remaining bytes are known
run-told : (limit : ℕ) (shows : Reporting) (hart : Hart) (rest : List ℕ) (begin new : RunPlace) (moves : List Move) (answer : Scripted) →
    IsAccepted begin.core.plan → length hart.regs ≡ 32 → begin.core ≡ opened_processor begin.core.plan hart → begin.streams.input ≡ Some rest
    → ComesTo limit shows begin moves new answer → RunsAs shows (machine_on hart rest) moves begin new answer
run-told limit shows hart rest begin new moves answer accepted wide opens tells c =
    let plan : Plan = begin.core.plan in
    let x : Machine = machine_on hart rest in
    let made : List Move = moves_of c.reaches.trace in
    let a : ArrivesBy shows x made begin c.now = arrives-by limit shows hart rest begin c.now accepted wide opens tells c.reaches in
    let h : IsStopped shows x (moment_after plan x made) (hart.retired + 1) (lines_after plan x made) begin new answer =
    c.stops x (moment_after plan x made) (hart.retired + 1) (lines_after plan x made) a.arrives in
    subst (λ (moves : List Move). RunsAs shows x moves begin new answer) c.moves_are (record {
      right = a.right;
      throughout = right-throughout plan x made accepted wide a.right;
      stops = h.stops;
      report = h.report;
    })

-- and over one whose remaining bytes are unknown
run-untold : (limit : ℕ) (shows : Reporting) (hart : Hart) (begin new : RunPlace) (moves : List Move) (answer : Scripted) → IsAccepted begin.core.plan →
    length hart.regs ≡ 32 → begin.core ≡ opened_processor begin.core.plan hart → begin.streams.input ≡ None
    → ComesTo limit shows begin moves new answer → RunsOverUnknownInput shows hart moves begin new answer
run-untold limit shows hart begin new moves answer accepted wide opens none c =
    let plan : Plan = begin.core.plan in
    let a : ArrivesAnew shows hart (moves_of c.reaches.trace) begin c.now = arrives-anew limit shows hart begin c.now accepted wide opens none c.reaches in
    let h : IsStopped shows a.at a.last (hart.retired + 1) a.written begin new answer = c.stops a.at a.last (hart.retired + 1) a.written a.arrives in
    subst (λ (moves : List Move). RunsOverUnknownInput shows hart moves begin new answer) c.moves_are (record {
      at = a.at;
      written = a.written;
      last = a.last;
      right = a.right;
      throughout = a.throughout;
      stops = h.stops;
      report = h.report;
    })

-- a processor that was opened under a layout has that layout
pub opened_here : (core : Processor) (plan : Plan) (hart : Hart) → core ≡ opened_processor plan hart → core ≡ opened_processor core.plan hart
unfolding opened_processor
opened_here core plan hart is = is ∙ ap (λ (l : Plan). opened_processor l hart) (sym (ap (λ (p : Processor). p.plan) is))

-- and the registers of the hart
pub opened_regs : (core : Processor) (plan : Plan) (hart : Hart) → core ≡ opened_processor plan hart → core.state.regs ≡ hart.regs
unfolding opened_processor opened_on
opened_regs core plan hart is = ap (λ (p : Processor). p.state.regs) is

-- a run that reached some RunPlace is a run of that machine
runs_over : (limit : ℕ) (shows : Reporting) (hart : Hart) (begin new : RunPlace) (moves : List Move) (answer : Scripted) → IsAccepted begin.core.plan →
    length hart.regs ≡ 32 → begin.core ≡ opened_processor begin.core.plan hart
    → ComesTo limit shows begin moves new answer → RunsOver begin.streams.input shows hart moves begin new answer
runs_over limit shows hart begin new moves answer accepted wide opens c = over begin.streams.input refl
  where
    over : (told : Option (List ℕ)) → begin.streams.input ≡ told → RunsOver told shows hart moves begin new answer
    over (Some rest) tells = run-told limit shows hart rest begin new moves answer accepted wide opens tells c
    over None tells = run-untold limit shows hart begin new moves answer accepted wide opens tells c

-- the headline
pub comes_sequentially : (limit : ℕ) (shows : Reporting) (begin new : RunPlace) (moves : List Move) (answer : Scripted) → IsAccepted begin.core.plan →
    length begin.core.state.regs ≡ 32 → ComesTo limit shows begin moves new answer → RunsSequentially shows moves begin new answer
unfolding RunsSequentially
comes_sequentially limit shows begin new moves answer accepted wide c plan hart opens =
    runs_over limit shows hart begin new moves answer accepted (ap length (sym (opened_regs begin.core plan hart opens)) ∙ wide)
    (opened_here begin.core plan hart opens) c

-- of a script
pub runs-sequentially : (limit : ℕ) (shows : Reporting) (begin new : ScriptRun) (answer : Scripted) → IsAccepted begin.place.core.plan →
    length begin.place.core.state.regs ≡ 32 → RunsScript limit shows begin new answer → RunsSequentially shows
    (first_moves begin.script new.place.tally) begin.place new.place answer
runs-sequentially limit shows begin new answer accepted wide r =
    comes_sequentially limit shows begin.place new.place (first_moves begin.script new.place.tally) answer accepted wide
    (comes-to limit shows begin r.now new answer accepted r.follows r.stops)
